use Rattle.std.proofs.Common.{arith, sym}
use Rattle.frame.proofs.HexLaws.{bytes-more, refused-long, refused-odd, refused-digit, read_all}
use Rattle.frame.proofs.hex.request_bytes.Goals as goal

pub returns-then-line-gt-MAX_DIGITS : goal.returns-then-line-gt-MAX_DIGITS
returns-then-line-gt-MAX_DIGITS c = refused-long _ _ c.if-line-gt-MAX_DIGITS.true

pub returns-then-line-ne0 : goal.returns-then-line-ne0
returns-then-line-ne0 c = refused-odd _ _ c.if-line-gt-MAX_DIGITS.false (omega arith)

pub returns-in_err-out : goal.returns-in_err-out
returns-in_err-out c =
    rw c.from_residual.ensures (refused-digit c.loop-i.invariant (omega arith) c.if-line-gt-MAX_DIGITS.false c.if-line-ne0.false (sym c.in_err-out.ensures))

pub loop-i-preserved : goal.loop-i-preserved
loop-i-preserved c = bytes-more c.loop-i.invariant (omega arith) _ (omega arith) (sym c.in_ok-out.ensures)

pub returns : goal.returns
returns c = read_all c.loop-i.invariant c.if-line-gt-MAX_DIGITS.false c.if-line-ne0.false (omega arith)
