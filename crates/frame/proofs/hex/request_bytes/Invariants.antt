use Rattle.frame.proofs.HexLaws.{BytesLeft}
use Rattle.frame.proofs.hex.request_bytes.Given as goal

abbrev pub invariant-loop-i : goal.invariant-loop-i
invariant-loop-i l = BytesLeft l.line l.initial.out l.out l.i
