use Rattle.std.proofs.Common.{arith}
use Rattle.frame.proofs.HexLaws.{hex-more, hex_end}
use Rattle.frame.proofs.hex.put_hex.Goals as goal

pub loop-i-preserved : goal.loop-i-preserved
loop-i-preserved c = hex-more c.loop-i.invariant (omega arith) (omega arith) c.digit_code.ensures c.digit_code-in-loop-i.ensures

pub returns-clause-printed : goal.returns-clause-printed
returns-clause-printed c = hex_end c.loop-i.invariant (omega arith)
