use Rattle.std.proofs.Common.{arith}
use Rattle.frame.proofs.BlockLaws.{mismatches-more, mismatches-end}
use Rattle.frame.proofs.blocks.mismatches.Goals as goal

pub loop-i-preserved : goal.loop-i-preserved
loop-i-preserved c = mismatches-more c.loop-i.invariant (omega arith) (omega arith) c.from-n.ensures

pub returns : goal.returns
returns c = mismatches-end c.loop-i.invariant (omega arith)
