use Rattle.frame.proofs.BlockLaws.{MismatchesLeft}
use Rattle.frame.proofs.blocks.mismatches.Given as goal

abbrev pub invariant-loop-i : goal.invariant-loop-i
invariant-loop-i l = MismatchesLeft l.a l.b l.i l.n
