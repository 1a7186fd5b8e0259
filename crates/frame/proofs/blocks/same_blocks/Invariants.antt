use Rattle.std.proofs.Common.{◌-◌}
use Rattle.frame.specs.Blocks.{Same}
use Rattle.frame.proofs.blocks.same_blocks.Given as goal

abbrev pub invariant-loop-i : goal.invariant-loop-i
invariant-loop-i l = Same l.a l.b l.n l.i

abbrev pub decreases-loop-i : goal.decreases-loop-i
decreases-loop-i l = l.n - l.i
