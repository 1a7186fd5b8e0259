use Rattle.std.proofs.Common.{◌-◌, length}
use Rattle.frame.specs.Blocks.{Plain}
use Rattle.frame.proofs.blocks.plain_blocks.Given as goal

abbrev pub invariant-loop-i : goal.invariant-loop-i
invariant-loop-i l = Plain l.text l.i

abbrev pub decreases-loop-i : goal.decreases-loop-i
decreases-loop-i l = length l.text - l.i
