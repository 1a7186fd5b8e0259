use Rattle.std.proofs.Common.{sym, ◌∙◌}
use Rattle.frame.proofs.BlockLaws.{same_block}
use Rattle.frame.proofs.blocks.same_blocks.Goals as goal

pub loop-i-preserved : goal.loop-i-preserved
loop-i-preserved c =
    same_block c.loop-i.invariant c.loop-i-test.true c.requires.0 c.requires.1 (sym c.if-mismatches-eq0.true ∙ c.mismatches.ensures)
