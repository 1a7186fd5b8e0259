use Rattle.std.proofs.Common.{ap, ◌∙◌, arith}
use Rattle.frame.specs.Blocks.{mismatches}
use Rattle.frame.proofs.BlockLaws.{plain-block}
use Rattle.frame.proofs.blocks.plain_blocks.Goals as goal

pub loop-i-preserved : goal.loop-i-preserved
loop-i-preserved c =
    plain-block c.loop-i.invariant c.loop-i-test.true (omega (arith, c.if-mismatches-eq-SIZE.true, c.mismatches.ensures ∙ ap (mismatches _) c.requires))
