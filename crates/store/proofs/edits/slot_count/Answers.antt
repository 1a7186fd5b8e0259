use Prim.Native.Nat.{◌/◌, ◌-◌}
use mathlib.Core.Path.{ap, ◌∙◌}
use Rattle.rules.proofs.GeometryLaws.{good, block-pos}
use Rattle.store.proofs.EditEnds.{ceil_is}
use Rattle.store.proofs.edits.slot_count.Goals as goal

pub returns : goal.returns
returns c =
    ap (λ n. n - c.args.off / c.args.g.block_size) (c.div_ceil.ensures ∙ ceil_is _ _ (block-pos (good _ c.args.g.good)))
