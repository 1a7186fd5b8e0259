use mathlib.Core.Path.{refl}
use native.Mathlib.Omega.{arith}
use Rattle.tables.proofs.SlotLaws.{block_inside}
use Rattle.tables.proofs.view.slot_view.Goals as goal

pub overflow_add-end : goal.overflow_add-end
overflow_add-end c = omega (arith, c.well_formed, block_inside _ _ _ _ _ c.in-Ok.ensures refl c.if-place.false)

pub slice_bounds-result-end-2 : goal.slice_bounds-result-end-2
slice_bounds-result-end-2 c = omega (arith, block_inside _ _ _ _ _ c.in-Ok.ensures refl c.if-place.false)
