use mathlib.Core.Path.{ap, ◌∙◌}
use mathlib.Core.Bool.{not}
use native.Mathlib.Omega.{arith}
use Rattle.store.proofs.KindLaws.{edit-room, edit-inside}
use Rattle.store.proofs.PassLaws.{saved-ready, passed-ready, undo_ready, settle_ready, plan-stopped, plan_settled}
use Rattle.store.proofs.planner.plan.Goals as goal

pub slice_bounds-copy_from_slice-end : goal.slice_bounds-copy_from_slice-end
slice_bounds-copy_from_slice-end c = omega (arith, edit-room c.requires.0.edit, edit-inside c.requires.0, c.requires.0.saves)

pub pass-requires : goal.pass-requires
pass-requires c =
    saved-ready c.requires.0 _ c.copy_from_slice.auto.self

pub pass-requires-2 : goal.pass-requires-2
pass-requires-2 c =
    passed-ready (saved-ready c.requires.0 _ c.copy_from_slice.auto.self) c.pass.ensures

pub undo-requires : goal.undo-requires
undo-requires c =
    undo_ready (saved-ready c.requires.0 _ c.copy_from_slice.auto.self) c.requires.0.saves c.copy_from_slice.ensures.after c.pass.ensures c.pass-2.ensures c.pass.auto.counts c.pass-2.auto.counts

pub returns-then-is_err : goal.returns-then-is_err
returns-then-is_err c =
    plan-stopped (saved-ready c.requires.0 _ c.copy_from_slice.auto.self) c.requires.0.saves c.copy_from_slice.ensures.after c.pass.ensures c.pass-2.ensures
    (c.is_err.ensures.negation ∙ ap not c.if-is_err.true) c.undo.auto.counts c.undo.ensures

pub settle-requires : goal.settle-requires
settle-requires c =
    settle_ready (saved-ready c.requires.0 _ c.copy_from_slice.auto.self) c.requires.0.saves c.copy_from_slice.ensures.after c.pass.ensures c.pass-2.ensures c.requires.1 c.pass.auto.counts c.pass-2.auto.counts

pub returns : goal.returns
returns c =
    plan_settled (saved-ready c.requires.0 _ c.copy_from_slice.auto.self) c.requires.0.saves c.copy_from_slice.ensures.after c.pass.ensures c.pass-2.ensures
    (c.is_err.ensures.negation ∙ ap not c.if-is_err.false) c.settle.ensures
