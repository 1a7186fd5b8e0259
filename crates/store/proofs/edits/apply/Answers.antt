use mathlib.Core.Path.{refl, sym, ap}
use native.Mathlib.Omega.{arith}
use Rattle.std.specs.Prelude.{is_ok}
use Rattle.store.proofs.ApplyLaws.{apply_none, file-inside, saved-long, saved_plannable, apply_refused, apply_fills, apply_done}
use Rattle.store.proofs.PassLaws.{err-not_ok}
use Rattle.store.proofs.edits.apply.Goals as goal

pub returns-then-e : goal.returns-then-e
returns-then-e c = apply_none c.requires c.if-e.true

pub bounds-sizes-e : goal.bounds-sizes-e
bounds-sizes-e c = file-inside c.requires

pub slice_bounds-old-end : goal.slice_bounds-old-end
slice_bounds-old-end c =
    sym (saved-long c.requires (omega arith) c.slot_count.ensures _ refl)

pub plan-requires : goal.plan-requires
plan-requires c =
    saved_plannable c.requires (omega arith) c.slot_count.ensures _ refl

pub returns-in_err-plan : goal.returns-in_err-plan
returns-in_err-plan c =
    rw (err-not_ok c.from_residual.result c.from_residual.ensures.0)
    (apply_refused c.requires (omega arith) c.plan.auto.counts refl c.plan.ensures (ap is_ok c.in_err-plan.was))

pub put_bytes-requires : goal.put_bytes-requires
put_bytes-requires c =
    (record { sizes = c.args.sizes.now; words = c.args.words.now; mem = c.args.mem.now }, apply_fills c.requires (omega arith) c.plan.auto.counts refl c.plan.ensures (ap is_ok c.in_ok-plan.was))

pub bounds-sizes-e-2 : goal.bounds-sizes-e-2
bounds-sizes-e-2 c = file-inside c.requires

pub returns : goal.returns
returns c =
    let done = ap is_ok c.in_ok-plan.was in
    rw c.max.ensures
    (apply_done c.requires (omega arith) c.plan.auto.counts refl c.plan.ensures done refl
    (c.put_bytes.ensures _ (apply_fills c.requires (omega arith) c.plan.auto.counts refl c.plan.ensures done)))
