use mathlib.Core.Path.{sym, ap, refl, ◌∙◌}
use native.Mathlib.Omega.{arith}
use Rattle.std.specs.Prelude.{is_ok, Ok}
use Rattle.store.proofs.KindLaws.{edit-room, edit-inside, changed-stays}
use Rattle.store.proofs.PassLaws.{pass-start, pass-turn, pass-stop, err-not_ok}
use Rattle.store.proofs.planner.pass.Goals as goal
use Rattle.store.proofs.planner.pass.Goals.{then-takes+in_ok-from, else-takes}

pub loop-j-init : goal.loop-j-init
loop-j-init c = pass-start c.requires

pub change_slot-requires : goal.change_slot-requires
change_slot-requires c =
    record {
      counted = c.loop-j.invariant.counted;
      slot = omega (arith, edit-inside c.requires, c.requires.saves, c.loop-j.invariant.outside.slots);
      source = rw (c.loop-j.invariant.outside.slots ∙ c.requires.slots) c.kind_of-kind.ensures.inside;
      low = c.loop-j.invariant.low;
    }

pub returns-in_err-from : goal.returns-in_err-from
returns-in_err-from c =
    rw (err-not_ok c.from_residual.result c.from_residual.ensures.0)
    (pass-stop c.loop-j.invariant (edit-room c.requires.edit).slots (omega (arith, c.requires.saves)) c.kind_of-kind.ensures {next = c.change_slot.result} c.change_slot.auto.counts
    (rw (sym c.takes.ensures ∙ c.if-takes.true) c.change_slot.ensures) (edit-inside c.requires) (ap is_ok c.in_err-from.was))

pub loop-j-preserved : goal.loop-j-preserved
loop-j-preserved c = elim c.if-takes.branch [
  | then-takes+in_ok-from w ↦
      rw (w.words-is, w.counts-is, w.from-is)
      (pass-turn c.loop-j.invariant (edit-room c.requires.edit).slots (omega (arith, c.requires.saves)) c.kind_of-kind.ensures {next = w.change_slot.result} w.change_slot.auto.counts
      (rw (sym c.takes.ensures ∙ w.if-takes.true) w.change_slot.ensures) w.in_ok-from.was)
  | else-takes w ↦
      rw (w.words-is, w.counts-is, w.from-is)
      (pass-turn c.loop-j.invariant (edit-room c.requires.edit).slots (omega (arith, c.requires.saves)) c.kind_of-kind.ensures {next = Ok c.loop-j.from} refl
      (rw (sym c.takes.ensures ∙ w.if-takes.false) (changed-stays c.loop-j.invariant.counted c.loop-j.invariant.low)) refl)
]
