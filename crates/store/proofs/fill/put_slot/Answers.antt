use mathlib.Core.Path.{ap}
use Rattle.rules.specs.Edit.{is_owned}
use Rattle.store.specs.Edits.{kind_from}
use Rattle.store.proofs.FillLaws.{slot_of, left_fills, owns-slot, not_owned}
use Rattle.store.proofs.fill.put_slot.Goals as goal

pub kind_of-requires : goal.kind_of-requires
kind_of-requires c = slot_of c.requires.1

pub put_owned-requires : goal.put_owned-requires
put_owned-requires c =
    (c.requires.0, (_, owns-slot c.requires.1 c.kind_of.ensures (ap (λ k. is_owned (kind_from k)) c.in-Owns.is)))

pub returns-in-Owns : goal.returns-in-Owns
returns-in-Owns c =
    λ st h. c.put_owned.ensures st _ (owns-slot h c.kind_of.ensures (ap (λ k. is_owned (kind_from k)) c.in-Owns.is))

pub returns-in_default : goal.returns-in_default
returns-in_default c =
    λ st h. left_fills h c.kind_of.ensures (not_owned c.kind_of.result c.in_default.not-Owns)
