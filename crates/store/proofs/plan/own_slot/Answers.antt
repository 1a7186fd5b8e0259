use mathlib.Core.Path.{sym, ◌∙◌}
use Rattle.store.proofs.OwnLaws.{slot_kept, slot-stopped, slot-taken}
use Rattle.store.proofs.plan.own_slot.Goals as goal

pub returns-then-not-takes_block : goal.returns-then-not-takes_block
returns-then-not-takes_block c =
    slot_kept _ _ c.requires.counted c.args.i (sym c.takes_block.ensures ∙ c.if-not-takes_block.true) c.requires.low

pub returns-then-counts-b : goal.returns-then-counts-b
returns-then-counts-b c =
    slot-stopped _ _ c.requires.counted c.args.i (sym c.takes_block.ensures ∙ c.if-not-takes_block.false) (rw c.lowest_free-b.ensures at c.if-counts-b.true)

pub returns : goal.returns
returns c =
    rw c.lowest_free-b.ensures
    (slot-taken _ _ c.requires.counted c.args.i (sym c.takes_block.ensures ∙ c.if-not-takes_block.false) (rw c.lowest_free-b.ensures at c.if-counts-b.false) c.requires.slot c.set_word.auto.counts
    (rw (c.taken_word.ensures, c.lowest_free-b.ensures) at c.set_word.ensures))
