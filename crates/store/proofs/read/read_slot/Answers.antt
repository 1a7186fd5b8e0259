use mathlib.Core.Path.{◌∙◌}
use native.Mathlib.Nat.{add-sub_cancel_left}
use lib.ListN.{length}
use Rattle.store.proofs.PlaceLaws.{read-hole, read-block}
use Rattle.store.proofs.read.read_slot.Goals as goal

pub returns-then-k-eq0 : goal.returns-then-k-eq0
returns-then-k-eq0 c =
    λ sizes. c.fill.ensures.after (λ y e. e) ∙ read-hole _ _ _ _ _ _ c.requires.0 c.requires.1 c.word_at.ensures c.if-k-eq0.true

pub returns : goal.returns
returns c =
    λ sizes. c.copy_from_slice.ensures.after
    ∙ rw (add-sub_cancel_left _ (length c.args.out.now)) (read-block _ _ _ _ _ _ c.requires.0 c.requires.1 c.word_at.ensures c.if-k-eq0.false)
