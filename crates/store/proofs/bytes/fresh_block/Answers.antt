use Rattle.store.proofs.StoreLaws.{fresh_kept, fresh-zero}
use Rattle.store.proofs.bytes.fresh_block.Goals as goal

pub returns-then-slot-clause-bytes : goal.returns-then-slot-clause-bytes
returns-then-slot-clause-bytes c = fresh_kept _ _ _ _ c.requires c.if-slot.true

pub returns-then-slot-eq0-clause-bytes : goal.returns-then-slot-eq0-clause-bytes
returns-then-slot-eq0-clause-bytes c =
    fresh-zero _ _ _ _ c.requires _ c.block_start-to.ensures _ c.if-slot-eq0.true (c.fill.ensures.after (λ y e. e))
