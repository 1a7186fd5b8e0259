use Rattle.store.proofs.StoreLaws.{zeros-stored}
use Rattle.store.proofs.bytes.zero_slot.Goals as goal

pub returns : goal.returns
returns c =
    zeros-stored _ _ _ _ _ _ _ _ _ _ c.requires c.share-a.ensures.from c.share-a.ensures.end c.fresh_block.ensures.start _ c.fresh_block.ensures.bytes _ (c.fill.ensures.after (λ y e. e))
