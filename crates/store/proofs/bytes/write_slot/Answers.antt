use Rattle.store.proofs.StoreLaws.{write-stored}
use Rattle.store.proofs.bytes.write_slot.Goals as goal

pub returns : goal.returns
returns c =
    write-stored _ _ _ _ _ _ _ _ _ _ c.requires c.share-a.ensures.from c.share-a.ensures.end c.fresh_block.ensures.start _ c.fresh_block.ensures.bytes _ c.copy_from_slice.ensures.after
