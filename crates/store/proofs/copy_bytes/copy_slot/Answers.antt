use Rattle.store.proofs.CopyBytes.{share_copyable, share_copied}
use Rattle.store.proofs.copy_bytes.copy_slot.Goals as goal

pub copy_bytes-requires : goal.copy_bytes-requires
copy_bytes-requires c =
    share_copyable _ _ _ _ _ _ _ _ _ _ _ _ _ c.requires c.share-a.ensures.from c.share-a.ensures.end c.fresh_block.ensures.start _ c.fresh_block.ensures.bytes

pub returns : goal.returns
returns c =
    share_copied _ _ _ _ _ _ _ _ _ _ _ _ _ c.requires c.share-a.ensures.from c.share-a.ensures.end c.fresh_block.ensures.start _ c.fresh_block.ensures.bytes c.copy_bytes.ensures
