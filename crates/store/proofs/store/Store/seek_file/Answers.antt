use Rattle.store.proofs.WholeLaws.{whole_placed}
use Rattle.store.proofs.store.Store.seek_file.Goals as goal

pub seek_file-requires : goal.seek_file-requires
seek_file-requires c =
    let s = c.args.self.now in
    whole_placed _ s.sizes.now s.words.now s.memory.now s.geometry.good s.files s.slots s.bytes s.is_sound c.requires
