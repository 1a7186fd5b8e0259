use Rattle.store.proofs.FillLaws.{slot_index, write-asks, write_fills, copy-asks, copy_fills, none-owns, cut-asks, cut_fills}
use Rattle.store.proofs.fill.put_owned.Goals as goal

pub bounds-words-e : goal.bounds-words-e
bounds-words-e c = slot_index c.requires.1.1.slot

pub write_slot-requires : goal.write_slot-requires
write_slot-requires c =
    write-asks c.requires.1.1.slot c.in-Write.is

pub copy_slot-requires : goal.copy_slot-requires
copy_slot-requires c =
    let o = c.requires.1.1 in
    copy-asks o.slot c.in-Copy.is o.kind

pub zero_slot-requires : goal.zero_slot-requires
zero_slot-requires c =
    let o = c.requires.1.1 in
    cut-asks o.slot c.in-Deallocate.is o.kind

pub returns-in-Write : goal.returns-in-Write
returns-in-Write c =
    λ st size h. write_fills h.slot c.in-Write.is c.write_slot.ensures

pub returns-in-Copy : goal.returns-in-Copy
returns-in-Copy c =
    λ st size h. copy_fills h.slot c.in-Copy.is h.kind c.copy_slot.ensures

pub returns-in-Clone : goal.returns-in-Clone
returns-in-Clone c = λ st size h. absurd (none-owns h.slot c.in-Clone.is h.kind)

pub returns-in-Deallocate : goal.returns-in-Deallocate
returns-in-Deallocate c =
    λ st size h. cut_fills h.slot c.in-Deallocate.is h.kind c.zero_slot.ensures
