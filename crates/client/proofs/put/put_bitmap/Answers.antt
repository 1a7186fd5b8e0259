use Rattle.std.proofs.Common.{◌/◌, length, arith, ap}
use Rattle.xdr.proofs.EncodeLaws.{length-u32}
use Rattle.xdr.proofs.WritingLaws.{wrote_then}
use Rattle.client.proofs.WriteLaws.{part_length, bitmap_bytes}
use Rattle.client.proofs.put.put_bitmap.Goals as goal

pub bytes-requires : goal.bytes-requires
bytes-requires c =
    omega (arith, c.requires.room, c.u32.ensures.place, c.u32.ensures.size, length-u32 (c.args.d.len / 4), ap length c.part.ensures.bytes_are, part_length c.args.lent.now c.args.d c.requires.words.0)

pub returns : goal.returns
returns c =
    rw (bitmap_bytes c.args.lent.now c.args.d (λ i. omega (arith, c.type_inv.lent i)) c.requires.words.0 c.requires.words.1.0)
    (wrote_then c.u32.ensures (rw c.part.ensures.bytes_are at c.bytes.ensures))
