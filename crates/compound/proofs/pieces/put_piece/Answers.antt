use Rattle.std.proofs.Common.{arith, length-append}
use Rattle.xdr.proofs.EncodeLaws.{length-u32, length-u64}
use Rattle.compound.proofs.pieces.put_piece.Goals as goal

pub put_file_bytes-requires-clause-room : goal.put_file_bytes-requires-clause-room
put_file_bytes-requires-clause-room c =
    let w = c.put_data_head.ensures in
    omega (arith, rw (← c.hole_at.ensures, c.if-hole_at.false) at c.requires.room, simp (length-append, length-u32, length-u64) at w.place, w.size)
