use Rattle.std.proofs.Common.{arith}
use Rattle.client.proofs.WriteLaws.{bitmap_words, bitmap_length}
use Rattle.client.proofs.put.put_args.Goals as goal

pub put_bitmap-requires-clause-words : goal.put_bitmap-requires-clause-words
put_bitmap-requires-clause-words c = bitmap_words c.args.lent.now c.in-GetAttr.d (λ i. omega (arith, c.type_inv.lent i)) (rw c.in-GetAttr.is at c.requires.writable)

pub put_bitmap-requires-clause-room : goal.put_bitmap-requires-clause-room
put_bitmap-requires-clause-room c =
    let l = bitmap_length c.args.lent.now c.in-GetAttr.d (λ i. omega (arith, c.type_inv.lent i)) (rw c.in-GetAttr.is at c.requires.writable) in
    omega (arith, l, rw c.in-GetAttr.is at c.requires.room)
