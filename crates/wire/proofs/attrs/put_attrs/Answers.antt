use Rattle.std.proofs.Common.{◌≡◌, ◌-◌, ◌≤◌, length, arith}
use Rattle.xdr.specs.Encode.{u32}
use Rattle.xdr.proofs.EncodeLaws.{length-u32}
use Rattle.xdr.proofs.WritingLaws.{wrote_then, wrote_over}
use Rattle.rules.proofs.AttributeLaws.{bitmap-most, values_most}
use Rattle.wire.specs.Attrs.{asks, attrs_of, value_bytes}
use Rattle.wire.proofs.AttrLaws.{values_opaque}
use Rattle.wire.proofs.attrs.put_attrs.Goals as goal

pub u32-requires : goal.u32-requires
u32-requires c = omega (arith, c.requires, c.put_bitmap.ensures.place, c.put_bitmap.ensures.size, bitmap-most (asks c.args.a))

pub put_values-requires : goal.put_values-requires
put_values-requires c =
    omega (arith, c.requires, c.put_bitmap.ensures.place, c.put_bitmap.ensures.size, bitmap-most (asks c.args.a), c.u32.ensures.place, c.u32.ensures.size, length-u32 0)

pub overflow_cast-w : goal.overflow_cast-w
overflow_cast-w c = omega (arith, c.u32.ensures.place, c.put_values.ensures.place, length-u32 0, values_most (attrs_of c.args.v) (asks c.args.a))

pub set_u32-requires : goal.set_u32-requires
set_u32-requires c =
    omega (arith, c.requires, c.put_bitmap.ensures.place, c.put_bitmap.ensures.size, bitmap-most (asks c.args.a), c.u32.ensures.size, c.put_values.ensures.size)

pub returns : goal.returns
returns c =
    let p = asks c.args.a in
    let values = value_bytes c.args.a c.args.v in
    let size : c.put_values.new.w.at - c.put_bitmap.new.w.at - 4 ≡ length values
    = omega (arith, c.u32.ensures.place, c.put_values.ensures.place, length-u32 0) in
    let within : c.put_bitmap.new.w.at ≤ length c.put_bitmap.new.w.out.now
    = omega (arith, c.requires, c.put_bitmap.ensures.place, c.put_bitmap.ensures.size, bitmap-most p) in
    let n = c.put_values.new.w.at - c.put_bitmap.new.w.at - 4 in
    let same : length (u32 n) ≡ length (u32 0) = omega (arith, length-u32 n, length-u32 0) in
    let body = wrote_over (u32 0) values within same (wrote_then c.u32.ensures c.put_values.ensures) c.set_u32.ensures in
    wrote_then c.put_bitmap.ensures (rw (size, ← values_opaque p (attrs_of c.args.v)) at body)
