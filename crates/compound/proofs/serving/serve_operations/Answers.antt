use Rattle.std.proofs.Common.{arith, length, ◌≤◌}
use Rattle.xdr.specs.Encode.{opaque}
use Rattle.xdr.specs.Bytes.{part_of}
use Rattle.xdr.proofs.EncodeLaws.{length-u32, length-opaque}
use Rattle.store.specs.Whole.{whole}
use Rattle.wire.specs.Decoded.{header_of}
use Rattle.compound.specs.Runner.{config_of}
use Rattle.compound.proofs.ServeLaws.{served-right}
use Rattle.compound.proofs.serving.serve_operations.Goals as goal

pub opaque-requires : goal.opaque-requires
opaque-requires c =
    let long : length c.part.result.now ≤ 1024 = rw c.part.ensures.bytes_are c.requires.tag in
    (omega (arith, long), omega (arith, long, c.requires.start, c.requires.room, c.u32.ensures.place, c.u32.ensures.size, length-u32 0))

pub u32-requires-2 : goal.u32-requires-2
u32-requires-2 c =
    let long : length c.part.result.now ≤ 1024 = rw c.part.ensures.bytes_are c.requires.tag in
    omega (
      arith,
      long,
      c.requires.start,
      c.requires.room,
      c.u32.ensures.place,
      c.u32.ensures.size,
      length-u32 0,
      c.opaque.ensures.place,
      c.opaque.ensures.size,
      length-opaque c.part.result.now,
    )

pub answer-ended-requires : goal.answer-ended-requires
answer-ended-requires c =
    let long : length c.part.result.now ≤ 1024 = rw c.part.ensures.bytes_are c.requires.tag in
    omega (
      arith,
      long,
      c.requires.start,
      c.requires.room,
      c.u32.ensures.place,
      c.u32.ensures.size,
      length-u32 0,
      c.opaque.ensures.place,
      c.opaque.ensures.size,
      length-opaque c.part.result.now,
      c.u32-2.ensures.place,
      c.u32-2.ensures.size,
    )

pub set_u32-requires : goal.set_u32-requires
set_u32-requires c =
    let long : length c.part.result.now ≤ 1024 = rw c.part.ensures.bytes_are c.requires.tag in
    omega (
      arith,
      long,
      c.requires.start,
      c.requires.room,
      c.u32.ensures.place,
      c.u32.ensures.size,
      length-u32 0,
      c.opaque.ensures.place,
      c.opaque.ensures.size,
      length-opaque c.part.result.now,
      c.u32-2.ensures.size,
      c.answer-ended.ensures.ran.wrote.size,
    )

pub returns-clause-served : goal.returns-clause-served
returns-clause-served c =
    let s = c.args.reader.now.bytes.now in
    let short : length (opaque (part_of s c.args.header.tag)) ≤ 1028 = omega (arith, length-opaque (part_of s c.args.header.tag), c.requires.tag) in
    served-right (config_of c.args.store.now.geometry c.args.verifier) (whole c.args.store.now) s (header_of s c.args.header) c.args.reader.now.at
    c.requires.start c.requires.room short c.u32.ensures (rw c.part.ensures.bytes_are at c.opaque.ensures) c.u32-2.ensures c.answer-ended.ensures.ran
    c.set_u32.ensures (rw c.number.ensures at c.set_u32-2.ensures)
