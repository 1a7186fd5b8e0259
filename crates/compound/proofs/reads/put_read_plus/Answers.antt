use Rattle.std.proofs.Common.{◌≡◌, ◌+◌, min, arith, append_assoc, ◌∙◌}
use Rattle.xdr.proofs.EncodeLaws.{length-u32, length-bool}
use Rattle.xdr.proofs.WritingLaws.{wrote_then, wrote_over}
use Rattle.rules.specs.Store.{size_of}
use Rattle.rules.specs.Read.{granted}
use Rattle.rules.specs.Operation.{read_plus_reply}
use Rattle.rules.proofs.GeometryLaws.{file-most}
use Rattle.tables.specs.Lent.{geometry_of}
use Rattle.store.specs.Whole.{whole}
use Rattle.compound.proofs.WholeLaws.{facts, limits}
use Rattle.compound.proofs.ReadLaws.{pieces_room}
use Rattle.compound.proofs.reads.put_read_plus.Goals as goal

pub put_pieces-count-requires-clause-room : goal.put_pieces-count-requires-clause-room
put_pieces-count-requires-clause-room c =
    let t = c.args.store.now in
    let s = facts t in
    let g = geometry_of t.geometry in
    let end : c.min-end.result ≡ min (c.args.args.offset + granted c.args.args.count) (size_of (whole t) c.args.file) =
    omega (arith, c.grant-granted.ensures, c.saturating_add.ensures, c.min-end.ensures, s.fits c.args.file c.requires.file, file-most g (limits t)) in
    let most = pieces_room g (limits t) (whole t) s c.args.file c.requires.file c.args.args.offset c.args.args.count in
    omega (arith, rw (← end) at most, c.requires.room, c.boolean.ensures.place, c.boolean.ensures.size, c.u32.ensures.place, c.u32.ensures.size, length-bool c.reaches.result, length-u32 0)

pub returns : goal.returns
unfolding read_plus_reply
returns c =
    let t = c.args.store.now in
    let s = facts t in
    let g = geometry_of t.geometry in
    let end : c.min-end.result ≡ min (c.args.args.offset + granted c.args.args.count) (size_of (whole t) c.args.file) =
    omega (arith, c.grant-granted.ensures, c.saturating_add.ensures, c.min-end.ensures, s.fits c.args.file c.requires.file, file-most g (limits t)) in
    let at_most = c.boolean.ensures in
    rw (← end, ← c.put_pieces-count.ensures.number, ← c.grant-granted.ensures, ← c.reaches.ensures, append_assoc)
    (wrote_then c.boolean.ensures
    (wrote_over _ _ (omega (arith, c.requires.room, at_most.place, at_most.size, length-bool c.reaches.result)) (length-u32 _ ∙ omega (arith, length-u32 0))
    (wrote_then c.u32.ensures c.put_pieces-count.ensures.written) c.set_u32.ensures))

pub put_pieces-count-requires-clause-fits : goal.put_pieces-count-requires-clause-fits
put_pieces-count-requires-clause-fits c =
    omega (arith, (facts c.args.store.now).fits c.args.file c.requires.file, c.min-end.ensures)
