use Rattle.std.proofs.Common.{◌≡◌, arith}
use Rattle.xdr.proofs.WritingLaws.{wrote_then}
use Rattle.rules.specs.Read.{read_count}
use Rattle.rules.specs.Operation.{read_reply}
use Rattle.tables.specs.Lent.{geometry_of}
use Rattle.store.specs.Whole.{whole}
use Rattle.compound.proofs.WholeLaws.{facts}
use Rattle.compound.proofs.ReadLaws.{no_bytes}
use Rattle.compound.proofs.reads.put_read.Goals as goal

pub put_file_bytes-requires-clause-fits : goal.put_file_bytes-requires-clause-fits
put_file_bytes-requires-clause-fits c =
    omega (arith, (facts c.args.store.now).fits c.args.file c.requires.file, c.saturating_sub.ensures, c.min-n.ensures, c.if-n-eq0.false)

pub returns-then-n-eq0 : goal.returns-then-n-eq0
unfolding read_reply
returns-then-n-eq0 c =
    let st = whole c.args.store.now in
    let none : read_count st c.args.file c.args.args.offset c.args.args.count ≡ 0 =
    omega (arith, c.grant-granted.ensures, c.saturating_sub.ensures, c.min-n.ensures, c.if-n-eq0.true) in
    rw (no_bytes (geometry_of c.args.store.now.geometry) st c.args.file c.args.args.offset none, ← c.grant-granted.ensures, ← c.reaches.ensures) (wrote_then c.boolean.ensures c.u32.ensures)
