use Rattle.xdr.proofs.WritingLaws.{wrote_then}
use Rattle.wire.proofs.result.put_copied.Goals as goal

pub returns : goal.returns
returns c =
    wrote_then c.u32.ensures (wrote_then c.u64.ensures (wrote_then c.u32-2.ensures (wrote_then c.u64-2.ensures (wrote_then c.boolean.ensures c.boolean-2.ensures))))
