use Rattle.xdr.proofs.WritingLaws.{wrote_then}
use Rattle.client.proofs.put.put_clone.Goals as goal

pub returns-clause-bytes : goal.returns-clause-bytes
returns-clause-bytes c =
    let source = rw c.part.ensures.bytes_are at c.bytes.ensures in
    let target = rw c.part-2.ensures.bytes_are at c.bytes-2.ensures in
    wrote_then source (wrote_then target (wrote_then c.u64.ensures (wrote_then c.u64-2.ensures c.u64-3.ensures)))
