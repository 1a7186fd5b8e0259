use Rattle.std.proofs.Common.{arith, rules}
use Rattle.xdr.proofs.BytesLaws.{copy_more, copy-all}
use Rattle.xdr.proofs.writer.copy.Goals as goal

pub loop-i-preserved : goal.loop-i-preserved
loop-i-preserved c = record { size = search rules; front = copy_more _ _ c.loop-i.i (omega arith) (omega arith) c.loop-i.invariant.front }

pub returns : goal.returns
returns c = copy-all _ _ c.loop-i.i c.loop-i.invariant.front (omega arith) (omega arith)
