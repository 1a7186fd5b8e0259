use Rattle.std.proofs.Common.{arith, sym, ◌∙◌}
use Rattle.xdr.proofs.BoolLaws.{and_right}
use Rattle.client.proofs.RequestLaws.{left_length, left_writable, ops_wrote}
use Rattle.client.proofs.put.put_operations.Goals as goal

pub loop-o-preserved : goal.loop-o-preserved
loop-o-preserved c =
    let s = c.args.lent.now in
    let ops = c.args.ops.now in
    let i = c.loop-o.o-index in
    let more = c.loop-o-test.true in
    record {
      written = ops_wrote s ops i more c.loop-o.invariant.written c.put_operation.ensures;
      all = and_right _ _ (sym (left_writable s ops i more) ∙ c.loop-o.invariant.all);
      room = omega (arith, left_length s ops i more, c.loop-o.invariant.room, c.put_operation.ensures.place, c.put_operation.ensures.size);
    }
