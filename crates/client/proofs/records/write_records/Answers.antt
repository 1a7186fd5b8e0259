use Rattle.std.proofs.Common.{◌≡◌, ◌*◌, ◌∙◌, Some, rules, arith}
use Rattle.client.specs.Records.{record_at, record_op}
use Rattle.client.proofs.RecordLaws.{left_more}
use Rattle.client.proofs.records.write_records.Goals as goal

pub loop-i-preserved : goal.loop-i-preserved
loop-i-preserved c =
    let ns = c.args.ns.now in
    let ops = c.loop-i.ops in
    let i = c.loop-i.i in
    let o = c.in_ok-ops.field-0 in
    let e : record_op (record_at ns (10 * i)) ≡ Some o = search rules in
    record { size = search rules; ops = c.loop-i.invariant.ops ∙ left_more ns ops i _ c.loop-i-test.true o (omega arith) e }
