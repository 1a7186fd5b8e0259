use Rattle.std.proofs.Common.{◌≡◌, length}
use Rattle.client.specs.Records.{record_ops}
use Rattle.client.proofs.RecordLaws.{left}
use Rattle.client.proofs.records.write_records.Given as goal

abbrev pub invariant-loop-i : goal.invariant-loop-i
invariant-loop-i l = record {
  size : length l.ops ≡ 12;
  ops : record_ops l.ns 0 l.count ≡ left l.ns l.ops l.i l.count;
}
