use Rattle.std.proofs.Common.{◌≡◌, ◌-◌, drop}
use Rattle.client.specs.Read.{results_good}
use Rattle.client.proofs.open.results_good.Given as goal

abbrev pub invariant-loop-i : goal.invariant-loop-i
invariant-loop-i l = record {
  left : results_good l.fn.r.bytes.now l.fn.r.at l.count l.status l.numbers ≡ results_good l.fn.r.bytes.now l.r.at (l.count - l.i) l.status (drop l.i l.numbers);
  bytes : l.r.bytes ≡ l.fn.r.bytes;
}
