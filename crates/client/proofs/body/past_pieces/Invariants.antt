use Rattle.std.proofs.Common.{◌≡◌, ◌-◌}
use Rattle.xdr.specs.Decode.{times}
use Rattle.rules.specs.Client.{piece_layout}
use Rattle.client.specs.Read.{end_of}
use Rattle.client.proofs.body.past_pieces.Given as goal

abbrev pub invariant-loop : goal.invariant-loop
invariant-loop l = record {
  left : end_of (times l.n piece_layout.read l.fn.r.bytes.now l.fn.r.at) ≡ end_of (times (l.n - l.counter) piece_layout.read l.r.bytes.now l.r.at);
  bytes : l.r.bytes ≡ l.fn.r.bytes;
}
