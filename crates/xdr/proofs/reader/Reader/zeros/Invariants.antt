use Rattle.std.proofs.Common.{◌≡◌, ◌-◌}
use Rattle.xdr.specs.Decode.{padded}
use Rattle.xdr.specs.declared.bytes.Span.{Span}
use Rattle.xdr.proofs.reader.Reader.zeros.Given as goal

abbrev pub invariant-loop : goal.invariant-loop
invariant-loop l =
    ((d : Span) → padded l.fn.n d l.fn.self.bytes.now l.fn.self.at ≡ padded (l.n - l.counter) d l.self.bytes.now l.self.at)
    × (l.self.bytes ≡ l.fn.self.bytes)
