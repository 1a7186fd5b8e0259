use Rattle.std.proofs.Common.{◌≡◌, ◌+◌, ◌*◌, ◌^◌, ◌≤◌, ℕ, List, length, drop}
use Rattle.xdr.specs.Layout.{every}
use Rattle.wire.specs.declared.operation.Operation.{Operation}
use Rattle.client.specs.Given.{writable, ops_bytes}
use Rattle.client.proofs.size.ops_size.Given as goal

-- the first i have n bytes, and the others may be written or not
pub record Sized (s : List ℕ) (ops : List Operation) (i n : ℕ) : Type 0 where
  pub all : every (writable s) ops ≡ every (writable s) (drop i ops)
  pub long : length (ops_bytes s ops) ≡ n + length (ops_bytes s (drop i ops))
  pub most : n ≤ i * (2 ^ 32 + 38)

abbrev pub invariant-loop-o : goal.invariant-loop-o
invariant-loop-o l = Sized l.lent l.ops l.o-index l.total
