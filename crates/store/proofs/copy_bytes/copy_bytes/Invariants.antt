use Rattle.std.proofs.Common.{ℕ, ◌≡◌, ◌≤◌, ◌-◌, List}
use Rattle.xdr.specs.Bytes.{splice}
use Rattle.rules.specs.Store.{bytes_from}
use Rattle.tables.specs.Lent.{geometry_of, tables}
use Rattle.store.proofs.copy_bytes.copy_bytes.Given as goal

-- the first `at` bytes are copied
abbrev pub invariant-loop-at : goal.invariant-loop-at
invariant-loop-at l = record {
  within : l.at ≤ l.n;
  copied : (sizes : List ℕ) → l.mem ≡ splice l.initial.mem l.to (bytes_from (geometry_of l.g) (tables sizes l.words l.initial.mem) l.from.file l.from.off l.at);
}

abbrev pub decreases-loop-at : goal.decreases-loop-at
decreases-loop-at l = l.n - l.at
