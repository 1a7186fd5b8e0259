use Rattle.std.proofs.Common.{ℕ, ◌≡◌, ◌≤◌, ◌-◌, List, length, take}
use Rattle.rules.specs.Store.{bytes_from}
use Rattle.tables.specs.Lent.{geometry_of, tables}
use Rattle.store.proofs.read.read_bytes.Given as goal

-- the first `at` bytes are read
abbrev pub invariant-loop-at : goal.invariant-loop-at
invariant-loop-at l = record {
  within : l.at ≤ length l.initial.out;
  read : (sizes : List ℕ) → take l.at l.out ≡ bytes_from (geometry_of l.g) (tables sizes l.words l.mem) l.f l.off l.at;
}

abbrev pub decreases-loop-at : goal.decreases-loop-at
decreases-loop-at l = length l.initial.out - l.at
