use Rattle.std.proofs.Common.{◌≡◌, ◌+◌, ◌≤◌, ℕ, Bool, drop}
use Rattle.rules.specs.Lists.{count}
use Rattle.tables.proofs.groups.count_where.Given as goal

abbrev pub invariant-loop-number : goal.invariant-loop-number
invariant-loop-number g l =
    ((p : ℕ → Bool) → ((n : ℕ) (b : Bool) → goal.F-post g l.passes n b → b ≡ p n) → l.sum + count p (drop l.number-index l.numbers) ≡ count p l.numbers)
    × (l.sum ≤ l.number-index)
