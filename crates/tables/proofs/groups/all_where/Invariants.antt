use Rattle.std.proofs.Common.{◌≡◌, ℕ, Bool, get_or}
use Rattle.rules.specs.Lists.{all_to}
use Rattle.tables.proofs.groups.all_where.Given as goal

abbrev pub invariant-loop-number : goal.invariant-loop-number
invariant-loop-number g l =
    (p : ℕ → Bool) → ((n : ℕ) (b : Bool) → goal.F-post g l.passes n b → b ≡ p n) → l.all ≡ all_to l.number-index (λ i. p (get_or l.numbers i 0))
