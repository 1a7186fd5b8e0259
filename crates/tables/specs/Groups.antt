-- Groups of sixteen, in which tables are looked at.
use Rattle.std.specs.Prelude.{ℕ, ◌+◌, ◌-◌, ◌%◌, Bool, ◌&&◌, List, length, get_or, leb, eqb}
use Rattle.rules.specs.Lists.{all_to}

-- a whole group of n numbers starts at i
abbrev pub group_at : ℕ → ℕ → Bool
group_at i n = eqb (i % 16) 0 && leb 16 (n - i)

-- and p holds of each of its numbers
abbrev pub group_all : (ℕ → Bool) → List ℕ → ℕ → Bool
group_all p l i = group_at i (length l) && all_to 16 (λ j. p (get_or l (i + j) 0))
