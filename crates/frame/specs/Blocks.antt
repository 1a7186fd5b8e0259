-- Characters compared in blocks. Contracts cite these.
use Rattle.std.specs.Prelude.{ℕ, ◌+◌, ◌≤◌, ◌≡◌, cond, List, [], ◌∷◌, length, take, drop, eqb}
use Rattle.frame.specs.Lines.{index_of}

abbrev pub mismatch : ℕ → ℕ → ℕ
mismatch a b = cond (eqb a b) 0 1

-- in how many places two lists differ
unfoldable pub mismatches : List ℕ → List ℕ → ℕ
mismatches [] ys = 0
mismatches (x ∷ xs) [] = 0
mismatches (x ∷ xs) (y ∷ ys) = mismatch x y + mismatches xs ys

-- two lists are the same to place r, which is n at most
pub record Same (a b : List ℕ) (n r : ℕ) : Type 0 where
  pub within : r ≤ n
  pub same : take r a ≡ take r b

-- no newline stands before place r
pub record Plain (t : List ℕ) (r : ℕ) : Type 0 where
  pub within : r ≤ length t
  pub plain : index_of 10 t ≡ r + index_of 10 (drop r t)
