-- The first of a list of tests that holds: where none does, each fails.
use Prim.Native.Nat.{ℕ}
use mathlib.Core.Path.{◌≡◌, refl}
use mathlib.Core.Bool.{Bool, true, false, cond, ◌&&◌}
use mathlib.Core.List.{List, [], ◌∷◌}
use native.Mathlib.Omega.{arith}
use borrow.Author.Tests.{ltb-true}
use lib.Dec.{ltb}
use Rattle.rules.specs.Lists.{first}
use Rattle.xdr.proofs.BoolLaws.{and_left, and_right}

-- every number is above 0
abbrev pub positive : List (Bool × ℕ) → Bool
positive [] = true
positive (t ∷ ts) = ltb 0 t.1 && positive ts

-- every test fails
abbrev pub Clear : List (Bool × ℕ) → Type 0
Clear [] = Unit {0}
Clear (t ∷ ts) = (t.0 ≡ false) × Clear ts

none-applies : (t : Bool) (e r : ℕ) → ltb 0 e ≡ true → cond t e r ≡ 0 → (t ≡ false) × (r ≡ 0)
none-applies true e r p h = absurd (omega (arith, ltb-true 0 e p))
none-applies false e r p h = (refl, h)

pub all-clear : (ts : List (Bool × ℕ)) → positive ts ≡ true → first ts ≡ 0 → Clear ts
all-clear [] p h = tt
all-clear (t ∷ ts) p h =
    let c = none-applies t.0 t.1 (first ts) (and_left (ltb 0 t.1) (positive ts) p) h in
    (c.0, all-clear ts (and_right (ltb 0 t.1) (positive ts) p) c.1)
