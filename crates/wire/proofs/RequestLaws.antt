-- A number that no row of a table has.
use Prim.Native.Nat.{ℕ}
use mathlib.Core.Path.{◌≡◌, refl}
use mathlib.Core.Option.{none}
use mathlib.Core.List.{List, [], ◌∷◌}
use borrow.Author.Tests.{ne_eqb}
use Rattle.rules.specs.Operation.{find}

-- n is the number of none of a table's rows; `before` is what is known already
abbrev pub NoneOf : {B : Type 0} → ℕ → Type 0 → List (ℕ × B) → Type 0
NoneOf n before [] = before
NoneOf n before (r ∷ rs) = NoneOf n (before × (n ≡ r.0 → ⊥)) rs

pub none_found : {B : Type 0} (n : ℕ) (before : Type 0) (rs : List (ℕ × B)) → NoneOf n before rs → before × (find n rs ≡ none)
none_found n before [] h = (h, refl)
none_found n before (r ∷ rs) h =
    let t = none_found n (before × (n ≡ r.0 → ⊥)) rs h in
    (t.0.0, rw (ne_eqb n r.0 t.0.1) t.1)
