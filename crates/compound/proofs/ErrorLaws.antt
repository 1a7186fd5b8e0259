-- The first error of an operation, by its parts: a part that finds nothing hands on to the rest, one that finds something answers it.
use Prim.Native.Nat.{ℕ, ◌<◌, ◌≤◌}
use mathlib.Core.Path.{◌≡◌, refl, ◌∙◌}
use mathlib.Core.Bool.{Bool, true, false, cond, not}
use mathlib.Core.Option.{Option}
use mathlib.Core.List.{List, [], ◌∷◌, ◌++◌}
use native.Mathlib.Omega.{arith}
use borrow.Author.Tests.{ltb-true, ne_eqb, lt-ltb, le-ltb}
use lib.ListN.{get_or}
use lib.Dec.{ltb, eqb}
use Rattle.std.proofs.Common.{Some}
use Rattle.rules.specs.Lists.{first}
use Rattle.rules.specs.Store.{Geometry, Store}
use Rattle.rules.specs.Operation.{NXIO, NOFILEHANDLE, BAD_STATEID, UNION_NOTSUPP, SEEK}
use Rattle.rules.specs.Run.{State, no_file, file_of, read_stateid, errors}
use Rattle.xdr.proofs.BoolLaws.{and_left, and_right}
use Rattle.rules.proofs.FirstLaws.{positive}
use Rattle.compound.specs.declared.handles.Handles.{Handles}
use Rattle.compound.specs.Runner.{file_in, state_of}

-- the first of two errors
abbrev or_else : ℕ → ℕ → ℕ
or_else e next = cond (eqb e 0) next e

-- a handle that has to name a file
abbrev needs_file : Option ℕ → List (Bool × ℕ)
needs_file u = (no_file u, NOFILEHANDLE) ∷ []

-- and the stateid for reading it
abbrev reads : Option ℕ → List ℕ → List (Bool × ℕ)
reads u i = needs_file u ++ ((not (read_stateid i), BAD_STATEID) ∷ [])

or_else_lem : (ts us : List (Bool × ℕ)) → positive ts ≡ true → or_else (first ts) (first us) ≡ first (ts ++ us)
or_else_lem [] us p = refl
or_else_lem (t ∷ ts) us p = go t.0 (and_left (ltb 0 t.1) (positive ts) p) (or_else_lem ts us (and_right (ltb 0 t.1) (positive ts) p))
  where
    go : (b : Bool) → ltb 0 t.1 ≡ true → or_else (first ts) (first us) ≡ first (ts ++ us)
        → or_else (cond b t.1 (first ts)) (first us) ≡ cond b t.1 (first (ts ++ us))
    go true q ih = rw (ne_eqb t.1 0 (λ e. omega (arith, ltb-true 0 t.1 q, e)))
    go false q ih = ih

-- one more test; e is the first error of ts
then-row : (ts : List (Bool × ℕ)) (u : Bool) (k : ℕ) → positive ts ≡ true → {e r : ℕ} {t : Bool} → e ≡ first ts → t ≡ u → r ≡ or_else e (cond t k 0)
    → r ≡ first (ts ++ ((u, k) ∷ []))
then-row ts u k p a b c = c ∙ rw (a, b) (or_else_lem ts ((u, k) ∷ []) p)

-- an error is answered, whatever comes next
passed_on : (e next : ℕ) → 0 < e → e ≡ or_else e next
passed_on e next h = rw (ne_eqb e 0 (λ q. omega (arith, h, q))) refl

module _ (g : Geometry) (p : Handles) (st : Store) where
  abbrev x : State
  x = state_of p st

  abbrev u : Option ℕ
  u = file_in p.current

  module _ {sizes : List ℕ} (same : st.sizes ≡ sizes) where
    pub seek_first : (i : List ℕ) (o n : ℕ) {f e a r : ℕ} → f ≡ file_of u → e ≡ first (reads u i) → a ≡ or_else e (cond (ltb 1 n) UNION_NOTSUPP 0)
        → r ≡ or_else a (cond (ltb (get_or sizes f 0) o) NXIO 0) → r ≡ first (errors g x (SEEK i o n))
    unfolding errors
    seek_first i o n {f} file e a r =
        let past : ltb (get_or sizes f 0) o ≡ ltb (get_or st.sizes (file_of u) 0) o = rw (file, same) in
        then-row (reads u i ++ ((ltb 1 n, UNION_NOTSUPP) ∷ [])) (ltb (get_or st.sizes (file_of u) 0) o) NXIO refl
        (then-row (reads u i) (ltb 1 n) UNION_NOTSUPP refl e refl a) past r

    -- the same for tests that each end it where they fail; f is the current file
    module _ (i : List ℕ) (o n : ℕ) where
      pub seek_reads : {r : ℕ} → r ≡ first (reads u i) → 0 < r → r ≡ first (errors g x (SEEK i o n))
      seek_reads e k = seek_first i o n refl e (passed_on _ _ k) (passed_on _ _ k)

      module _ {f : ℕ} (current : p.current ≡ Some f) (passes : read_stateid i ≡ true) where
        file : f ≡ file_of u
        file = rw current refl

        readable : 0 ≡ first (reads u i)
        readable = rw (current, passes) refl

        pub seek_what : 1 < n → UNION_NOTSUPP ≡ first (errors g x (SEEK i o n))
        seek_what h = seek_first i o n {a = UNION_NOTSUPP} file readable (rw (lt-ltb 1 n h) refl) refl

        pub seek_past : n ≤ 1 → get_or sizes f 0 < o → NXIO ≡ first (errors g x (SEEK i o n))
        seek_past h k = seek_first i o n {a = 0} file readable (rw (le-ltb 1 n h) refl) (rw (lt-ltb (get_or sizes f 0) o k) refl)

        pub seek_none : n ≤ 1 → o ≤ get_or sizes f 0 → 0 ≡ first (errors g x (SEEK i o n))
        seek_none h k = seek_first i o n {a = 0} file readable (rw (le-ltb 1 n h) refl) (rw (le-ltb (get_or sizes f 0) o k) refl)
