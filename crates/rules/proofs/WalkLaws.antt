-- Ranges of a file: what the answers of a walk give, one after the other, up to the size; laid end to end they are the file's bytes.
use Prim.Native.Nat.{ℕ, ◌+◌, ◌-◌, ◌≤◌, ◌<◌}
use mathlib.Core.Path.{◌≡◌, refl, sym, ap, ap₂, ◌∙◌, subst}
use mathlib.Core.Bool.{Bool, not, not-eq-not}
use mathlib.Core.List.{List, [], ◌∷◌, ◌++◌}
use native.Mathlib.Nat.{zero-add}
use native.Mathlib.Decide.{dec_lt}
use native.Mathlib.Omega.{arith}
use borrow.Author.Tests.{ne_eqb, eq-eqb}
use lib.ListN.{drop}
use lib.Seq.{drop_at}
use Rattle.xdr.specs.Encode.{concat_map}
use Rattle.rules.specs.Lists.{tabulate}
use Rattle.rules.specs.Store.{Geometry, Store, size_of, byte_at, bytes_from, content}
use Rattle.rules.specs.Read.{Piece, is_hole_at}
use Rattle.rules.specs.Claim.{laid, Unlike}
use Rattle.rules.specs.Seek.{ranges, PieceOf, DataAndHoles}
use Rattle.rules.proofs.SlotByteLaws.{length_tab}
use Rattle.rules.proofs.ReadLaws.{tab_append, laid-piece}

module _ (g : Geometry) (pos : 0 < g.B) (st : Store) (f : ℕ) where
  -- ---- what a walk's answers give

  -- all between place i, asked from, and place p, answered, is of the kind that was not asked for
  module _ (hole : Bool) (i p : ℕ) (same : (j : ℕ) → i ≤ j → j < p → is_hole_at g st f j ≡ not hole) (eof : Bool) (rest : List (Bool × ℕ)) where
    range_of : i < p → PieceOf g st f (record { hole = not hole; start = i; size = p - i })
    range_of m = record { some_byte = omega (arith, m); kind = λ j a b. same j a (omega (arith, m)) }

    pub ranges-order : i ≤ p → Unlike (not hole) (ranges (not hole) p rest) → DataAndHoles g st f p (ranges (not hole) p rest) → DataAndHoles g st f i (ranges hole i ((eof, p) ∷ rest))
    ranges-order l u r = go (dec_lt i p)
      where
        go : Dec (i < p) → DataAndHoles g st f i (ranges hole i ((eof, p) ∷ rest))
        go (yes m) =
            let end : i + (p - i) ≡ p = omega (arith, m) in
            rw (ne_eqb p i (λ e. omega (arith, m, e))) (refl, (range_of m, (u, rw end r)))
        go (no d) =
            let e : p ≡ i = omega (arith, d, l) in
            rw (eq-eqb p i e) (subst (λ j. DataAndHoles g st f j (ranges (not hole) p rest)) e r)

    pub ranges-first : i < p → Unlike hole (ranges hole i ((eof, p) ∷ rest))
    ranges-first m = rw (ne_eqb p i (λ e. omega (arith, m, e))) refl

  -- ---- the bytes

  below-size : (ps : List Piece) (i : ℕ) → DataAndHoles g st f i ps → i ≤ size_of st f
  below-size [] i r = omega (arith, r)
  below-size (p ∷ ps) i r = omega (arith, r.0, below-size ps (p.start + p.size) r.1.1.1)

  pub order-laid : (ps : List Piece) (i : ℕ) → DataAndHoles g st f i ps → concat_map (laid g st f) ps ≡ bytes_from g st f i (size_of st f - i)
  order-laid [] i r = let e : size_of st f - i ≡ 0 = omega (arith, r) in rw e
  order-laid (p ∷ ps) i r =
      let next : ℕ = p.start + p.size in
      let parts : size_of st f - p.start ≡ p.size + (size_of st f - next) = omega (arith, below-size ps next r.1.1.1) in
      ap₂ (λ a b. a ++ b) (laid-piece g pos st f p r.1.0.kind) (order-laid ps next r.1.1.1)
      ∙ sym (tab_append (byte_at g st f) p.size (size_of st f - next) p.start)
      ∙ rw (← parts, r.0)

  -- the file's bytes from place i on
  pub content-from : (i : ℕ) → i ≤ size_of st f → bytes_from g st f i (size_of st f - i) ≡ drop i (content g st f)
  content-from i l =
      let n : ℕ = size_of st f - i in
      let all : i + n ≡ size_of st f = omega (arith, l) in
      sym (drop_at (tabulate (byte_at g st f) 0 i) (tabulate (byte_at g st f) i n) i (length_tab (byte_at g st f) i 0))
      ∙ ap (drop i) (ap (λ m. tabulate (byte_at g st f) 0 i ++ tabulate (byte_at g st f) m n) (sym (zero-add i)) ∙ sym (tab_append (byte_at g st f) i n 0) ∙ rw all)

  -- ---- no other list of pieces from place i on is in order

  first_kind : (p : Piece) (ps : List Piece) (i : ℕ) → DataAndHoles g st f i (p ∷ ps) → is_hole_at g st f i ≡ p.hole
  first_kind p ps i r = r.1.0.kind i (omega (arith, r.0)) (omega (arith, r.0, r.1.0.some_byte))

  -- behind a piece stands the size, or a piece of the other kind
  no_longer : (p q : Piece) (ps qs : List Piece) (i : ℕ) → DataAndHoles g st f i (p ∷ ps) → DataAndHoles g st f i (q ∷ qs) → p.size < q.size → ⊥
  no_longer p q [] qs i a b l = omega (arith, a.0, a.1.1.1, b.0, below-size qs (q.start + q.size) b.1.1.1, l)
  no_longer p q (y ∷ ps) qs i a b l =
      let next : ℕ = p.start + p.size in
      let there : is_hole_at g st f next ≡ q.hole = b.1.0.kind next (omega (arith, a.0, b.0)) (omega (arith, a.0, b.0, l)) in
      not-eq-not.1 (there ∙ sym (first_kind q qs i b) ∙ first_kind p (y ∷ ps) i a) (first_kind y ps next a.1.1.1 ∙ a.1.1.0)

  pub only_one : (ps qs : List Piece) (i : ℕ) → DataAndHoles g st f i ps → DataAndHoles g st f i qs → ps ≡ qs
  only_one [] [] i a b = refl
  only_one [] (q ∷ qs) i a b = absurd (omega (arith, a, b.0, b.1.0.some_byte, below-size qs (q.start + q.size) b.1.1.1))
  only_one (p ∷ ps) [] i a b = absurd (omega (arith, b, a.0, a.1.0.some_byte, below-size ps (p.start + p.size) a.1.1.1))
  only_one (p ∷ ps) (q ∷ qs) i a b = go (dec_lt p.size q.size) (dec_lt q.size p.size) (only_one ps qs (p.start + p.size))
    where
      go : Dec (p.size < q.size) → Dec (q.size < p.size)
          → (DataAndHoles g st f (p.start + p.size) ps → DataAndHoles g st f (p.start + p.size) qs → ps ≡ qs) → p ∷ ps ≡ q ∷ qs
      go (yes l) e ih = absurd (no_longer p q ps qs i a b l)
      go (no d) (yes l) ih = absurd (no_longer q p qs ps i b a l)
      go (no d) (no e) ih =
          let kind : p.hole ≡ q.hole = sym (first_kind p ps i a) ∙ first_kind q qs i b in
          let from : p.start ≡ q.start = omega (arith, a.0, b.0) in
          let size : p.size ≡ q.size = omega (arith, d, e) in
          let same : p ≡ q = λ j. record { hole = kind j; start = from j; size = size j } in
          let end : q.start + q.size ≡ p.start + p.size = omega (arith, from, size) in
          ap₂ (λ x xs. x ∷ xs) same (ih a.1.1.1 (rw end at b.1.1.1))
