-- Laws on characters compared in blocks.
use Prim.Native.Nat.{ℕ, zero, suc, ◌+◌, ◌-◌, ◌≤◌, ◌<◌}
use mathlib.Core.Path.{◌≡◌, refl, sym, ap, ◌∙◌}
use mathlib.Core.Bool.{Bool, true, false, cond}
use mathlib.Core.List.{List, [], ◌∷◌, ◌++◌}
use native.Mathlib.Nat.{zero-add}
use native.Mathlib.Numerals.{add-one}
use native.Mathlib.Omega.{arith}
use lib.ListN.{length, get_or, take, drop, replicate, length-drop, drop_of_length-le, take-append-drop}
use lib.Seq.{drop-cons, take-add, drop-drop, length-take-le}
use lib.Dec.{eqb, ltb}
use borrow.Author.Tests.{eqb-true, ltb-false}
use mir.Val.{bool_byte}
use Rattle.std.specs.Prelude.{Option, Some, None, position, not}
use Rattle.std.specs.List.{position_or_len}
use Rattle.std.proofs.lemmas.List.{take_rest}
use Rattle.frame.specs.Lines.{index_after, index_of}
use Rattle.frame.specs.Blocks.{mismatch, mismatches, Same, Plain}

-- ---- in how many places two lists differ

mismatch-few : (a b : ℕ) → mismatch a b ≤ 1
mismatch-few a b = go (eqb a b)
  where
    go : (t : Bool) → cond t 0 1 ≤ 1
    go true = omega arith
    go false = omega arith

-- the first i places are counted; with those that follow they are all
pub record MismatchesLeft (a b : List ℕ) (i n : ℕ) : Type 0 where
  pub within : i ≤ length a
  pub few : n ≤ i
  pub same : n + mismatches (drop i a) (drop i b) ≡ mismatches a b

module _ {a b : List ℕ} {i n : ℕ} (left : MismatchesLeft a b i n) where
  pub mismatches-more : {d : ℕ} → i < length a → i < length b → d ≡ bool_byte (not (eqb (get_or a i 0) (get_or b i 0))) → MismatchesLeft a b (i + 1) (n + d)
  unfolding mismatches
  mismatches-more {d} h k f =
      let e : d ≡ mismatch (get_or a i 0) (get_or b i 0) = f ∙ by (eqb (get_or a i 0) (get_or b i 0)) in
      let q : mismatches (drop i a) (drop i b) ≡ d + mismatches (drop (suc i) a) (drop (suc i) b) = rw (drop-cons a i 0 h, drop-cons b i 0 k, e) in
      record {
        within = omega arith;
        few = omega (arith, left.few, e, mismatch-few (get_or a i 0) (get_or b i 0));
        same = rw (add-one i) (let z : n + d + mismatches (drop (suc i) a) (drop (suc i) b) ≡ n + mismatches (drop i a) (drop i b) = omega (arith, q) in z ∙ left.same);
      }
    where
      by : (t : Bool) → bool_byte (not t) ≡ cond t 0 1
      by true = refl
      by false = refl

  pub mismatches-end : length a ≤ i → n ≡ mismatches a b
  unfolding mismatches
  mismatches-end h = let z : mismatches (drop i a) (drop i b) ≡ 0 = rw (drop_of_length-le a h) in omega (arith, z, left.same)

mismatches-few : (a b : List ℕ) → mismatches a b ≤ length a
unfolding mismatches
mismatches-few [] b = omega arith
mismatches-few (x ∷ xs) [] = omega arith
mismatches-few (x ∷ xs) (y ∷ ys) = omega (arith, mismatch-few x y, mismatches-few xs ys)

-- in none: they are the same
mismatches-none : (a b : List ℕ) → length a ≡ length b → mismatches a b ≡ 0 → a ≡ b
unfolding mismatches
mismatches-none [] [] h e = refl
mismatches-none [] (y ∷ ys) h e = absurd (omega arith)
mismatches-none (x ∷ xs) [] h e = absurd (omega arith)
mismatches-none (x ∷ xs) (y ∷ ys) h e = go (eqb x y) refl (mismatches-none xs ys (omega arith))
  where
    go : (t : Bool) → eqb x y ≡ t → (mismatches xs ys ≡ 0 → xs ≡ ys) → x ∷ xs ≡ y ∷ ys
    go true t ih = let k : 0 + mismatches xs ys ≡ 0 = rw t at e in ap (λ (c : ℕ). c ∷ xs) (eqb-true x y t) ∙ ap (λ (l : List ℕ). y ∷ l) (ih (omega arith))
    go false t ih = let k : 1 + mismatches xs ys ≡ 0 = rw t at e in absurd (omega arith)

-- in all, from newlines: none of them stands there
mismatches-all : (a c : List ℕ) (n : ℕ) → length a ≤ n → length a ≤ mismatches a (replicate n 10) → index_of 10 (a ++ c) ≡ length a + index_of 10 c
unfolding mismatches index_of index_after
mismatches-all [] c n h e = sym (zero-add (index_of 10 c))
mismatches-all (x ∷ xs) c zero h e = absurd (omega arith)
mismatches-all (x ∷ xs) c (suc n) h e = go (eqb x 10) refl (mismatches-all xs c n (omega arith))
  where
    go : (t : Bool) → eqb x 10 ≡ t → (length xs ≤ mismatches xs (replicate n 10) → index_of 10 (xs ++ c) ≡ length xs + index_of 10 c)
        → index_after t (index_of 10 (xs ++ c)) ≡ suc (length xs) + index_of 10 c
    go true t ih = let k : suc (length xs) ≤ 0 + mismatches xs (replicate n 10) = rw t at e in absurd (omega (arith, mismatches-few xs (replicate n 10)))
    go false t ih = let k : suc (length xs) ≤ 1 + mismatches xs (replicate n 10) = rw t at e in omega (arith, ih (omega arith))

-- ---- the same to a place

module _ {a b : List ℕ} {n i : ℕ} (f : Same a b n i) where
  pub same_block : 64 ≤ n - i → n ≤ length a → n ≤ length b → 0 ≡ mismatches (take (i + 64 - i) (drop i a)) (take (i + 64 - i) (drop i b)) → Same a b n (i + 64)
  same_block h k l e = record {
    within = omega (arith, f.within);
    same = rw (take-add i 64 a, take-add i 64 b, f.same, block);
  }
    where
      z : i + 64 - i ≡ 64
      z = omega arith

      long : (x : List ℕ) → n ≤ length x → length (take 64 (drop i x)) ≡ 64
      long x m = length-take-le 64 (drop i x) (omega (arith, length-drop i x, f.within))

      block : take 64 (drop i a) ≡ take 64 (drop i b)
      block = mismatches-none _ _ (long a k ∙ sym (long b l)) (sym (rw z at e))

-- ---- no newline to a place

module _ {t : List ℕ} {i : ℕ} (f : Plain t i) where
  pub plain-block : 64 ≤ length t - i → 64 ≤ mismatches (take (i + 64 - i) (drop i t)) (replicate 64 10) → Plain t (i + 64)
  plain-block h e =
      let z : i + 64 - i ≡ 64 = omega arith in
      let long = length-take-le 64 (drop i t) (omega (arith, length-drop i t)) in
      let q : mismatches (take 64 (drop i t)) (replicate 64 10) ≡ mismatches (take (i + 64 - i) (drop i t)) (replicate 64 10) = rw z in
      let m = mismatches-all (take 64 (drop i t)) (drop 64 (drop i t)) 64 (omega (arith, long)) (omega (arith, long, q)) in
      let g = ap (index_of 10) (take-append-drop 64 (drop i t)) in
      let d = ap (index_of 10) (drop-drop 64 i t) in
      record { within = omega (arith, f.within); plain = omega (arith, f.plain, long, m, g, d) }

-- ---- the newline behind that place

pub index_le : (t : List ℕ) → index_of 10 t ≤ length t
unfolding index_of index_after
index_le [] = omega arith
index_le (c ∷ cs) = by (eqb c 10) (index_le cs)
  where
    by : (b : Bool) → index_of 10 cs ≤ length cs → index_after b (index_of 10 cs) ≤ suc (length cs)
    by true h = omega arith
    by false h = omega arith

place_is : (t : List ℕ) → position_or_len (λ c. eqb c 10) t ≡ index_of 10 t
unfolding index_of index_after
place_is [] = refl
place_is (x ∷ xs) = go (eqb x 10) (place_is xs)
  where
    go : (b : Bool) → position_or_len (λ c. eqb c 10) xs ≡ index_of 10 xs → cond (not b) (1 + position_or_len (λ c. eqb c 10) xs) 0 ≡ index_after b (index_of 10 xs)
    go true e = refl
    go false e = omega (arith, e)

found_by : (k n i : ℕ) (b : Bool) → ltb k n ≡ b → Some i ≡ cond b (Some k) None → i ≡ k
found_by k n i true e f = cc
found_by k n i false e f = absurd (cc)

missing_by : (k n : ℕ) (b : Bool) → ltb k n ≡ b → ◌≡◌ {A = Option ℕ} None (cond b (Some k) None) → n ≤ k
missing_by k n true e f = absurd (cc)
missing_by k n false e f = ltb-false k n e

module _ {t : List ℕ} {at : ℕ} (f : Plain t at) where
  pub found : {i : ℕ} → Some i ≡ position (λ c. eqb c 10) (take (length t - at) (drop at t)) → at + i ≡ index_of 10 t
  found {i} e =
      let q = found_by _ _ i _ refl e in
      omega (arith, q, f.plain, place_is (take (length t - at) (drop at t)), ap (index_of 10) (take_rest t at))

  pub missing : None ≡ position (λ c. eqb c 10) (take (length t - at) (drop at t)) → length t ≡ index_of 10 t
  missing e =
      let q = missing_by _ _ _ refl e in
      omega (arith, q, f.plain, f.within, place_is (take (length t - at) (drop at t)), ap (index_of 10) (take_rest t at), ap length (take_rest t at), length-drop at t, index_le t)
