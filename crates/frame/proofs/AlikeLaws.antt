-- Laws on two lines compared: how far they are alike, and the byte where they part.
use Prim.Native.Nat.{ℕ, suc, ◌+◌, ◌≤◌, ◌<◌, min}
use mathlib.Core.Path.{◌≡◌, refl, sym, ap, ◌∙◌}
use mathlib.Core.Bool.{Bool, true, false, cond}
use mathlib.Core.List.{List, [], ◌∷◌, ◌++◌, append-nil}
use mathlib.Core.Logic.{◌≢◌}
use native.Mathlib.Nat.{zero-add}
use native.Mathlib.Numerals.{add-one}
use native.Mathlib.Omega.{arith}
use lib.ListN.{length, get_or, take, drop, drop_of_length-le, take-append-drop}
use lib.Seq.{drop-cons, length-take-le}
use lib.Dec.{ltb, eqb}
use borrow.Author.Tests.{ltb-true, ltb-false, eq-eqb, ne_eqb}
use Rattle.frame.specs.Recording.{lower, alike}
use Rattle.frame.specs.Blocks.{Same}

-- ---- how far two lines are alike

pub alike_le : (a b : List ℕ) → alike a b ≤ length a
unfolding alike
alike_le [] b = omega arith
alike_le (x ∷ xs) [] = omega arith
alike_le (x ∷ xs) (y ∷ ys) = go (eqb (lower x) (lower y)) (alike_le xs ys)
  where
    go : (t : Bool) → alike xs ys ≤ length xs → cond t (suc (alike xs ys)) 0 ≤ suc (length xs)
    go true h = omega arith
    go false h = omega arith

pub alike_le_right : (a b : List ℕ) → alike a b ≤ length b
unfolding alike
alike_le_right [] b = omega arith
alike_le_right (x ∷ xs) [] = omega arith
alike_le_right (x ∷ xs) (y ∷ ys) = go (eqb (lower x) (lower y)) (alike_le_right xs ys)
  where
    go : (t : Bool) → alike xs ys ≤ length ys → cond t (suc (alike xs ys)) 0 ≤ suc (length ys)
    go true h = omega arith
    go false h = omega arith

alike-nil : (a : List ℕ) → alike a [] ≡ 0
unfolding alike
alike-nil [] = refl
alike-nil (x ∷ xs) = refl

-- a line that goes on: where it has parted, and where it has not
pub alike-parted : (a b c : List ℕ) → alike a b < length b → alike a (b ++ c) ≡ alike a b
unfolding alike
alike-parted [] b c h = refl
alike-parted (x ∷ xs) [] c h = absurd (omega arith)
alike-parted (x ∷ xs) (y ∷ ys) c h = go (eqb (lower x) (lower y)) refl (alike-parted xs ys c)
  where
    go : (t : Bool) → eqb (lower x) (lower y) ≡ t → (alike xs ys < length ys → alike xs (ys ++ c) ≡ alike xs ys)
        → cond t (suc (alike xs (ys ++ c))) 0 ≡ cond t (suc (alike xs ys)) 0
    go true e ih = ap suc (ih (let k : suc (alike xs ys) < suc (length ys) = rw e at h in omega arith))
    go false e ih = refl

pub alike-on : (a b c : List ℕ) → length b ≤ alike a b → alike a (b ++ c) ≡ length b + alike (drop (length b) a) c
unfolding alike
alike-on a [] c h = sym (zero-add (alike a c))
alike-on [] (y ∷ ys) c h = absurd (omega arith)
alike-on (x ∷ xs) (y ∷ ys) c h = go (eqb (lower x) (lower y)) refl (alike-on xs ys c)
  where
    go : (t : Bool) → eqb (lower x) (lower y) ≡ t → (length ys ≤ alike xs ys → alike xs (ys ++ c) ≡ length ys + alike (drop (length ys) xs) c)
        → cond t (suc (alike xs (ys ++ c))) 0 ≡ suc (length ys) + alike (drop (length ys) xs) c
    go true e ih = let k : suc (length ys) ≤ suc (alike xs ys) = rw e at h in omega (arith, ih (omega arith))
    go false e ih = let k : ◌≤◌ (suc (length ys)) 0 = rw e at h in absurd (omega arith)

-- the first i characters are alike; with those that follow alike they are all that are
pub record AlikeLeft (a b : List ℕ) (i : ℕ) : Type 0 where
  pub within_a : i ≤ length a
  pub within_b : i ≤ length b
  pub same : i + alike (drop i a) (drop i b) ≡ alike a b

alike_common : (x a b : List ℕ) → alike (x ++ a) (x ++ b) ≡ length x + alike a b
unfolding alike
alike_common [] a b = sym (zero-add (alike a b))
alike_common (c ∷ x) a b = rw (eq-eqb (lower c) (lower c) refl) (omega (arith, alike_common x a b))

-- what is the same as it stands is alike
pub alike_start : (a b : List ℕ) {n i : ℕ} → n ≤ length a → n ≤ length b → Same a b n i → AlikeLeft a b i
alike_start a b {n} {i} h k s =
    let m = length-take-le i a (omega (arith, s.within)) in
    let q = alike_common (take i a) (drop i a) (drop i b) in
    let l = ap (λ (x : List ℕ). alike x (take i a ++ drop i b)) (take-append-drop i a) in
    let r = ap (alike a) (ap (λ (x : List ℕ). x ++ drop i b) s.same ∙ take-append-drop i b) in
    record { within_a = omega (arith, s.within); within_b = omega (arith, s.within); same = omega (arith, m, q, l, r) }

module _ {a b : List ℕ} {i : ℕ} (left : AlikeLeft a b i) where
  module _ (h : i < length a) (k : i < length b) where
    here : alike (drop i a) (drop i b) ≡ cond (eqb (lower (get_or a i 0)) (lower (get_or b i 0))) (suc (alike (drop (suc i) a) (drop (suc i) b))) 0
    unfolding alike
    here = rw (drop-cons a i 0 h, drop-cons b i 0 k)

    pub alike_more : lower (get_or a i 0) ≡ lower (get_or b i 0) → AlikeLeft a b (i + 1)
    alike_more e =
        let q = here ∙ ap (λ t. cond t (suc (alike (drop (suc i) a) (drop (suc i) b))) 0) (eq-eqb (lower (get_or a i 0)) (lower (get_or b i 0)) e) in
        record {
          within_a = omega arith;
          within_b = omega arith;
          same = rw (add-one i) (let z : suc i + alike (drop (suc i) a) (drop (suc i) b) ≡ i + alike (drop i a) (drop i b) = omega (arith, q) in z ∙ left.same);
        }

    pub alike_stop : lower (get_or a i 0) ≢ lower (get_or b i 0) → i ≡ alike a b
    alike_stop e =
        let q = here ∙ ap (λ t. cond t (suc (alike (drop (suc i) a) (drop (suc i) b))) 0) (ne_eqb (lower (get_or a i 0)) (lower (get_or b i 0)) e) in
        omega (arith, q, left.same)

  -- one of them ends
  pub alike_end : min (length a) (length b) ≤ i → i ≡ alike a b
  unfolding alike
  alike_end h = go (ltb (length a) (length b)) refl
    where
      go : (t : Bool) → ltb (length a) (length b) ≡ t → i ≡ alike a b
      go true t =
          let k : length a ≤ i = omega (arith, ltb-true (length a) (length b) t) in
          let z : alike (drop i a) (drop i b) ≡ 0 = rw (drop_of_length-le a k) in
          omega (arith, z, left.same)
      go false t =
          let k : length b ≤ i = omega (arith, ltb-false (length a) (length b) t) in
          let z : alike (drop i a) (drop i b) ≡ 0 = rw (drop_of_length-le b k) (alike-nil (drop i a)) in
          omega (arith, z, left.same)

-- ---- a line that begins with another

pub shorter_right : (a b : List ℕ) → alike a (a ++ b) ≡ length a
unfolding alike
shorter_right a b =
    let q = alike_common a [] b in
    let e = ap (λ (x : List ℕ). alike x (a ++ b)) (append-nil a) in
    omega (arith, q, e)

pub shorter-left : (a b : List ℕ) → alike (a ++ b) a ≡ length a
shorter-left a b =
    let q = alike_common a b [] in
    let e = ap (alike (a ++ b)) (append-nil a) in
    omega (arith, q, e, alike-nil b)
