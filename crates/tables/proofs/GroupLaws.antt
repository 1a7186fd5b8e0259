-- Laws on tables of numbers that are looked at flat, and on groups: where they lie, and what each of their numbers is.
use Prim.Native.Nat.{ℕ, zero, suc, ◌+◌, ◌-◌, ◌%◌, ◌≤◌, ◌<◌}
use mathlib.Core.Path.{◌≡◌, refl, sym, ap, ◌∙◌}
use mathlib.Core.Bool.{Bool, true, false, ◌&&◌, and_comm}
use mathlib.Core.List.{List, [], ◌∷◌}
use native.Mathlib.Nat.{le_refl}
use native.Mathlib.Decide.{dec_lt}
use native.Mathlib.Numerals.{add-one}
use native.Mathlib.Omega.{arith}
use borrow.Author.Tests.{eq-eqb, ne_eqb, eqb-true, lt-ltb, le-ltb, leb-true, le-leb, lt-leb}
use lib.ListN.{length, get_or, take, drop, length-drop}
use lib.Seq.{get_or-take, get_or-drop, length-take-le}
use lib.Dec.{leb, ltb, eqb}
use Rattle.rules.specs.Lists.{bit, count, all_to}
use Rattle.tables.specs.Groups.{group_at, group_all}
use Rattle.xdr.proofs.BoolLaws.{and_left, and_right}
use Rattle.rules.proofs.CountLaws.{count-all-at}
use Rattle.rules.proofs.SoundLaws.{all_to_at, all_to_all}

-- ---- tests and counts

pub same_tests : (a b : Bool) → (a ≡ true → b ≡ true) → (b ≡ true → a ≡ true) → a ≡ b
same_tests true b f g = sym (f refl)
same_tests false true f g = g refl
same_tests false false f g = refl

pub all_to_ext : (n : ℕ) (p q : ℕ → Bool) → ((i : ℕ) → i < n → p i ≡ q i) → all_to n p ≡ all_to n q
all_to_ext zero p q h = refl
all_to_ext (suc n) p q h = rw (h n (le_refl (suc n)), all_to_ext n p q (λ i l. h i (omega arith)))

-- one more number looked at
pub all_step : (p : ℕ → Bool) (l : List ℕ) (i : ℕ) {all r : Bool} → all ≡ all_to i (λ j. p (get_or l j 0)) → r ≡ p (get_or l i 0)
    → (all && r) ≡ all_to (i + 1) (λ j. p (get_or l j 0))
all_step p l i {all} {r} e q = rw (add-one i, ← e, ← q) (and_comm all r)

-- two sorts that a third is made of
pub count-sum : (p q r : ℕ → Bool) → ((x : ℕ) → bit (p x) + bit (q x) ≡ bit (r x)) → (l : List ℕ) → count p l + count q l ≡ count r l
count-sum p q r h [] = refl
count-sum p q r h (x ∷ l) = omega (arith, h x, count-sum p q r h l)

count-each : (p : ℕ → Bool) (l : List ℕ) → ((i : ℕ) → i < length l → p (get_or l i 0) ≡ true) → count p l ≡ length l
count-each p [] h = refl
count-each p (x ∷ l) h = omega (arith, ap bit (h 0 (omega arith)), count-each p l (λ i k. h (suc i) (omega arith)))

-- two sorts that all are made of
pub count-two : (p q : ℕ → Bool) → ((x : ℕ) → bit (p x) + bit (q x) ≡ 1) → (l : List ℕ) → count p l + count q l ≡ length l
count-two p q h l = count-sum p q (λ x. true) h l ∙ count-each (λ x. true) l (λ i k. refl)

-- 0, or above
pub zero_sides : (x : ℕ) → bit (ltb 0 x) + bit (eqb x 0) ≡ 1
zero_sides zero = refl
zero_sides (suc x) = rw (lt-ltb 0 (suc x) (omega arith), ne_eqb (suc x) 0 (λ (e : suc x ≡ 0). omega arith))

-- above k, or at most k
pub bit-sides : (k x : ℕ) → bit (ltb k x) + bit (leb x k) ≡ 1
bit-sides k x = go (dec_lt k x)
  where
    go : Dec (k < x) → bit (ltb k x) + bit (leb x k) ≡ 1
    go (yes h) = rw (lt-ltb k x h, lt-leb x k h)
    go (no d) =
        let h : x ≤ k = omega (arith, d) in
        rw (le-ltb k x h, le-leb x k h)

-- all are of a sort where as many are
pub count-all_to : (p : ℕ → Bool) (l : List ℕ) → eqb (count p l) (length l) ≡ all_to (length l) (λ i. p (get_or l i 0))
count-all_to p l =
    same_tests (eqb (count p l) (length l)) (all_to (length l) (λ i. p (get_or l i 0)))
    (λ e. all_to_all (length l) _ (count-all-at p l (eqb-true (count p l) (length l) e)))
    (λ e. eq-eqb (count p l) (length l) (count-each p l (all_to_at (length l) _ e)))

-- ---- groups

-- a group lies in its table
pub group_room : (i n : ℕ) → group_at i n ≡ true → i + 16 ≤ n
group_room i n e = omega (arith, leb-true 16 (n - i) (and_right (eqb (i % 16) 0) (leb 16 (n - i)) e))

module _ (p : ℕ → Bool) (l : List ℕ) (i : ℕ) where
  pub group_inside : group_all p l i ≡ true → i + 16 ≤ length l
  group_inside e = group_room i (length l) (and_left (group_at i (length l)) _ e)

  pub group_each : group_all p l i ≡ true → (j : ℕ) → j < 16 → p (get_or l (i + j) 0) ≡ true
  group_each e = all_to_at 16 (λ j. p (get_or l (i + j) 0)) (and_right (group_at i (length l)) _ e)

  -- its numbers, as the code takes them
  pub group_part : i + 16 ≤ length l
      → all_to (length (take (i + 16 - i) (drop i l))) (λ j. p (get_or (take (i + 16 - i) (drop i l)) j 0)) ≡ all_to 16 (λ j. p (get_or l (i + j) 0))
  group_part room =
      let all : i + 16 - i ≡ 16 = omega arith in
      let long : length (take 16 (drop i l)) ≡ 16 = length-take-le 16 (drop i l) (rw (length-drop i l) (omega arith)) in
      rw (all, long) (all_to_ext 16 (λ j. p (get_or (take 16 (drop i l)) j 0)) (λ j. p (get_or l (i + j) 0)) (λ j h. rw (get_or-take 16 (drop i l) j 0 h, get_or-drop i l j 0)))
