-- Laws on counts. One says what `set` does to a count: every law on holders, used and owed blocks goes by it.
use Prim.Native.Nat.{ℕ, zero, suc, ◌+◌, ◌≤◌, ◌<◌}
use mathlib.Core.Path.{◌≡◌, refl, sym, ap, ◌∙◌}
use mathlib.Core.Bool.{Bool, true, false}
use mathlib.Core.List.{List, [], ◌∷◌, ◌++◌}
use mathlib.Core.Logic.{◌≢◌, ◌⊎◌, inl, inr}
use native.Mathlib.Nat.{not-suc-le-zero, le_of_suc-le-suc, eq-or-lt_of_le, le_step, le_refl}
use native.Mathlib.Decide.{le_ind}
use native.Mathlib.Omega.{arith}
use lib.ListN.{length, get_or, set, take, drop, take-append-drop, drop_of_length-le}
use lib.Seq.{drop-cons}
use Rattle.rules.specs.Lists.{bit, count, sum_to}

-- what storing one element does to a count
pub count_set : (p : ℕ → Bool) (l : List ℕ) (i x : ℕ) → i < length l
    → count p (set l i x) + bit (p (get_or l i 0)) ≡ count p l + bit (p x)
count_set p [] i x h = absurd (not-suc-le-zero h)
count_set p (y ∷ l) zero x h = omega arith
count_set p (y ∷ l) (suc i) x h = omega (arith, count_set p l i x (le_of_suc-le-suc h))

-- ---- how much a count can be, and its parts

pub bit-most : (t : Bool) → bit t ≤ 1
bit-most true = omega arith
bit-most false = omega arith

pub count_most : (p : ℕ → Bool) (l : List ℕ) → count p l ≤ length l
count_most p [] = omega arith
count_most p (x ∷ l) = omega (arith, bit-most (p x), count_most p l)

pub count_append : (p : ℕ → Bool) (xs ys : List ℕ) → count p (xs ++ ys) ≡ count p xs + count p ys
count_append p [] ys = omega arith
count_append p (x ∷ xs) ys = omega (arith, count_append p xs ys)

pub count-parts : (p : ℕ → Bool) (n : ℕ) (l : List ℕ) → count p l ≡ count p (take n l) + count p (drop n l)
count-parts p n l = ap (count p) (sym (take-append-drop n l)) ∙ count_append p (take n l) (drop n l)

-- nothing where no element passes; an element past the end is 0
pub count-none-at : (p : ℕ → Bool) (l : List ℕ) → ((i : ℕ) → p (get_or l i 0) ≡ false) → count p l ≡ 0
count-none-at p [] h = refl
count-none-at p (x ∷ l) h = omega (arith, ap bit (h 0), count-none-at p l (λ i. h (suc i)))

-- where all are counted, each element passes
pub count-all-at : (p : ℕ → Bool) (l : List ℕ) → count p l ≡ length l → (i : ℕ) → i < length l → p (get_or l i 0) ≡ true
count-all-at p [] e i h = absurd (not-suc-le-zero h)
count-all-at p (x ∷ l) e zero h = one (p x) (omega (arith, e, count_most p l))
  where
    one : (t : Bool) → 1 ≤ bit t → t ≡ true
    one true k = refl
    one false k = absurd (omega arith)
count-all-at p (x ∷ l) e (suc i) h = count-all-at p l (omega (arith, e, bit-most (p x), count_most p l)) i (le_of_suc-le-suc h)

-- a weaker test counts no less
pub count-mono : (p q : ℕ → Bool) → ((x : ℕ) → bit (p x) ≤ bit (q x)) → (l : List ℕ) → count p l ≤ count q l
count-mono p q h [] = omega arith
count-mono p q h (x ∷ l) = omega (arith, h x, count-mono p q h l)

-- ---- sums over the numbers below n

-- equal at each number
pub sum_to_ext : (n : ℕ) (f g : ℕ → ℕ) → ((b : ℕ) → b < n → f b ≡ g b) → sum_to n f ≡ sum_to n g
sum_to_ext zero f g h = refl
sum_to_ext (suc n) f g h = omega (arith, h n (le_refl (suc n)), sum_to_ext n f g (λ b k. h b (le_step k)))

pub sum_to_add : (n : ℕ) (f g : ℕ → ℕ) → sum_to n (λ b. f b + g b) ≡ sum_to n f + sum_to n g
sum_to_add zero f g = refl
sum_to_add (suc n) f g = omega (arith, sum_to_add n f g)

-- equal at each number but k
pub sum_to_point : (n k : ℕ) (f g : ℕ → ℕ) → k < n → ((b : ℕ) → b ≢ k → f b ≡ g b) → sum_to n f + g k ≡ sum_to n g + f k
sum_to_point zero k f g h e = absurd (not-suc-le-zero h)
sum_to_point (suc n) k f g h e = go (λ l. sum_to_point n k f g l e) (eq-or-lt_of_le (le_of_suc-le-suc h))
  where
    go : (k < n → sum_to n f + g k ≡ sum_to n g + f k) → (k ≡ n) ⊎ (k < n) → f n + sum_to n f + g k ≡ g n + sum_to n g + f k
    go ih (inl q) = rw q (omega (arith, sum_to_ext n f g (λ b l. e b (λ (r : b ≡ k). omega arith))))
    go ih (inr l) = omega (arith, e n (λ (r : n ≡ k). omega arith), ih l)

-- nothing from m on
pub sum_to_cut : (m n : ℕ) (f : ℕ → ℕ) → m ≤ n → ((b : ℕ) → m ≤ b → f b ≡ 0) → sum_to n f ≡ sum_to m f
sum_to_cut m n f h z = le_ind (λ (k : ℕ). sum_to k f ≡ sum_to m f) refl (λ k l e. omega (arith, z k l, e)) n h

-- at least 1 at each of the first m numbers
pub sum_to_ge : (m n : ℕ) (f : ℕ → ℕ) → m ≤ n → ((b : ℕ) → b < m → 1 ≤ f b) → m ≤ sum_to n f
sum_to_ge m n f h o = le_ind (λ (k : ℕ). m ≤ sum_to k f) (all m o) (λ k l e. omega arith) n h
  where
    all : (k : ℕ) → ((b : ℕ) → b < k → 1 ≤ f b) → k ≤ sum_to k f
    all zero p = omega arith
    all (suc k) p = omega (arith, p k (le_refl (suc k)), all k (λ b l. p b (le_step l)))

-- ---- a count by one pass: what is still to be counted from place i on

pub count-drop : (p : ℕ → Bool) (l : List ℕ) (i : ℕ) → i < length l → count p (drop i l) ≡ bit (p (get_or l i 0)) + count p (drop (suc i) l)
count-drop p l i h = ap (count p) (drop-cons l i 0 h)

pub count-end : (p : ℕ → Bool) (l : List ℕ) (i : ℕ) → length l ≤ i → count p (drop i l) ≡ 0
count-end p l i h = ap (count p) (drop_of_length-le l h)
