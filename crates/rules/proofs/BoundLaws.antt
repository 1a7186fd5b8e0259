-- Bounds on used and owed blocks for which no holder is counted.
use Prim.Native.Nat.{ℕ, zero, suc, pred, ◌+◌, ◌/◌, ◌%◌, ◌≤◌, ◌<◌}
use mathlib.Core.Path.{◌≡◌, refl, sym, ap, ◌∙◌}
use mathlib.Core.Bool.{Bool, true, false, ◌&&◌}
use mathlib.Core.List.{List, [], ◌∷◌}
use native.Mathlib.Nat.{zero-add}
use native.Mathlib.Decide.{dec_lt}
use native.Mathlib.Omega.{arith}
use borrow.Author.Tests.{lt-ltb, le-ltb, eq-eqb, ne_eqb, eqb-true}
use lib.Dec.{ltb, eqb}
use Rattle.rules.specs.Lists.{bit, count, sum_to, count_to}
use Rattle.rules.specs.Store.{is_reserved, holds, holders, hole_or_shared, block_bound, used, owes, owed, need}
use Rattle.rules.proofs.CountLaws.{bit-most, count-mono, sum_to_ext, sum_to_point, sum_to_cut}
use Rattle.rules.proofs.NeedLaws.{no-holder, used-to}

-- blocks with a holder are no more than slots that hold one: a word is above 1 where it holds a block
held-most : (n : ℕ) (ws : List ℕ) → block_bound ws ≤ n → count_to n (λ b. ltb 0 (holders b ws)) ≤ count (ltb 1) ws
held-most n [] h = omega (arith, sum_to_cut 0 n (λ b. bit (ltb 0 0)) (omega arith) (λ b l. refl))
held-most n (w ∷ ws) h = go (w / 2) refl (held-most n ws (omega arith))
  where
    -- a block that w does not hold
    other : (b : ℕ) → (w / 2 ≡ suc b → ⊥) → bit (ltb 0 (holders b (w ∷ ws))) ≡ bit (ltb 0 (holders b ws))
    other b d = rw (ne_eqb (w / 2) (suc b) d, zero-add)

    go : (k : ℕ) → w / 2 ≡ k → count_to n (λ b. ltb 0 (holders b ws)) ≤ count (ltb 1) ws
        → count_to n (λ b. ltb 0 (holders b (w ∷ ws))) ≤ bit (ltb 1 w) + count (ltb 1) ws
    go zero e ih = omega (arith, ih, sum_to_ext n _ _ (λ b l. other b (λ q. omega arith)))
    go (suc o) e ih =
        rw (lt-ltb 1 w (omega arith))
        (omega (
          arith,
          ih,
          sum_to_point n o (λ b. bit (ltb 0 (holders b (w ∷ ws)))) (λ b. bit (ltb 0 (holders b ws))) (omega arith) (λ b d. other b (λ q. d (omega arith))),
          bit-most (ltb 0 (holders o (w ∷ ws))),
        ))

pub used-held : (ws : List ℕ) → used ws ≤ count (ltb 1) ws
used-held ws = omega (arith, used-to (block_bound ws) ws (omega arith), held-most (block_bound ws) ws (omega arith))

-- slots that owe a block are reserved
pub count_right : (p q : ℕ → Bool) (ws : List ℕ) → count (λ w. p w && q w) ws ≤ count q ws
count_right p q = count-mono (λ w. p w && q w) q (λ w. one (p w) (q w))
  where
    one : (a b : Bool) → bit (a && b) ≤ bit b
    one true b = omega arith
    one false b = omega arith

-- a slot that holds block b has a word above 1
pub holders-held : (b : ℕ) (ws : List ℕ) → holders b ws ≤ count (ltb 1) ws
holders-held b = count-mono (holds b) (ltb 1) (λ w. go w (eqb (w / 2) (suc b)) refl)
  where
    go : (w : ℕ) (t : Bool) → eqb (w / 2) (suc b) ≡ t → bit t ≤ bit (ltb 1 w)
    go w true e = let q : w / 2 ≡ suc b = eqb-true (w / 2) (suc b) e in rw (lt-ltb 1 w (omega arith)) (omega arith)
    go w false e = omega arith

pub owed-reserved : (ws : List ℕ) → owed ws ≤ count is_reserved ws
unfolding owed
owed-reserved ws = count_right (hole_or_shared ws) is_reserved ws

pub need-bound : (ws : List ℕ) → need ws ≤ count (ltb 1) ws + count is_reserved ws
need-bound ws = omega (arith, used-held ws, owed-reserved ws)

-- ---- where no block is shared

-- each slot that holds a block is a holder of one
holders-sum : (n : ℕ) (ws : List ℕ) → block_bound ws ≤ n → sum_to n (λ b. holders b ws) ≡ count (ltb 1) ws
holders-sum n [] h = sum_to_cut 0 n (λ b. 0) (omega arith) (λ b l. refl)
holders-sum n (w ∷ ws) h = go (w / 2) refl (holders-sum n ws (omega arith))
  where
    other : (b : ℕ) → (w / 2 ≡ suc b → ⊥) → holders b (w ∷ ws) ≡ holders b ws
    other b d = rw (ne_eqb (w / 2) (suc b) d, zero-add)

    go : (k : ℕ) → w / 2 ≡ k → sum_to n (λ b. holders b ws) ≡ count (ltb 1) ws → sum_to n (λ b. holders b (w ∷ ws)) ≡ bit (ltb 1 w) + count (ltb 1) ws
    go zero e ih = rw (le-ltb 1 w (omega arith)) (omega (arith, ih, sum_to_ext n _ _ (λ b l. other b (λ q. omega arith))))
    go (suc o) e ih =
        let own : holders o (w ∷ ws) ≡ 1 + holders o ws = rw (eq-eqb (w / 2) (suc o) e) in
        rw (lt-ltb 1 w (omega arith))
        (omega (arith, ih, sum_to_point n o (λ b. holders b (w ∷ ws)) (λ b. holders b ws) (omega arith) (λ b d. other b (λ q. d (omega arith))), own))

-- a sum of no more than another at each number, and equal to it, is equal at each
sum_to_le : (n : ℕ) (f g : ℕ → ℕ) → ((b : ℕ) → f b ≤ g b) → sum_to n f ≤ sum_to n g
sum_to_le zero f g h = omega arith
sum_to_le (suc n) f g h = omega (arith, h n, sum_to_le n f g h)

sum_to_tight : (n : ℕ) (f g : ℕ → ℕ) → ((b : ℕ) → f b ≤ g b) → sum_to n f ≡ sum_to n g → (b : ℕ) → b < n → f b ≡ g b
sum_to_tight zero f g h e b l = absurd (omega arith)
sum_to_tight (suc n) f g h e b l = go (λ k. sum_to_tight n f g h (omega (arith, e, h n, sum_to_le n f g h)) b k) (dec_lt b n)
  where
    go : (b < n → f b ≡ g b) → Dec (b < n) → f b ≡ g b
    go below (yes k) = below k
    go below (no d) =
        let q : b ≡ n = omega (arith, d) in
        rw q (omega (arith, e, h n, sum_to_le n f g h))

bit-holders : (n : ℕ) → bit (ltb 0 n) ≤ n
bit-holders zero = omega arith
bit-holders (suc n) = omega (arith, bit-most (ltb 0 (suc n)))

-- as many used blocks as slots that hold one: none has two holders
pub alone : (ws : List ℕ) → used ws ≡ count (ltb 1) ws → (b : ℕ) → holders b ws ≤ 1
alone ws e b = go (dec_lt b (block_bound ws))
  where
    go : Dec (b < block_bound ws) → holders b ws ≤ 1
    go (yes l) =
        omega (
          arith,
          sum_to_tight (block_bound ws) (λ c. bit (ltb 0 (holders c ws))) (λ c. holders c ws) (λ c. bit-holders (holders c ws))
              (sym (used-to (block_bound ws) ws (omega arith)) ∙ e ∙ sym (holders-sum (block_bound ws) ws (omega arith))) b l,
          bit-most (ltb 0 (holders b ws)),
        )
    go (no d) = omega (arith, no-holder ws b (omega (arith, d)))

-- and only reserved holes owe a block: their word is 1
pub owed-alone : (ws : List ℕ) → used ws ≡ count (ltb 1) ws → count (λ w. eqb w 1) ws ≡ owed ws
unfolding owed
owed-alone ws e = same ws
  where
    one : (w : ℕ) → eqb w 1 ≡ owes ws w
    one w = go (w / 2) refl
      where
        go : (k : ℕ) → w / 2 ≡ k → eqb w 1 ≡ owes ws w
        go zero q = let same : w ≡ w % 2 = omega arith in rw (eq-eqb (w / 2) 0 q) (ap (λ n. eqb n 1) same)
        go (suc o) q =
            rw (ne_eqb w 1 (λ (z : w ≡ 1). omega arith), ne_eqb (w / 2) 0 (λ (z : w / 2 ≡ 0). omega arith), le-ltb 1 (holders (pred (w / 2)) ws) (alone ws e (pred (w / 2))))

    same : (l : List ℕ) → count (λ w. eqb w 1) l ≡ count (owes ws) l
    same [] = refl
    same (x ∷ l) = omega (arith, ap bit (one x), same l)
