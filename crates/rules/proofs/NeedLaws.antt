-- What one slot's new word does to the counts. The need of a table, used + owed, is the reserved holes plus, for each block,
-- a cost that depends on its holders and its reserved holders alone. So storing one word changes it at the old block and the new one.
use Prim.Native.Nat.{ℕ, zero, suc, ◌+◌, ◌/◌, ◌%◌, ◌≤◌, ◌<◌, max}
use mathlib.Core.Path.{◌≡◌, refl, sym, ap, ◌∙◌}
use mathlib.Core.Bool.{Bool, true, false, cond, ◌&&◌}
use mathlib.Core.List.{List, [], ◌∷◌}
use mathlib.Core.Logic.{◌≢◌, ◌⊎◌, inl, inr}
use native.Mathlib.Nat.{le_refl, eq-or-lt_of_le, zero-add}
use native.Mathlib.Omega.{arith}
use borrow.Author.Tests.{lt-ltb, eq-eqb, ne_eqb}
use lib.ListN.{length, get_or, set, length-set}
use lib.Seq.{get_or-set_same, set-set}
use lib.Dec.{ltb, eqb}
use Rattle.rules.specs.Lists.{bit, count, sum_to, count_to}
use Rattle.rules.specs.Store.{is_hole, is_reserved, is_shared, holds, holders, block_bound, used, owes, owed, free_from, lowest_free}
use Rattle.rules.proofs.CountLaws.{count_set, sum_to_ext, sum_to_add, sum_to_point, sum_to_cut, sum_to_ge}

-- ---- blocks from `block_bound` on have no holder

pub no-holder : (ws : List ℕ) (b : ℕ) → block_bound ws ≤ b → holders b ws ≡ 0
no-holder [] b h = refl
no-holder (w ∷ ws) b h =
    let e : eqb (w / 2) (suc b) ≡ false = ne_eqb (w / 2) (suc b) (λ (q : w / 2 ≡ suc b). omega arith) in
    rw e (omega (arith, no-holder ws b (omega arith)))

-- ---- the lowest free block

-- what the scan finds
record Scan (ws : List ℕ) (k b m : ℕ) : Type 0 where
  from : b ≤ m
  to : m ≤ b + k
  below : (c : ℕ) → b ≤ c → c < m → 1 ≤ holders c ws
  at : m < b + k → holders m ws ≡ 0

scan : (ws : List ℕ) (k b : ℕ) → Scan ws k b (free_from ws k b)
scan ws zero b = record { from = omega arith; to = omega arith; below = λ c h l. omega arith; at = λ h. omega arith }
scan ws (suc k) b = go (holders b ws) refl (scan ws k (suc b))
  where
    go : (n : ℕ) → holders b ws ≡ n → Scan ws k (suc b) (free_from ws k (suc b)) → Scan ws (suc k) b (free_from ws (suc k) b)
    go zero e ih = rw (eq-eqb (holders b ws) 0 e, free_from) record { from = omega arith; to = omega arith; below = λ c h l. omega arith; at = λ h. e }
    go (suc n) e ih = rw (ne_eqb (holders b ws) 0 (λ (q : holders b ws ≡ 0). omega arith), free_from) record {
      from = omega (arith, ih.from);
      to = omega (arith, ih.to);
      below = λ c h l. held c h l (eq-or-lt_of_le h);
      at = λ h. ih.at (omega arith);
    }
      where
        held : (c : ℕ) → b ≤ c → c < free_from ws k (suc b) → (b ≡ c) ⊎ (b < c) → 1 ≤ holders c ws
        held c h l (inl q) = rw (← q) (omega arith)
        held c h l (inr q) = ih.below c q l

-- (i) the lowest free block is free, every block below it is held, and so it is at most the number of used blocks
pub lowest_free-free : (ws : List ℕ) → holders (lowest_free ws) ws ≡ 0
unfolding lowest_free
lowest_free-free ws = go (eq-or-lt_of_le (scan ws (block_bound ws) 0).to)
  where
    go : (free_from ws (block_bound ws) 0 ≡ 0 + block_bound ws) ⊎ (free_from ws (block_bound ws) 0 < 0 + block_bound ws) → holders (free_from ws (block_bound ws) 0) ws ≡ 0
    go (inl q) = no-holder ws (free_from ws (block_bound ws) 0) (omega arith)
    go (inr l) = (scan ws (block_bound ws) 0).at l

pub lowest_free-least : (ws : List ℕ) (c : ℕ) → c < lowest_free ws → 1 ≤ holders c ws
unfolding lowest_free
lowest_free-least ws c h = (scan ws (block_bound ws) 0).below c (omega arith) h

pub lowest_free≤used : (ws : List ℕ) → lowest_free ws ≤ used ws
unfolding lowest_free used
lowest_free≤used ws =
    sum_to_ge (free_from ws (block_bound ws) 0) (block_bound ws) (λ b. bit (ltb 0 (holders b ws))) (omega (arith, (scan ws (block_bound ws) 0).to))
    (λ b h. one_if (lt-ltb 0 (holders b ws) ((scan ws (block_bound ws) 0).below b (omega arith) h)))
  where
    one_if : {t : Bool} → t ≡ true → 1 ≤ bit t
    one_if e = rw e (le_refl 1)

-- a scan that has found every block below b held: at a held block it goes on, at a free one it ends
pub scan-on : (ws : List ℕ) (b : ℕ) → b ≤ lowest_free ws → 1 ≤ holders b ws → b < lowest_free ws
scan-on ws b h l = go (eq-or-lt_of_le h)
  where
    go : (b ≡ lowest_free ws) ⊎ (b < lowest_free ws) → b < lowest_free ws
    go (inl e) = absurd (omega (arith, lowest_free-free ws, ap (λ c. holders c ws) e))
    go (inr k) = k

pub scan-ends : (ws : List ℕ) (b : ℕ) → b ≤ lowest_free ws → holders b ws ≡ 0 → b ≡ lowest_free ws
scan-ends ws b h z = go (eq-or-lt_of_le h)
  where
    go : (b ≡ lowest_free ws) ⊎ (b < lowest_free ws) → b ≡ lowest_free ws
    go (inl e) = e
    go (inr k) = absurd (omega (arith, lowest_free-least ws b k))

-- ---- the need, block by block

-- reserved holes, and reserved slots that hold block b
abbrev pub hole_reserved : ℕ → Bool
hole_reserved w = is_hole w && is_reserved w

abbrev pub holds_reserved : ℕ → ℕ → Bool
holds_reserved b w = holds b w && is_reserved w

abbrev pub reserved_holes : List ℕ → ℕ
reserved_holes ws = count hole_reserved ws

abbrev pub reserved_holders : ℕ → List ℕ → ℕ
reserved_holders b ws = count (holds_reserved b) ws

-- what a block with h holders, r of them reserved, adds: itself if held, and r if shared
abbrev pub cost : ℕ → ℕ → ℕ
cost zero r = 0
cost (suc zero) r = 1
cost (suc (suc h)) r = suc r

abbrev pub block_cost : List ℕ → ℕ → ℕ
block_cost ws b = cost (holders b ws) (reserved_holders b ws)

-- used + owed, over the blocks below n
abbrev pub need_to : ℕ → List ℕ → ℕ
need_to n ws = reserved_holes ws + sum_to n (block_cost ws)

-- a block's reserved holders, if it is shared in the table `all`
abbrev shared_part : List ℕ → List ℕ → ℕ → ℕ
shared_part all ws b = cond (ltb 1 (holders b all)) (reserved_holders b ws) 0

none_in : (n : ℕ) (p : ℕ → Bool) → sum_to n (λ b. cond (p b) 0 0) ≡ 0
none_in n p = sum_to_cut 0 n (λ b. cond (p b) 0 0) (omega arith) (λ b h. same (p b))
  where
    same : (t : Bool) → ◌≡◌ {A = ℕ} (cond t 0 0) 0
    same true = refl
    same false = refl

add_shared : (s r : Bool) (m : ℕ) → bit (s && r) + cond s m 0 ≡ cond s (bit r + m) 0
add_shared true r m = refl
add_shared false r m = refl

-- a word that does not hold b leaves b's part
other-part : (all ws : List ℕ) (w b : ℕ) → w / 2 ≢ suc b → shared_part all (w ∷ ws) b ≡ shared_part all ws b
other-part all ws w b h = rw (ne_eqb (w / 2) (suc b) h, zero-add)

-- a word that holds o adds to o's part what it owes
own-part : (all ws : List ℕ) (w o : ℕ) → w / 2 ≡ suc o → bit (is_shared all w && is_reserved w) + shared_part all ws o ≡ shared_part all (w ∷ ws) o
own-part all ws w o e = rw (eq-eqb (w / 2) (suc o) e) (rw e (add_shared (ltb 1 (holders o all)) (is_reserved w) (reserved_holders o ws)))

owed-split : (n : ℕ) (all ws : List ℕ) → block_bound ws ≤ n → count (owes all) ws ≡ reserved_holes ws + sum_to n (shared_part all ws)
owed-split n all [] h = omega (arith, none_in n (λ b. ltb 1 (holders b all)))
owed-split n all (w ∷ ws) h = go (w / 2) refl (owed-split n all ws (omega arith))
  where
    go : (t : ℕ) → w / 2 ≡ t → count (owes all) ws ≡ reserved_holes ws + sum_to n (shared_part all ws)
        → bit (owes all w) + count (owes all) ws ≡ bit (hole_reserved w) + reserved_holes ws + sum_to n (shared_part all (w ∷ ws))
    go zero e ih =
        let same : sum_to n (shared_part all (w ∷ ws)) ≡ sum_to n (shared_part all ws) = sum_to_ext n _ _ (λ b l. other-part all ws w b (λ (q : w / 2 ≡ suc b). omega arith)) in
        rw e (omega (arith, same, ih))
    go (suc o) e ih =
        let point : sum_to n (shared_part all (w ∷ ws)) + shared_part all ws o ≡ sum_to n (shared_part all ws) + shared_part all (w ∷ ws) o
        = sum_to_point n o _ _ (omega arith) (λ b d. other-part all ws w b (λ (q : w / 2 ≡ suc b). d (omega arith))) in
        rw (ne_eqb (w / 2) 0 (λ (q : w / 2 ≡ 0). omega arith)) (omega (arith, point, own-part all ws w o e, ih))

-- used + owed, by blocks below any n that is above every block held
split-cost : (h r : ℕ) → cost h r ≡ bit (ltb 0 h) + cond (ltb 1 h) r 0
split-cost zero r = refl
split-cost (suc zero) r = refl
split-cost (suc (suc h)) r = rw (lt-ltb 0 (suc (suc h)) (omega arith), lt-ltb 1 (suc (suc h)) (omega arith)) (omega arith)

pub used-to : (n : ℕ) (ws : List ℕ) → block_bound ws ≤ n → used ws ≡ count_to n (λ b. ltb 0 (holders b ws))
unfolding used
used-to n ws h = sym (sum_to_cut (block_bound ws) n (λ b. bit (ltb 0 (holders b ws))) h (λ b l. rw (no-holder ws b l)))

pub need_to_lem : (n : ℕ) (ws : List ℕ) → block_bound ws ≤ n → used ws + owed ws ≡ need_to n ws
unfolding owed
need_to_lem n ws h =
    let split : sum_to n (block_cost ws) ≡ count_to n (λ b. ltb 0 (holders b ws)) + sum_to n (shared_part ws ws)
    = sum_to_ext n _ _ (λ b l. split-cost (holders b ws) (reserved_holders b ws)) ∙ sum_to_add n (λ b. bit (ltb 0 (holders b ws))) (shared_part ws ws) in
    omega (arith, used-to n ws h, owed-split n ws ws h, split)

-- ---- one word stored

pub top_set : (ws : List ℕ) (i x : ℕ) → block_bound (set ws i x) ≤ max (block_bound ws) (x / 2)
top_set [] i x = omega arith
top_set (w ∷ ws) zero x = omega arith
top_set (w ∷ ws) (suc i) x = omega (arith, top_set ws i x)

pub le_top : (ws : List ℕ) (i : ℕ) → get_or ws i 0 / 2 ≤ block_bound ws
le_top [] i = omega arith
le_top (w ∷ ws) zero = omega arith
le_top (w ∷ ws) (suc i) = omega (arith, le_top ws i)

-- a word's r, as a number
pub bit-reserved : (w : ℕ) → bit (is_reserved w) ≡ w % 2
bit-reserved w = go (w % 2) refl
  where
    go : (r : ℕ) → w % 2 ≡ r → bit (eqb r 1) ≡ r
    go zero e = refl
    go (suc zero) e = refl
    go (suc (suc r)) e = absurd (omega arith)

-- fewer slots pass a stronger test
pub count_and : (p q : ℕ → Bool) (ws : List ℕ) → count (λ w. p w && q w) ws ≤ count p ws
count_and p q [] = omega arith
count_and p q (w ∷ ws) = omega (arith, one (p w) (q w), count_and p q ws)
  where
    one : (a b : Bool) → bit (a && b) ≤ bit a
    one true true = le_refl 1
    one true false = omega arith
    one false b = omega arith

module _ (ws : List ℕ) (i x : ℕ) (inside : i < length ws) where
  -- a block that neither the old word nor the new one holds keeps its holders
  pub holders-other : (c : ℕ) → get_or ws i 0 / 2 ≢ suc c → x / 2 ≢ suc c → holders c (set ws i x) ≡ holders c ws
  holders-other c hw hx =
      omega (arith, rw (ne_eqb (get_or ws i 0 / 2) (suc c) hw, ne_eqb (x / 2) (suc c) hx) at (count_set (holds c) ws i x inside))

  pub reserved-other : (c : ℕ) → get_or ws i 0 / 2 ≢ suc c → x / 2 ≢ suc c → reserved_holders c (set ws i x) ≡ reserved_holders c ws
  reserved-other c hw hx =
      omega (arith, rw (ne_eqb (get_or ws i 0 / 2) (suc c) hw, ne_eqb (x / 2) (suc c) hx) at (count_set (holds_reserved c) ws i x inside))

  pub cost-other : (c : ℕ) → get_or ws i 0 / 2 ≢ suc c → x / 2 ≢ suc c → block_cost (set ws i x) c ≡ block_cost ws c
  cost-other c hw hx = rw (holders-other c hw hx, reserved-other c hw hx)

  -- a hole gets block b: one holder more, and a reserved hole less
  pub holders_gained : (b : ℕ) → get_or ws i 0 / 2 ≢ suc b → x / 2 ≡ suc b → holders b (set ws i x) ≡ suc (holders b ws)
  holders_gained b hw hx = omega (arith, rw (ne_eqb (get_or ws i 0 / 2) (suc b) hw, eq-eqb (x / 2) (suc b) hx) at (count_set (holds b) ws i x inside))

  pub holders-lost : (o : ℕ) → get_or ws i 0 / 2 ≡ suc o → x / 2 ≢ suc o → suc (holders o (set ws i x)) ≡ holders o ws
  holders-lost o hw hx = omega (arith, rw (eq-eqb (get_or ws i 0 / 2) (suc o) hw, ne_eqb (x / 2) (suc o) hx) at (count_set (holds o) ws i x inside))

  pub reserved-lost : (o : ℕ) → get_or ws i 0 / 2 ≡ suc o → x / 2 ≢ suc o → reserved_holders o (set ws i x) + get_or ws i 0 % 2 ≡ reserved_holders o ws
  reserved-lost o hw hx =
      omega (arith, bit-reserved (get_or ws i 0), rw (eq-eqb (get_or ws i 0 / 2) (suc o) hw, ne_eqb (x / 2) (suc o) hx) at (count_set (holds_reserved o) ws i x inside))

  -- a hole takes the free block b
  pub fill : (n b : ℕ) → b < n → get_or ws i 0 / 2 ≡ 0 → x / 2 ≡ suc b → holders b ws ≡ 0
      → need_to n (set ws i x) + get_or ws i 0 % 2 ≡ need_to n ws + 1
  fill n b hn hw hx free =
      let holes : count hole_reserved (set ws i x) + bit (is_reserved (get_or ws i 0)) ≡ count hole_reserved ws + 0
      = rw (eq-eqb (get_or ws i 0 / 2) 0 hw, ne_eqb (x / 2) 0 (λ (q : x / 2 ≡ 0). omega arith)) at (count_set hole_reserved ws i x inside) in
      let new : holders b (set ws i x) ≡ 1 = holders_gained b (λ (q : get_or ws i 0 / 2 ≡ suc b). omega arith) hx ∙ ap suc free in
      let rest : sum_to n (block_cost (set ws i x)) + block_cost ws b ≡ sum_to n (block_cost ws) + block_cost (set ws i x) b
      = sum_to_point n b _ _ hn (λ c d. cost-other c (λ (q : get_or ws i 0 / 2 ≡ suc c). omega arith) (λ (q : x / 2 ≡ suc c). d (omega arith))) in
      omega (arith, holes, bit-reserved (get_or ws i 0), rw (new, free) at rest)

  -- a slot lets its block o go and is a hole with the same r
  pub clear : (n o : ℕ) → o < n → get_or ws i 0 / 2 ≡ suc o → x / 2 ≡ 0 → x % 2 ≡ get_or ws i 0 % 2
      → need_to n (set ws i x) + block_cost ws o ≡ need_to n ws + get_or ws i 0 % 2 + block_cost (set ws i x) o
  clear n o hn hw hx hr =
      let holes : count hole_reserved (set ws i x) + 0 ≡ count hole_reserved ws + bit (is_reserved x)
      = rw (ne_eqb (get_or ws i 0 / 2) 0 (λ (q : get_or ws i 0 / 2 ≡ 0). omega arith), eq-eqb (x / 2) 0 hx) at (count_set hole_reserved ws i x inside) in
      let rest : sum_to n (block_cost (set ws i x)) + block_cost ws o ≡ sum_to n (block_cost ws) + block_cost (set ws i x) o
      = sum_to_point n o _ _ hn (λ c d. cost-other c (λ (q : get_or ws i 0 / 2 ≡ suc c). d (omega arith)) (λ (q : x / 2 ≡ suc c). omega arith)) in
      omega (arith, holes, bit-reserved x, hr, rest)

-- ---- a slot takes a free block

cost-shared : (h r : ℕ) → 2 ≤ h → cost h r ≡ suc r
cost-shared zero r l = absurd (omega arith)
cost-shared (suc zero) r l = absurd (omega arith)
cost-shared (suc (suc h)) r l = refl

cost-most : (h r : ℕ) → cost h r ≤ suc r
cost-most zero r = omega arith
cost-most (suc zero) r = omega arith
cost-most (suc (suc h)) r = omega arith

module _ (ws : List ℕ) (i b x : ℕ) (inside : i < length ws) (free : holders b ws ≡ 0) (hx : x / 2 ≡ suc b) where
  bound : ℕ
  bound = max (block_bound ws) (suc b)

  bound-old : block_bound ws ≤ bound
  unfolding bound
  bound-old = omega arith

  bound-new : block_bound (set ws i x) ≤ bound
  unfolding bound
  bound-new = omega (arith, top_set ws i x)

  bound-block : b < bound
  unfolding bound
  bound-block = omega arith

  -- from a hole: the need grows by 1, or stays if the slot is reserved
  pub need-hole : get_or ws i 0 / 2 ≡ 0 → used (set ws i x) + owed (set ws i x) + get_or ws i 0 % 2 ≡ used ws + owed ws + 1
  need-hole hw =
      omega (arith, need_to_lem bound ws bound-old, need_to_lem bound (set ws i x) bound-new, fill ws i x inside bound b bound-block hw hx free)

  -- from a shared block: at most as much
  pub need-shared : (o : ℕ) → get_or ws i 0 / 2 ≡ suc o → 2 ≤ holders o ws → used (set ws i x) + owed (set ws i x) + get_or ws i 0 % 2 ≤ used ws + owed ws + 1
  need-shared o hw sh =
      let r : ℕ = get_or ws i 0 % 2 in
      let ws₂ : List ℕ = set ws i r in
      let hr : r / 2 ≡ 0 = omega arith in
      let rr : r % 2 ≡ get_or ws i 0 % 2 = omega arith in
      let inside₂ : i < length ws₂ = rw (length-set ws i r) inside in
      let at₂ : get_or ws₂ i 0 ≡ r = get_or-set_same ws i r 0 inside in
      let apart : (q : o ≡ b) → ⊥ = λ q. omega (arith, ap (λ c. holders c ws) q) in
      let free₂ : holders b ws₂ ≡ 0 = holders-other ws i r inside b (λ (q : get_or ws i 0 / 2 ≡ suc b). apart (omega arith)) (λ (q : r / 2 ≡ suc b). omega arith) ∙ free in
      let filled : need_to bound (set ws₂ i x) + get_or ws₂ i 0 % 2 ≡ need_to bound ws₂ + 1
      = fill ws₂ i x inside₂ bound b bound-block (rw at₂ hr) hx free₂ in
      let cleared : need_to bound ws₂ + block_cost ws o ≡ need_to bound ws + r + block_cost ws₂ o
      = clear ws i r inside bound o (omega (arith, le_top ws i, bound-old)) hw hr rr in
      let kept = cost-shared (holders o ws) (reserved_holders o ws) sh in
      let less = cost-most (holders o ws₂) (reserved_holders o ws₂) in
      let lost = reserved-lost ws i r inside o hw (λ (q : r / 2 ≡ suc o). omega arith) in
      omega (arith, need_to_lem bound ws bound-old, need_to_lem bound (set ws i x) bound-new, rw (set-set ws i r x, at₂) at filled, cleared, kept, less, lost)
