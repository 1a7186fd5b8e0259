-- Laws on what is read off the table of holders: it is what the rules count.
use Prim.Native.Nat.{ℕ, zero, suc, ◌+◌, ◌-◌, ◌/◌, ◌≤◌, ◌<◌}
use mathlib.Core.Path.{◌≡◌, refl, sym, ap, ◌∙◌}
use mathlib.Core.Bool.{Bool, true, false, ◌&&◌, ◌||◌, not, true≢false}
use mathlib.Core.List.{List, [], ◌∷◌}
use native.Mathlib.Nat.{le_of_suc-le-suc}
use native.Mathlib.Decide.{dec_lt}
use native.Mathlib.Omega.{arith}
use borrow.Author.Tests.{eqb-true, eqb-false, lt-ltb, le-ltb, ltb-true, ltb-false, le-leb}
use lib.ListN.{length, get_or, take, drop}
use lib.Seq.{drop-drop}
use lib.Dec.{leb, ltb, eqb}
use Rattle.rules.specs.Lists.{bit, count, sum_to, count_to, all_to}
use Rattle.rules.specs.Store.{is_hole, is_reserved, is_shared, block_bound, used, owes, owed, need, fits_pool, lowest_free}
use Rattle.tables.specs.Tables.{Tallied, TableTrue}
use Rattle.tables.specs.Tally.{some_reserved, takes_by, owes_by, OwedFrom, first_zero, HeldFrom}
use Rattle.tables.specs.Groups.{group_at, group_all}
use Rattle.rules.proofs.CountLaws.{sum_to_ext, count-parts, count_most}
use Rattle.rules.proofs.NeedLaws.{lowest_free-free, scan-ends, used-to}
use Rattle.rules.proofs.BoundLaws.{count_right, owed-reserved, need-bound, owed-alone}
use Rattle.rules.proofs.SoundLaws.{all_to_at}
use Rattle.rules.proofs.PlanLaws.{InPool}
use Rattle.tables.proofs.GroupLaws.{count-two, count-all_to, group_room, group_inside, group_each}

-- ---- tests and counts

pub all_to_fails : (n i : ℕ) (p : ℕ → Bool) → i < n → p i ≡ false → all_to n p ≡ false
all_to_fails n i p h e = go (all_to n p) refl
  where
    go : (t : Bool) → all_to n p ≡ t → t ≡ false
    go true q = absurd (true≢false (sym (all_to_at n p q i h) ∙ e))
    go false q = refl

-- equal at each element
pub count_ext : (p q : ℕ → Bool) (l : List ℕ) → ((i : ℕ) → p (get_or l i 0) ≡ q (get_or l i 0)) → count p l ≡ count q l
count_ext p q [] h = refl
count_ext p q (x ∷ l) h = omega (arith, ap bit (h 0), count_ext p q l (λ i. h (suc i)))

sum_to_front : (n : ℕ) (f : ℕ → ℕ) → sum_to (suc n) f ≡ f 0 + sum_to n (λ b. f (suc b))
sum_to_front zero f = refl
sum_to_front (suc n) f = omega (arith, sum_to_front n f)

-- a count over a list, as one over its indices
count_at : (p : ℕ → Bool) (l : List ℕ) → count p l ≡ count_to (length l) (λ i. p (get_or l i 0))
count_at p [] = refl
count_at p (x ∷ l) = omega (arith, count_at p l, sum_to_front (length l) (λ i. bit (p (get_or (x ∷ l) i 0))))

-- ---- the search for the first 0

first_zero_lem : (l : List ℕ) → first_zero l < length l → get_or l (first_zero l) 0 ≡ 0
unfolding first_zero
first_zero_lem [] h = refl
first_zero_lem (zero ∷ l) h = refl
first_zero_lem (suc x ∷ l) h = first_zero_lem l (le_of_suc-le-suc h)

pub first_below : (l : List ℕ) (b : ℕ) → b < first_zero l → (b < length l) × (1 ≤ get_or l b 0)
unfolding first_zero
first_below [] b h = absurd (omega arith)
first_below (zero ∷ l) b h = absurd (omega arith)
first_below (suc x ∷ l) zero h = omega arith
first_below (suc x ∷ l) (suc b) h =
    let r = first_below l b (le_of_suc-le-suc h) in
    (omega arith, r.1)

-- it is not below b where none below b is 0
pub first-from : (l : List ℕ) (b : ℕ) → b ≤ length l → ((c : ℕ) → c < b → 0 < get_or l c 0) → b ≤ first_zero l
first-from l b h held = go (dec_lt (first_zero l) b)
  where
    go : Dec (first_zero l < b) → b ≤ first_zero l
    go (yes k) = absurd (omega (arith, held (first_zero l) k, first_zero_lem l (omega arith)))
    go (no d) = omega (arith, d)

module _ (l : List ℕ) (b : ℕ) (from : b ≤ first_zero l) where
  -- it is b where b is 0, and where nothing is left
  pub first_here : (b < length l → get_or l b 0 ≡ 0) → b ≡ first_zero l
  first_here h = go (dec_lt b (first_zero l))
    where
      go : Dec (b < first_zero l) → b ≡ first_zero l
      go (yes k) = let r = first_below l b k in absurd (omega (arith, r.1, h r.0))
      go (no d) = omega (arith, d)

  pub first_behind : (n : ℕ) → HeldFrom l b n → b + n ≤ first_zero l
  first_behind n h = first-from l (b + n) h.inside (λ c u. go c u (dec_lt c b))
    where
      go : (c : ℕ) → c < b + n → Dec (c < b) → 0 < get_or l c 0
      go c u (yes k) = (first_below l c (omega arith)).1
      go c u (no d) =
          let j : ℕ = c - b in
          let e : b + j ≡ c = omega (arith, d) in
          rw e at (h.held j (omega (arith, d)))

-- ---- how many are seen to be held

module _ (l : List ℕ) (b : ℕ) (inside : b < length l) where
  pub held_group : group_all (ltb 0) l b ≡ true → HeldFrom l b 16
  held_group e = record {
    inside = group_inside (ltb 0) l b e;
    held = λ j h. ltb-true 0 (get_or l (b + j) 0) (group_each (ltb 0) l b e j h);
    free = λ q. absurd (omega arith);
  }

-- ---- how many are seen to owe a block

module _ (ws cs : List ℕ) (i : ℕ) where
  module _ (group : group_at i (length ws) ≡ true) where
    pub owed_group : OwedFrom ws cs i 16 (count (owes_by cs) (take (i + 16 - i) (drop i ws)))
    owed_group =
        let all : i + 16 - i ≡ 16 = omega arith in
        record {
          some = omega arith;
          inside = group_room i (length ws) group;
          rest = rw all (sym (count-parts (owes_by cs) 16 (drop i ws) ∙ ap (λ (l : List ℕ). count (owes_by cs) (take 16 (drop i ws)) + count (owes_by cs) l) (drop-drop 16 i ws)));
        }

-- nothing is owed where nothing is reserved
pub none-owed : (cs l : List ℕ) → count is_reserved l ≡ 0 → count (owes_by cs) l ≡ 0
none-owed cs l e = omega (arith, e, count_right (takes_by cs) is_reserved l)

-- reserved or not
reserved-sides : (l : List ℕ) → count is_reserved l + count (λ w. not (is_reserved w)) l ≡ length l
reserved-sides = count-two is_reserved (λ w. not (is_reserved w)) (λ w. go (is_reserved w))
  where
    go : (t : Bool) → bit t + bit (not t) ≡ 1
    go true = refl
    go false = refl

-- one is, or none is
pub some_is : (l : List ℕ) → some_reserved l ≡ not (all_to (length l) (λ j. not (is_reserved (get_or l j 0))))
some_is l = go _ (count-all_to (λ w. not (is_reserved w)) l)
  where
    go : (t : Bool) → eqb (count (λ w. not (is_reserved w)) l) (length l) ≡ t → some_reserved l ≡ not t
    go true e = le-ltb 0 (count is_reserved l) (omega (arith, reserved-sides l, eqb-true (count (λ w. not (is_reserved w)) l) (length l) e))
    go false e = lt-ltb 0 (count is_reserved l) (omega (arith, reserved-sides l, eqb-false (count (λ w. not (is_reserved w)) l) (length l) e))

pub unreserved : (l : List ℕ) → some_reserved l ≡ false → count is_reserved l ≡ 0
unreserved l e = omega (arith, ltb-false 0 (count is_reserved l) e)

-- ---- read off the table

pub pool-top : (n : ℕ) (ws : List ℕ) → InPool n ws → block_bound ws ≤ n
pool-top n [] h = omega arith
pool-top n (w ∷ ws) h = omega (arith, h 0, pool-top n ws (λ p. h (suc p)))

module _ (ws cs : List ℕ) (tallied : Tallied ws cs) (pool : InPool (length cs) ws) where
  pub tallied_used : count (ltb 0) cs ≡ used ws
  tallied_used =
      count_at (ltb 0) cs
      ∙ sum_to_ext (length cs) _ _ (λ b h. ap (λ n. bit (ltb 0 n)) (tallied.each b h))
      ∙ sym (used-to (length cs) ws (pool-top (length cs) ws pool))

  pub takes_same : (w : ℕ) → w / 2 ≤ length cs → takes_by cs w ≡ (is_hole w || is_shared ws w)
  takes_same w h = go (w / 2) refl
    where
      go : (k : ℕ) → w / 2 ≡ k → takes_by cs w ≡ (is_hole w || is_shared ws w)
      go zero e = rw e
      go (suc b) e = rw (e, tallied.each b (omega arith))

  pub tallied_owed : count (owes_by cs) ws ≡ owed ws
  unfolding owed
  tallied_owed = count_ext (owes_by cs) (owes ws) ws (λ i. ap (λ t. t && is_reserved (get_or ws i 0)) (takes_same (get_or ws i 0) (pool i)))

  first-least : first_zero cs ≤ lowest_free ws
  first-least = go (dec_lt (lowest_free ws) (first_zero cs))
    where
      go : Dec (lowest_free ws < first_zero cs) → first_zero cs ≤ lowest_free ws
      go (yes h) =
          let r = first_below cs (lowest_free ws) h in
          absurd (omega (arith, tallied.each (lowest_free ws) r.0, lowest_free-free ws))
      go (no d) = omega (arith, d)

  pub tallied_free : first_zero cs < length cs → first_zero cs ≡ lowest_free ws
  tallied_free h = scan-ends ws (first_zero cs) first-least (sym (tallied.each (first_zero cs) h) ∙ first_zero_lem cs h)

  -- no block of the table is free
  pub tallied_full : length cs ≤ first_zero cs → length cs ≤ lowest_free ws
  tallied_full h = omega (arith, first-least)

-- ---- whether used and owed blocks fit the pool

module _ {ws cs : List ℕ} (known : TableTrue ws cs) where
  true-used : count (ltb 0) cs ≡ used ws
  true-used = tallied_used ws cs known.table known.pool

  -- as many used blocks as slots that hold one: no block is shared
  pub alone-owed : count (ltb 1) ws ≡ count (ltb 0) cs → count (λ w. eqb w 1) ws ≡ count (owes_by cs) ws
  alone-owed e = owed-alone ws (sym (e ∙ true-used)) ∙ sym (tallied_owed ws cs known.table known.pool)

  -- nothing reserved
  pub fits-unreserved : count is_reserved ws ≡ 0 → true ≡ fits_pool (length cs) ws
  fits-unreserved e =
      sym (le-leb (need ws) (length cs) (omega (arith, e, owed-reserved ws, true-used, count_most (ltb 0) cs)))

  -- few slots
  pub fits_bound : count (ltb 1) ws + count is_reserved ws ≤ length cs → true ≡ fits_pool (length cs) ws
  fits_bound h = sym (le-leb (need ws) (length cs) (omega (arith, need-bound ws)))

  -- counted
  pub fits-counted : (u o : ℕ) → u ≡ count (ltb 0) cs → o ≡ count (owes_by cs) ws → leb (u + o) (length cs) ≡ fits_pool (length cs) ws
  fits-counted u o p q = rw (p ∙ true-used, q ∙ tallied_owed ws cs known.table known.pool)
