-- What the plans do to the slot words: which words change, that r stays, what the need becomes, and that an owned block has one holder.
use Prim.Native.Nat.{ℕ, zero, suc, pred, ◌+◌, ◌/◌, ◌%◌, ◌≤◌, ◌<◌, max}
use mathlib.Core.Path.{◌≡◌, refl, sym, ap, ◌∙◌}
use mathlib.Core.Bool.{Bool, true, false, cond, ◌||◌}
use mathlib.Core.List.{List, [], ◌∷◌}
use mathlib.Core.Logic.{◌≢◌}
use native.Mathlib.Nat.{le_refl, le_trans}
use native.Mathlib.Decide.{ℕ_discrete}
use native.Mathlib.Omega.{arith}
use borrow.Author.Tests.{ltb-true, ltb-false, lt-ltb, eq-eqb, ne_eqb}
use lib.ListN.{length, get_or, set, length-set}
use lib.Seq.{get_or-set_other, set-get_or}
use lib.Dec.{ltb}
use Rattle.rules.specs.Lists.{bit, count_to, each}
use Rattle.rules.specs.Store.{word, is_hole, is_shared, hole_or_shared, holders, block_bound, used, owed, lowest_free}
use Rattle.rules.specs.Edit.{owned}
use Rattle.rules.proofs.EditSteps.{own, own_unless, share}
use Rattle.rules.proofs.CountLaws.{sum_to_point}
use Rattle.rules.proofs.NeedLaws.{holders-other, holders_gained, holders-lost, need-hole, need-shared, lowest_free-free, lowest_free≤used, used-to, top_set}

-- every word names one of n blocks, or none
abbrev pub InPool : ℕ → List ℕ → Type 0
InPool n ws = (p : ℕ) → get_or ws p 0 / 2 ≤ n

-- ---- a step that keeps P, taken at each slot of a range

pub each_keeps {ℓ κ} : {A : Type ℓ} (P : A → Type κ) (step : A → ℕ → A) (n k : ℕ) (a : A)
    → ((x : A) (j : ℕ) → k ≤ j → j < k + n → P x → P (step x j)) → P a → P (each step a k n)
each_keeps P step zero k a h p = p
each_keeps P step (suc n) k a h p =
    each_keeps P step n (suc k) (step a k) (λ x j l u q. h x j (omega arith) (omega arith) q) (h a k (omega arith) (omega arith) p)

-- steps that agree at the slots of the range
pub each_ext {ℓ} : {A : Type ℓ} (f g : A → ℕ → A) (n k : ℕ) (a : A) → ((x : A) (j : ℕ) → k ≤ j → j < k + n → f x j ≡ g x j) → each f a k n ≡ each g a k n
each_ext f g zero k a h = refl
each_ext f g (suc n) k a h =
    ap (λ x. each f x (suc k) n) (h a k (le_refl k) (omega arith)) ∙ each_ext f g n (suc k) (g a k) (λ x j l u. h x j (omega arith) (omega arith))

-- ---- one owned slot

-- the word is kept, or it takes the lowest free block: from a hole, or from a block that stays held
data Owned (ws : List ℕ) (w : ℕ) : ℕ → Type 0 where
  kept : (o : ℕ) → w / 2 ≡ suc o → holders o ws ≤ 1 → Owned ws w w
  filled : w / 2 ≡ 0 → Owned ws w (word (suc (lowest_free ws)) (w % 2))
  split : (o : ℕ) → w / 2 ≡ suc o → 2 ≤ holders o ws → Owned ws w (word (suc (lowest_free ws)) (w % 2))

owned-cases : (ws : List ℕ) (w : ℕ) → Owned ws w (owned ws w)
unfolding owned
owned-cases ws w = go (w / 2) refl
  where
    shared : (o : ℕ) → w / 2 ≡ suc o → (t : Bool) → ltb 1 (holders o ws) ≡ t → Owned ws w (cond t (word (suc (lowest_free ws)) (w % 2)) w)
    shared o e true q = split o e (ltb-true 1 (holders o ws) q)
    shared o e false q = kept o e (ltb-false 1 (holders o ws) q)

    go : (t : ℕ) → w / 2 ≡ t → Owned ws w (cond (is_hole w || is_shared ws w) (word (suc (lowest_free ws)) (w % 2)) w)
    go zero e = rw (eq-eqb (w / 2) 0 e) (filled e)
    go (suc o) e = rw (ne_eqb (w / 2) 0 (λ (q : w / 2 ≡ 0). omega arith)) (rw e (shared o e (ltb 1 (holders o ws)) refl))

-- a slot's block is held
pub one-holder : (ws : List ℕ) (i o : ℕ) → i < length ws → get_or ws i 0 / 2 ≡ suc o → 1 ≤ holders o ws
one-holder ws i o inside e = omega (arith, holders-lost ws i 0 inside o e (λ (q : ◌≡◌ {A = ℕ} 0 (suc o)). omega arith))

-- two slots hold one block: it has two holders
pub two-holders : (ws : List ℕ) (i j o : ℕ) → i < length ws → j < length ws → j ≢ i → get_or ws i 0 / 2 ≡ suc o → get_or ws j 0 / 2 ≡ suc o → 2 ≤ holders o ws
two-holders ws i j o hi hj d ei ej =
    omega (
      arith,
      holders-lost ws i 0 hi o ei (λ (q : ◌≡◌ {A = ℕ} 0 (suc o)). omega arith),
      one-holder (set ws i 0) j o (rw (length-set ws i 0) hj) (rw (get_or-set_other ws i j 0 0 d) ej),
    )

-- what an owned slot's new word is, and what it does to the counts
pub record OwnedSlot (ws : List ℕ) (i x : ℕ) : Type 0 where
  pub r : x % 2 ≡ get_or ws i 0 % 2
  pub block : 1 ≤ x / 2
  pub alone : holders (pred (x / 2)) (set ws i x) ≡ 1
  pub need : used (set ws i x) + owed (set ws i x) + get_or ws i 0 % 2 ≤ used ws + owed ws + 1
  pub used_grows : used ws ≤ used (set ws i x)
  pub in_pool : x / 2 ≤ max (get_or ws i 0 / 2) (used (set ws i x))

module _ (ws : List ℕ) (i : ℕ) (inside : i < length ws) where
  -- a block that was free is held now, and no other comes or goes
  used-fresh : (b x : ℕ) → x / 2 ≡ suc b → holders b ws ≡ 0 → holders b (set ws i x) ≡ 1
      → ((c : ℕ) → c ≢ b → ltb 0 (holders c (set ws i x)) ≡ ltb 0 (holders c ws)) → used (set ws i x) ≡ used ws + 1
  used-fresh b x hx free now same =
      let n : ℕ = max (block_bound ws) (suc b) in
      let point : count_to n (λ c. ltb 0 (holders c (set ws i x))) + bit (ltb 0 (holders b ws)) ≡ count_to n (λ c. ltb 0 (holders c ws)) + bit (ltb 0 (holders b (set ws i x)))
      = sum_to_point n b _ _ (omega arith) (λ c d. ap bit (same c d)) in
      omega (arith, used-to n ws (omega arith), used-to n (set ws i x) (omega (arith, top_set ws i x)), rw (free, now) at point)

  owned-slot : (x : ℕ) → Owned ws (get_or ws i 0) x → OwnedSlot ws i x
  owned-slot x (kept o e h) =
      let same : set ws i (get_or ws i 0) ≡ ws = set-get_or ws i 0 in
      record {
        r = refl;
        block = omega arith;
        alone = rw (same, e) (omega (arith, one-holder ws i o inside e, h));
        need = rw same (omega arith);
        used_grows = rw same (omega arith);
        in_pool = omega arith;
      }
  owned-slot x (filled e) =
      let b : ℕ = lowest_free ws in
      let y : ℕ = word (suc b) (get_or ws i 0 % 2) in
      let hy : y / 2 ≡ suc b = omega arith in
      let free : holders b ws ≡ 0 = lowest_free-free ws in
      let now : holders b (set ws i y) ≡ 1 = holders_gained ws i y inside b (λ (q : get_or ws i 0 / 2 ≡ suc b). omega arith) hy ∙ ap suc free in
      let more : used (set ws i y) ≡ used ws + 1
      = used-fresh b y hy free now (λ c d. ap (ltb 0) (holders-other ws i y inside c (λ (q : get_or ws i 0 / 2 ≡ suc c). omega arith) (λ (q : y / 2 ≡ suc c). d (omega arith)))) in
      record {
        r = omega arith;
        block = omega arith;
        alone = rw hy now;
        need = omega (arith, need-hole ws i b y inside free hy e);
        used_grows = omega (arith, more);
        in_pool = omega (arith, more, lowest_free≤used ws);
      }
  owned-slot x (split o e h) =
      let b : ℕ = lowest_free ws in
      let y : ℕ = word (suc b) (get_or ws i 0 % 2) in
      let hy : y / 2 ≡ suc b = omega arith in
      let free : holders b ws ≡ 0 = lowest_free-free ws in
      let apart : (q : o ≡ b) → ⊥ = λ q. omega (arith, ap (λ c. holders c ws) q) in
      let now : holders b (set ws i y) ≡ 1 = holders_gained ws i y inside b (λ (q : get_or ws i 0 / 2 ≡ suc b). apart (omega arith)) hy ∙ ap suc free in
      let lost : suc (holders o (set ws i y)) ≡ holders o ws = holders-lost ws i y inside o e (λ (q : y / 2 ≡ suc o). apart (omega arith)) in
      let more : used (set ws i y) ≡ used ws + 1 = used-fresh b y hy free now (λ c d. still c d lost (ℕ_discrete c o)) in
      record {
        r = omega arith;
        block = omega arith;
        alone = rw hy now;
        need = need-shared ws i b y inside free hy o e h;
        used_grows = omega (arith, more);
        in_pool = omega (arith, more, lowest_free≤used ws);
      }
    where
      y : ℕ
      y = word (suc (lowest_free ws)) (get_or ws i 0 % 2)

      still : (c : ℕ) → c ≢ lowest_free ws → suc (holders o (set ws i y)) ≡ holders o ws → Dec (c ≡ o) → ltb 0 (holders c (set ws i y)) ≡ ltb 0 (holders c ws)
      still c d lost (yes q) = rw q (lt-ltb 0 (holders o (set ws i y)) (omega (arith, lost, h)) ∙ sym (lt-ltb 0 (holders o ws) (omega arith)))
      still c d lost (no q) = ap (ltb 0) (holders-other ws i y inside c (λ (k : get_or ws i 0 / 2 ≡ suc c). q (omega arith)) (λ (k : y / 2 ≡ suc c). d (omega arith)))

  pub own-slot : OwnedSlot ws i (owned ws (get_or ws i 0))
  own-slot = owned-slot (owned ws (get_or ws i 0)) (owned-cases ws (get_or ws i 0))

-- ---- (iv) r stays

-- what f says of a stored word is what it said of the old one, so it is so at every slot
pub set_keeps : {A : Type 0} (f : ℕ → A) (ws : List ℕ) (i x : ℕ) → f x ≡ f (get_or ws i 0) → (j : ℕ) → f (get_or (set ws i x) j 0) ≡ f (get_or ws j 0)
set_keeps f [] i x e j = refl
set_keeps f (w ∷ ws) zero x e zero = e
set_keeps f (w ∷ ws) zero x e (suc j) = refl
set_keeps f (w ∷ ws) (suc i) x e zero = refl
set_keeps f (w ∷ ws) (suc i) x e (suc j) = set_keeps f ws i x e j

-- the same slots, with the same r
pub record SameR (ws ws' : List ℕ) : Type 0 where
  pub slots : length ws' ≡ length ws
  pub r : (j : ℕ) → get_or ws' j 0 % 2 ≡ get_or ws j 0 % 2

pub same_r_refl : (ws : List ℕ) → SameR ws ws
same_r_refl ws = record { slots = refl; r = λ j. refl }

pub same_r_trans : {a b c : List ℕ} → SameR a b → SameR b c → SameR a c
same_r_trans p q = record { slots = q.slots ∙ p.slots; r = λ j. q.r j ∙ p.r j }

pub same_r_set : (ws : List ℕ) (i x : ℕ) → x % 2 ≡ get_or ws i 0 % 2 → SameR ws (set ws i x)
same_r_set ws i x e = record { slots = length-set ws i x; r = set_keeps (λ w. w % 2) ws i x e }

owned-r : (ws : List ℕ) (w x : ℕ) → Owned ws w x → x % 2 ≡ w % 2
owned-r ws w x (kept o e h) = refl
owned-r ws w x (filled e) = omega arith
owned-r ws w x (split o e h) = omega arith

pub owned_same_r : (ws : List ℕ) (i : ℕ) → SameR ws (set ws i (owned ws (get_or ws i 0)))
owned_same_r ws i = same_r_set ws i _ (owned-r ws (get_or ws i 0) _ (owned-cases ws (get_or ws i 0)))

pub own_same_r : (at : ℕ) (ws : List ℕ) (k : ℕ) → SameR ws (own at ws k)
unfolding own
own_same_r at ws k = owned_same_r ws (at + k)

pub share_same_r : (from to : ℕ) (ws : List ℕ) (k : ℕ) → SameR ws (share from to ws k)
unfolding share
share_same_r from to ws k = same_r_set ws (to + k) _ (omega arith)

pub own_unless_same_r : (skip : ℕ → Bool) (at : ℕ) (ws : List ℕ) (k : ℕ) → SameR ws (own_unless skip at ws k)
own_unless_same_r skip at ws k = go (skip k)
  where
    go : (t : Bool) → SameR ws (cond t ws (own at ws k))
    go true = same_r_refl ws
    go false = own_same_r at ws k

-- a plan whose steps keep r keeps it
pub each_same_r : (step : List ℕ → ℕ → List ℕ) → ((ws : List ℕ) (k : ℕ) → SameR ws (step ws k)) → (n k : ℕ) (ws : List ℕ) → SameR ws (each step ws k n)
each_same_r step h n k ws = each_keeps (SameR ws) step n k ws (λ x j l u p. same_r_trans p (h x j)) (same_r_refl ws)

-- ---- (ii) WRITE into reserved slots needs no more than before

pub record NoMore (ws ws' : List ℕ) : Type 0 where
  pub same : SameR ws ws'
  pub need : used ws' + owed ws' ≤ used ws + owed ws

-- one step, at any slot: a reserved one needs no more
pub own-need : (at : ℕ) (ws : List ℕ) (k : ℕ) → at + k < length ws → used (own at ws k) + owed (own at ws k) + get_or ws (at + k) 0 % 2 ≤ used ws + owed ws + 1
unfolding own
own-need at ws k h = (own-slot ws (at + k) h).need

pub own-reserved : (at n k : ℕ) (ws : List ℕ) → at + (k + n) ≤ length ws → ((j : ℕ) → k ≤ j → j < k + n → get_or ws (at + j) 0 % 2 ≡ 1)
    → NoMore ws (each (own at) ws k n)
own-reserved at n k ws inside reserved = each_keeps (NoMore ws) (own at) n k ws step (record { same = same_r_refl ws; need = le_refl _ })
  where
    one : (x : List ℕ) (j : ℕ) → at + j < length x → get_or x (at + j) 0 % 2 ≡ 1 → used (own at x j) + owed (own at x j) ≤ used x + owed x
    one x j h r = omega (arith, own-need at x j h)

    step : (x : List ℕ) (j : ℕ) → k ≤ j → j < k + n → NoMore ws x → NoMore ws (own at x j)
    step x j l u p = record {
      same = same_r_trans p.same (own_same_r at x j);
      need = le_trans (one x j (omega (arith, p.same.slots)) (p.same.r (at + j) ∙ reserved j l u)) p.need;
    }

-- ---- slots that hold their blocks alone keep their words

pub own_alone : (at n k : ℕ) (ws : List ℕ) → ((j : ℕ) → k ≤ j → j < k + n → hole_or_shared ws (get_or ws (at + j) 0) ≡ false) → each (own at) ws k n ≡ ws
unfolding own owned
own_alone at n k ws alone = each_keeps (λ x. x ≡ ws) (own at) n k ws (λ x j l u e. rw (e, alone j l u) (set-get_or ws (at + j) 0)) refl

-- ---- the pool

-- every word's block is in a pool of n blocks
pub in_pool_set : (n : ℕ) (ws : List ℕ) (i x : ℕ) → InPool n ws → x / 2 ≤ n → InPool n (set ws i x)
in_pool_set n [] i x h hx p = h p
in_pool_set n (w ∷ ws) zero x h hx zero = hx
in_pool_set n (w ∷ ws) zero x h hx (suc p) = h (suc p)
in_pool_set n (w ∷ ws) (suc i) x h hx zero = h zero
in_pool_set n (w ∷ ws) (suc i) x h hx (suc p) = in_pool_set n ws i x (λ q. h (suc q)) hx p

module _ (skip : ℕ → Bool) (at : ℕ) where
  own-used : (ws : List ℕ) (k : ℕ) → at + k < length ws → used ws ≤ used (own_unless skip at ws k)
  unfolding own
  own-used ws k h = go (skip k)
    where
      go : (t : Bool) → used ws ≤ used (cond t ws (own at ws k))
      go true = le_refl _
      go false = (own-slot ws (at + k) h).used_grows

  pub plan-used : (n k : ℕ) (ws : List ℕ) → at + (k + n) ≤ length ws → used ws ≤ used (each (own_unless skip at) ws k n)
  plan-used zero k ws h = le_refl _
  plan-used (suc n) k ws h =
      le_trans (own-used ws k (omega arith)) (plan-used n (suc k) (own_unless skip at ws k) (omega (arith, (own_unless_same_r skip at ws k).slots)))

  own-pool : (b : ℕ) (ws : List ℕ) (k : ℕ) → at + k < length ws → InPool b ws → used (own_unless skip at ws k) ≤ b → InPool b (own_unless skip at ws k)
  unfolding own
  own-pool b ws k h old u = go (skip k) u
    where
      go : (t : Bool) → used (cond t ws (own at ws k)) ≤ b → InPool b (cond t ws (own at ws k))
      go true u = old
      go false u = in_pool_set b ws (at + k) _ old (omega (arith, (own-slot ws (at + k) h).in_pool, old (at + k)))

  -- what a plan takes is in the pool if the pool is as large as what is used after it
  pub plan-pool : (b n k : ℕ) (ws : List ℕ) → at + (k + n) ≤ length ws → InPool b ws → used (each (own_unless skip at) ws k n) ≤ b
      → InPool b (each (own_unless skip at) ws k n)
  plan-pool b zero k ws h old u = old
  plan-pool b (suc n) k ws h old u =
      let ws₁ : List ℕ = own_unless skip at ws k in
      let same : length ws₁ ≡ length ws = (own_unless_same_r skip at ws k).slots in
      plan-pool b n (suc k) ws₁ (omega (arith, same))
      (own-pool b ws k (omega arith) old (le_trans (plan-used n (suc k) ws₁ (omega (arith, same))) u)) u
