-- What becomes of slots, by their kinds: which words change, in a pass and in a whole plan; a reserved slot stays reserved unless it is given
-- back.
use Prim.Native.Nat.{ℕ, zero, suc, ◌+◌, ◌*◌, ◌/◌, ◌%◌, ◌≤◌, ◌<◌}
use mathlib.Core.Path.{◌≡◌, refl, sym, ap, ◌∙◌}
use mathlib.Core.Bool.{Bool, true, false, cond, not, true≢false}
use mathlib.Core.List.{List}
use mathlib.Core.Logic.{◌≢◌, ◌⊎◌, inl, inr}
use native.Mathlib.Decide.{ℕ_discrete, dec_lt}
use native.Mathlib.Omega.{arith}
use lib.ListN.{length, get_or, set, length-set, get_or-eq_default}
use lib.Seq.{get_or-set_same, get_or-set_other}
use Rattle.rules.specs.Lists.{each}
use Rattle.rules.specs.Store.{Geometry, Store, word, is_hole, size_of, word_of}
use Rattle.rules.specs.Edit.{Act, write, copy, clone, allocate, deallocate, Edit, copying, Kind, owns, given, cleared, shares, reserved, stays, first_slot, slot_count, covers, clears, kind_of, become, goes_first, pass, plan}
use Rattle.rules.proofs.PlanLaws.{InPool, in_pool_set, each_keeps, own-slot, SameR, same_r_refl, same_r_trans, same_r_set, each_same_r, owned_same_r}
use Rattle.rules.proofs.SlotByteLaws.{Local, plan-before, plan_after}
use Rattle.rules.proofs.SoundStore.{apart}

-- ---- one slot

pub become_local : (c : Kind) (ws : List ℕ) (i p : ℕ) → p ≢ i → get_or (become c ws i) p 0 ≡ get_or ws p 0
unfolding become
become_local owns ws i p d = get_or-set_other ws i p _ 0 d
become_local given ws i p d = get_or-set_other ws i p _ 0 d
become_local cleared ws i p d = get_or-set_other ws i p _ 0 d
become_local (shares q) ws i p d = get_or-set_other ws i p _ 0 d
become_local reserved ws i p d = get_or-set_other ws i p _ 0 d
become_local stays ws i p d = refl

pub become-length : (c : Kind) (ws : List ℕ) (i : ℕ) → length (become c ws i) ≡ length ws
unfolding become
become-length owns ws i = length-set ws i _
become-length given ws i = length-set ws i _
become-length cleared ws i = length-set ws i _
become-length (shares q) ws i = length-set ws i _
become-length reserved ws i = length-set ws i _
become-length stays ws i = refl

-- the stored word, at its own slot
set-reserved : (ws : List ℕ) (i x : ℕ) → i < length ws → x % 2 ≡ 1 → get_or (set ws i x) i 0 % 2 ≡ 1
set-reserved ws i x h e = rw (get_or-set_same ws i x 0 h) e

set-hole : (ws : List ℕ) (i x : ℕ) → i < length ws → x / 2 ≡ 0 → get_or (set ws i x) i 0 / 2 ≡ 0
set-hole ws i x h e = rw (get_or-set_same ws i x 0 h) e

become-reserved : (c : Kind) → c ≢ given → (ws : List ℕ) (i : ℕ) → i < length ws → get_or ws i 0 % 2 ≡ 1 → get_or (become c ws i) i 0 % 2 ≡ 1
unfolding become
become-reserved owns n ws i h r = set-reserved ws i _ h ((own-slot ws i h).r ∙ r)
become-reserved given n ws i h r = absurd (n refl)
become-reserved cleared n ws i h r = set-reserved ws i _ h (omega arith)
become-reserved (shares q) n ws i h r = set-reserved ws i _ h (omega arith)
become-reserved reserved n ws i h r = set-reserved ws i _ h (omega arith)
become-reserved stays n ws i h r = r

become_same_r : (c : Kind) → c ≢ given → c ≢ reserved → (ws : List ℕ) (i : ℕ) → SameR ws (become c ws i)
unfolding become
become_same_r owns n m ws i = owned_same_r ws i
become_same_r given n m ws i = absurd (n refl)
become_same_r cleared n m ws i = same_r_set ws i _ (omega arith)
become_same_r (shares q) n m ws i = same_r_set ws i _ (omega arith)
become_same_r reserved n m ws i = absurd (m refl)
become_same_r stays n m ws i = same_r_refl ws

-- a slot of the first pass holds no block any more
become-first : (c : Kind) → goes_first c ≡ true → (ws : List ℕ) (i : ℕ) → i < length ws → get_or (become c ws i) i 0 / 2 ≡ 0
unfolding become
become-first owns f ws i h = absurd (true≢false (sym f))
become-first given f ws i h = set-hole ws i _ h (omega arith)
become-first cleared f ws i h = set-hole ws i _ h (omega arith)
become-first (shares q) f ws i h = absurd (true≢false (sym f))
become-first reserved f ws i h = absurd (true≢false (sym f))
become-first stays f ws i h = absurd (true≢false (sym f))

become-first-pool : (n : ℕ) (c : Kind) → goes_first c ≡ true → (ws : List ℕ) (i : ℕ) → InPool n ws → InPool n (become c ws i)
unfolding become
become-first-pool n owns f ws i h = absurd (true≢false (sym f))
become-first-pool n given f ws i h = in_pool_set n ws i 0 h (omega arith)
become-first-pool n cleared f ws i h = in_pool_set n ws i _ h (omega arith)
become-first-pool n (shares q) f ws i h = absurd (true≢false (sym f))
become-first-pool n reserved f ws i h = absurd (true≢false (sym f))
become-first-pool n stays f ws i h = absurd (true≢false (sym f))

-- ---- a run of local steps

module _ (at : ℕ) (step : List ℕ → ℕ → List ℕ) (local : Local at step) (long : (ws : List ℕ) (k : ℕ) → length (step ws k) ≡ length ws) where
  -- a slot of the run has what its own step makes of its word
  pub slot-now : (P : ℕ → Type 0) (q : ℕ) (ws : List ℕ)
      → ((x : List ℕ) → length x ≡ length ws → get_or x (at + q) 0 ≡ get_or ws (at + q) 0 → P (get_or (step x q) (at + q) 0))
      → (n k : ℕ) → k ≤ q → q < k + n → P (get_or (each step ws k n) (at + q) 0)
  slot-now P q ws h zero k l u = absurd (omega arith)
  slot-now P q ws h (suc n) k l u = go (λ h'. slot-now P q (step ws k) h' n (suc k)) (ℕ_discrete q k)
    where
      go : (((x : List ℕ) → length x ≡ length (step ws k) → get_or x (at + q) 0 ≡ get_or (step ws k) (at + q) 0 → P (get_or (step x q) (at + q) 0))
          → suc k ≤ q → q < suc k + n → P (get_or (each step (step ws k) (suc k) n) (at + q) 0))
          → Dec (q ≡ k) → P (get_or (each step (step ws k) (suc k) n) (at + q) 0)
      go ih (yes z) = rw (z, plan-before at step local n (suc k) (at + k) (step ws k) (omega arith)) (rw z at (h ws refl refl))
      go ih (no d) =
          ih (λ x e w. h x (e ∙ long ws k) (w ∙ local ws k (at + q) (λ (z : at + q ≡ at + k). d (omega arith)))) (omega (arith, d)) (omega arith)

-- ---- a pass over slots of these kinds: those that pass the test are done; `at` is the index of the file's slot 0

module _ (at : ℕ) (kind : ℕ → Kind) (test : Kind → Bool) where
  abbrev pub step : List ℕ → ℕ → List ℕ
  step ws k = cond (test (kind k)) (become (kind k) ws (at + k)) ws

  pub step-long : (ws : List ℕ) (k : ℕ) → length (step ws k) ≡ length ws
  step-long ws k = go (test (kind k))
    where
      go : (t : Bool) → length (cond t (become (kind k) ws (at + k)) ws) ≡ length ws
      go true = become-length (kind k) ws (at + k)
      go false = refl

  pub step_local : Local at step
  step_local ws k p d = go (test (kind k))
    where
      go : (t : Bool) → get_or (cond t (become (kind k) ws (at + k)) ws) p 0 ≡ get_or ws p 0
      go true = become_local (kind k) ws (at + k) p d
      go false = refl

  pub steps-long : (n k : ℕ) (ws : List ℕ) → length (each step ws k n) ≡ length ws
  steps-long n k ws = each_keeps (λ x. length x ≡ length ws) step n k ws (λ x j l u e. step-long x j ∙ e) refl

  -- a slot that the test refuses keeps its word
  pub steps_skip : (q : ℕ) → test (kind q) ≡ false → (n k : ℕ) (ws : List ℕ) → get_or (each step ws k n) (at + q) 0 ≡ get_or ws (at + q) 0
  steps_skip q e n k ws = each_keeps (λ x. get_or x (at + q) 0 ≡ get_or ws (at + q) 0) step n k ws (λ x j l u p. here x j (ℕ_discrete q j) ∙ p) refl
    where
      here : (x : List ℕ) (j : ℕ) → Dec (q ≡ j) → get_or (step x j) (at + q) 0 ≡ get_or x (at + q) 0
      here x j (yes z) = rw (← z, e)
      here x j (no d) = step_local x j (at + q) (λ (z : at + q ≡ at + j). d (omega arith))

  -- a reserved slot that is not given back
  steps-reserved : (p : ℕ) → ((q : ℕ) → p ≡ at + q → kind q ≢ given) → (n k : ℕ) (ws : List ℕ) → p < length ws → get_or ws p 0 % 2 ≡ 1
      → get_or (each step ws k n) p 0 % 2 ≡ 1
  steps-reserved p kept n k ws h r =
      (each_keeps (λ x. (length x ≡ length ws) × (get_or x p 0 % 2 ≡ 1)) step n k ws (λ x j l u i. (step-long x j ∙ i.0, here x j (omega (arith, i.0)) i.1 (ℕ_discrete p (at + j)))) (refl, r)).1
    where
      here : (x : List ℕ) (j : ℕ) → p < length x → get_or x p 0 % 2 ≡ 1 → Dec (p ≡ at + j) → get_or (step x j) p 0 % 2 ≡ 1
      here x j l i (no d) = rw (step_local x j p d) i
      here x j l i (yes z) = go (test (kind j))
        where
          go : (t : Bool) → get_or (cond t (become (kind j) x (at + j)) x) p 0 % 2 ≡ 1
          go true = rw z (become-reserved (kind j) (kept j z) x (at + j) (rw z at l) (rw z at i))
          go false = i

  -- no slot is given back or reserved: every r stays
  steps_same_r : ((k : ℕ) → kind k ≢ given) → ((k : ℕ) → kind k ≢ reserved) → (n k : ℕ) (ws : List ℕ) → SameR ws (each step ws k n)
  steps_same_r a b = each_same_r step (λ ws k. go ws k (test (kind k)))
    where
      go : (ws : List ℕ) (k : ℕ) (t : Bool) → SameR ws (cond t (become (kind k) ws (at + k)) ws)
      go ws k true = become_same_r (kind k) (a k) (b k) ws (at + k)
      go ws k false = same_r_refl ws

-- ---- the plan of any edit

module _ (g : Geometry) (st : Store) (e : Edit) where
  abbrev at : ℕ
  at = e.file * g.S

  abbrev first : ℕ
  first = first_slot g e.off

  abbrev count : ℕ
  count = slot_count g e.off e.end

  abbrev rest : Kind → Bool
  rest c = not (goes_first c)

  -- the words behind the first pass
  unfoldable pub first_pass : List ℕ
  first_pass = pass g st e goes_first st.words

  pub first-long : length first_pass ≡ length st.words
  unfolding first_pass pass
  first-long = steps-long at (kind_of g st e) goes_first count first st.words

  pub plan-long : length (plan g st e) ≡ length st.words
  unfolding plan pass
  plan-long = steps-long at (kind_of g st e) rest count first _ ∙ steps-long at (kind_of g st e) goes_first count first st.words

  -- slots that are not of the region
  pub first-outside : (p : ℕ) → (p < e.file * g.S + first_slot g e.off) ⊎ (e.file * g.S + (first_slot g e.off + slot_count g e.off e.end) ≤ p)
      → get_or first_pass p 0 ≡ get_or st.words p 0
  unfolding first_pass pass
  first-outside p (inl h) = plan-before at (step at (kind_of g st e) goes_first) (step_local at (kind_of g st e) goes_first) count first p st.words h
  first-outside p (inr h) = plan_after at (step at (kind_of g st e) goes_first) (step_local at (kind_of g st e) goes_first) count first p st.words h

  pub plan-outside : (p : ℕ) → (p < e.file * g.S + first_slot g e.off) ⊎ (e.file * g.S + (first_slot g e.off + slot_count g e.off e.end) ≤ p)
      → get_or (plan g st e) p 0 ≡ get_or st.words p 0
  unfolding plan first_pass pass
  plan-outside p (inl h) = plan-before at (step at (kind_of g st e) rest) (step_local at (kind_of g st e) rest) count first p _ h ∙ first-outside p (inl h)
  plan-outside p (inr h) = plan_after at (step at (kind_of g st e) rest) (step_local at (kind_of g st e) rest) count first p _ h ∙ first-outside p (inr h)

  -- the other files keep their words
  module _ (fit : first_slot g e.off + slot_count g e.off e.end ≤ g.S) where
    -- a slot of another file lies before or behind the region's
    pub other-slot : (f q : ℕ) → f ≢ e.file → q < g.S → (f * g.S + q < e.file * g.S + first_slot g e.off) ⊎ (e.file * g.S + (first_slot g e.off + slot_count g e.off e.end) ≤ f * g.S + q)
    other-slot f q d l = go (apart g.S f e.file q d l)
      where
        go : (f * g.S + q < e.file * g.S) ⊎ (e.file * g.S + g.S ≤ f * g.S + q)
            → (f * g.S + q < e.file * g.S + first_slot g e.off) ⊎ (e.file * g.S + (first_slot g e.off + slot_count g e.off e.end) ≤ f * g.S + q)
        go (inl h) = inl (omega arith)
        go (inr h) = inr (omega (arith, fit))

    pub first-other : (f q : ℕ) → f ≢ e.file → q < g.S → word_of g first_pass f q ≡ word_of g st.words f q
    first-other f q d l = first-outside (f * g.S + q) (other-slot f q d l)

    pub plan-other : (f q : ℕ) → f ≢ e.file → q < g.S → word_of g (plan g st e) f q ≡ word_of g st.words f q
    plan-other f q d l = plan-outside (f * g.S + q) (other-slot f q d l)

  -- ---- by the kind of a slot

  -- one that is not done first keeps its word in the first pass
  pub first_skip : (k : ℕ) → goes_first (kind_of g st e k) ≡ false → word_of g first_pass e.file k ≡ word_of g st.words e.file k
  unfolding first_pass pass
  first_skip k h = steps_skip at (kind_of g st e) goes_first k h count first st.words

  -- and one that is keeps it in the second
  pub second_skip : (k : ℕ) → goes_first (kind_of g st e k) ≡ true → word_of g (plan g st e) e.file k ≡ word_of g first_pass e.file k
  unfolding plan first_pass pass
  second_skip k h = steps_skip at (kind_of g st e) rest k (ap not h) count first _

  pub first-pool : (n : ℕ) → InPool n st.words → InPool n first_pass
  unfolding first_pass pass
  first-pool n h = each_keeps (InPool n) (step at (kind_of g st e) goes_first) count first st.words (λ x j l u p. go (kind_of g st e j) (goes_first (kind_of g st e j)) refl x (at + j) p) h
    where
      go : (c : Kind) (t : Bool) → goes_first c ≡ t → (x : List ℕ) (i : ℕ) → InPool n x → InPool n (cond t (become c x i) x)
      go c true f x i p = become-first-pool n c f x i p
      go c false f x i p = p

  module _ (inside : e.file * g.S + (first_slot g e.off + slot_count g e.off e.end) ≤ length st.words)
      (k : ℕ) (l : first_slot g e.off ≤ k) (u : k < first_slot g e.off + slot_count g e.off e.end) where
    -- what the first pass makes of the slot's word
    first-now : (P : ℕ → Type 0) → goes_first (kind_of g st e k) ≡ true
        → ((x : List ℕ) → e.file * g.S + k < length x → get_or x (e.file * g.S + k) 0 ≡ get_or st.words (e.file * g.S + k) 0
        → P (get_or (become (kind_of g st e k) x (e.file * g.S + k)) (e.file * g.S + k) 0))
        → P (word_of g first_pass e.file k)
    unfolding first_pass pass
    first-now P f h =
        slot-now at (step at (kind_of g st e) goes_first) (step_local at (kind_of g st e) goes_first) (step-long at (kind_of g st e) goes_first) P k st.words
        (λ x n w. rw f (h x (omega (arith, n, inside)) w)) count first l u

    -- it is a hole
    pub first-hole : goes_first (kind_of g st e k) ≡ true → word_of g first_pass e.file k / 2 ≡ 0
    first-hole f = first-now (λ w. w / 2 ≡ 0) f (λ x n w. become-first (kind_of g st e k) f x (at + k) n)

    -- a slot that is given back
    pub plan-given : kind_of g st e k ≡ given → word_of g (plan g st e) e.file k ≡ 0
    unfolding become
    plan-given c =
        let f : goes_first (kind_of g st e k) ≡ true = ap goes_first c in
        second_skip k f ∙ first-now (λ w. w ≡ 0) f (λ x n w. rw c (get_or-set_same x (at + k) 0 0 n))

    -- a slot that is cleared: a hole, its r kept
    pub plan-cleared : kind_of g st e k ≡ cleared → word_of g (plan g st e) e.file k ≡ word 0 (word_of g st.words e.file k % 2)
    unfolding become
    plan-cleared c =
        let f : goes_first (kind_of g st e k) ≡ true = ap goes_first c in
        second_skip k f ∙ first-now (λ w. w ≡ word 0 (word_of g st.words e.file k % 2)) f (λ x n w. rw (c, w) (get_or-set_same x (at + k) _ 0 n))

  -- every r stays where no slot is given back or reserved
  pub plan_same_r : ((k : ℕ) → kind_of g st e k ≢ given) → ((k : ℕ) → kind_of g st e k ≢ reserved) → SameR st.words (plan g st e)
  unfolding plan pass
  plan_same_r a b =
      same_r_trans (steps_same_r at (kind_of g st e) goes_first a b count first st.words) (steps_same_r at (kind_of g st e) rest a b count first _)

  -- a reserved slot stays reserved, unless it is given back
  pub plan-reserved : (p : ℕ) → get_or st.words p 0 % 2 ≡ 1 → ((q : ℕ) → p ≡ e.file * g.S + q → kind_of g st e q ≢ given) → get_or (plan g st e) p 0 % 2 ≡ 1
  unfolding plan pass
  plan-reserved p r kept = go (dec_lt p (length st.words))
    where
      go : Dec (p < length st.words) → get_or (plan g st e) p 0 % 2 ≡ 1
      go (yes h) =
          steps-reserved at (kind_of g st e) rest p kept count first _ (omega (arith, steps-long at (kind_of g st e) goes_first count first st.words))
          (steps-reserved at (kind_of g st e) goes_first p kept count first st.words h r)
      go (no d) = absurd (omega (arith, r, get_or-eq_default st.words 0 {n = p} (omega (arith, d))))

-- ---- which kinds an act has

-- only a DEALLOCATE gives back, and what it covers
pub given_is : (g : Geometry) (st : Store) (f off end : ℕ) (a : Act) (k : ℕ) → kind_of g st (record { file = f; off = off; end = end; act = a }) k ≡ given
    → (a ≡ deallocate) × (covers g (size_of st f) off end k ≡ true)
unfolding kind_of
given_is g st f off end (write new) k h = let z : ◌≡◌ {A = ℕ} 0 1 = cc in absurd (omega arith)
given_is g st f off end (copy s soff) k h = absurd (go (clears g st (copying f off end s soff) s soff k) h)
  where
    go : (a : Bool) → cond a cleared owns ≢ given
    go true q = let z : ◌≡◌ {A = ℕ} 0 1 = cc in omega arith
    go false q = let z : ◌≡◌ {A = ℕ} 0 1 = cc in omega arith
given_is g st f off end (clone s soff) k h = let z : ◌≡◌ {A = ℕ} 0 1 = cc in absurd (omega arith)
given_is g st f off end allocate k h = let z : ◌≡◌ {A = ℕ} 0 1 = cc in absurd (omega arith)
given_is g st f off end deallocate k h = go (covers g (size_of st f) off end k) (is_hole (word_of g st.words f k)) h
  where
    go : (a b : Bool) → cond a given (cond b stays owns) ≡ given → (deallocate ≡ deallocate) × (a ≡ true)
    go true b q = (refl, refl)
    go false true q = let z : ◌≡◌ {A = ℕ} 0 1 = cc in absurd (omega arith)
    go false false q = let z : ◌≡◌ {A = ℕ} 0 1 = cc in absurd (omega arith)
