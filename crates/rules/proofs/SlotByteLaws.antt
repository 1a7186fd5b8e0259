-- The bytes of every slot, whatever block it holds: what an edit's steps do to them. (v) Only the step's own slot changes.
use Prim.Native.Nat.{ℕ, zero, suc, pred, ◌+◌, ◌*◌, ◌/◌, ◌≤◌, ◌<◌}
use mathlib.Core.Path.{◌≡◌, refl, ap, ◌∙◌}
use mathlib.Core.Bool.{Bool, true, false, cond, ◌&&◌, not}
use mathlib.Core.List.{List, [], ◌∷◌}
use mathlib.Core.Logic.{◌≢◌}
use native.Mathlib.Nat.{mul-le-mul_right, not-suc-le-zero, le_of_suc-le-suc, add-zero, add-suc, suc-add}
use native.Mathlib.Decide.{ℕ_discrete, dec_le}
use native.Mathlib.Omega.{arith}
use borrow.Author.Tests.{eq-eqb, ne_eqb}
use lib.ListN.{length, get_or, set, take, drop, replicate, length-set, length-take, length-drop, length-replicate, get_or-replicate}
use lib.Seq.{get_or-set_same, get_or-set_other, get_or-take, get_or-drop}
use Rattle.xdr.specs.Bytes.{splice}
use Rattle.xdr.proofs.BytesLaws.{length-splice, splice_in, splice-below, splice-above}
use Rattle.rules.specs.Lists.{tabulate, each}
use Rattle.rules.specs.Store.{Geometry, is_hole, slot_byte}
use Rattle.rules.specs.Edit.{owned, slot_bytes, overlay, store_slot}
use Rattle.rules.proofs.EditSteps.{own, own_unless, store_at, store_unless}
use Rattle.rules.proofs.PlanLaws.{InPool, each_ext, OwnedSlot, own-slot, two-holders, own_unless_same_r}

-- ---- lists

pub length-overlay : (t : ℕ → Bool) (new : ℕ → ℕ) (xs : List ℕ) (p : ℕ) → length (overlay t new p xs) ≡ length xs
length-overlay t new [] p = refl
length-overlay t new (x ∷ xs) p = ap suc (length-overlay t new xs (suc p))

pub get_or-overlay : (t : ℕ → Bool) (new : ℕ → ℕ) (xs : List ℕ) (p j : ℕ) → j < length xs
    → get_or (overlay t new p xs) j 0 ≡ cond (t (p + j)) (new (p + j)) (get_or xs j 0)
get_or-overlay t new [] p j h = absurd (not-suc-le-zero h)
get_or-overlay t new (x ∷ xs) p zero h = rw (add-zero p)
get_or-overlay t new (x ∷ xs) p (suc j) h = get_or-overlay t new xs (suc p) j (le_of_suc-le-suc h) ∙ rw (suc-add p j, add-suc p j)

pub length_tab : (f : ℕ → ℕ) (n p : ℕ) → length (tabulate f p n) ≡ n
length_tab f zero p = refl
length_tab f (suc n) p = ap suc (length_tab f n (suc p))

pub get_or_tab : (f : ℕ → ℕ) (n p j : ℕ) → j < n → get_or (tabulate f p n) j 0 ≡ f (p + j)
get_or_tab f zero p j h = absurd (not-suc-le-zero h)
get_or_tab f (suc n) p zero h = rw (add-zero p)
get_or_tab f (suc n) p (suc j) h = get_or_tab f n (suc p) j (le_of_suc-le-suc h) ∙ rw (suc-add p j, add-suc p j)

-- ---- one slot

-- byte j of slot i
abbrev pub view : Geometry → List ℕ → List ℕ → ℕ → ℕ → ℕ
view g ws m i j = slot_byte g m (get_or ws i 0) j

-- a slot has B bytes, where its block lies in the memory
pub slot-long : (g : Geometry) (m : List ℕ) (w : ℕ) → w / 2 * g.B ≤ length m → length (slot_bytes g m w) ≡ g.B
slot-long g m w h = go (w / 2) refl
  where
    go : (t : ℕ) → w / 2 ≡ t → length (slot_bytes g m w) ≡ g.B
    go zero e = rw (eq-eqb (w / 2) 0 e, length-replicate)
    go (suc o) e =
        rw (ne_eqb (w / 2) 0 (λ (q : w / 2 ≡ 0). omega arith)) (rw e
        (length-take g.B (drop (o * g.B) m) ∙ rw (length-drop (o * g.B) m) (omega (arith, rw e at h))))

module _ (g : Geometry) (m : List ℕ) (room : length m ≡ g.N * g.B) where
  -- a block of the pool lies in the memory
  pub in_memory : (b : ℕ) → suc b ≤ g.N → b * g.B + g.B ≤ length m
  in_memory b h = omega (arith, mul-le-mul_right g.B h, room)

  pub length-slot_bytes : (w : ℕ) → w / 2 ≤ g.N → length (slot_bytes g m w) ≡ g.B
  length-slot_bytes w h = slot-long g m w (omega (arith, mul-le-mul_right g.B h, room))

  pub get_or-slot_bytes : (w j : ℕ) → j < g.B → get_or (slot_bytes g m w) j 0 ≡ slot_byte g m w j
  get_or-slot_bytes w j h = go (is_hole w)
    where
      go : (t : Bool) → get_or (cond t (replicate g.B 0) (take g.B (drop (pred (w / 2) * g.B) m))) j 0 ≡ cond t 0 (get_or m (pred (w / 2) * g.B + j) 0)
      go true = get_or-replicate g.B j 0 0 h
      go false = get_or-take g.B (drop (pred (w / 2) * g.B) m) j 0 h ∙ get_or-drop (pred (w / 2) * g.B) m j 0

  -- bytes bs, B of them, stored over block c
  module _ (c : ℕ) (bs : List ℕ) (size : length bs ≡ g.B) (pool : suc c ≤ g.N) where
    -- a slot with block c shows them
    pub shows : (w j : ℕ) → w / 2 ≡ suc c → j < g.B → slot_byte g (splice m (c * g.B) bs) w j ≡ get_or bs j 0
    shows w j e h =
        rw (ne_eqb (w / 2) 0 (λ (q : w / 2 ≡ 0). omega arith)) (rw e
        (splice_in m (c * g.B) bs j (omega (arith, in_memory c pool)) (omega arith)))

    -- any other slot shows what it did
    pub shows-other : (w j : ℕ) → w / 2 ≢ suc c → j < g.B → slot_byte g (splice m (c * g.B) bs) w j ≡ slot_byte g m w j
    shows-other w j d h = go (w / 2) refl
      where
        inside : c * g.B ≤ length m
        inside = omega (arith, in_memory c pool)

        far : (o : ℕ) → o ≢ c → Dec (o ≤ c) → get_or (splice m (c * g.B) bs) (o * g.B + j) 0 ≡ get_or m (o * g.B + j) 0
        far o q (yes l) = splice-below m (c * g.B) bs (o * g.B + j) inside (omega (arith, mul-le-mul_right g.B (below l)))
          where
            below : o ≤ c → suc o ≤ c
            below l = omega (arith, q)
        far o q (no n) = splice-above m (c * g.B) bs (o * g.B + j) inside (omega (arith, mul-le-mul_right g.B above))
          where
            above : suc c ≤ o
            above = omega (arith, n)

        go : (t : ℕ) → w / 2 ≡ t → slot_byte g (splice m (c * g.B) bs) w j ≡ slot_byte g m w j
        go zero e = rw (eq-eqb (w / 2) 0 e)
        go (suc o) e = rw (ne_eqb (w / 2) 0 (λ (q : w / 2 ≡ 0). omega arith)) (rw e (far o (λ (q : o ≡ c). d (omega arith)) (dec_le o c)))

-- ---- the slots of a plan

-- a step that changes no word but that of slot k
abbrev pub Local : ℕ → (List ℕ → ℕ → List ℕ) → Type 0
Local at step = (ws : List ℕ) (k p : ℕ) → p ≢ at + k → get_or (step ws k) p 0 ≡ get_or ws p 0

-- a plan of such steps leaves the words before its slots
pub plan-before : (at : ℕ) (step : List ℕ → ℕ → List ℕ) → Local at step
    → (n k p : ℕ) (ws : List ℕ) → p < at + k → get_or (each step ws k n) p 0 ≡ get_or ws p 0
plan-before at step local zero k p ws h = refl
plan-before at step local (suc n) k p ws h =
    plan-before at step local n (suc k) p (step ws k) (omega arith) ∙ local ws k p (λ (q : p ≡ at + k). omega arith)

-- and those after them
pub plan_after : (at : ℕ) (step : List ℕ → ℕ → List ℕ) → Local at step
    → (n k p : ℕ) (ws : List ℕ) → at + (k + n) ≤ p → get_or (each step ws k n) p 0 ≡ get_or ws p 0
plan_after at step local zero k p ws h = refl
plan_after at step local (suc n) k p ws h =
    plan_after at step local n (suc k) p (step ws k) (omega arith) ∙ local ws k p (λ (q : p ≡ at + k). omega arith)

pub own_local : (skip : ℕ → Bool) (at : ℕ) → Local at (own_unless skip at)
unfolding own
own_local skip at ws k p d = go (skip k)
  where
    go : (t : Bool) → get_or (cond t ws (own at ws k)) p 0 ≡ get_or ws p 0
    go true = refl
    go false = get_or-set_other ws (at + k) p _ 0 d

-- What storing `new` at the region's places does to the bytes of every slot: in those of the n slots from k on that `skip` does not name,
-- a place of the region gets its new byte, and nothing else changes.
pub record Wrote (skip : ℕ → Bool) (g : Geometry) (at k n : ℕ) (region : ℕ → Bool) (new : ℕ → ℕ) (ws m ws' m' : List ℕ) : Type 0 where
  pub size : length m' ≡ length m
  pub before : (p j : ℕ) → p < length ws → p < at + k → j < g.B → view g ws' m' p j ≡ view g ws m p j
  pub after : (p j : ℕ) → p < length ws → at + (k + n) ≤ p → j < g.B → view g ws' m' p j ≡ view g ws m p j
  pub mine : (q j : ℕ) → k ≤ q → q < k + n → j < g.B
      → view g ws' m' (at + q) j ≡ cond (not (skip q) && region (q * g.B + j)) (new (q * g.B + j)) (view g ws m (at + q) j)

module _ (skip : ℕ → Bool) (g : Geometry) (at : ℕ) (region : ℕ → Bool) (new : ℕ → ℕ) where
  -- one slot
  record Wrote1 (k : ℕ) (ws m ws' m' : List ℕ) : Type 0 where
    size : length m' ≡ length m
    other : (p j : ℕ) → p < length ws → p ≢ at + k → j < g.B → view g ws' m' p j ≡ view g ws m p j
    mine : (j : ℕ) → j < g.B
        → view g ws' m' (at + k) j ≡ cond (not (skip k) && region (k * g.B + j)) (new (k * g.B + j)) (view g ws m (at + k) j)

  wrote1 : (k : ℕ) (ws m : List ℕ) → at + k < length ws → length m ≡ g.N * g.B → get_or ws (at + k) 0 / 2 ≤ g.N → skip k ≡ false
      → (x : ℕ) → OwnedSlot ws (at + k) x → x / 2 ≤ g.N → Wrote1 k ws m (set ws (at + k) x) (store_slot g region new (get_or ws (at + k) 0) x m k)
  unfolding store_slot
  wrote1 k ws m inside room old unskipped x o pool =
      let i : ℕ = at + k in
      let c : ℕ = pred (x / 2) in
      let hc : x / 2 ≡ suc c = omega (arith, o.block) in
      let bs : List ℕ = overlay region new (k * g.B) (slot_bytes g m (get_or ws i 0)) in
      let len : length bs ≡ g.B = length-overlay region new (slot_bytes g m (get_or ws i 0)) (k * g.B) ∙ length-slot_bytes g m room (get_or ws i 0) old in
      let now : get_or (set ws i x) i 0 ≡ x = get_or-set_same ws i x 0 inside in
      record {
        size = length-splice m (c * g.B) bs (omega (arith, len, in_memory g m room c (omega arith)));
        other = λ p j hp d hj. rw (get_or-set_other ws i p x 0 d)
            (shows-other g m room c bs len (omega arith) (get_or ws p 0) j
            (λ (q : get_or ws p 0 / 2 ≡ suc c). omega (
              arith,
              o.alone,
              two-holders (set ws i x) i p c (rw (length-set ws i x) inside) (rw (length-set ws i x) hp) d (rw now hc) (rw (get_or-set_other ws i p x 0 d) q),
            )) hj);
        mine = λ j hj. rw (now, unskipped)
            (shows g m room c bs len (omega arith) x j hc hj
            ∙ get_or-overlay region new (slot_bytes g m (get_or ws i 0)) (k * g.B) j (omega (arith, length-slot_bytes g m room (get_or ws i 0) old))
            ∙ rw (get_or-slot_bytes g m room (get_or ws i 0) j hj));
      }

  -- one slot and then the rest
  combine : (k n : ℕ) (ws m ws₁ m₁ ws' m' : List ℕ) → at + (k + suc n) ≤ length ws → length ws₁ ≡ length ws
      → Wrote1 k ws m ws₁ m₁ → Wrote skip g at (suc k) n region new ws₁ m₁ ws' m' → Wrote skip g at k (suc n) region new ws m ws' m'
  combine k n ws m ws₁ m₁ ws' m' inside same a b = record {
    size = b.size ∙ a.size;
    before = λ p j hp l hj. b.before p j (rw same hp) (omega arith) hj ∙ a.other p j hp (λ (q : p ≡ at + k). omega arith) hj;
    after = λ p j hp l hj. b.after p j (rw same hp) (omega arith) hj ∙ a.other p j hp (λ (q : p ≡ at + k). omega arith) hj;
    mine = λ q j l u hj. pick q j l u hj (ℕ_discrete q k);
  }
    where
      pick : (q j : ℕ) → k ≤ q → q < k + suc n → j < g.B → Dec (q ≡ k)
          → view g ws' m' (at + q) j ≡ cond (not (skip q) && region (q * g.B + j)) (new (q * g.B + j)) (view g ws m (at + q) j)
      pick q j l u hj (yes e) = rw e (b.before (at + k) j (omega (arith, same)) (omega arith) hj ∙ a.mine j hj)
      pick q j l u hj (no d) =
          b.mine q j (omega (arith, d)) (omega arith) hj
          ∙ ap (cond (not (skip q) && region (q * g.B + j)) (new (q * g.B + j))) (a.other (at + q) j (omega arith) (λ (e : at + q ≡ at + k). d (omega arith)) hj)

  -- the first slot of a plan that leaves ws' in the end
  first : (k : ℕ) (ws m ws' : List ℕ) → at + k < length ws → length m ≡ g.N * g.B → get_or ws (at + k) 0 / 2 ≤ g.N → get_or ws' (at + k) 0 / 2 ≤ g.N
      → get_or ws' (at + k) 0 ≡ get_or (own_unless skip at ws k) (at + k) 0 → Wrote1 k ws m (own_unless skip at ws k) (store_unless skip g at region new ws ws' m k)
  unfolding own store_at
  first k ws m ws' inside room old pool e = go (skip k) refl e
    where
      go : (t : Bool) → skip k ≡ t → get_or ws' (at + k) 0 ≡ get_or (cond t ws (own at ws k)) (at + k) 0
          → Wrote1 k ws m (cond t ws (own at ws k)) (cond t m (store_at g at region new ws ws' m k))
      go true s e = record { size = refl; other = λ p j hp d hj. refl; mine = λ j hj. rw s }
      go false s e =
          let x : ℕ = owned ws (get_or ws (at + k) 0) in
          let now : get_or ws' (at + k) 0 ≡ x = e ∙ get_or-set_same ws (at + k) x 0 inside in
          rw now (wrote1 k ws m inside room old s x (own-slot ws (at + k) inside) (rw now at pool))

  -- the later slots have their old words after the first step
  later : (k n : ℕ) (ws ws' m : List ℕ)
      → each (store_unless skip g at region new (own_unless skip at ws k) ws') m (suc k) n ≡ each (store_unless skip g at region new ws ws') m (suc k) n
  unfolding store_at
  later k n ws ws' m = each_ext _ _ n (suc k) m (λ x j l u. rw (own_local skip at ws k (at + j) (λ (q : at + j ≡ at + k). omega arith)))

  -- every slot of the plan
  pub wrote : (n k : ℕ) (ws m : List ℕ) → at + (k + n) ≤ length ws → length m ≡ g.N * g.B → InPool g.N ws → InPool g.N (each (own_unless skip at) ws k n)
      → Wrote skip g at k n region new ws m (each (own_unless skip at) ws k n) (each (store_unless skip g at region new ws (each (own_unless skip at) ws k n)) m k n)
  wrote zero k ws m inside room old pool = record {
    size = refl;
    before = λ p j hp l hj. refl;
    after = λ p j hp l hj. refl;
    mine = λ q j l u hj. absurd (omega arith);
  }
  wrote (suc n) k ws m inside room old pool =
      let ws₁ : List ℕ = own_unless skip at ws k in
      let ws' : List ℕ = each (own_unless skip at) ws₁ (suc k) n in
      let m₁ : List ℕ = store_unless skip g at region new ws ws' m k in
      let same : length ws₁ ≡ length ws = (own_unless_same_r skip at ws k).slots in
      let kept : get_or ws' (at + k) 0 ≡ get_or ws₁ (at + k) 0 = plan-before at (own_unless skip at) (own_local skip at) n (suc k) (at + k) ws₁ (omega arith) in
      let a : Wrote1 k ws m ws₁ m₁ = first k ws m ws' (omega arith) room (old (at + k)) (pool (at + k)) kept in
      let old₁ : InPool g.N ws₁ = λ p. pool_case p (ℕ_discrete p (at + k)) kept (pool (at + k)) in
      let b : Wrote skip g at (suc k) n region new ws₁ m₁ ws' (each (store_unless skip g at region new ws₁ ws') m₁ (suc k) n)
      = wrote n (suc k) ws₁ m₁ (omega (arith, same)) (a.size ∙ room) old₁ pool in
      combine k n ws m ws₁ m₁ ws' _ inside same a (rw (later k n ws ws' m₁) at b)
    where
      pool_case : (p : ℕ) → Dec (p ≡ at + k) → get_or (each (own_unless skip at) (own_unless skip at ws k) (suc k) n) (at + k) 0 ≡ get_or (own_unless skip at ws k) (at + k) 0
          → get_or (each (own_unless skip at) (own_unless skip at ws k) (suc k) n) (at + k) 0 / 2 ≤ g.N → get_or (own_unless skip at ws k) p 0 / 2 ≤ g.N
      pool_case p (yes e) kept h = rw e (rw kept at h)
      pool_case p (no d) kept h = rw (own_local skip at ws k p d) (old p)
