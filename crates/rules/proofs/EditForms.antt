-- The plan and the bytes of each edit, as EditSteps has them, are those of the rules.
use Prim.Native.Nat.{ℕ, zero, suc, ◌+◌, ◌-◌, ◌*◌, ◌/◌, ◌%◌, ◌≤◌, ◌<◌, max}
use mathlib.Core.Path.{◌≡◌, refl, sym, ap, ◌∙◌}
use mathlib.Core.Bool.{Bool, true, false, cond, not, true≢false}
use mathlib.Core.List.{List}
use native.Mathlib.Nat.{add-zero, add-suc, add_assoc, add-sub_cancel_left, mul-add-div_right, div-add-mod'}
use native.Mathlib.Omega.{arith}
use borrow.Author.Tests.{le-leb, lt-leb}
use lib.ListN.{get_or, set}
use Rattle.rules.specs.Lists.{each, ceil_div}
use Rattle.rules.specs.Store.{Geometry, Store, word, size_of, word_of}
use Rattle.rules.specs.Edit.{Edit, Kind, owns, given, cleared, shares, reserved, stays, within, first_slot, slot_count, size_after, goes_first, is_owned, kind_of, owned, become, pass, plan, store_slot, new_byte, fill_slot, edit_bytes, edited, writing, cloning, allocating}
use Rattle.rules.proofs.EditSteps.{own, own_unless, share, reserve, store_at, store_unless, plan_write, plan_allocate, plan_clone}
use Rattle.rules.proofs.PlanLaws.{each_ext}
use Rattle.rules.proofs.KindLaws.{first_pass, first_skip}

-- ---- the store after an edit: of no bytes, and of some

pub edited-none : (g : Geometry) (st : Store) (e : Edit) → e.end ≤ e.off → edited g st e ≡ st
unfolding edited
edited-none g st e h = rw (le-leb e.end e.off h)

pub edited-some : (g : Geometry) (st : Store) (e : Edit) → e.off < e.end
    → edited g st e ≡ record { sizes = set st.sizes e.file (size_after st e); words = plan g st e; mem = edit_bytes g st e }
unfolding edited
edited-some g st e h = rw (lt-leb e.end e.off h)

-- ---- runs

each-id {ℓ} : {A : Type ℓ} (n k : ℕ) (a : A) → each (λ x j. x) a k n ≡ a
each-id zero k a = refl
each-id (suc n) k a = each-id n (suc k) a

-- a run over the numbers from b on
each_from {ℓ} : {A : Type ℓ} (f h : A → ℕ → A) (b : ℕ) → ((x : A) (j : ℕ) → f x (b + j) ≡ h x j) → (n i : ℕ) (a : A) → each f a (b + i) n ≡ each h a i n
each_from f h b e zero i a = refl
each_from f h b e (suc n) i a =
    ap (λ x. each f x (suc (b + i)) n) (e a i) ∙ ap (λ k. each f (h a i) k n) (sym (add-suc b i)) ∙ each_from f h b e n (suc i) (h a i)

-- ---- edits that store bytes: the slots that are done first, then the others

-- a slot of that kind gets a block of its own, becomes a hole, or stays
abbrev pub plain : Kind → Bool
plain owns = true
plain given = true
plain cleared = true
plain (shares p) = false
plain reserved = false
plain stays = true

pub owned-later : (c : Kind) → is_owned c ≡ true → goes_first c ≡ false
owned-later owns o = refl
owned-later given o = absurd (true≢false (sym o))
owned-later cleared o = absurd (true≢false (sym o))
owned-later (shares p) o = absurd (true≢false (sym o))
owned-later reserved o = absurd (true≢false (sym o))
owned-later stays o = absurd (true≢false (sym o))

-- slots without a block of their own
abbrev pub blockless : Geometry → Store → Edit → ℕ → Bool
blockless g st e k = not (is_owned (kind_of g st e k))

module _ (g : Geometry) (st : Store) (e : Edit) (kinds : (k : ℕ) → plain (kind_of g st e k) ≡ true) where
  pub plan-owned : plan g st e ≡ each (own_unless (blockless g st e) (e.file * g.S)) (first_pass g st e) (first_slot g e.off) (slot_count g e.off e.end)
  unfolding plan first_pass pass become own
  plan-owned = each_ext _ _ (slot_count g e.off e.end) (first_slot g e.off) _ (λ ws k l u. by (kind_of g st e k) (kinds k) ws (e.file * g.S + k))
    where
      by : (c : Kind) → plain c ≡ true → (ws : List ℕ) (i : ℕ) → cond (not (goes_first c)) (become c ws i) ws ≡ cond (not (is_owned c)) ws (set ws i (owned ws (get_or ws i 0)))
      by owns p ws i = refl
      by given p ws i = refl
      by cleared p ws i = refl
      by (shares q) p ws i = absurd (true≢false (sym p))
      by reserved p ws i = absurd (true≢false (sym p))
      by stays p ws i = refl

-- a slot that gets a block has its old word still when the first pass is over
pub bytes-owned : (g : Geometry) (st : Store) (e : Edit)
    → edit_bytes g st e
    ≡ each (store_unless (blockless g st e) g (e.file * g.S) (within e.off e.end) (new_byte g st e) (first_pass g st e) (plan g st e)) st.mem
    (first_slot g e.off) (slot_count g e.off e.end)
unfolding edit_bytes fill_slot store_at
bytes-owned g st e = each_ext _ _ (slot_count g e.off e.end) (first_slot g e.off) st.mem (λ m k l u. by k (is_owned (kind_of g st e k)) refl m)
  where
    by : (k : ℕ) (t : Bool) → is_owned (kind_of g st e k) ≡ t → (m : List ℕ)
        → cond t (store_slot g (within e.off e.end) (new_byte g st e) (word_of g st.words e.file k) (word_of g (plan g st e) e.file k) m k) m
        ≡ cond (not t) m (store_slot g (within e.off e.end) (new_byte g st e) (get_or (first_pass g st e) (e.file * g.S + k) 0) (get_or (plan g st e) (e.file * g.S + k) 0) m k)
    by k true o m = rw (first_skip g st e k (owned-later (kind_of g st e k) o))
    by k false o m = refl

-- WRITE: every slot of the region gets a block
pub plan_write_lem : (g : Geometry) (st : Store) (f off end : ℕ) (new : ℕ → ℕ) → plan g st (writing f off end new) ≡ plan_write g st.words f off end
unfolding plan pass kind_of become plan_write own
plan_write_lem g st f off end new = ap (λ ws. each (own (f * g.S)) ws (first_slot g off) (slot_count g off end)) (each-id (slot_count g off end) (first_slot g off) st.words)

-- ---- ALLOCATE

module _ (g : Geometry) (st : Store) (f off end : ℕ) where
  plan_allocate_lem : plan g st (allocating f off end) ≡ plan_allocate g st.words f off end
  unfolding plan pass kind_of become plan_allocate reserve
  plan_allocate_lem = ap (λ ws. each (reserve (f * g.S)) ws (first_slot g off) (slot_count g off end)) (each-id (slot_count g off end) (first_slot g off) st.words)

  pub allocate-is : off < end → edited g st (allocating f off end)
      ≡ record { sizes = set st.sizes f (max (size_of st f) end); words = plan_allocate g st.words f off end; mem = st.mem }
  unfolding edit_bytes fill_slot kind_of
  allocate-is h = edited-some g st (allocating f off end) h ∙ rw (plan_allocate_lem, each-id (slot_count g off end) (first_slot g off) st.mem)

-- ---- CLONE

-- whole slots before n bytes
pub slots-behind : {b : ℕ} → 0 < b → (a n : ℕ) → a % b ≡ 0 → ceil_div (a + n) b - a / b ≡ ceil_div n b
slots-behind {b} pos a n e =
    let w : a / b * b ≡ a = omega (arith, div-add-mod' a b) in
    let p : a + n + (b - 1) ≡ a / b * b + (n + (b - 1)) = omega (arith, w) in
    rw (p, mul-add-div_right {m = b} pos (a / b) (n + (b - 1))) (add-sub_cancel_left (a / b) (ceil_div n b))

module _ (g : Geometry) (pos : 0 < g.B) (st : Store) (s f soff off n : ℕ) (de : off % g.B ≡ 0) where
  -- slot k of the target takes the block of the source slot that lies as it does
  abbrev share_slot : List ℕ → ℕ → List ℕ
  share_slot ws k = set ws (f * g.S + k) (word (get_or ws (s * g.S + soff / g.B + (k - off / g.B)) 0 / 2) (get_or ws (f * g.S + k) 0 % 2))

  shifted : (ws : List ℕ) (j : ℕ) → share_slot ws (off / g.B + j) ≡ share (s * g.S + soff / g.B) (f * g.S + off / g.B) ws j
  unfolding share
  shifted ws j = rw (add-sub_cancel_left (off / g.B) j, ← add_assoc (f * g.S) (off / g.B) j)

  plan_clone_lem : plan g st (cloning f off (off + n) s soff) ≡ plan_clone g st.words s f soff off n
  unfolding plan pass kind_of become plan_clone
  plan_clone_lem =
      ap (λ ws. each share_slot ws (first_slot g off) (slot_count g off (off + n))) (each-id (slot_count g off (off + n)) (first_slot g off) st.words)
      ∙ ap (λ c. each share_slot st.words (first_slot g off) c) (slots-behind pos off n de)
      ∙ ap (λ k. each share_slot st.words k (ceil_div n g.B)) (sym (add-zero (first_slot g off)))
      ∙ each_from share_slot (share (s * g.S + soff / g.B) (f * g.S + off / g.B)) (off / g.B) shifted (ceil_div n g.B) 0 st.words

  pub clone-is : 0 < n → edited g st (cloning f off (off + n) s soff)
      ≡ record { sizes = set st.sizes f (max (size_of st f) (off + n)); words = plan_clone g st.words s f soff off n; mem = st.mem }
  unfolding edit_bytes fill_slot kind_of
  clone-is h =
      edited-some g st (cloning f off (off + n) s soff) (omega arith) ∙ rw (plan_clone_lem, each-id (slot_count g off (off + n)) (first_slot g off) st.mem)
