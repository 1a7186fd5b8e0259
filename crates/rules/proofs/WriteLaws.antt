-- From slots to files: what storing a region's bytes, slot by slot, does to the bytes of each file; the edits that store bytes; and WRITE.
use Prim.Native.Nat.{ℕ, ◌+◌, ◌*◌, ◌/◌, ◌%◌, ◌≤◌, ◌<◌, min}
use mathlib.Core.Path.{◌≡◌, refl, sym, ap, ◌∙◌}
use mathlib.Core.Bool.{Bool, true, false, cond, ◌&&◌, not, true≢false}
use mathlib.Core.List.{List}
use mathlib.Core.Logic.{◌≢◌, ◌⊎◌, inl, inr}
use native.Mathlib.Nat.{le_refl, le_trans, div-add-mod', mod-lt}
use native.Mathlib.Decide.{dec_le, dec_lt}
use native.Mathlib.Omega.{arith}
use borrow.Author.Tests.{lt-ltb, le-ltb, le-leb, lt-leb, leb-true, ltb-true, eq-eqb}
use lib.ListN.{length, set, length-set}
use lib.Seq.{get_or-set_same, get_or-set_other}
use lib.Dec.{leb, ltb}
use Rattle.rules.specs.Store.{Geometry, Store, is_hole, word_of, hole_or_shared, need, slot_byte, byte_at}
use Rattle.rules.specs.Edit.{Edit, Kind, owns, given, cleared, shares, reserved, stays, within, first_slot, slot_count, covers, size_after, kind_of, goes_first, is_owned, plan, new_byte, edit_bytes, edited, writing}
use Rattle.rules.proofs.EditSteps.{plan_write}
use Rattle.rules.proofs.EditForms.{edited-some, plain, owned-later, blockless, plan-owned, bytes-owned, plan_write_lem}
use Rattle.rules.proofs.PlanLaws.{InPool, plan-pool, own-reserved, own_alone}
use Rattle.rules.proofs.KindLaws.{first_pass, first-long, first-other, first_skip, first-hole, first-pool, plan-long, plan-outside, plan-other}
use Rattle.rules.proofs.SlotByteLaws.{view, Wrote, wrote}
use Rattle.rules.proofs.SoundStore.{div_le, div_ge, div_lt, ceil_le, Sound, Edited, apart, in_file, slots-fit, in_table, first-before, slot_in}
use Rattle.xdr.proofs.BoolLaws.{and_false, and_left, and_right}

pub outside : (off end i : ℕ) → (i < off) ⊎ (end ≤ i) → within off end i ≡ false
outside off end i (inl h) = rw (lt-leb off i h)
outside off end i (inr h) = rw (le-ltb i end h, and_false)

pub inside : (off end i : ℕ) → off ≤ i → i < end → within off end i ≡ true
inside off end i l u = rw (le-leb off i l, lt-ltb i end u)

module _ (g : Geometry) (pos : 0 < g.B) (f off end : ℕ) (some : off < end) (fits : end ≤ g.S * g.B)
    (skip : ℕ → Bool) (new : ℕ → ℕ) (st st' : Store) (slots : length st.words ≡ g.F * g.S)
    (w : Wrote skip g (f * g.S) (first_slot g off) (slot_count g off end) (within off end) new st.words st.mem st'.words st'.mem) where
  -- the file itself: new bytes at the region's places, but in skipped slots
  pub file-mine : f < g.F → (i : ℕ) → i < g.S * g.B
      → byte_at g st' f i ≡ cond (not (skip (i / g.B)) && within off end i) (new i) (byte_at g st f i)
  unfolding byte_at
  file-mine hf i hi = go (dec_le (first_slot g off) (i / g.B)) (dec_lt (i / g.B) (first_slot g off + slot_count g off end))
    where
      q : ℕ
      q = i / g.B

      whole : q * g.B + i % g.B ≡ i
      whole = div-add-mod' i g.B

      small : i % g.B < g.B
      small = mod-lt i pos

      here : f * g.S + q < length st.words
      here = rw slots (in_file g f q hf (div_lt pos i g.S hi))

      same : within off end i ≡ false → view g st'.words st'.mem (f * g.S + q) (i % g.B) ≡ view g st.words st.mem (f * g.S + q) (i % g.B)
          → view g st'.words st'.mem (f * g.S + q) (i % g.B)
          ≡ cond (not (skip q) && within off end i) (new i) (view g st.words st.mem (f * g.S + q) (i % g.B))
      same out e = rw (out, and_false) e

      go : Dec (first_slot g off ≤ q) → Dec (q < first_slot g off + slot_count g off end)
          → view g st'.words st'.mem (f * g.S + q) (i % g.B)
          ≡ cond (not (skip q) && within off end i) (new i) (view g st.words st.mem (f * g.S + q) (i % g.B))
      go (yes l) (yes u) = rw whole at (w.mine q (i % g.B) l u small)
      go (no n) u = same (outside off end i (inl before)) (w.before (f * g.S + q) (i % g.B) here (omega (arith, n)) small)
        where
          before : i < off
          before = pick (dec_le off i)
            where
              pick : Dec (off ≤ i) → i < off
              pick (yes h) = absurd (n (div_le pos off q (omega (arith, div_ge pos i q (le_refl q)))))
              pick (no h) = omega (arith, h)
      go (yes l) (no n) = same (outside off end i (inr after)) (w.after (f * g.S + q) (i % g.B) here (omega (arith, n)) small)
        where
          after : end ≤ i
          after = pick (dec_le end i)
            where
              pick : Dec (end ≤ i) → end ≤ i
              pick (yes h) = h
              pick (no h) = absurd (n (slot_in g pos off end some fits q (div_ge pos off q l) (omega (arith, whole, h))).1)

  -- every other file stays
  pub file-other : (e i : ℕ) → e < g.F → e ≢ f → i < g.S * g.B → byte_at g st' e i ≡ byte_at g st e i
  unfolding byte_at
  file-other e i he d hi = go (apart g.S e f (i / g.B) d (div_lt pos i g.S hi))
    where
      q : ℕ
      q = i / g.B

      here : e * g.S + q < length st.words
      here = rw slots (in_file g e q he (div_lt pos i g.S hi))

      go : (e * g.S + q < f * g.S) ⊎ (f * g.S + g.S ≤ e * g.S + q)
          → view g st'.words st'.mem (e * g.S + q) (i % g.B) ≡ view g st.words st.mem (e * g.S + q) (i % g.B)
      go (inl l) = w.before (e * g.S + q) (i % g.B) here (omega arith) (mod-lt i pos)
      go (inr l) = w.after (e * g.S + q) (i % g.B) here (omega (arith, slots-fit g pos off end some fits)) (mod-lt i pos)

-- ---- edits that store bytes

-- what `covers` says
pub record Covered (g : Geometry) (size off end k : ℕ) : Type 0 where
  pub starts : off ≤ k * g.B
  pub some_byte : k * g.B < size
  pub ends : min (k * g.B + g.B) size ≤ end

pub covered-is : (g : Geometry) (size off end k : ℕ) → covers g size off end k ≡ true → Covered g size off end k
unfolding covers
covered-is g size off end k e =
    let a : Bool = leb off (k * g.B) in
    let b : Bool = ltb (k * g.B) size in
    let c : Bool = leb (min (k * g.B + g.B) size) end in
    record {
      starts = leb-true off (k * g.B) (and_left a b (and_left (a && b) c e));
      some_byte = ltb-true (k * g.B) size (and_right a b (and_left (a && b) c e));
      ends = leb-true (min (k * g.B + g.B) size) end (and_right (a && b) c e);
    }

-- Its slots get blocks of their own, become holes, or stay. One that becomes a hole has no byte below the new size outside the region, one that
-- stays is a hole, and the new bytes in both are zeros.
pub record Stores (g : Geometry) (st : Store) (e : Edit) : Type 0 where
  pub kinds : (k : ℕ) → plain (kind_of g st e k) ≡ true
  pub covered : (k : ℕ) → goes_first (kind_of g st e k) ≡ true → Covered g (size_after st e) e.off e.end k
  pub hole : (k : ℕ) → kind_of g st e k ≡ stays → is_hole (word_of g st.words e.file k) ≡ true
  pub zeros : (i : ℕ) → e.off ≤ i → i < e.end → is_owned (kind_of g st e (i / g.B)) ≡ false → new_byte g st e i ≡ 0

-- a kind that is neither owned nor done first stays
plain-stays : (c : Kind) → plain c ≡ true → is_owned c ≡ false → goes_first c ≡ false → c ≡ stays
plain-stays owns p o f = absurd (true≢false o)
plain-stays given p o f = absurd (true≢false f)
plain-stays cleared p o f = absurd (true≢false f)
plain-stays (shares q) p o f = absurd (true≢false (sym p))
plain-stays reserved p o f = absurd (true≢false (sym p))
plain-stays stays p o f = refl

pub hole-zero : (g : Geometry) (m : List ℕ) (w j : ℕ) → is_hole w ≡ true → slot_byte g m w j ≡ 0
hole-zero g m w j e = rw e

module _ (g : Geometry) (pos : 0 < g.B) (st : Store) (snd : Sound g st) (e : Edit) (s : Stores g st e) (hf : e.file < g.F) (some : e.off < e.end)
    (fits : e.end ≤ g.S * g.B) where
  in_file_slots : first_slot g e.off + slot_count g e.off e.end ≤ g.S
  in_file_slots = slots-fit g pos e.off e.end some fits

  table : e.file * g.S + (first_slot g e.off + slot_count g e.off e.end) ≤ length st.words
  table = in_table g pos e.off e.end some fits st snd e.file hf

  -- the store behind the first pass
  between : Store
  between = record { sizes = st.sizes; words = first_pass g st e; mem = st.mem }

  between-slots : length between.words ≡ g.F * g.S
  unfolding between
  between-slots = first-long g st e ∙ snd.slots

  byte-between : (f i : ℕ) → word_of g (first_pass g st e) f (i / g.B) ≡ word_of g st.words f (i / g.B) → byte_at g between f i ≡ byte_at g st f i
  unfolding byte_at between
  byte-between f i w = ap (λ x. slot_byte g st.mem x (i % g.B)) w

  byte-first : (i : ℕ) → goes_first (kind_of g st e (i / g.B)) ≡ true → byte_at g between e.file i ≡ 0
  unfolding byte_at between
  byte-first i f =
      let q : ℕ = i / g.B in
      let c = s.covered q f in
      let here = slot_in g pos e.off e.end some fits q (omega (arith, c.starts, pos)) (omega (arith, c.some_byte, c.ends, pos)) in
      hole-zero g st.mem (word_of g (first_pass g st e) e.file q) (i % g.B) (eq-eqb _ 0 (first-hole g st e table q here.0 here.1 f))

  byte-stays : (i : ℕ) → is_owned (kind_of g st e (i / g.B)) ≡ false → goes_first (kind_of g st e (i / g.B)) ≡ false → byte_at g st e.file i ≡ 0
  unfolding byte_at
  byte-stays i o f =
      let q : ℕ = i / g.B in
      hole-zero g st.mem (word_of g st.words e.file q) (i % g.B) (s.hole q (plain-stays (kind_of g st e q) (s.kinds q) o f))

  -- a slot without a block of its own: zeros in the region, and outside it what was there
  byte-blockless : (i : ℕ) → i < g.S * g.B → is_owned (kind_of g st e (i / g.B)) ≡ false
      → byte_at g between e.file i ≡ cond (within e.off e.end i) (new_byte g st e i) (byte_at g st e.file i)
  byte-blockless i h o = by-region (dec_le e.off i) (dec_lt i e.end) (goes_first (kind_of g st e (i / g.B))) refl
    where
      q : ℕ
      q = i / g.B

      kept : goes_first (kind_of g st e q) ≡ false → byte_at g between e.file i ≡ byte_at g st e.file i
      kept f = byte-between e.file i (first_skip g st e q f)

      -- a place outside the region, in a slot that is covered, lies behind the size
      behind : goes_first (kind_of g st e q) ≡ true → ((e.off ≤ i) → (i < e.end) → ⊥) → size_after st e ≤ i
      behind f out = pick (dec_le (size_after st e) i)
        where
          c : Covered g (size_after st e) e.off e.end q
          c = s.covered q f

          pick : Dec (size_after st e ≤ i) → size_after st e ≤ i
          pick (yes l) = l
          pick (no d) = absurd (out (omega (arith, c.starts, div-add-mod' i g.B)) (omega (arith, c.ends, d, div-add-mod' i g.B, mod-lt i pos)))

      outer : ((e.off ≤ i) → (i < e.end) → ⊥) → (t : Bool) → goes_first (kind_of g st e q) ≡ t → byte_at g between e.file i ≡ byte_at g st e.file i
      outer out true f = byte-first i f ∙ sym (snd.tail e.file i hf (omega (arith, behind f out)) h)
      outer out false f = kept f

      by-region : Dec (e.off ≤ i) → Dec (i < e.end) → (t : Bool) → goes_first (kind_of g st e q) ≡ t
          → byte_at g between e.file i ≡ cond (within e.off e.end i) (new_byte g st e i) (byte_at g st e.file i)
      by-region (yes l) (yes u) true f = rw (inside e.off e.end i l u, s.zeros i l u o) (byte-first i f)
      by-region (yes l) (yes u) false f = rw (inside e.off e.end i l u, s.zeros i l u o) (kept f ∙ byte-stays i o f)
      by-region (no n) v t f = rw (outside e.off e.end i (inl (omega (arith, n)))) (outer (λ l u. n l) t f)
      by-region (yes l) (no n) t f = rw (outside e.off e.end i (inr (omega (arith, n)))) (outer (λ l u. n u) t f)

  module _ (room : need (edited g st e).words ≤ g.N) where
    plan-need : need (plan g st e) ≤ g.N
    plan-need = rw (edited-some g st e some) at room

    plan_in : InPool g.N (plan g st e)
    plan_in = rw (plan-owned g st e s.kinds) (plan-pool (blockless g st e) (e.file * g.S) g.N (slot_count g e.off e.end) (first_slot g e.off) (first_pass g st e)
        (omega (arith, table, first-long g st e)) (first-pool g st e g.N snd.pool) (omega (arith, rw (plan-owned g st e s.kinds) at plan-need)))

    stored : Wrote (blockless g st e) g (e.file * g.S) (first_slot g e.off) (slot_count g e.off e.end) (within e.off e.end) (new_byte g st e)
        (first_pass g st e) st.mem (plan g st e) (edit_bytes g st e)
    stored = rw (bytes-owned g st e, plan-owned g st e s.kinds)
        (wrote (blockless g st e) g (e.file * g.S) (within e.off e.end) (new_byte g st e) (slot_count g e.off e.end) (first_slot g e.off) (first_pass g st e) st.mem
        (omega (arith, table, first-long g st e)) snd.bytes (first-pool g st e g.N snd.pool) (rw (plan-owned g st e s.kinds) at plan_in))

    after : Store
    after = record { sizes = set st.sizes e.file (size_after st e); words = plan g st e; mem = edit_bytes g st e }

    -- the bytes of its file
    bytes_after : (i : ℕ) → i < g.S * g.B → byte_at g after e.file i ≡ cond (within e.off e.end i) (new_byte g st e i) (byte_at g st e.file i)
    unfolding after between
    bytes_after i h =
        file-mine g pos e.file e.off e.end some fits (blockless g st e) (new_byte g st e) between after between-slots stored hf i h ∙ go (is_owned (kind_of g st e (i / g.B))) refl
      where
        go : (t : Bool) → is_owned (kind_of g st e (i / g.B)) ≡ t
            → cond (not (not t) && within e.off e.end i) (new_byte g st e i) (byte_at g between e.file i)
            ≡ cond (within e.off e.end i) (new_byte g st e i) (byte_at g st e.file i)
        go true o =
            ap (cond (within e.off e.end i) (new_byte g st e i)) (byte-between e.file i (first_skip g st e (i / g.B) (owned-later (kind_of g st e (i / g.B)) o)))
        go false o = byte-blockless i h o

    others-after : (f i : ℕ) → f < g.F → f ≢ e.file → i < g.S * g.B → byte_at g after f i ≡ byte_at g st f i
    unfolding after between
    others-after f i h d l =
        file-other g pos e.file e.off e.end some fits (blockless g st e) (new_byte g st e) between after between-slots stored f i h d l
        ∙ byte-between f i (first-other g st e in_file_slots f (i / g.B) d (div_lt pos i g.S l))

    pub stored_bytes : (i : ℕ) → i < g.S * g.B
        → byte_at g (edited g st e) e.file i ≡ cond (within e.off e.end i) (new_byte g st e i) (byte_at g st e.file i)
    unfolding after
    stored_bytes i h = rw (edited-some g st e some) (bytes_after i h)

    pub stored-edited : Edited g st (edited g st e) e.file (size_after st e)
    unfolding after
    stored-edited = rw (edited-some g st e some) record {
      files = length-set st.sizes e.file _;
      slots = plan-long g st e;
      bytes = stored.size;
      pool = plan_in;
      size = get_or-set_same st.sizes e.file _ 0 (rw snd.files hf);
      size_other = λ f d. get_or-set_other st.sizes e.file f _ 0 d;
      word_other = plan-other g st e in_file_slots;
      byte_other = others-after;
      beyond = λ k hk l. plan-outside g st e (e.file * g.S + k) (inr (omega (arith, ceil_le pos e.end k (omega arith), first-before g pos e.off e.end some fits)))
          ∙ snd.beyond e.file k hf hk (omega arith);
      tail = λ i l h. bytes_after i h ∙ rw (outside e.off e.end i (inr (omega arith))) (snd.tail e.file i hf (omega arith) h);
    }

-- ---- WRITE

pub write_stores : (g : Geometry) (st : Store) (f off end : ℕ) (new : ℕ → ℕ) → Stores g st (writing f off end new)
unfolding kind_of
write_stores g st f off end new = record {
  kinds = λ k. refl;
  covered = λ k t. absurd (true≢false (sym t));
  hole = λ k t. absurd (true≢false (ap is_owned t));
  zeros = λ i l u t. absurd (true≢false t);
}

module _ (g : Geometry) (pos : 0 < g.B) (st : Store) (snd : Sound g st) (f off end : ℕ) (hf : f < g.F) (some : off < end) (fits : end ≤ g.S * g.B)
    (new : ℕ → ℕ) where
  write-words : (edited g st (writing f off end new)).words ≡ plan_write g st.words f off end
  write-words = rw (edited-some g st (writing f off end new) some) (plan_write_lem g st f off end new)

  -- (ii) a WRITE into reserved slots always has room
  pub write-room : ((q : ℕ) → first_slot g off ≤ q → q < first_slot g off + slot_count g off end → word_of g st.words f q % 2 ≡ 1)
      → need (edited g st (writing f off end new)).words ≤ g.N
  unfolding plan_write
  write-room r = rw write-words (le_trans (own-reserved (f * g.S) (slot_count g off end) (first_slot g off) st.words (in_table g pos off end some fits st snd f hf) r).need snd.room)

  -- a WRITE into slots that hold their blocks alone changes no slot word, and the need is what it was
  pub write_alone : ((q : ℕ) → first_slot g off ≤ q → q < first_slot g off + slot_count g off end → hole_or_shared st.words (word_of g st.words f q) ≡ false)
      → (edited g st (writing f off end new)).words ≡ st.words
  unfolding plan_write
  write_alone alone = write-words ∙ own_alone (f * g.S) (slot_count g off end) (first_slot g off) st.words alone
