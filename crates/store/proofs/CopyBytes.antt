-- The bytes of a COPY: those of other blocks stay, so the source is read as it was; a part in one slot, the loop over parts, and a slot's share.
use Prim.Native.Nat.{ℕ, zero, suc, pred, ◌+◌, ◌*◌, ◌/◌, ◌%◌, ◌≤◌, ◌<◌, max, min, ◌-◌}
use mathlib.Core.Path.{◌≡◌, refl, sym, ap, ◌∙◌}
use mathlib.Core.Bool.{Bool, cond}
use mathlib.Core.List.{List, ◌∷◌, []}
use mathlib.Core.Logic.{◌≢◌, inl, inr}
use native.Mathlib.Nat.{le_of_mul-le-mul_right, mul-le-mul_right, mod-lt}
use native.Mathlib.Decide.{dec_le, dec_lt, ℕ_discrete}
use native.Mathlib.Omega.{arith}
use borrow.Author.Tests.{eq-eqb}
use lib.ListN.{length}
use Rattle.xdr.specs.Bytes.{splice}
use Rattle.xdr.proofs.BytesLaws.{length-splice, splice-below, splice-above, splice-splice}
use Rattle.rules.specs.Lists.{tabulate}
use Rattle.rules.specs.Store.{Geometry, is_hole, word_of, slot_byte, byte_at, bytes_from}
use Rattle.rules.specs.Edit.{within, slot_bytes, overlay, store_slot}
use Rattle.rules.proofs.SoundStore.{div_lt}
use Rattle.rules.proofs.SlotByteLaws.{length-overlay, length_tab, slot-long, shows-other}
use Rattle.rules.proofs.WriteLaws.{outside}
use Rattle.rules.proofs.ReadLaws.{tab_append, tab_ext}
use Rattle.tables.specs.Lent.{tables}
use Rattle.store.specs.SlotBytes.{Starts, Backed, SlotCopy, Apart, Copyable}
use Rattle.store.proofs.PlaceLaws.{readable-pos}
use Rattle.store.proofs.StoreLaws.{share, part-stored, splice-same}

-- ---- bytes of other blocks stay

module _ (g : Geometry) (m xs : List ℕ) (to : ℕ) (room : to + length xs ≤ length m) where
  shows-apart : (w j : ℕ) → Apart g w to (length xs) → j < g.B → slot_byte g (splice m to xs) w j ≡ slot_byte g m w j
  shows-apart w j a l = go (ℕ_discrete (w / 2) 0) a
    where
      go : Dec (w / 2 ≡ 0) → Apart g w to (length xs) → slot_byte g (splice m to xs) w j ≡ slot_byte g m w j
      go (yes z) a = rw (eq-eqb (w / 2) 0 z)
      go (no d) (inl u) =
          let s : w / 2 ≡ suc (pred (w / 2)) = omega (arith, d) in
          ap (cond (is_hole w) 0) (splice-below m to xs (pred (w / 2) * g.B + j) (omega arith) (omega (arith, ap (λ k. k * g.B) s)))
      go (no d) (inr u) = ap (cond (is_hole w) 0) (splice-above m to xs (pred (w / 2) * g.B + j) (omega arith) (omega arith))

  -- and so do those of a file
  module _ (ws : List ℕ) (f : ℕ) (pos : 0 < g.B) (apart : (q : ℕ) → q < g.S → Apart g (word_of g ws f q) to (length xs)) (sizes : List ℕ) where
    same_byte : (i : ℕ) → i < g.S * g.B → byte_at g (tables sizes ws (splice m to xs)) f i ≡ byte_at g (tables sizes ws m) f i
    unfolding byte_at
    same_byte i l = shows-apart (word_of g ws f (i / g.B)) (i % g.B) (apart (i / g.B) (div_lt pos i g.S l)) (mod-lt i pos)

    same_from : (i n : ℕ) → i + n ≤ g.S * g.B → bytes_from g (tables sizes ws (splice m to xs)) f i n ≡ bytes_from g (tables sizes ws m) f i n
    same_from i n h = tab_ext _ _ n i (λ j l u. same_byte j (omega arith))

-- ---- part by part

module _ (g : Geometry) (ws m : List ℕ) (f off n to : ℕ) (h : Copyable g ws m f off n to) where
  pub copying_start : (sizes : List ℕ) → m ≡ splice m to (bytes_from g (tables sizes ws m) f off 0)
  copying_start sizes = sym (splice-same m to 0 (omega (arith, h.room)))

  module _ (at share : ℕ) (more : at < n) (is : share ≡ min (n - at) (g.B - (off + at) % g.B)) (m' : List ℕ)
      (so : (sizes : List ℕ) → m' ≡ splice m to (bytes_from g (tables sizes ws m) f off at)) where
    pos : 0 < g.B
    pos = readable-pos h.readable

    most : at + share ≤ n
    most = omega arith

    pub copying_turn : {m'' : List ℕ} → ((sizes : List ℕ) → m'' ≡ splice m' (to + at) (bytes_from g (tables sizes ws m') f (off + at) share))
        → (sizes : List ℕ) → m'' ≡ splice m to (bytes_from g (tables sizes ws m) f off (at + share))
    copying_turn t sizes =
        let v : ℕ → ℕ = byte_at g (tables sizes ws m) f in
        let k : length (tabulate v off at) ≡ at = length_tab v at off in
        let apart : (q : ℕ) → q < g.S → Apart g (word_of g ws f q) to (length (tabulate v off at)) = λ q l. within _ _ (h.apart q l) k in
        let same : bytes_from g (tables sizes ws (splice m to (tabulate v off at))) f (off + at) share ≡ tabulate v (off + at) share
        = same_from g m (tabulate v off at) to (omega (arith, k, h.room)) ws f pos apart sizes (off + at) share (omega (arith, most, h.readable.fits)) in
        t sizes ∙ rw (so sizes, same, tab_append v at share off) (rw k at (splice-splice m to (tabulate v off at) (tabulate v (off + at) share) (omega (arith, h.room))))
      where
        within : (w k : ℕ) → Apart g w to n → k ≡ at → Apart g w to k
        within w k (inl u) e = inl u
        within w k (inr u) e = inr (omega arith)

-- ---- a slot's share: the places from a up to b

-- the source's values, from the place in the source that belongs to a
tab_from : (v : ℕ → ℕ) (soff off n a : ℕ) → off ≤ a → tabulate (λ p. v (soff + (p - off))) a n ≡ tabulate v (soff + (a - off)) n
tab_from v soff off zero a h = refl
tab_from v soff off (suc n) a h =
    let next : soff + (suc a - off) ≡ suc (soff + (a - off)) = omega arith in
    ap (λ l. v (soff + (a - off)) ∷ l) (tab_from v soff off n (suc a) (omega arith) ∙ ap (λ i. tabulate v i n) next)

-- two blocks lie apart
blocks-apart : (g : Geometry) (w new to n : ℕ) → w / 2 ≢ new / 2 → 1 ≤ new / 2 → pred (new / 2) * g.B ≤ to → to + n ≤ new / 2 * g.B → Apart g w to n
blocks-apart g w new to n d some from end = go (dec_lt (w / 2) (new / 2))
  where
    go : Dec (w / 2 < new / 2) → Apart g w to n
    go (yes l) =
        let k : w / 2 ≤ pred (new / 2) = omega arith in
        inl (omega (arith, mul-le-mul_right g.B k))
    go (no l) =
        let k : new / 2 ≤ pred (w / 2) = omega (arith, l, d) in
        inr (omega (arith, mul-le-mul_right g.B k))

module _ (g : Geometry) (ws m : List ℕ) (s soff old new k off end a b r : ℕ) (h : SlotCopy g ws m s soff old new k off end)
    (ha : a ≡ max off (k * g.B)) (hb : b ≡ min end (k * g.B + g.B)) (st : Starts g new r)
    (m' : List ℕ) (fresh : m' ≡ splice m (pred (new / 2) * g.B) (slot_bytes g m old)) where
  bytes_long : length (slot_bytes g m old) ≡ g.B
  bytes_long = slot-long g m old h.touched.backed.old_inside

  room_for : pred (new / 2) * g.B + length (slot_bytes g m old) ≤ length m
  room_for = omega (arith, bytes_long, st.start, st.end, h.touched.backed.new_inside)

  pub share_copyable : Copyable g ws m' s (soff + (a - off)) (b - a) (r + (a - k * g.B))
  share_copyable = record {
    readable = record {
      geometry = h.readable.geometry;
      slots = h.readable.slots;
      bytes = ap length fresh ∙ length-splice m (pred (new / 2) * g.B) (slot_bytes g m old) room_for ∙ h.readable.bytes;
      pool = h.readable.pool;
      file = h.readable.file;
      fits = omega (arith, h.readable.fits, h.touched.ordered, h.touched.after, h.touched.before);
    };
    room = rw fresh (rw (length-splice m (pred (new / 2) * g.B) (slot_bytes g m old) room_for) (omega (arith, st.end, h.touched.backed.new_inside, h.touched.after, h.touched.before, h.touched.ordered)));
    apart = λ q l. blocks-apart g (word_of g ws s q) new (r + (a - k * g.B)) (b - a) (h.other q l) h.touched.backed.some (omega (arith, st.start))
        (omega (arith, st.end, h.touched.after, h.touched.before, h.touched.ordered));
  }

  pub share_copied : {m'' : List ℕ}
      → ((sizes : List ℕ) → m'' ≡ splice m' (r + (a - k * g.B)) (bytes_from g (tables sizes ws m') s (soff + (a - off)) (b - a)))
      → (sizes : List ℕ) → m'' ≡ store_slot g (within off end) (λ p. byte_at g (tables sizes ws m) s (soff + (p - off))) old new m k
  share_copied t sizes =
      let v : ℕ → ℕ = byte_at g (tables sizes ws m) s in
      let new_bytes : List ℕ = tabulate (λ p. v (soff + (p - off))) a (b - a) in
      let apart : (q : ℕ) → q < g.S → Apart g (word_of g ws s q) (pred (new / 2) * g.B) (length (slot_bytes g m old))
      = λ q l. blocks-apart g (word_of g ws s q) new (pred (new / 2) * g.B) (length (slot_bytes g m old)) (h.other q l) h.touched.backed.some (omega arith) (omega (arith, bytes_long, st.start, st.end)) in
      let read : bytes_from g (tables sizes ws m') s (soff + (a - off)) (b - a) ≡ new_bytes
      = rw fresh
      (same_from g m (slot_bytes g m old) (pred (new / 2) * g.B) room_for ws s (readable-pos h.readable) apart sizes (soff + (a - off)) (b - a)
      (omega (arith, h.readable.fits, h.touched.ordered, h.touched.after, h.touched.before)))
      ∙ sym (tab_from v soff off (b - a) a (omega arith)) in
      t sizes
      ∙ rw read (part-stored g m old new h.touched.backed r st (a - k * g.B) new_bytes m' (rw (length_tab _ (b - a) a) (omega (arith, h.touched.after, h.touched.before, h.touched.ordered))) fresh)
      ∙ share g m old new k off end a b h.touched ha hb (λ p. v (soff + (p - off)))

-- ---- bytes that agree on the region

module _ (off end : ℕ) (byte byte' : ℕ → ℕ) (same : (i : ℕ) → off ≤ i → i < end → byte i ≡ byte' i) where
  overlay-same : (xs : List ℕ) (p : ℕ) → overlay (within off end) byte p xs ≡ overlay (within off end) byte' p xs
  overlay-same [] p = refl
  overlay-same (x ∷ xs) p =
      ap (λ y. y ∷ overlay (within off end) byte (suc p) xs) (go (dec_le off p) (dec_lt p end)) ∙ ap (λ l. cond (within off end p) (byte' p) x ∷ l) (overlay-same xs (suc p))
    where
      go : Dec (off ≤ p) → Dec (p < end) → cond (within off end p) (byte p) x ≡ cond (within off end p) (byte' p) x
      go (yes l) (yes u) = ap (λ y. cond (within off end p) y x) (same p l u)
      go (no n) v = rw (outside off end p (inl (omega (arith, n))))
      go (yes l) (no n) = rw (outside off end p (inr (omega (arith, n))))

  pub slot_same : (g : Geometry) (old new k : ℕ) (m : List ℕ) → store_slot g (within off end) byte old new m k ≡ store_slot g (within off end) byte' old new m k
  unfolding store_slot
  slot_same g old new k m = ap (splice m (pred (new / 2) * g.B)) (overlay-same (slot_bytes g m old) (k * g.B))

-- ---- the slots in order: the source's bytes stay

-- a slot that holds another block shows what it did
pub other_block : (g : Geometry) (m : List ℕ) (region : ℕ → Bool) (byte : ℕ → ℕ) (old new k : ℕ) → length m ≡ g.N * g.B → Backed g (length m) old new
    → (w j : ℕ) → new / 2 ≢ w / 2 → j < g.B → slot_byte g (store_slot g region byte old new m k) w j ≡ slot_byte g m w j
unfolding store_slot
other_block g m region byte old new k room h w j d l =
    let bs : List ℕ = overlay region byte (k * g.B) (slot_bytes g m old) in
    let pos : 0 < g.B = omega (arith, h.block) in
    let in_pool : new / 2 ≤ g.N = le_of_mul-le-mul_right (omega (arith, h.new_inside, room)) pos in
    shows-other g m room (pred (new / 2)) bs (length-overlay region byte (slot_bytes g m old) (k * g.B) ∙ slot-long g m old h.old_inside) (omega (arith, h.some)) w j
    (λ (q : w / 2 ≡ suc (pred (new / 2))). d (omega (arith, h.some))) l
