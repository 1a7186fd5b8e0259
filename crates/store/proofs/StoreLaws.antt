-- For the code that stores an edit's bytes: what it does to a block, a slot's share of a region, and the loop over the slots.
use Prim.Native.Nat.{ℕ, zero, suc, pred, ◌+◌, ◌*◌, ◌/◌, ◌≤◌, ◌<◌, max, min, ◌-◌}
use mathlib.Core.Path.{◌≡◌, refl, sym, ap, ◌∙◌}
use mathlib.Core.List.{List, ◌++◌, append_assoc}
use mathlib.Core.Logic.{◌≢◌, inl, inr}
use native.Mathlib.Nat.{sub-zero, add-suc, mul-le-mul_right}
use native.Mathlib.Numerals.{add-one}
use native.Mathlib.Decide.{dec_le, dec_lt}
use native.Mathlib.Omega.{arith}
use borrow.Author.Tests.{eq-eqb, ne_eqb}
use borrow.Rule.Slice.PartMut as P
use lib.ListN.{length, get_or, take, drop, replicate, length-take, length-drop, length-replicate}
use lib.Seq.{length-take-le, take-append-add, drop-append-add, take-append-le, drop-append-le, drop-drop, get_or-take, get_or-drop}
use Rattle.xdr.specs.Bytes.{splice}
use Rattle.xdr.proofs.BytesLaws.{length-splice, put-splice, put_zeroed}
use Rattle.rules.specs.Lists.{tabulate, each}
use Rattle.rules.specs.Store.{Geometry}
use Rattle.rules.specs.Edit.{within, first_slot, slot_count, slot_bytes, overlay, store_slot}
use Rattle.rules.proofs.GeometryLaws.{Good, block-pos, file-most}
use Rattle.rules.proofs.SoundStore.{slot_bytes_lem}
use Rattle.rules.proofs.SlotByteLaws.{slot-long}
use Rattle.rules.proofs.WriteLaws.{outside, inside}
use Rattle.rules.proofs.ReadLaws.{tab_zeros}
use Rattle.store.specs.SlotBytes.{Starts, Backed, Touched}
use Rattle.store.proofs.PartLaws.{overlay_ext, overlay-splice, write-part}

-- ---- splices

-- a part over itself
pub splice-same : (m : List ℕ) (a n : ℕ) → a + n ≤ length m → splice m a (take n (drop a m)) ≡ m
unfolding splice
splice-same m a n h =
    let e : length (take n (drop a m)) ≡ n = length-take n (drop a m) ∙ rw (length-drop a m) (omega arith) in
    rw (e, ← drop-drop n a m) (P.put_same a n m)

-- one that lies inside another
splice-inner : (m bs cs : List ℕ) (a lo : ℕ) → a ≤ length m → lo + length cs ≤ length bs → splice (splice m a bs) (a + lo) cs ≡ splice m a (splice bs lo cs)
unfolding splice
splice-inner m bs cs a lo h l =
    let t = take a m in
    let r = drop (a + length bs) m in
    let k : length t ≡ a = length-take-le a m h in
    let front : take (a + lo) (t ++ (bs ++ r)) ≡ t ++ take lo bs
    = ap (λ (n : ℕ). take (n + lo) (t ++ (bs ++ r))) (sym k) ∙ take-append-add t (bs ++ r) lo ∙ ap (λ (x : List ℕ). t ++ x) (take-append-le lo bs r (omega arith)) in
    let sum : a + lo + length cs ≡ length t + (lo + length cs) = omega arith in
    let back : drop (a + lo + length cs) (t ++ (bs ++ r)) ≡ drop (lo + length cs) bs ++ r
    = ap (λ (n : ℕ). drop n (t ++ (bs ++ r))) sum ∙ drop-append-add t (bs ++ r) (lo + length cs) ∙ drop-append-le (lo + length cs) bs r l in
    let size : length (take lo bs ++ (cs ++ drop (lo + length cs) bs)) ≡ length bs = length-splice bs lo cs l in
    rw (front, back, size)
    (append_assoc t (take lo bs) (cs ++ (drop (lo + length cs) bs ++ r))
    ∙ ap (λ (x : List ℕ). t ++ x) (sym (append_assoc (take lo bs) (cs ++ drop (lo + length cs) bs) r ∙ ap (λ (x : List ℕ). take lo bs ++ x) (append_assoc cs (drop (lo + length cs) bs) r))))

-- ---- one block

pub block_start : (g : Geometry) (w : ℕ) → 1 ≤ w / 2 → Starts g w ((w / 2 - 1) * g.B)
block_start g w h =
    let p : w / 2 - 1 ≡ pred (w / 2) = omega arith in
    let s : w / 2 ≡ suc (w / 2 - 1) = omega arith in
    record { start = ap (λ k. k * g.B) p; end = omega (arith, ap (λ k. k * g.B) s) }

hole-bytes : (g : Geometry) (m : List ℕ) (w : ℕ) → w / 2 ≡ 0 → slot_bytes g m w ≡ replicate g.B 0
hole-bytes g m w e = rw (eq-eqb (w / 2) 0 e)

block-bytes : (g : Geometry) (m : List ℕ) (w : ℕ) → w / 2 ≢ 0 → slot_bytes g m w ≡ take g.B (drop (pred (w / 2) * g.B) m)
block-bytes g m w d = rw (ne_eqb (w / 2) 0 d)

-- the block of `new` with the old slot's bytes: kept, zeroed or copied
module _ (g : Geometry) (m : List ℕ) (old new : ℕ) (h : Backed g (length m) old new) where
  pub fresh_kept : old / 2 ≡ new / 2 → m ≡ splice m (pred (new / 2) * g.B) (slot_bytes g m old)
  fresh_kept e =
      let s = block_start g new h.some in
      let d : old / 2 ≢ 0 = λ q. omega (arith, h.some) in
      sym (rw (block-bytes g m old d, e) (splice-same m (pred (new / 2) * g.B) g.B (omega (arith, h.new_inside, s.start, s.end))))

  module _ (r : ℕ) (s : Starts g new r) where
    pub fresh-zero : (ys : List ℕ) → old / 2 ≡ 0 → ys ≡ replicate (length (take (r + g.B - r) (drop r m))) 0
        → P.put_mid r (r + g.B - r) m ys ≡ splice m (pred (new / 2) * g.B) (slot_bytes g m old)
    fresh-zero ys e z = rw (hole-bytes g m old e, ← s.start) (put_zeroed r g.B m ys (omega (arith, h.new_inside, s.end)) z)

    -- bytes put over a part of it
    pub part-stored : (lo : ℕ) (cs m' : List ℕ) → lo + length cs ≤ g.B → m' ≡ splice m (pred (new / 2) * g.B) (slot_bytes g m old)
        → splice m' (r + lo) cs ≡ splice m (pred (new / 2) * g.B) (splice (slot_bytes g m old) lo cs)
    part-stored lo cs m' l e =
        let n : length (slot_bytes g m old) ≡ g.B = slot-long g m old h.old_inside in
        rw (e, ← s.start) (splice-inner m (slot_bytes g m old) cs r lo (omega (arith, h.new_inside, s.end)) (omega (arith, n)))

-- ---- one slot's share of a region: the places from a up to b

module _ (g : Geometry) (m : List ℕ) (old new k off end a b : ℕ) (h : Touched g (length m) old new k off end)
    (ha : a ≡ max off (k * g.B)) (hb : b ≡ min end (k * g.B + g.B)) where
  pub share : (byte : ℕ → ℕ)
      → splice m (pred (new / 2) * g.B) (splice (slot_bytes g m old) (a - k * g.B) (tabulate byte a (b - a))) ≡ store_slot g (within off end) byte old new m k
  unfolding store_slot
  share byte = ap (splice m (pred (new / 2) * g.B)) (sym whole)
    where
      p : ℕ
      p = k * g.B

      bs : List ℕ
      bs = slot_bytes g m old

      long : length bs ≡ g.B
      long = slot-long g m old h.backed.old_inside

      from : p + (a - p) ≡ a
      from = omega arith

      to : a + (b - a) ≡ b
      to = omega (arith, h.ordered, h.after, h.before)

      same : (i : ℕ) → p ≤ i → i < p + length bs → Dec (off ≤ i) → Dec (i < end) → within off end i ≡ within a b i
      same i l u (yes q) (yes v) = inside off end i q v ∙ sym (inside a b i (omega arith) (omega (arith, long)))
      same i l u (no n) v = outside off end i (inl (omega (arith, n))) ∙ sym (outside a b i (inl (omega (arith, n))))
      same i l u (yes q) (no n) = outside off end i (inr (omega (arith, n))) ∙ sym (outside a b i (inr (omega (arith, n))))

      whole : overlay (within off end) byte p bs ≡ splice bs (a - p) (tabulate byte a (b - a))
      whole =
          overlay_ext (within off end) (within a b) byte bs p (λ i l u. same i l u (dec_le off i) (dec_lt i end))
          ∙ rw (from, to) at (overlay-splice byte bs p (a - p) (b - a) (omega (arith, long, h.ordered, h.after, h.before)))

  pub zero-share : splice m (pred (new / 2) * g.B) (splice (slot_bytes g m old) (a - k * g.B) (replicate (b - a) 0)) ≡ store_slot g (within off end) (λ i. 0) old new m k
  zero-share = rw (← tab_zeros (b - a) a) (share (λ i. 0))

pub write-share : (g : Geometry) (m d : List ℕ) (old new k off a b : ℕ) → Touched g (length m) old new k off (off + length d)
    → a ≡ max off (k * g.B) → b ≡ min (off + length d) (k * g.B + g.B)
    → splice m (pred (new / 2) * g.B) (splice (slot_bytes g m old) (a - k * g.B) (take (b - off - (a - off)) (drop (a - off) d)))
    ≡ store_slot g (within off (off + length d)) (λ p. get_or d (p - off) 0) old new m k
write-share g m d old new k off a b h ha hb =
    let n : b - off - (a - off) ≡ b - a = omega arith in
    rw (n, ← write-part d off a (b - a) (omega arith) (omega (arith, h.after, h.before)))
    (share g m old new k off (off + length d) a b h ha hb (λ p. get_or d (p - off) 0))

-- the part of a block that is lent comes back with the share
module _ (g : Geometry) (m : List ℕ) (old new k off end a b r : ℕ) (h : Touched g (length m) old new k off end)
    (ha : a ≡ max off (k * g.B)) (hb : b ≡ min end (k * g.B + g.B)) (s : Starts g new r)
    (m' : List ℕ) (fresh : m' ≡ splice m (pred (new / 2) * g.B) (slot_bytes g m old)) (ys : List ℕ) where
  pub bytes-stored : (cs : List ℕ) → length cs ≡ b - a → ys ≡ cs
      → P.put_mid (r + (a - k * g.B)) (r + (a - k * g.B) + (b - a) - (r + (a - k * g.B))) m' ys
      ≡ splice m (pred (new / 2) * g.B) (splice (slot_bytes g m old) (a - k * g.B) cs)
  bytes-stored cs n e =
      put-splice (r + (a - k * g.B)) (b - a) m' ys cs e n
      ∙ part-stored g m old new h.backed r s (a - k * g.B) cs m' (omega (arith, n, h.ordered, h.after, h.before)) fresh

  pub zeros-stored : ys ≡ replicate (length (take (r + (a - k * g.B) + (b - a) - (r + (a - k * g.B))) (drop (r + (a - k * g.B)) m'))) 0
      → P.put_mid (r + (a - k * g.B)) (r + (a - k * g.B) + (b - a) - (r + (a - k * g.B))) m' ys ≡ store_slot g (within off end) (λ i. 0) old new m k
  zeros-stored z =
      let long : length m' ≡ length m
      = ap length fresh ∙ length-splice m (pred (new / 2) * g.B) (slot_bytes g m old) (omega (arith, slot-long g m old h.backed.old_inside, s.start, s.end, h.backed.new_inside)) in
      put_zeroed (r + (a - k * g.B)) (b - a) m' ys (omega (arith, long, s.end, h.backed.new_inside, h.ordered, h.after, h.before)) z
      ∙ part-stored g m old new h.backed r s (a - k * g.B) (replicate (b - a) 0) m' (rw (length-replicate {A = ℕ} (b - a) 0) (omega (arith, h.ordered, h.after, h.before))) fresh
      ∙ zero-share g m old new k off end a b h ha hb

pub write-stored : (g : Geometry) (m d : List ℕ) (old new k off a b r : ℕ) → (h : Touched g (length m) old new k off (off + length d))
    → a ≡ max off (k * g.B) → b ≡ min (off + length d) (k * g.B + g.B) → Starts g new r
    → (m' : List ℕ) → m' ≡ splice m (pred (new / 2) * g.B) (slot_bytes g m old) → (ys : List ℕ) → ys ≡ take (b - off - (a - off)) (drop (a - off) d)
    → P.put_mid (r + (a - k * g.B)) (r + (a - k * g.B) + (b - a) - (r + (a - k * g.B))) m' ys
    ≡ store_slot g (within off (off + length d)) (λ p. get_or d (p - off) 0) old new m k
write-stored g m d old new k off a b r h ha hb s m' fresh ys e =
    bytes-stored g m old new k off (off + length d) a b r h ha hb s m' fresh ys _
    (length-take (b - off - (a - off)) (drop (a - off) d) ∙ rw (length-drop (a - off) d) (omega (arith, h.after, h.before, h.ordered))) e
    ∙ write-share g m d old new k off a b h ha hb

-- ---- the slots in order

-- a slot of a region, with words that name blocks of the pool
pub slot-touched : (g : Geometry) (len old new k off end : ℕ) → Good g → g.N * g.B ≤ len → off < end → end ≤ g.S * g.B
    → first_slot g off ≤ k → k < first_slot g off + slot_count g off end → old / 2 ≤ g.N → new / 2 ≤ g.N → 1 ≤ new / 2 → Touched g len old new k off end
slot-touched g len old new k off end good room some fits l u op np held =
    let at = slot_bytes_lem g (block-pos good) off end some fits k l u in
    record {
      backed = record {
        block = good.block;
        block_most = good.block_most;
        some = held;
        new_inside = omega (arith, mul-le-mul_right g.B np, room);
        old_inside = omega (arith, mul-le-mul_right g.B op, room);
      };
      ordered = omega arith;
      after = at.0;
      before = at.1;
      small = omega (arith, file-most g good, good.block_most);
    }

-- a loop over slots, i of n done: the steps that are left give the whole run's bytes
pub record Storing (step : List ℕ → ℕ → List ℕ) (n : ℕ) (m₀ m : List ℕ) (i : ℕ) : Type 0 where
  pub within : i ≤ n
  pub same : length m ≡ length m₀
  pub left : each step m i (n - i) ≡ each step m₀ 0 n

module _ (step : List ℕ → ℕ → List ℕ) where
  pub storing_start : (n : ℕ) (m : List ℕ) → Storing step n m m 0
  storing_start n m = record { within = omega arith; same = refl; left = rw (sub-zero n) }

  module _ {n i : ℕ} {m₀ m : List ℕ} (r : Storing step n m₀ m i) where
    pub storing_turn : {m' : List ℕ} → i < n → m' ≡ step m i → length m' ≡ length m → Storing step n m₀ m' (i + 1)
    storing_turn h e s =
        let l : n - i ≡ suc (n - suc i) = omega arith in
        record { within = omega arith; same = s ∙ r.same; left = rw (e, add-one i) (rw l at r.left) }

    pub storing_end : n ≤ i → m ≡ each step m₀ 0 n
    storing_end h =
        let z : n - i ≡ 0 = omega arith in
        rw z at r.left

-- the same steps, counted from another slot on
pub each_from : (step step' : List ℕ → ℕ → List ℕ) (k n i : ℕ) (m : List ℕ) → ((x : List ℕ) (j : ℕ) → j < i + n → step x (k + j) ≡ step' x j)
    → each step m (k + i) n ≡ each step' m i n
each_from step step' k zero i m h = refl
each_from step step' k (suc n) i m h =
    rw (h m i (omega arith), ← add-suc k i) (each_from step step' k n (suc i) (step' m i) (λ x j l. h x j (omega arith)))

-- a file's word, among the n words that start at its slot k
pub word_cut : (ws : List ℕ) (at k n j : ℕ) → j < n → get_or ws (at + (k + j)) 0 ≡ get_or (take n (drop (at + k) ws)) j 0
word_cut ws at k n j h =
    let place : at + k + j ≡ at + (k + j) = omega arith in
    sym (get_or-take n (drop (at + k) ws) j 0 h ∙ get_or-drop (at + k) ws j 0 ∙ ap (λ i. get_or ws i 0) place)
