-- For the code that reads bytes: the index of a place's word, the bytes of a slot, and parts that are lent to be read into.
use Prim.Native.Nat.{ℕ, ◌+◌, ◌*◌, ◌/◌, ◌%◌, ◌≤◌, ◌<◌, ◌-◌}
use mathlib.Core.Path.{◌≡◌, sym, ap, ◌∙◌}
use mathlib.Core.Bool.{true}
use mathlib.Core.List.{List, ◌++◌, append_assoc}
use mathlib.Core.Logic.{◌≢◌}
use native.Mathlib.Nat.{div-add-mod', add_assoc}
use native.Mathlib.Numerals.{sub-one}
use native.Mathlib.Omega.{arith}
use borrow.Author.Tests.{eq-eqb, ne_eqb}
use borrow.Rule.Slice.PartMut as P
use lib.ListN.{length, get_or, take, drop, replicate, length-append, length-take, length-drop}
use lib.Seq.{ext_get_or, get_or-take, get_or-drop, length-take-le, take_at}
use Rattle.rules.specs.Lists.{tabulate}
use Rattle.rules.specs.Store.{Geometry, Store, word_of, byte_at, bytes_from}
use Rattle.rules.specs.Read.{is_hole_at}
use Rattle.store.specs.Readable.{Placed, Readable, InSlot}
use Rattle.rules.proofs.GeometryLaws.{good, block-pos}
use Rattle.rules.proofs.SlotByteLaws.{length_tab, get_or_tab, in_memory}
use Rattle.rules.proofs.ReadLaws.{tab_append, same-slot, laid-slot}

-- ---- a place's word

pub placed-pos : {g : Geometry} {ws : List ℕ} {f end : ℕ} → Placed g ws f end → 0 < g.B
placed-pos {g} h = block-pos (good g h.geometry)

pub readable-pos : {g : Geometry} {ws m : List ℕ} {f end : ℕ} → Readable g ws m f end → 0 < g.B
readable-pos {g} h = block-pos (good g h.geometry)

-- a readable file has its words
pub placed : {g : Geometry} {ws m : List ℕ} {f end : ℕ} → Readable g ws m f end → (i : ℕ) → i ≤ end → Placed g ws f i
placed h i l = record { geometry = h.geometry; slots = h.slots; file = h.file; fits = omega (arith, h.fits) }

-- and so have the places before its end
pub readable-to : {g : Geometry} {ws m : List ℕ} {f end : ℕ} → Readable g ws m f end → (e : ℕ) → e ≤ end → Readable g ws m f e
readable-to h e l = record { geometry = h.geometry; slots = h.slots; bytes = h.bytes; pool = h.pool; file = h.file; fits = omega (arith, h.fits) }

-- ---- the bytes of a slot

-- where the byte of place i stands in the memory, in the block of word w
abbrev pub block_place : Geometry → ℕ → ℕ → ℕ
block_place g w i = (w / 2 - 1) * g.B + i % g.B

-- n places from i on in the slot with word w: in a block they lie in the memory
pub block_inside : (g : Geometry) (ws m : List ℕ) (f i n w : ℕ) → Readable g ws m f (i + n) → InSlot g.B i n → w ≡ word_of g ws f (i / g.B) → w / 2 ≢ 0
    → block_place g w i + n ≤ length m
block_inside g ws m f i n w h one is d = omega (
  arith,
  one.ends,
  div-add-mod' i g.B,
  in_memory g m h.bytes (w / 2 - 1) (omega (arith, d, is, h.pool (f * g.S + i / g.B))),
)

module _ (g : Geometry) (st : Store) (f i n w : ℕ) (h : Readable g st.words st.mem f (i + n)) (one : InSlot g.B i n) (is : w ≡ word_of g st.words f (i / g.B)) where
  pub read-hole : w / 2 ≡ 0 → replicate n 0 ≡ bytes_from g st f i n
  read-hole z =
      let t : is_hole_at g st f i ≡ true = rw (← is) (eq-eqb (w / 2) 0 z) in
      rw t at (laid-slot g (readable-pos h) st f i n one.ends)

  block-byte : w / 2 ≢ 0 → (j : ℕ) → j < n → byte_at g st f (i + j) ≡ get_or st.mem (block_place g w i + j) 0
  unfolding byte_at
  block-byte d j l =
      let e : (i + j) / g.B ≡ i / g.B = same-slot (readable-pos h) i (i + j) (omega arith) (omega (arith, one.ends)) in
      let r : (i + j) % g.B ≡ i % g.B + j = omega (arith, e, div-add-mod' i g.B, div-add-mod' (i + j) g.B, ap (λ k. k * g.B) e) in
      rw (e, r, ← is, ne_eqb (w / 2) 0 d, ← sub-one (w / 2), ← add_assoc ((w / 2 - 1) * g.B) (i % g.B) j)

  pub read-block : w / 2 ≢ 0 → take n (drop (block_place g w i) st.mem) ≡ bytes_from g st f i n
  read-block d = ext_get_or 0 _ _ (length-take n (drop start st.mem) ∙ rw (length-drop start st.mem) (omega (arith, inside) ∙ sym (length_tab _ n i))) at_j
    where
      start : ℕ
      start = block_place g w i

      inside : start + n ≤ length st.mem
      inside = block_inside g st.words st.mem f i n w h one is d

      at_j : (j : ℕ) → j < length (take n (drop start st.mem)) → get_or (take n (drop start st.mem)) j 0 ≡ get_or (bytes_from g st f i n) j 0
      at_j j u =
          let l : j < n = omega (arith, length-take n (drop start st.mem)) in
          get_or-take n (drop start st.mem) j 0 l ∙ get_or-drop start st.mem j 0 ∙ sym (block-byte d j l) ∙ sym (get_or_tab _ n i j l)

-- ---- parts that are lent to be read into

pub part_length : (at n : ℕ) (xs : List ℕ) → at + n ≤ length xs → length (P.mid_of at (at + n - at) xs) ≡ n
part_length at n xs h = P.mid_len at (at + n) xs h ∙ omega arith

-- a lent part that comes back with the next n values
pub read-on : (v : ℕ → ℕ) (xs ys : List ℕ) (off at n : ℕ) → at + n ≤ length xs → take at xs ≡ tabulate v off at
    → ys ≡ tabulate v (off + at) (length (P.mid_of at (at + n - at) xs)) → take (at + n) (P.put_mid at (at + n - at) xs ys) ≡ tabulate v off (at + n)
read-on v xs ys off at n h e d =
    let ys_are : ys ≡ tabulate v (off + at) n = d ∙ ap (tabulate v (off + at)) (part_length at n xs h) in
    let len : length (take at xs ++ ys) ≡ at + n = omega (arith, length-append (take at xs) ys, length-take-le at xs (omega arith), ap length ys_are, length_tab v n (off + at)) in
    ap (take (at + n)) (sym (append_assoc (take at xs) ys (P.post_of at (at + n - at) xs))) ∙ take_at (take at xs ++ ys) (P.post_of at (at + n - at) xs) (at + n) len
    ∙ rw (e, ys_are) (sym (tab_append v at n off))
