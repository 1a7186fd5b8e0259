-- Each edit does to the files' contents what its byte-array edit says: the target's bytes and size, and nothing else.
use Prim.Native.Nat.{ℕ, zero, suc, ◌+◌, ◌-◌, ◌*◌, ◌/◌, ◌%◌, ◌≤◌, ◌<◌, min, max}
use mathlib.Core.Path.{◌≡◌, refl, sym, ap, ◌∙◌}
use mathlib.Core.Bool.{cond, ◌&&◌}
use mathlib.Core.List.{List, ◌++◌}
use mathlib.Core.Logic.{◌≢◌, ◌⊎◌, inl, inr}
use native.Mathlib.Nat.{le_refl, le_trans, zero-add, add-zero, add-sub_of_le, add-sub_cancel_left, mul-le-mul_right, mul-add-div_right, div-add-mod'}
use native.Mathlib.Decide.{ℕ_discrete, dec_le, dec_lt}
use native.Mathlib.Omega.{arith}
use borrow.Author.Tests.{lt-ltb, le-ltb, eq-eqb, ne_eqb}
use lib.ListN.{length, get_or, take, drop, replicate, length-append, length-take, length-drop, length-replicate, take-append-drop, get_or-append, get_or-eq_default}
use lib.Seq.{ext_get_or, get_or-append-add, get_or-take, get_or-drop}
use lib.Dec.{leb, ltb, eqb}
use Rattle.xdr.specs.Bytes.{splice}
use Rattle.xdr.proofs.BytesLaws.{length-splice, splice_in, splice-below, splice-above}
use Rattle.rules.specs.Lists.{ceil_div}
use Rattle.rules.specs.Store.{Geometry, Store, size_of, byte_at, content, need}
use Rattle.rules.specs.Edit.{Edit, within, new_byte, edited, allocating, cloning, copying, deallocating}
use Rattle.rules.specs.Claim.{extend, array_write, array_zero}
use Rattle.rules.proofs.SlotByteLaws.{length_tab, get_or_tab}
use Rattle.rules.proofs.SoundStore.{ceil_le, le_ceil, Sound, Edited}
use Rattle.rules.proofs.WriteLaws.{inside, outside, Stores, stored_bytes, stored-edited}
use Rattle.rules.proofs.CopyLaws.{copy_stores}
use Rattle.rules.proofs.AllocateLaws.{allocate-bytes, allocate-edited}
use Rattle.rules.proofs.DeallocateLaws.{size-stays, deallocate_stores}
use Rattle.rules.proofs.CloneLaws.{clone-bytes, clone-edited}
use Rattle.rules.proofs.EditForms.{edited-none}

-- ---- places of a region

-- equal choices at place i: inside the region, and outside it
at_places : (off end i : ℕ) {a b c d : ℕ} → (off ≤ i → i < end → a ≡ b) → c ≡ d → cond (within off end i) a c ≡ cond (within off end i) b d
at_places off end i {a} {b} {c} {d} p q = go (dec_le off i) (dec_lt i end)
  where
    go : Dec (off ≤ i) → Dec (i < end) → cond (within off end i) a c ≡ cond (within off end i) b d
    go (yes l) (yes u) = rw (inside off end i l u) (p l u)
    go (no n) u = rw (outside off end i (inl (omega (arith, n)))) q
    go (yes l) (no n) = rw (outside off end i (inr (omega (arith, n)))) q

-- a region cut at n has the same places below n
within-cut : (off end n i : ℕ) → i < n → within off (min end n) i ≡ within off end i
within-cut off end n i h = ap (λ t. leb off i && t) (go (dec_lt i end))
  where
    go : Dec (i < end) → ltb i (min end n) ≡ ltb i end
    go (yes u) = lt-ltb i (min end n) (omega arith) ∙ sym (lt-ltb i end u)
    go (no d) = le-ltb i (min end n) (omega (arith, d)) ∙ sym (le-ltb i end (omega (arith, d)))

-- a region in two parts, of which the second is zero
two-parts : (off mid end i a c : ℕ) → off ≤ mid → mid ≤ end → (mid ≤ i → i < end → a ≡ 0)
    → cond (within off end i) a c ≡ cond (within mid end i) 0 (cond (within off mid i) a c)
two-parts off mid end i a c l m z = go (dec_le off i) (dec_lt i mid) (dec_lt i end)
  where
    go : Dec (off ≤ i) → Dec (i < mid) → Dec (i < end) → cond (within off end i) a c ≡ cond (within mid end i) 0 (cond (within off mid i) a c)
    go (no d) u v = rw (outside off end i (inl (omega (arith, d))), outside mid end i (inl (omega (arith, d))), outside off mid i (inl (omega (arith, d))))
    go (yes p) (yes u) v = rw (inside off end i p (omega arith), outside mid end i (inl u), inside off mid i p u)
    go (yes p) (no d) (yes v) = rw (inside off end i p v, inside mid end i (omega (arith, d)) v) (z (omega (arith, d)) v)
    go (yes p) (no d) (no e) = rw (outside off end i (inr (omega (arith, e))), outside mid end i (inr (omega (arith, e))), outside off mid i (inr (omega (arith, d))))

-- ---- arrays: length and bytes after each edit

zeros : (n i : ℕ) → ◌≡◌ {A = ℕ} (get_or (replicate n 0) i 0) 0
zeros zero i = refl
zeros (suc n) zero = refl
zeros (suc n) (suc i) = zeros n i

length-extend : (xs : List ℕ) (n : ℕ) → length (extend xs n) ≡ max (length xs) n
unfolding extend
length-extend xs n = simp (length-append, length-replicate) (omega arith)

get_or-extend : (xs : List ℕ) (n i : ℕ) → get_or (extend xs n) i 0 ≡ get_or xs i 0
unfolding extend
get_or-extend xs n i = go (dec_lt i (length xs))
  where
    zs : List ℕ
    zs = replicate (n - length xs) 0

    go : Dec (i < length xs) → get_or (xs ++ zs) i 0 ≡ get_or xs i 0
    go (yes h) = get_or-append xs zs 0 i h
    go (no d) =
        let l : length xs ≤ i = omega (arith, d) in
        ap (λ k. get_or (xs ++ zs) k 0) (sym (add-sub_of_le l)) ∙ get_or-append-add xs zs (i - length xs) 0
        ∙ zeros (n - length xs) (i - length xs) ∙ sym (get_or-eq_default xs 0 l)

get_or-splice : (m : List ℕ) (at : ℕ) (bs : List ℕ) (i : ℕ) → at ≤ length m
    → get_or (splice m at bs) i 0 ≡ cond (within at (at + length bs) i) (get_or bs (i - at) 0) (get_or m i 0)
get_or-splice m at bs i h = go (dec_le at i) (dec_lt i (at + length bs))
  where
    go : Dec (at ≤ i) → Dec (i < at + length bs) → get_or (splice m at bs) i 0 ≡ cond (within at (at + length bs) i) (get_or bs (i - at) 0) (get_or m i 0)
    go (yes l) (yes u) =
        rw (inside at (at + length bs) i l u)
        (ap (λ k. get_or (splice m at bs) k 0) (sym (add-sub_of_le l)) ∙ splice_in m at bs (i - at) h (omega arith))
    go (no d) u = rw (outside at (at + length bs) i (inl (omega (arith, d)))) (splice-below m at bs i h (omega (arith, d)))
    go (yes l) (no d) = rw (outside at (at + length bs) i (inr (omega (arith, d)))) (splice-above m at bs i h (omega (arith, d)))

module _ (xs : List ℕ) (off : ℕ) (d : List ℕ) (some : 0 < length d) where
  write-some : array_write xs off d ≡ splice (extend xs (off + length d)) off d
  unfolding array_write
  write-some = rw (ne_eqb (length d) 0 (λ (e : length d ≡ 0). omega arith))

  length-write : length (array_write xs off d) ≡ max (length xs) (off + length d)
  length-write =
      let e = length-extend xs (off + length d) in
      ap length write-some ∙ length-splice (extend xs (off + length d)) off d (omega (arith, e)) ∙ e

  get_or-write : (i : ℕ) → get_or (array_write xs off d) i 0 ≡ cond (within off (off + length d) i) (get_or d (i - off) 0) (get_or xs i 0)
  get_or-write i =
      ap (λ ys. get_or ys i 0) write-some
      ∙ get_or-splice (extend xs (off + length d)) off d i (omega (arith, length-extend xs (off + length d)))
      ∙ ap (cond (within off (off + length d) i) (get_or d (i - off) 0)) (get_or-extend xs (off + length d) i)

module _ (xs : List ℕ) (off n : ℕ) where
  zero-none : min n (length xs - off) ≡ 0 → array_zero xs off n ≡ xs
  unfolding array_zero splice
  zero-none e = rw (e, add-zero off) (take-append-drop off xs)

  module _ (h : off ≤ length xs) where
    length-zero : length (array_zero xs off n) ≡ length xs
    unfolding array_zero
    length-zero = length-splice xs off _ (rw length-replicate (omega arith))

    get_or-zero : (i : ℕ) → i < length xs → get_or (array_zero xs off n) i 0 ≡ cond (within off (off + n) i) 0 (get_or xs i 0)
    unfolding array_zero
    get_or-zero i l =
        let k : ℕ = min n (length xs - off) in
        let e : off + k ≡ min (off + n) (length xs) = omega arith in
        get_or-splice xs off (replicate k 0) i h
        ∙ rw (length-replicate, zeros k (i - off), e, within-cut off (off + n) (length xs) i l)

-- ---- contents

pub length-content : (g : Geometry) (st : Store) (f : ℕ) → length (content g st f) ≡ size_of st f
length-content g st f = length_tab (byte_at g st f) (size_of st f) 0

content-at : (g : Geometry) (st : Store) (f i : ℕ) → i < size_of st f → get_or (content g st f) i 0 ≡ byte_at g st f i
content-at g st f i h = get_or_tab (byte_at g st f) (size_of st f) 0 i h ∙ ap (byte_at g st f) (zero-add i)

-- a content by its length and its bytes
content-is : (g : Geometry) (st : Store) (f : ℕ) (ys : List ℕ) → length ys ≡ size_of st f → ((i : ℕ) → i < size_of st f → byte_at g st f i ≡ get_or ys i 0) → content g st f ≡ ys
content-is g st f ys e b = ext_get_or 0 _ _ (length-content g st f ∙ sym e) (λ i h. at_i i (rw (length-content g st f) at h))
  where
    at_i : (i : ℕ) → i < size_of st f → get_or (content g st f) i 0 ≡ get_or ys i 0
    at_i i h = content-at g st f i h ∙ b i h

-- file f's array is edited, and every other file keeps its own
abbrev pub EditsArray : Geometry → Store → Store → ℕ → (List ℕ → List ℕ) → Type 0
EditsArray g st st' f edit = (e : ℕ) → e < g.F → content g st' e ≡ cond (eqb e f) (edit (content g st e)) (content g st e)

-- an edit that changes nothing
pub unedited : (g : Geometry) (st : Store) (f : ℕ) (edit : List ℕ → List ℕ) → edit (content g st f) ≡ content g st f → EditsArray g st st f edit
unedited g st f edit q e he = go (ℕ_discrete e f)
  where
    go : Dec (e ≡ f) → content g st e ≡ cond (eqb e f) (edit (content g st e)) (content g st e)
    go (yes p) = rw (eq-eqb e f p, p) (sym q)
    go (no d) = rw (ne_eqb e f d)

module _ (g : Geometry) (st : Store) (snd : Sound g st) where
  -- past the size too: both are zero there
  get_or-content : (f i : ℕ) → f < g.F → i < g.S * g.B → get_or (content g st f) i 0 ≡ byte_at g st f i
  get_or-content f i hf h = go (dec_lt i (size_of st f))
    where
      go : Dec (i < size_of st f) → get_or (content g st f) i 0 ≡ byte_at g st f i
      go (yes l) = content-at g st f i l
      go (no d) =
          let l : size_of st f ≤ i = omega (arith, d) in
          get_or-eq_default (content g st f) 0 (rw (length-content g st f) l) ∙ sym (snd.tail f i hf l h)

  -- an edit of file f that leaves it the size s: from its bytes, place by place, to its array
  edited-array : (st' : Store) (f s : ℕ) (edit : List ℕ → List ℕ) → Edited g st st' f s → s ≤ g.S * g.B → length (edit (content g st f)) ≡ s
      → ((i : ℕ) → i < s → i < g.S * g.B → byte_at g st' f i ≡ get_or (edit (content g st f)) i 0) → EditsArray g st st' f edit
  edited-array st' f s edit ed fits len b e he = go (ℕ_discrete e f)
    where
      go : Dec (e ≡ f) → content g st' e ≡ cond (eqb e f) (edit (content g st e)) (content g st e)
      go (yes p) = rw (eq-eqb e f p, p) (content-is g st' f _ (len ∙ sym ed.size) (λ i h. b i (rw ed.size at h) (omega (arith, ed.size))))
      go (no d) = rw (ne_eqb e f d) (content-is g st' e _ (length-content g st e ∙ sym (ed.size_other e d)) same)
        where
          same : (i : ℕ) → i < size_of st' e → byte_at g st' e i ≡ get_or (content g st e) i 0
          same i h =
              let u : i < g.S * g.B = omega (arith, snd.fits e he, ed.size_other e d) in
              ed.byte_other e i he d u ∙ sym (get_or-content e i he u)

-- whole slots before c bytes move the end of the last slot by just their bytes
ceil-after : {b : ℕ} → 0 < b → (a c : ℕ) → a % b ≡ 0 → ceil_div (a + c) b * b ≡ a + ceil_div c b * b
ceil-after {b} pos a c e =
    let w : a / b * b ≡ a = omega (arith, div-add-mod' a b) in
    let p : a + c + (b - 1) ≡ a / b * b + (c + (b - 1)) = omega (arith, w) in
    rw (p, mul-add-div_right {m = b} pos (a / b) (c + (b - 1))) (omega (arith, w))

-- ---- the edits of file f

-- a copy of n bytes, then zeros to the end of its last slot of B bytes
unfoldable pub array_clone : ℕ → List ℕ → List ℕ → ℕ → ℕ → ℕ → List ℕ
array_clone B src xs soff off n =
    cond (eqb n 0) xs (array_zero (array_write xs off (take n (drop soff src))) (off + n) (ceil_div (off + n) B * B - (off + n)))

-- an edit that stores the bytes d: WRITE and COPY
pub stored-content : (g : Geometry) → 0 < g.B → (st : Store) → Sound g st → (e : Edit) → Stores g st e → e.file < g.F → (d : List ℕ) → length d ≡ e.end - e.off
    → ((j : ℕ) → j < length d → new_byte g st e (e.off + j) ≡ get_or d j 0) → (e.off < e.end → e.end ≤ g.S * g.B) → need (edited g st e).words ≤ g.N
    → EditsArray g st (edited g st e) e.file (λ xs. array_write xs e.off d)
unfolding array_write
stored-content g pos st snd e s hf d len same fits room = go (dec_lt e.off e.end)
  where
    old : List ℕ
    old = content g st e.file

    go : Dec (e.off < e.end) → EditsArray g st (edited g st e) e.file (λ xs. array_write xs e.off d)
    go (no z) =
        rw (edited-none g st e (omega (arith, z)))
        (unedited g st e.file (λ xs. array_write xs e.off d) (rw (eq-eqb (length d) 0 (omega (arith, z, len)))))
    go (yes l) =
        let big : e.end ≤ g.S * g.B = fits l in
        let end : e.off + length d ≡ e.end = omega (arith, len) in
        edited-array g st snd _ e.file _ (λ xs. array_write xs e.off d) (stored-edited g pos st snd e s hf l big room)
        (omega (arith, big, snd.fits e.file hf)) (length-write old e.off d (omega (arith, len)) ∙ rw (length-content g st e.file, end))
        (λ i h u. stored_bytes g pos st snd e s hf l big room i u
        ∙ at_places e.off e.end i (λ a b. ap (new_byte g st e) (sym (add-sub_of_le a)) ∙ same (i - e.off) (omega (arith, len))) (sym (get_or-content g st snd e.file i hf u))
        ∙ sym (get_or-write old e.off d (omega (arith, len)) i ∙ rw end))

module _ (g : Geometry) (pos : 0 < g.B) (st : Store) (snd : Sound g st) (f : ℕ) (hf : f < g.F) where
  old : List ℕ
  old = content g st f

  pub allocate-content : (off n : ℕ) → 0 < n → off + n ≤ g.S * g.B → EditsArray g st (edited g st (allocating f off (off + n))) f (λ xs. extend xs (off + n))
  unfolding old
  allocate-content off n l big =
      edited-array g st snd _ f _ (λ xs. extend xs (off + n)) (allocate-edited g pos st snd f off (off + n) hf (omega arith) big)
      (omega (arith, snd.fits f hf)) (length-extend old (off + n) ∙ rw (length-content g st f))
      (λ i h u. allocate-bytes g pos st snd f off (off + n) hf (omega arith) big f i ∙ sym (get_or-extend old (off + n) i ∙ get_or-content g st snd f i hf u))

  pub deallocate-content : (off end : ℕ) → end ≤ size_of st f → need (edited g st (deallocating f off end)).words ≤ g.N
      → EditsArray g st (edited g st (deallocating f off end)) f (λ xs. array_zero xs off (end - off))
  unfolding old
  deallocate-content off end cut room = go (dec_lt off end)
    where
      len : length old ≡ size_of st f
      len = length-content g st f

      go : Dec (off < end) → EditsArray g st (edited g st (deallocating f off end)) f (λ xs. array_zero xs off (end - off))
      go (no z) = rw (edited-none g st (deallocating f off end) (omega (arith, z))) (unedited g st f (λ xs. array_zero xs off (end - off)) (zero-none old off (end - off) (omega (arith, z))))
      go (yes l) =
          let stores = deallocate_stores g st f off end cut in
          let big : end ≤ g.S * g.B = le_trans cut (snd.fits f hf) in
          let all : off + (end - off) ≡ end = omega arith in
          edited-array g st snd _ f _ (λ xs. array_zero xs off (end - off)) (stored-edited g pos st snd (deallocating f off end) stores hf l big room)
          (omega (arith, cut, snd.fits f hf)) (length-zero old off (end - off) (omega (arith, len)) ∙ len ∙ sym (size-stays g st f off end cut))
          (λ i h u. stored_bytes g pos st snd (deallocating f off end) stores hf l big room i u
          ∙ rw (← get_or-content g st snd f i hf u) (sym (get_or-zero old off (end - off) (omega (arith, len)) i (omega (arith, len, cut)) ∙ rw all)))

  -- n bytes from soff on of a source file s
  module _ (s soff n : ℕ) (hs : s < g.F) (source : soff + n ≤ size_of st s) where
    src : List ℕ
    src = content g st s

    source-length : length (take n (drop soff src)) ≡ n
    unfolding src
    source-length = simp (length-take, length-drop, length-content) (omega arith)

    source_byte : (j : ℕ) → j < n → get_or (take n (drop soff src)) j 0 ≡ byte_at g st s (soff + j)
    unfolding src
    source_byte j h =
        get_or-take n (drop soff src) j 0 h ∙ get_or-drop soff src j 0 ∙ get_or-content g st snd s (soff + j) hs (omega (arith, snd.fits s hs))

    pub copy-content : (off : ℕ) → (0 < n → off + n ≤ g.S * g.B) → need (edited g st (copying f off (off + n) s soff)).words ≤ g.N
        → EditsArray g st (edited g st (copying f off (off + n) s soff)) f (λ xs. array_write xs off (take n (drop soff (content g st s))))
    unfolding src
    copy-content off fits room =
        stored-content g pos st snd (copying f off (off + n) s soff) (copy_stores g pos st f off (off + n) s soff) hf (take n (drop soff src))
        (source-length ∙ sym (add-sub_cancel_left off n)) (λ j h. rw (add-sub_cancel_left off j) (sym (source_byte j (rw source-length at h)))) (λ l. fits (omega arith)) room

    module _ (off : ℕ) (se : soff % g.B ≡ 0) (de : off % g.B ≡ 0) (even : (n % g.B ≡ 0) ⊎ (soff + n ≡ size_of st s))
        (clear : (s ≢ f) ⊎ ((soff + n ≤ off) ⊎ (off + n ≤ soff))) (fits : 0 < n → off + n ≤ g.S * g.B) where
      -- past an uneven end, to the end of the slot, the source is zero
      source-tail : (i : ℕ) → off + n ≤ i → i < off + ceil_div n g.B * g.B → byte_at g st s (soff + (i - off)) ≡ 0
      source-tail i l u = go even
        where
          end : soff + ceil_div n g.B * g.B ≤ g.S * g.B
          end = rw (ceil-after pos soff n se) at (mul-le-mul_right g.B (ceil_le pos (soff + n) g.S (le_trans source (snd.fits s hs))))

          go : (n % g.B ≡ 0) ⊎ (soff + n ≡ size_of st s) → byte_at g st s (soff + (i - off)) ≡ 0
          go (inl z) = absurd (omega (arith, whole, mul-le-mul_right g.B (ceil_le pos n (n / g.B) (omega (arith, whole)))))
            where
              whole : n / g.B * g.B ≡ n
              whole = omega (arith, div-add-mod' n g.B)
          go (inr e) = snd.tail s (soff + (i - off)) hs (omega arith) (omega (arith, end))

      pub clone-content : EditsArray g st (edited g st (cloning f off (off + n) s soff)) f (λ xs. array_clone g.B (content g st s) xs soff off n)
      unfolding array_clone old src
      clone-content = go (dec_lt 0 n)
        where
          edit : List ℕ → List ℕ
          edit xs = array_clone g.B src xs soff off n

          -- the copy, and how many bytes are left to the end of its last slot
          ys : List ℕ
          ys = array_write old off (take n (drop soff src))

          rest : ℕ
          rest = ceil_div (off + n) g.B * g.B - (off + n)

          end : off + n + rest ≡ off + ceil_div n g.B * g.B
          end = omega (arith, ceil-after pos off n de, le_ceil pos n (ceil_div n g.B) (le_refl _))

          go : Dec (0 < n) → EditsArray g st (edited g st (cloning f off (off + n) s soff)) f edit
          go (no z) = rw (edited-none g st (cloning f off (off + n) s soff) (omega (arith, z))) (unedited g st f edit (rw (eq-eqb n 0 (omega (arith, z)))))
          go (yes l) =
              edited-array g st snd _ f _ edit (clone-edited g pos st snd s f soff off n hs hf se de l source (fits l) even clear)
              (omega (arith, fits l, snd.fits f hf)) (ap length is ∙ length-zero ys (off + n) rest (omega (arith, len)) ∙ len)
              (λ i h u. clone-bytes g pos st snd s f soff off n hs hf se de l source (fits l) even clear i
              ∙ two-parts off (off + n) (off + ceil_div n g.B * g.B) i _ _ (omega arith) (omega (arith, end)) (source-tail i)
              ∙ sym (ap (λ zs. get_or zs i 0) is ∙ get_or-zero ys (off + n) rest (omega (arith, len)) i (omega (arith, len))
              ∙ rw end (ap (cond (within (off + n) (off + ceil_div n g.B * g.B) i) 0) (copied i u))))
            where
              is : edit old ≡ array_zero ys (off + n) rest
              is = rw (ne_eqb n 0 (λ (e : n ≡ 0). omega arith))

              len : length ys ≡ max (size_of st f) (off + n)
              len = length-write old off (take n (drop soff src)) (omega (arith, source-length)) ∙ rw (length-content g st f, source-length)

              copied : (i : ℕ) → i < g.S * g.B → get_or ys i 0 ≡ cond (within off (off + n) i) (byte_at g st s (soff + (i - off))) (byte_at g st f i)
              copied i u =
                  get_or-write old off (take n (drop soff src)) (omega (arith, source-length)) i
                  ∙ rw source-length (at_places off (off + n) i (λ a b. source_byte (i - off) (omega arith)) (get_or-content g st snd f i hf u))
