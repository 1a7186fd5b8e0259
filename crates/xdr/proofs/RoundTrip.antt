-- What a writer wrote, the reader of the same type reads back: the value, and the place after it.
use Prim.Native.Nat.{ℕ, zero, suc, ◌+◌, ◌^◌, ◌≤◌, ◌<◌}
use mathlib.Core.Path.{◌≡◌, refl, sym, ap, ◌∙◌}
use mathlib.Core.Bool.{Bool, true, false, cond}
use mathlib.Core.List.{List, [], ◌∷◌, ◌++◌, append_assoc}
use native.Mathlib.Nat.{add-zero, mod-eq_of_lt}
use native.Mathlib.Numerals.{sub-one}
use native.Mathlib.Omega.{arith}
use lib.ListN.{length, get_or, take, drop, replicate, length-append, length-drop, length-replicate}
use lib.Seq.{take-append_seam, drop-append_seam, drop_at, drop-drop, length-take-le}
use Rattle.xdr.specs.Bytes.{part_of, splice}
use Rattle.xdr.specs.Encode.{be, u32, bool, pad_bytes, opaque_size, opaque}
use Rattle.xdr.specs.Decode.{got, fixed, value, number, up_to, padded, opaque_at, opaque_up_to}
use Rattle.xdr.proofs.EncodeLaws.{length-be, value-be}
use Rattle.xdr.proofs.BytesLaws.{length-splice}
use Rattle.xdr.proofs.DecodeLaws.{there, number-there, bound_in, opaque-pad, pad-end, pad-on, byte-drop}

-- the bytes bs stand in s at a place
pub record Stands (s : List ℕ) (at : ℕ) (bs : List ℕ) : Type 0 where
  pub rest : List ℕ
  pub inside : at ≤ length s
  pub there : drop at s ≡ bs ++ rest

pub stands-within : {s : List ℕ} {at : ℕ} {bs : List ℕ} → Stands s at bs → at + length bs ≤ length s
stands-within {s} {at} {bs} h = omega (arith, h.inside, length-drop at s, ap length h.there, length-append bs h.rest)

pub stands-first : {s : List ℕ} {at : ℕ} (a b : List ℕ) → Stands s at (a ++ b) → Stands s at a
stands-first a b h = record { rest = b ++ h.rest; inside = h.inside; there = h.there ∙ append_assoc a b h.rest }

pub stands-rest : {s : List ℕ} {at : ℕ} (a b : List ℕ) → Stands s at (a ++ b) → Stands s (at + length a) b
stands-rest {s} {at} a b h =
    let w : at + length (a ++ b) ≤ length s = stands-within h in
    record {
      rest = h.rest;
      inside = omega (arith, w, length-append a b);
      there = sym (drop-drop (length a) at s) ∙ ap (drop (length a)) (h.there ∙ append_assoc a b h.rest) ∙ drop-append_seam a (b ++ h.rest);
    }

-- what a writer left stands at its place
pub splice-stands : (m : List ℕ) (at : ℕ) (bs : List ℕ) → at + length bs ≤ length m → Stands (splice m at bs) at bs
unfolding splice
splice-stands m at bs h = record {
  rest = drop (at + length bs) m;
  inside = rw (length-splice m at bs h) (omega arith);
  there = drop_at (take at m) (bs ++ drop (at + length bs) m) at (length-take-le at m (omega arith));
}

-- ---- each pair of a writer and a reader

pub number-back : (k v : ℕ) (s : List ℕ) (at : ℕ) → Stands s at (be k v) → v < 256 ^ k → number k s at ≡ got v (at + k)
number-back k v s at h small =
    let w : at + k ≤ length s = omega (arith, stands-within h, length-be k v) in
    let bytes : take k (drop at s) ≡ be k v
    = ap (take k) h.there ∙ ap (λ (n : ℕ). take n (be k v ++ h.rest)) (sym (length-be k v)) ∙ take-append_seam (be k v) h.rest in
    number-there k s at w ∙ ap (λ (l : List ℕ). got (value l) (at + k)) bytes ∙ ap (λ (n : ℕ). got n (at + k)) (value-be k v ∙ mod-eq_of_lt small)

pub bounded-back : (limit v : ℕ) (s : List ℕ) (at : ℕ) → Stands s at (u32 v) → v < 2 ^ 32 → v ≤ limit → up_to limit s at ≡ got v (at + 4)
unfolding u32
bounded-back limit v s at h small low = bound_in limit s at v (at + 4) (number-back 4 v s at h small) low

pub bool-back : (b : Bool) (s : List ℕ) (at : ℕ) → Stands s at (bool b) → up_to 1 s at ≡ got (cond b 1 0) (at + 4)
unfolding bool
bool-back true s at h = bounded-back 1 1 s at h (omega arith) (omega arith)
bool-back false s at h = bounded-back 1 0 s at h (omega arith) (omega arith)

pub fixed_back : (d : List ℕ) (s : List ℕ) (at : ℕ) → Stands s at d → fixed (length d) s at ≡ got d (at + length d)
unfolding fixed part_of
fixed_back d s at h =
    rw (there (length d) s at (stands-within h)) (ap (λ (l : List ℕ). got l (at + length d)) (ap (take (length d)) h.there ∙ take-append_seam d h.rest))

pad-back : {A : Type 0} (a : A) (n : ℕ) (s : List ℕ) (at : ℕ) → Stands s at (replicate n 0) → padded n a s at ≡ got a (at + n)
pad-back a zero s at h = pad-end a s at zero refl ∙ ap (got a) (sym (add-zero at))
pad-back a (suc n) s at h =
    let w : at + suc n ≤ length s = rw (length-replicate {A = ℕ} (suc n) 0) at (stands-within h) in
    let zero-here : get_or s at 0 ≡ 0 = sym (byte-drop s at) ∙ ap (λ (l : List ℕ). get_or l 0 0) h.there in
    let next : Stands s (at + 1) (replicate n 0) = stands-rest (0 ∷ []) (replicate n 0) h in
    pad-on a s at (suc n) (omega arith) (omega arith) zero-here ∙ rw (sub-one (suc n)) (pad-back a n s (at + 1) next ∙ ap (got a) (omega arith))

-- opaque data: as a span, and as bytes
pub opaque_at_back : (limit : ℕ) (d s : List ℕ) (at : ℕ) → Stands s at (opaque d) → length d ≤ limit → length d < 2 ^ 32
    → opaque_at limit s at ≡ got (record { start = at + 4; len = length d }) (at + opaque_size (length d))
unfolding opaque u32 be
opaque_at_back limit d s at h low small =
    let n = length d in
    let body : List ℕ = d ++ replicate (pad_bytes n) 0 in
    let behind : Stands s (at + 4) body = stands-rest (u32 n) body h in
    let pad : Stands s (at + 4 + n) (replicate (pad_bytes n) 0) = stands-rest d (replicate (pad_bytes n) 0) behind in
    opaque-pad limit s at n (at + 4) (record { start = at + 4; len = n }) (at + 4 + n)
    (bounded-back limit n s at (stands-first (u32 n) body h) small low)
    (there n s (at + 4) (stands-within (stands-first d (replicate (pad_bytes n) 0) behind)))
    ∙ pad-back (record { start = at + 4; len = n }) (pad_bytes n) s (at + 4 + n) pad
    ∙ ap (got (record { start = at + 4; len = n })) (omega arith)

pub opaque-back : (limit : ℕ) (d s : List ℕ) (at : ℕ) → Stands s at (opaque d) → length d ≤ limit → length d < 2 ^ 32
    → opaque_up_to limit s at ≡ got d (at + opaque_size (length d))
unfolding opaque_up_to opaque u32 part_of be
opaque-back limit d s at h low small =
    let n = length d in
    let body : List ℕ = d ++ replicate (pad_bytes n) 0 in
    let data_stands : Stands s (at + 4) d = stands-first d (replicate (pad_bytes n) 0) (stands-rest (u32 n) body h) in
    rw (opaque_at_back limit d s at h low small)
    (ap (λ (l : List ℕ). got l (at + opaque_size n)) (ap (take n) data_stands.there ∙ take-append_seam d data_stands.rest))
