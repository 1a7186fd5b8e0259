-- Laws on readers: when bytes are there, and when they are missing.
use Prim.Native.Nat.{ℕ, zero, suc, ◌+◌, ◌-◌, ◌*◌, ◌≤◌, ◌<◌, max}
use mathlib.Core.Path.{◌≡◌, refl, ap, ◌∙◌}
use mathlib.Core.Bool.{Bool, true, false, cond}
use mathlib.Core.List.{List}
use native.Mathlib.Nat.{add-zero, lt_irrefl}
use native.Mathlib.Numerals.{sub-one}
use lib.ListN.{length, get_or, take, drop}
use lib.Seq.{get_or-drop}
use lib.Dec.{leb, ltb, eqb}
use borrow.Author.Tests.{le-leb, lt-leb, lt-ltb, eq-eqb}
use Rattle.xdr.specs.declared.bytes.Span.{Span}
use Rattle.xdr.specs.Bytes.{part_of}
use Rattle.xdr.specs.Encode.{pad_bytes}
use Rattle.xdr.specs.Decode.{Parsed, got, fault, and_then, fixed_at, fixed, value, number, up_to, padded, opaque_at, opaque_up_to, numbers, array_at, array_up_to}

-- ---- n bytes: there, or missing from place p on

pub there : (n : ℕ) (s : List ℕ) (at : ℕ) → at + n ≤ length s → fixed_at n s at ≡ got (record { start = at; len = n }) (at + n)
unfolding fixed_at
there n s at h = rw (le-leb (at + n) (length s) h)

pub missing : (n : ℕ) (s : List ℕ) (at : ℕ) → length s < at + n → fixed_at n s at ≡ fault (max at (length s))
unfolding fixed_at
missing n s at h = rw (lt-leb (at + n) (length s) h)

-- the bytes themselves
pub fixed-is : (n : ℕ) (s : List ℕ) (at : ℕ) → fixed n s at ≡ cond (leb (at + n) (length s)) (got (take n (drop at s)) (at + n)) (fault (max at (length s)))
unfolding fixed fixed_at part_of
fixed-is n s at = go (leb (at + n) (length s))
  where
    go : (t : Bool)
        → and_then (cond t (got (record { start = at; len = n }) (at + n)) (fault (max at (length s)))) (λ d next. got (part_of s d) next)
        ≡ cond t (got (take n (drop at s)) (at + n)) (fault (max at (length s)))
    go true = refl
    go false = refl

pub byte-drop : (s : List ℕ) (at : ℕ) → get_or (drop at s) 0 0 ≡ get_or s at 0
byte-drop s at = get_or-drop at s 0 0 ∙ ap (λ (n : ℕ). get_or s n 0) (add-zero at)

-- ---- numbers

pub number-there : (k : ℕ) (s : List ℕ) (at : ℕ) → at + k ≤ length s → number k s at ≡ got (value (take k (drop at s))) (at + k)
unfolding number fixed part_of
number-there k s at h = rw (there k s at h)

pub number-missing : (k : ℕ) (s : List ℕ) (at p : ℕ) → fixed_at k s at ≡ fault p → number k s at ≡ fault p
unfolding number fixed
number-missing k s at p e = rw e

-- ---- a number with a bound

pub bound_in : (limit : ℕ) (s : List ℕ) (at n m : ℕ) → number 4 s at ≡ got n m → n ≤ limit → up_to limit s at ≡ got n m
unfolding up_to
bound_in limit s at n m e h = rw (e, le-leb n limit h)

-- ---- opaque data

pub opaque-pad : (limit : ℕ) (s : List ℕ) (at n m : ℕ) (d : Span) (q : ℕ) → up_to limit s at ≡ got n m → fixed_at n s m ≡ got d q
    → opaque_at limit s at ≡ padded (pad_bytes n) d s q
unfolding opaque_at
opaque-pad limit s at n m d q e f = rw (e, f)

-- ---- the pad

pub pad-end : {A : Type 0} (a : A) (s : List ℕ) (at n : ℕ) → n ≡ 0 → padded n a s at ≡ got a at
unfolding padded
pad-end a s at n e = rw e

pub pad-on : {A : Type 0} (a : A) (s : List ℕ) (at n : ℕ) → 0 < n → at < length s → get_or s at 0 ≡ 0 → padded n a s at ≡ padded (n - 1) a s (at + 1)
unfolding padded
pad-on a s at (suc n) k h e = rw (lt-ltb at (length s) h, eq-eqb (get_or s at 0) 0 e, sub-one (suc n))
pad-on a s at zero k h e = absurd (lt_irrefl 0 k)

-- one byte of it
pub padded_step : {A : Type 0} (n : ℕ) (a : A) (s : List ℕ) (at : ℕ) → 0 < n
    → padded n a s at ≡ cond (ltb at (length s)) (cond (eqb (get_or s at 0) 0) (padded (n - 1) a s (at + 1)) (fault at)) (fault at)
unfolding padded
padded_step (suc n) a s at h = rw (sub-one (suc n)) refl
padded_step zero a s at h = absurd (lt_irrefl 0 h)

pub pad-map : {A B : Type 0} (f : A → B) (a : A) (n : ℕ) (s : List ℕ) (at : ℕ) → and_then (padded n a s at) (λ x m. got (f x) m) ≡ padded n (f a) s at
unfolding padded
pad-map f a zero s at = refl
pad-map {A} {B} f a (suc n) s at = go (ltb at (length s)) (eqb (get_or s at 0) 0) (pad-map f a n s (at + 1))
  where
    go : (t u : Bool) → and_then (padded n a s (at + 1)) (λ x m. got (f x) m) ≡ padded n (f a) s (at + 1)
        → and_then (cond t (cond u (padded n a s (at + 1)) (fault at)) (fault at)) (λ x m. got (f x) m) ≡ cond t (cond u (padded n (f a) s (at + 1)) (fault at)) (fault at)
    go true true ih = ih
    go true false ih = refl
    go false u ih = refl

-- opaque data as bytes: a length, so many bytes, and the pad
pub opaque-reads : (limit : ℕ) (s : List ℕ) (at : ℕ)
    → opaque_up_to limit s at ≡ and_then (up_to limit s at) (λ n m. and_then (fixed n s m) (λ d q. padded (pad_bytes n) d s q))
unfolding opaque_up_to opaque_at fixed
opaque-reads limit s at = by_length (up_to limit s at)
  where
    by_bytes : (n : ℕ) (p : Parsed Span)
        → and_then (and_then p (λ d q. padded (pad_bytes n) d s q)) (λ d q. got (part_of s d) q)
        ≡ and_then (and_then p (λ d q. got (part_of s d) q)) (λ d q. padded (pad_bytes n) d s q)
    by_bytes n (got d q) = pad-map (part_of s) d (pad_bytes n) s q
    by_bytes n (fault q) = refl

    by_length : (p : Parsed ℕ)
        → and_then (and_then p (λ n m. and_then (fixed_at n s m) (λ d q. padded (pad_bytes n) d s q))) (λ d q. got (part_of s d) q)
        ≡ and_then p (λ n m. and_then (and_then (fixed_at n s m) (λ d q. got (part_of s d) q)) (λ d q. padded (pad_bytes n) d s q))
    by_length (got n m) = by_bytes n (fixed_at n s m)
    by_length (fault q) = refl

-- ---- arrays of numbers

pub array-numbers : (limit : ℕ) (s : List ℕ) (at n m : ℕ) → up_to limit s at ≡ got n m → array_at limit s at ≡ fixed_at (4 * n) s m
unfolding array_at
array-numbers limit s at n m e = rw e

-- as numbers: a length, and the bytes of so many
pub array-reads : (limit : ℕ) (s : List ℕ) (at : ℕ)
    → array_up_to limit s at ≡ and_then (up_to limit s at) (λ n m. and_then (fixed (4 * n) s m) (λ bs q. got (numbers bs) q))
unfolding array_up_to array_at fixed
array-reads limit s at = go (up_to limit s at)
  where
    go : (p : Parsed ℕ)
        → and_then (and_then (and_then p (λ n m. fixed_at (4 * n) s m)) (λ d q. got (part_of s d) q)) (λ bs q. got (numbers bs) q)
        ≡ and_then p (λ n m. and_then (and_then (fixed_at (4 * n) s m) (λ d q. got (part_of s d) q)) (λ bs q. got (numbers bs) q))
    go (got n m) = refl
    go (fault q) = refl
