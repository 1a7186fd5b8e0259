-- What holds of a value that was read: the bytes asked for, the bound of a number, the bound of opaque data.
use Prim.Native.Nat.{ℕ, zero, suc, ◌+◌, ◌≤◌, max}
use mathlib.Core.Path.{◌≡◌, refl}
use mathlib.Core.Bool.{Bool, true, false, cond}
use mathlib.Core.List.{List}
use native.Mathlib.Nat.{le_trans, le_of_eq}
use native.Mathlib.Omega.{arith}
use borrow.Author.Tests.{leb-true}
use lib.ListN.{length, get_or, take, drop, length-drop}
use lib.Seq.{length-take-le}
use lib.Dec.{leb, ltb, eqb}
use Rattle.xdr.specs.Encode.{pad_bytes}
use Rattle.xdr.specs.Decode.{Parsed, got, fault, and_then, fixed, number, up_to, padded, opaque_up_to}
use Rattle.xdr.specs.Layout.{Layout, ◌then◌}
use Rattle.xdr.proofs.DecodeLaws.{fixed-is, opaque-reads}

-- a value that is read has property P
abbrev pub Reads : {A : Type 0} → (A → Type 0) → Parsed A → Type 0
Reads P (got a next) = P a
Reads P (fault p) = Unit {0}

pub fixed-length : (n : ℕ) (s : List ℕ) (at : ℕ) → Reads (λ d. length d ≡ n) (fixed n s at)
fixed-length n s at = rw (fixed-is n s at) (go (leb (at + n) (length s)) refl)
  where
    go : (t : Bool) → leb (at + n) (length s) ≡ t → Reads (λ d. length d ≡ n) (cond t (got (take n (drop at s)) (at + n)) (fault (max at (length s))))
    go true e = length-take-le n (drop at s) (rw (length-drop at s) (omega (arith, leb-true (at + n) (length s) e)))
    go false e = tt

pub bounded : (limit : ℕ) (s : List ℕ) (at : ℕ) → Reads (λ n. n ≤ limit) (up_to limit s at)
unfolding up_to
bounded limit s at = go (number 4 s at)
  where
    choose : (n next : ℕ) (t : Bool) → leb n limit ≡ t → Reads (λ n. n ≤ limit) (cond t (got n next) (fault at))
    choose n next true e = leb-true n limit e
    choose n next false e = tt

    go : (t : Parsed ℕ) → Reads (λ n. n ≤ limit) (and_then t (λ n next. cond (leb n limit) (got n next) (fault at)))
    go (got n next) = choose n next (leb n limit) refl
    go (fault p) = tt

padded-reads : {A : Type 0} (P : A → Type 0) (a : A) → P a → (n : ℕ) (s : List ℕ) (at : ℕ) → Reads P (padded n a s at)
unfolding padded
padded-reads P a h zero s at = h
padded-reads P a h (suc n) s at = choose (ltb at (length s)) (eqb (get_or s at 0) 0) (padded-reads P a h n s (at + 1))
  where
    choose : (t u : Bool) → Reads P (padded n a s (at + 1)) → Reads P (cond t (cond u (padded n a s (at + 1)) (fault at)) (fault at))
    choose true true h = h
    choose true false h = tt
    choose false u h = tt

pub opaque-bounded : (limit : ℕ) (s : List ℕ) (at : ℕ) → Reads (λ d. length d ≤ limit) (opaque_up_to limit s at)
opaque-bounded limit s at = rw (opaque-reads limit s at) (go (up_to limit s at) (bounded limit s at))
  where
    bytes_of : (n : ℕ) → n ≤ limit → (t : Parsed (List ℕ)) → Reads (λ d. length d ≡ n) t → Reads (λ d. length d ≤ limit) (and_then t (λ d q. padded (pad_bytes n) d s q))
    bytes_of n h (got d q) e = padded-reads (λ d. length d ≤ limit) d (le_trans (le_of_eq e) h) (pad_bytes n) s q
    bytes_of n h (fault q) e = tt

    go : (t : Parsed ℕ) → Reads (λ n. n ≤ limit) t → Reads (λ d. length d ≤ limit) (and_then t (λ n m. and_then (fixed n s m) (λ d q. padded (pad_bytes n) d s q)))
    go (got n m) h = bytes_of n h (fixed n s m) (fixed-length n s m)
    go (fault q) h = tt

-- the first field of a record
pub then-reads : {A B : Type 0} (a : Layout A) (b : Layout B) (P : A → Type 0) (s : List ℕ) (at : ℕ) → Reads P (a.read s at) → Reads (λ x. P x.0) ((a then b).read s at)
then-reads {A} {B} a b P s at h = go (a.read s at) h
  where
    second : (x : A) → P x → (t : Parsed B) → Reads {A = A × B} (λ x. P x.0) (and_then t (λ y n. got (x, y) n))
    second x p (got y n) = p
    second x p (fault q) = tt

    go : (t : Parsed A) → Reads P t → Reads {A = A × B} (λ x. P x.0) (and_then t (λ x m. and_then (b.read s m) (λ y n. got (x, y) n)))
    go (got x m) p = second x p (b.read s m)
    go (fault q) p = tt
