-- Laws on pieces and bodies that are read.
use Prim.Native.Nat.{ℕ, suc, ◌+◌, ◌-◌, ◌<◌}
use mathlib.Core.Path.{◌≡◌, refl, sym}
use mathlib.Core.Bool.{Bool, true, false, cond}
use mathlib.Core.List.{List, ◌∷◌}
use native.Mathlib.Omega.{arith}
use lib.Dec.{leb, eqb}
use Rattle.xdr.specs.Decode.{Parsed, got, fault, and_then, Reader, number, up_to, times}
use Rattle.xdr.specs.Layout.{Layout, uint, hyper, opaque_data, any_length, ◌then◌}
use Rattle.rules.specs.Operation.{reading}
use Rattle.rules.specs.Client.{Content, data_at, hole_at, piece_layout}
use Rattle.client.specs.Read.{end_of, contents_of}

-- ---- a piece

-- a number with a bound is a number
bounded-got : (limit : ℕ) (s : List ℕ) (at : ℕ) {n m : ℕ} → up_to limit s at ≡ got n m → number 4 s at ≡ got n m
unfolding up_to
bounded-got limit s at {n} {m} e = go (number 4 s at) e
  where
    within : (k q : ℕ) (t : Bool) → cond t (got k q) (fault at) ≡ got n m → got k q ≡ got n m
    within k q true e = e
    within k q false e = cc

    go : (t : Parsed ℕ) → and_then t (λ k q. cond (leb k limit) (got k q) (fault at)) ≡ got n m → t ≡ got n m
    go (got k q) e = within k q (leb k limit) e
    go (fault p) e = e

-- behind the first field a value is made of the rest
made_of_rest : {A B C : Type 0} (a : Layout A) (b : Layout B) (f : A × B → C) {s : List ℕ} {at : ℕ} {x : A} {m : ℕ} → a.read s at ≡ got x m
    → reading b (λ y. f (x, y)) s m ≡ reading (a then b) f s at
made_of_rest {A} {B} {C} a b f {s} {at} {x} {m} e = rw e (go (b.read s m))
  where
    go : (t : Parsed B) → and_then t (λ y n. got (f (x, y)) n) ≡ and_then (and_then t (λ y n. got (x, y) n)) (λ z n. got (f z) n)
    go (got y n) = refl
    go (fault p) = refl

-- what is read behind the content type
abbrev pub piece_behind : List ℕ → ℕ → ℕ → Parsed Content
piece_behind s kind m = cond (eqb kind 0)
    (reading (hyper then opaque_data any_length) (λ a. data_at a.0 a.1) s m)
    (reading (hyper then hyper) (λ a. hole_at a.0 a.1) s m)

pub piece_by : (s : List ℕ) (at : ℕ) → piece_layout.read s at ≡ and_then (up_to 1 s at) (λ kind m. piece_behind s kind m)
piece_by s at = go (up_to 1 s at) refl
  where
    go : (t : Parsed ℕ) → up_to 1 s at ≡ t → and_then t (λ kind m. cond (eqb kind 0)
        (reading (uint then hyper then opaque_data any_length) (λ a. data_at a.1.0 a.1.1) s at)
        (reading (uint then hyper then hyper) (λ a. hole_at a.1.0 a.1.1) s at)) ≡ and_then t (λ kind m. piece_behind s kind m)
    go (fault p) e = refl
    go (got kind m) e =
        rw (
          sym (made_of_rest uint (hyper then opaque_data any_length) (λ a. data_at a.1.0 a.1.1) (bounded-got 1 s at e)),
          sym (made_of_rest uint (hyper then hyper) (λ a. hole_at a.1.0 a.1.1) (bounded-got 1 s at e)),
        )

-- ---- where n values end

-- of n values the i-th and those behind it
pub end_step : {A : Type 0} (r : Reader A) (n i : ℕ) (s : List ℕ) (at : ℕ) → i < n
    → end_of (times (n - i) r s at) ≡ and_then (end_of (r s at)) (λ u m. end_of (times (n - (i + 1)) r s m))
unfolding times
end_step {A} r n i s at h = let left : n - i ≡ suc (n - (i + 1)) = omega arith in rw left (go (r s at))
  where
    rest : (a : A) (t : Parsed (List A)) → end_of (and_then t (λ xs end. got (a ∷ xs) end)) ≡ end_of t
    rest a (got xs end) = refl
    rest a (fault p) = refl

    go : (t : Parsed A) → end_of (and_then t (λ a m. and_then (times (n - (i + 1)) r s m) (λ xs end. got (a ∷ xs) end)))
        ≡ and_then (end_of t) (λ u m. end_of (times (n - (i + 1)) r s m))
    go (got a m) = rest a (times (n - (i + 1)) r s m)
    go (fault p) = refl

-- pieces, from where they end
pub from_end : (t : Parsed (List Content)) (u : Unit {0}) (m : ℕ) → got u m ≡ end_of t → t ≡ got (contents_of t) m
from_end (got ps next) u m e = cc
from_end (fault p) u m e = cc

pub from_fault : (t : Parsed (List Content)) (p : ℕ) → fault p ≡ end_of t → t ≡ fault p
from_fault (got ps next) p e = cc
from_fault (fault q) p e = cc
