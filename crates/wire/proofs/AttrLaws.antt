-- Attributes that are selected by a test, one after the other: their values as bytes, and how long these are.
use Prim.Native.Nat.{ℕ, zero, suc, ◌+◌, ◌/◌, ◌%◌, ◌^◌}
use mathlib.Core.Path.{◌≡◌, refl, ap}
use mathlib.Core.Bool.{Bool, true, false, cond}
use mathlib.Core.List.{List, [], ◌∷◌, ◌++◌, append-nil}
use native.Mathlib.Nat.{div-one}
use native.Mathlib.Omega.{arith}
use lib.ListN.{length, length-append}
use Rattle.xdr.specs.Encode.{be, u32, u64, array, opaque, pad_bytes, concat_map}
use Rattle.std.specs.Int.{bytes_high_first}
use Rattle.xdr.proofs.EncodeLaws.{length-u32, length-u64, length-array}
use Rattle.rules.specs.Attributes.{Attr, SUPPORTED_ATTRS, SIZE, SPACE_USED, CLONE_BLKSIZE, SPACE_FREED, supported, select, bitmap, FileAttrs, attr_value}

cond-fours : (t : Bool) (n : ℕ) → n % 4 ≡ 0 → cond t n 0 % 4 ≡ 0
cond-fours true n h = h
cond-fours false n h = refl

fours-sum : (n m : ℕ) → n % 4 ≡ 0 → m % 4 ≡ 0 → (n + m) % 4 ≡ 0
fours-sum n m h k = omega arith

cond-length : (t : Bool) (l : List ℕ) {n : ℕ} → length l ≡ n → length (cond t l []) ≡ cond t n 0
cond-length true l h = h
cond-length false l h = refl

-- the first of the attributes, and the others
module _ (p : Attr → Bool) (x : Attr) (xs : List Attr) where
  values_first : (f : Attr → List ℕ) → concat_map f (select p (x ∷ xs)) ≡ cond (p x) (f x) [] ++ concat_map f (select p xs)
  values_first f = go (p x)
    where
      go : (t : Bool) → concat_map f (cond t (x ∷ select p xs) (select p xs)) ≡ cond t (f x) [] ++ concat_map f (select p xs)
      go true = refl
      go false = refl

-- ---- all that we have

module _ (p : Attr → Bool) where
  pub values_all : (f : Attr → List ℕ) → concat_map f (select p supported)
      ≡ cond (p SUPPORTED_ATTRS) (f SUPPORTED_ATTRS) [] ++ (cond (p SIZE) (f SIZE) [] ++ (cond (p SPACE_USED) (f SPACE_USED) []
      ++ (cond (p CLONE_BLKSIZE) (f CLONE_BLKSIZE) [] ++ cond (p SPACE_FREED) (f SPACE_FREED) [])))
  values_all f = rw (
    values_first p SUPPORTED_ATTRS (SIZE ∷ SPACE_USED ∷ CLONE_BLKSIZE ∷ SPACE_FREED ∷ []) f,
    values_first p SIZE (SPACE_USED ∷ CLONE_BLKSIZE ∷ SPACE_FREED ∷ []) f,
    values_first p SPACE_USED (CLONE_BLKSIZE ∷ SPACE_FREED ∷ []) f,
    values_first p CLONE_BLKSIZE (SPACE_FREED ∷ []) f,
    values_first p SPACE_FREED [] f,
    append-nil (cond (p SPACE_FREED) (f SPACE_FREED) []),
  )

  -- how long they are
  values_length : (v : FileAttrs) → length (concat_map (attr_value v) (select p supported))
      ≡ cond (p SUPPORTED_ATTRS) 16 0 + (cond (p SIZE) 8 0 + (cond (p SPACE_USED) 8 0 + (cond (p CLONE_BLKSIZE) 4 0 + cond (p SPACE_FREED) 8 0)))
  values_length v = rw (values_all (attr_value v)) (simp length-append (rw (
    cond-length (p SUPPORTED_ATTRS) (attr_value v SUPPORTED_ATTRS) (length-array (bitmap supported)),
    cond-length (p SIZE) (attr_value v SIZE) (length-u64 v.size),
    cond-length (p SPACE_USED) (attr_value v SPACE_USED) (length-u64 v.space_used),
    cond-length (p CLONE_BLKSIZE) (attr_value v CLONE_BLKSIZE) (length-u32 v.clone_blksize),
    cond-length (p SPACE_FREED) (attr_value v SPACE_FREED) (length-u64 v.space_freed),
  )))

  values_fours : (v : FileAttrs) → length (concat_map (attr_value v) (select p supported)) % 4 ≡ 0
  values_fours v =
      rw (values_length v)
      (fours-sum _ _ (cond-fours (p SUPPORTED_ATTRS) 16 refl)
      (fours-sum _ _ (cond-fours (p SIZE) 8 refl)
      (fours-sum _ _ (cond-fours (p SPACE_USED) 8 refl) (fours-sum _ _ (cond-fours (p CLONE_BLKSIZE) 4 refl) (cond-fours (p SPACE_FREED) 8 refl)))))

  -- the values need no pad
  pub values_opaque : (v : FileAttrs) → opaque (concat_map (attr_value v) (select p supported))
      ≡ u32 (length (concat_map (attr_value v) (select p supported))) ++ concat_map (attr_value v) (select p supported)
  unfolding opaque
  values_opaque v =
      let d = concat_map (attr_value v) (select p supported) in
      let none : pad_bytes (length d) ≡ 0 = omega (arith, values_fours v) in
      rw (none, append-nil d)

-- ---- room

pub supported_size : length (array (bitmap supported)) ≡ 16
supported_size = length-array (bitmap supported)

-- ---- the bytes of a number, as std spells them

spelled : (k n : ℕ) → bytes_high_first k n ≡ be k n
unfolding be
spelled zero n = refl
spelled (suc zero) n = rw (div-one n)
spelled (suc (suc k)) n = ap (λ (l : List ℕ). (n / 256 ^ suc k % 256) ∷ l) (spelled (suc k) n)

pub spelled_u32 : (n : ℕ) → bytes_high_first 4 n ≡ u32 n
unfolding u32
spelled_u32 n = spelled 4 n

pub spelled_u64 : (n : ℕ) → bytes_high_first 8 n ≡ u64 n
unfolding u64
spelled_u64 n = spelled 8 n
