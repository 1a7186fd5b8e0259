-- What a layout writes, it reads back; stated once for a record of any fields.
use Prim.Native.Nat.{ℕ, ◌+◌, ◌^◌, ◌≤◌, ◌<◌}
use mathlib.Core.Path.{◌≡◌, sym, ap, ◌∙◌}
use mathlib.Core.Bool.{true, false, ◌&&◌}
use mathlib.Core.List.{List, [], ◌∷◌}
use native.Mathlib.Nat.{add_assoc, add-zero}
use borrow.Author.Tests.{eqb-true, leb-true, ltb-true}
use lib.ListN.{length, length-append}
use lib.Dec.{leb}
use Rattle.xdr.specs.Encode.{u32, u64, concat_map}
use Rattle.xdr.specs.Decode.{got, times}
use Rattle.xdr.specs.Layout.{Layout, every, is_word, uint, hyper, up_to_limit, boolean, bytes, opaque_data, ◌then◌}
use Rattle.xdr.proofs.BoolLaws.{and_left, and_right}
use Rattle.xdr.proofs.EncodeLaws.{length-u32, length-u64, length-bool, length-opaque}
use Rattle.xdr.proofs.RoundTrip.{Stands, stands-first, stands-rest, number-back, bounded-back, bool-back, fixed_back, opaque-back}

-- the values that it has are read back where they stand
abbrev pub ReadsBack : {A : Type 0} → Layout A → Type 0
ReadsBack {A} l = (a : A) → l.fits a ≡ true → (s : List ℕ) (at : ℕ) → Stands s at (l.write a) → l.read s at ≡ got a (at + length (l.write a))

pub uint-back : ReadsBack uint
unfolding u32
uint-back n h s at w = number-back 4 n s at w (ltb-true n (2 ^ 32) h) ∙ ap (λ (k : ℕ). got n (at + k)) (sym (length-u32 n))

pub hyper-back : ReadsBack hyper
unfolding u64
hyper-back n h s at w = number-back 8 n s at w (ltb-true n (2 ^ 64) h) ∙ ap (λ (k : ℕ). got n (at + k)) (sym (length-u64 n))

-- at most `limit`, and a number of 32 bits
pub at_most : (n limit : ℕ) → leb n limit && is_word n ≡ true → n ≤ limit
at_most n limit h = leb-true n limit (and_left (leb n limit) (is_word n) h)

pub is_word_lem : (n limit : ℕ) → leb n limit && is_word n ≡ true → n < 2 ^ 32
is_word_lem n limit h = ltb-true n (2 ^ 32) (and_right (leb n limit) (is_word n) h)

pub limit_back : (limit : ℕ) → ReadsBack (up_to_limit limit)
limit_back limit n h s at w = bounded-back limit n s at w (is_word_lem n limit h) (at_most n limit h) ∙ ap (λ (k : ℕ). got n (at + k)) (sym (length-u32 n))

pub boolean-back : ReadsBack boolean
boolean-back true h s at w = rw (bool-back true s at w) (ap (λ (k : ℕ). got true (at + k)) (sym (length-bool true)))
boolean-back false h s at w = rw (bool-back false s at w) (ap (λ (k : ℕ). got false (at + k)) (sym (length-bool false)))

pub bytes_back : (n : ℕ) → ReadsBack (bytes n)
bytes_back n d h s at w = rw (← eqb-true (length d) n h) (fixed_back d s at w)

pub opaque_data_back : (limit : ℕ) → ReadsBack (opaque_data limit)
opaque_data_back limit d h s at w =
    opaque-back limit d s at w (at_most (length d) limit h) (is_word_lem (length d) limit h) ∙ ap (λ (k : ℕ). got d (at + k)) (sym (length-opaque d))

pub then-back : {A B : Type 0} (a : Layout A) (b : Layout B) → ReadsBack a → ReadsBack b → ReadsBack (a then b)
then-back {A} {B} a b f g x h s at w =
    rw (
      f x.0 (and_left (a.fits x.0) (b.fits x.1) h) s at (stands-first (a.write x.0) (b.write x.1) w),
      g x.1 (and_right (a.fits x.0) (b.fits x.1) h) s (at + length (a.write x.0)) (stands-rest (a.write x.0) (b.write x.1) w),
      length-append (a.write x.0) (b.write x.1),
      add_assoc at (length (a.write x.0)) (length (b.write x.1)),
    )

-- values of one layout, one after the other
pub times-back : {A : Type 0} (l : Layout A) → ReadsBack l → (xs : List A) → every l.fits xs ≡ true → (s : List ℕ) (at : ℕ) → Stands s at (concat_map l.write xs)
    → times (length xs) l.read s at ≡ got xs (at + length (concat_map l.write xs))
unfolding times
times-back l back [] h s at w = ap (got []) (sym (add-zero at))
times-back l back (x ∷ xs) h s at w =
    rw (
      back x (and_left (l.fits x) (every l.fits xs) h) s at (stands-first (l.write x) (concat_map l.write xs) w),
      times-back l back xs (and_right (l.fits x) (every l.fits xs) h) s (at + length (l.write x)) (stands-rest (l.write x) (concat_map l.write xs) w),
      length-append (l.write x) (concat_map l.write xs),
      add_assoc at (length (l.write x)) (length (concat_map l.write xs)),
    )
