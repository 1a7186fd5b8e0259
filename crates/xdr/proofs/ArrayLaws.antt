-- Laws on arrays of numbers: written one number after the other, read as bytes in fours.
use Prim.Native.Nat.{ℕ, zero, suc, ◌+◌, ◌*◌, ◌/◌, ◌^◌, ◌≤◌, ◌<◌}
use mathlib.Core.Path.{◌≡◌, refl, sym, ap, ◌∙◌}
use mathlib.Core.Bool.{true, ◌&&◌}
use mathlib.Core.List.{List, [], ◌∷◌, ◌++◌, append_assoc, append-nil}
use native.Mathlib.Nat.{mod-eq_of_lt}
use native.Mathlib.Numerals.{add-one}
use native.Mathlib.Decide.{dec_le}
use native.Mathlib.Omega.{arith}
use borrow.Author.Tests.{ltb-true}
use lib.ListN.{length, get_or, take, drop, get_or-eq_default}
use lib.Dec.{leb}
use lib.Seq.{take-suc, take_at, drop_at, drop-drop}
use Rattle.xdr.specs.Bytes.{part_of}
use Rattle.xdr.specs.Writing.{Wrote}
use Rattle.xdr.specs.declared.writer.Writer.{Writer}
use Rattle.xdr.specs.Encode.{u32, concat_map, array}
use Rattle.xdr.specs.Decode.{Parsed, got, fault, value, number, fours, numbers, array_at, array_up_to}
use Rattle.xdr.specs.Layout.{every, is_word, uints}
use Rattle.xdr.proofs.BoolLaws.{and_left, and_right}
use Rattle.xdr.proofs.EncodeLaws.{length-u32, value-be, numbers-length, length-array}
use Rattle.xdr.proofs.WritingLaws.{wrote_then}
use Rattle.xdr.proofs.DecodeLaws.{there, missing, number-there, number-missing, array-numbers}
use Rattle.xdr.proofs.RoundTrip.{Stands, stands-first, stands-rest, stands-within, bounded-back}
use Rattle.xdr.proofs.LayoutLaws.{ReadsBack, at_most, is_word_lem}

-- ---- written

pub concat_map_append : {A : Type 0} (f : A → List ℕ) (xs ys : List A) → concat_map f (xs ++ ys) ≡ concat_map f xs ++ concat_map f ys
concat_map_append f [] ys = refl
concat_map_append f (x ∷ xs) ys = ap (λ (l : List ℕ). f x ++ l) (concat_map_append f xs ys) ∙ sym (append_assoc (f x) (concat_map f xs) (concat_map f ys))

-- one more of the numbers
pub wrote_numbers : (ns : List ℕ) (i : ℕ) {x y z : Writer} → i < length ns → Wrote (concat_map u32 (take i ns)) x y → Wrote (u32 (get_or ns i 0)) y z
    → Wrote (concat_map u32 (take (i + 1) ns)) x z
wrote_numbers ns i h f g =
    let one : concat_map u32 (take (i + 1) ns) ≡ concat_map u32 (take i ns) ++ u32 (get_or ns i 0)
    = rw (add-one i, take-suc ns i 0 h, concat_map_append u32 (take i ns) (get_or ns i 0 ∷ [])) (rw append-nil) in
    rw one (wrote_then f g)

-- ---- read

fours-length : (n : ℕ) (bs : List ℕ) → length (fours n bs) ≡ n
fours-length zero bs = refl
fours-length (suc n) bs = ap suc (fours-length n (drop 4 bs))

fours-at : (n i : ℕ) (bs : List ℕ) → i < n → get_or (fours n bs) i 0 ≡ value (take 4 (drop (4 * i) bs))
fours-at zero i bs h = absurd (omega arith)
fours-at (suc n) zero bs h = refl
fours-at (suc n) (suc i) bs h =
    let e : 4 + 4 * i ≡ 4 * suc i = omega arith in
    fours-at n i (drop 4 bs) (omega arith) ∙ ap (λ (l : List ℕ). value (take 4 l)) (drop-drop (4 * i) 4 bs ∙ ap (λ (k : ℕ). drop k bs) e)

-- what is read, or 0
abbrev pub or_zero : Parsed ℕ → ℕ
or_zero (got n next) = n
or_zero (fault p) = 0

-- number i of the bytes; behind their end it is 0
pub numbers-at : (bs : List ℕ) (i : ℕ) → or_zero (number 4 bs (4 * i)) ≡ get_or (numbers bs) i 0
numbers-at bs i = go (dec_le (4 * i + 4) (length bs))
  where
    go : Dec (4 * i + 4 ≤ length bs) → or_zero (number 4 bs (4 * i)) ≡ get_or (numbers bs) i 0
    go (yes h) = rw (number-there 4 bs (4 * i) h) (sym (fours-at (length bs / 4) i bs (omega arith)))
    go (no d) =
        rw (number-missing 4 bs (4 * i) _ (missing 4 bs (4 * i) (omega (arith, d))))
        (sym (get_or-eq_default (numbers bs) 0 {n = i} (omega (arith, d, fours-length (length bs / 4) bs))))

-- numbers that were written are read back
u32-value : (n : ℕ) → n < 2 ^ 32 → value (u32 n) ≡ n
unfolding u32
u32-value n h = value-be 4 n ∙ mod-eq_of_lt h

fours-back : (ns : List ℕ) → ((i : ℕ) → get_or ns i 0 < 2 ^ 32) → fours (length ns) (concat_map u32 ns) ≡ ns
fours-back [] h = refl
fours-back (n ∷ ns) h =
    rw (
      take_at (u32 n) (concat_map u32 ns) 4 (length-u32 n),
      drop_at (u32 n) (concat_map u32 ns) 4 (length-u32 n),
      fours-back ns (λ i. h (suc i)),
      u32-value n (h 0),
    )

numbers-back : (ns : List ℕ) → ((i : ℕ) → get_or ns i 0 < 2 ^ 32) → numbers (concat_map u32 ns) ≡ ns
numbers-back ns h =
    let k : length (concat_map u32 ns) / 4 ≡ length ns = omega (arith, numbers-length ns) in
    ap (λ (n : ℕ). fours n (concat_map u32 ns)) k ∙ fours-back ns h

-- each of them is a number of 32 bits
every-word : (ns : List ℕ) → every is_word ns ≡ true → (i : ℕ) → get_or ns i 0 < 2 ^ 32
every-word [] h i = omega arith
every-word (n ∷ ns) h zero = ltb-true n (2 ^ 32) (and_left (is_word n) (every is_word ns) h)
every-word (n ∷ ns) h (suc i) = every-word ns (and_right (is_word n) (every is_word ns) h) i

pub uints-back : (limit : ℕ) → ReadsBack (uints limit)
unfolding array array_up_to part_of
uints-back limit ns h s at w =
    let n = length ns in
    let sized = and_left (leb n limit && is_word n) (every is_word ns) h in
    let body = concat_map u32 ns in
    let behind : Stands s (at + 4) body = rw (length-u32 n) at (stands-rest (u32 n) body w) in
    let size : at + 4 + 4 * n ≤ length s = omega (arith, stands-within behind, numbers-length ns) in
    let found : array_at limit s at ≡ got (record { start = at + 4; len = 4 * n }) (at + 4 + 4 * n)
    = array-numbers limit s at n (at + 4) (bounded-back limit n s at (stands-first (u32 n) body w) (is_word_lem n limit sized) (at_most n limit sized)) ∙ there (4 * n) s (at + 4) size in
    let bytes : take (4 * n) (drop (at + 4) s) ≡ body = ap (take (4 * n)) behind.there ∙ take_at body behind.rest (4 * n) (numbers-length ns) in
    let end : at + 4 + 4 * n ≡ at + length (array ns) = omega (arith, length-array ns) in
    rw (found, bytes, numbers-back ns (every-word ns (and_right (leb n limit && is_word n) (every is_word ns) h))) (ap (got ns) end)
