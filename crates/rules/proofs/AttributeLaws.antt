-- The bitmap of a result has no trailing zero word; how long it and the values are.
use Prim.Native.Nat.{ℕ, zero, suc, ◌/◌, ◌%◌, ◌^◌, ◌≤◌, ◌<◌}
use mathlib.Core.Path.{◌≡◌, refl, sym, ◌∙◌}
use mathlib.Core.Bool.{Bool, true, false, cond}
use mathlib.Core.List.{List, [], ◌∷◌}
use native.Mathlib.Nat.{zero-add, one-le-pow}
use native.Mathlib.Decide.{dec_le}
use native.Mathlib.Omega.{arith}
use borrow.Author.Tests.{eq-eqb, lt-ltb}
use lib.ListN.{length, get_or, length-append}
use lib.Dec.{eqb}
use Rattle.xdr.specs.Encode.{concat_map, array}
use Rattle.xdr.specs.Layout.{every, is_word}
use Rattle.xdr.proofs.BoolLaws.{and_both}
use Rattle.xdr.proofs.EncodeLaws.{length-u32, length-u64, length-array}
use Rattle.rules.specs.Lists.{tabulate}
use Rattle.rules.specs.Attributes.{Attr, attr_number, supported, select, bitmap_word, bitmap_length, bitmap, FileAttrs, attr_value}
use Rattle.rules.proofs.SlotByteLaws.{length_tab, get_or_tab}

-- an attribute's word has its bit
word_has : (x : Attr) (xs : List Attr) → 1 ≤ bitmap_word (x ∷ xs) (attr_number x / 32)
word_has x xs = rw (eq-eqb (attr_number x / 32) (attr_number x / 32) refl) (omega (arith, one-le-pow (attr_number x % 32) 2 (omega arith)))

word_more : (x : Attr) (xs : List Attr) (i : ℕ) → bitmap_word xs i ≤ bitmap_word (x ∷ xs) i
word_more x xs i = omega arith

-- the last word's bit is that of the highest attribute
last_word : (xs : List Attr) (n : ℕ) → bitmap_length xs ≡ suc n → 1 ≤ bitmap_word xs n
last_word [] n e = absurd (omega arith)
last_word (x ∷ xs) n e = go (dec_le (bitmap_length xs) (attr_number x / 32)) (last_word xs n)
  where
    go : Dec (bitmap_length xs ≤ attr_number x / 32) → (bitmap_length xs ≡ suc n → 1 ≤ bitmap_word xs n) → 1 ≤ bitmap_word (x ∷ xs) n
    go (yes h) ih = let q : n ≡ attr_number x / 32 = omega arith in rw q (word_has x xs)
    go (no d) ih = omega (arith, ih (omega (arith, d)), word_more x xs n)

-- no trailing zero word
pub bitmap-ends : (xs : List Attr) (n : ℕ) → length (bitmap xs) ≡ suc n → 1 ≤ get_or (bitmap xs) n 0
bitmap-ends xs n e =
    let k : bitmap_length xs ≡ suc n = sym (length_tab (bitmap_word xs) (bitmap_length xs) 0) ∙ e in
    rw (get_or_tab (bitmap_word xs) (bitmap_length xs) 0 n (omega arith), zero-add n) (last_word xs n k)

-- ---- attributes that a test selects

selected_length : (p : Attr → Bool) (xs : List Attr) → bitmap_length (select p xs) ≤ bitmap_length xs
selected_length p [] = omega arith
selected_length p (x ∷ xs) = go (p x) (selected_length p xs)
  where
    go : (t : Bool) → bitmap_length (select p xs) ≤ bitmap_length xs → bitmap_length (cond t (x ∷ select p xs) (select p xs)) ≤ bitmap_length (x ∷ xs)
    go true h = omega arith
    go false h = omega arith

selected_bytes : (f : Attr → List ℕ) (p : Attr → Bool) (xs : List Attr) → length (concat_map f (select p xs)) ≤ length (concat_map f xs)
selected_bytes f p [] = omega arith
selected_bytes f p (x ∷ xs) = go (p x) (selected_bytes f p xs)
  where
    go : (t : Bool) → length (concat_map f (select p xs)) ≤ length (concat_map f xs) → length (concat_map f (cond t (x ∷ select p xs) (select p xs))) ≤ length (concat_map f (x ∷ xs))
    go true h = simp length-append (omega arith)
    go false h = simp length-append (omega arith)

-- at most three words
pub words-most : (p : Attr → Bool) → bitmap_length (select p supported) ≤ 3
words-most p = selected_length p supported

pub bitmap-most : (p : Attr → Bool) → length (array (bitmap (select p supported))) ≤ 16
bitmap-most p =
    omega (arith, length-array (bitmap (select p supported)), length_tab (bitmap_word (select p supported)) (bitmap_length (select p supported)) 0, words-most p)

pub values_most : (v : FileAttrs) (p : Attr → Bool) → length (concat_map (attr_value v) (select p supported)) ≤ 44
values_most v p =
    let all : length (concat_map (attr_value v) supported) ≡ 44 = simp (length-append, length-array, length-u64, length-u32) refl in
    rw all at (selected_bytes (attr_value v) p supported)

-- ---- words of 32 bits

cond-most : (t : Bool) (n : ℕ) → cond t n 0 ≤ n
cond-most true n = omega arith
cond-most false n = omega arith

selected_word : (p : Attr → Bool) (xs : List Attr) (i : ℕ) → bitmap_word (select p xs) i ≤ bitmap_word xs i
selected_word p [] i = omega arith
selected_word p (x ∷ xs) i = go (p x) (selected_word p xs i)
  where
    go : (t : Bool) → bitmap_word (select p xs) i ≤ bitmap_word xs i → bitmap_word (cond t (x ∷ select p xs) (select p xs)) i ≤ bitmap_word (x ∷ xs) i
    go true h = omega arith
    go false h = omega arith

-- the bits of all that we have, in one word
supported-word : (i : ℕ) → bitmap_word supported i ≤ 40977
supported-word i =
    omega (arith, cond-most (eqb 0 i) 1, cond-most (eqb 0 i) 16, cond-most (eqb 1 i) 8192, cond-most (eqb 2 i) 8192, cond-most (eqb 2 i) 16384)

every-word : (f : ℕ → ℕ) → ((i : ℕ) → f i < 2 ^ 32) → (n i : ℕ) → every is_word (tabulate f i n) ≡ true
every-word f h zero i = refl
every-word f h (suc n) i = and_both (is_word (f i)) (every is_word (tabulate f (suc i) n)) (lt-ltb (f i) (2 ^ 32) (h i)) (every-word f h n (suc i))

pub bitmap-words : (p : Attr → Bool) → every is_word (bitmap (select p supported)) ≡ true
bitmap-words p =
    every-word (bitmap_word (select p supported)) (λ i. omega (arith, selected_word p supported i, supported-word i)) (bitmap_length (select p supported)) 0
