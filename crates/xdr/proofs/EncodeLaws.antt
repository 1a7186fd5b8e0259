-- Laws on encodings: their lengths, and the number that bytes spell.
use Prim.Native.Nat.{ℕ, zero, suc, ◌+◌, ◌*◌, ◌/◌, ◌%◌, ◌^◌, ◌<◌}
use mathlib.Core.Path.{◌≡◌, refl, sym, ap, ◌∙◌}
use mathlib.Core.Bool.{Bool, cond}
use mathlib.Core.List.{List, [], ◌∷◌, ◌++◌}
use native.Mathlib.Nat.{add-mul, zero-mul, mul_assoc, pow-succ', one-le-pow, div-one, mod-one}
use native.Mathlib.Omega.{arith}
use lib.Pow.{pow-add}
use lib.Arith.{mod-mul}
use lib.ListN.{length, length-append, length-replicate}
use Rattle.xdr.specs.Encode.{be, u32, u64, bool, opaque_size, opaque, concat_map, array}
use Rattle.xdr.specs.Decode.{value}

pub length-be : (k n : ℕ) → length (be k n) ≡ k
unfolding be
length-be zero n = refl
length-be (suc k) n = ap suc (length-be k n)

pub length-u32 : (n : ℕ) → length (u32 n) ≡ 4
unfolding u32
length-u32 n = length-be 4 n

pub length-u64 : (n : ℕ) → length (u64 n) ≡ 8
unfolding u64
length-u64 n = length-be 8 n

pub length-bool : (b : Bool) → length (bool b) ≡ 4
unfolding bool
length-bool b = length-u32 (cond b 1 0)

pub ruleset lengths = (length-u32, length-u64, length-bool)

pub length-opaque : (d : List ℕ) → length (opaque d) ≡ opaque_size (length d)
unfolding opaque u32
length-opaque d = simp (length-append, length-replicate, length-be) (omega arith)

pub numbers-length : (ns : List ℕ) → length (concat_map u32 ns) ≡ 4 * length ns
numbers-length [] = refl
numbers-length (n ∷ ns) = rw (length-append (u32 n) (concat_map u32 ns), length-u32 n, numbers-length ns) (omega arith)

pub length-array : (ns : List ℕ) → length (array ns) ≡ 4 + 4 * length ns
unfolding array
length-array ns = rw (length-append (u32 (length ns)) (concat_map u32 ns), length-u32 (length ns), numbers-length ns)

pub ruleset long_lengths = (length-opaque, length-array)

pub opaque-fours : (d : List ℕ) → length (opaque d) % 4 ≡ 0
opaque-fours d = rw (length-opaque d) (omega arith)

-- ---- numbers of any width

pos : (k : ℕ) → zero < 256 ^ k
pos k = one-le-pow k 256 (omega arith)

pub value-be : (k n : ℕ) → value (be k n) ≡ n % 256 ^ k
unfolding be
value-be zero n = sym (mod-one n)
value-be (suc k) n = rw (length-be k n, value-be k n) (sym (ap (λ (m : ℕ). n % m) (pow-succ' 256 k) ∙ mod-mul n (omega arith) (pos k)))

pub value_append : (xs ys : List ℕ) → value (xs ++ ys) ≡ value xs * 256 ^ length ys + value ys
value_append [] ys = omega (arith, zero-mul (256 ^ length ys))
value_append (x ∷ xs) ys =
    rw (length-append xs ys, pow-add 256 (length xs) (length ys), value_append xs ys, add-mul (x * 256 ^ length xs) (value xs) (256 ^ length ys))
    (omega (arith, mul_assoc x (256 ^ length xs) (256 ^ length ys)))

-- the four bytes of a number, written out
pub u32-bytes : (v : ℕ) → u32 v ≡ v / 16777216 % 256 ∷ v / 65536 % 256 ∷ v / 256 % 256 ∷ v % 256 ∷ []
unfolding u32 be
u32-bytes v = rw (div-one v)
