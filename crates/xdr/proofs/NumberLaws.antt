-- A number read from bytes: it is there, and bytes are the encoding of the number that they spell.
use Prim.Native.Nat.{ℕ, zero, suc, ◌+◌, ◌*◌, ◌/◌, ◌%◌, ◌^◌, ◌≤◌, ◌<◌}
use mathlib.Core.Path.{◌≡◌, refl, sym, ap, ◌∙◌}
use mathlib.Core.Bool.{Bool, true, false, true≢false}
use mathlib.Core.List.{List, [], ◌∷◌}
use native.Mathlib.Nat.{mul_assoc, pow-succ', one-le-pow, div-eq_of_lt, mul-add-div_right, mul-le-mul_right}
use native.Mathlib.Omega.{arith}
use lib.ListN.{length, get_or}
use lib.Seq.{take_all}
use Rattle.xdr.specs.Encode.{be, u64}
use Rattle.xdr.specs.Decode.{Parsed, got, fault, value, number}
use Rattle.xdr.proofs.DecodeLaws.{number-there}

got_inj : {a b m n : ℕ} → got a m ≡ got b n → a ≡ b
got_inj e = cc

is-got : Parsed ℕ → Bool
is-got (got a m) = true
is-got (fault p) = false

-- the k bytes h, read from their start
module _ (k : ℕ) (h : List ℕ) (long : length h ≡ k) (at : ℕ) (start : at ≡ 0) where
  number_is : number k h at ≡ got (value h) k
  number_is =
      rw start (number-there k h 0 (omega (arith, long)) ∙ rw (take_all k h (omega (arith, long))) (ap (got (value h)) (omega arith)))

  pub no-fault : {p : ℕ} → number k h at ≡ fault p → ⊥
  unfolding is-got
  no-fault e = true≢false (ap is-got (sym number_is ∙ e))

  pub spelled : {f m : ℕ} → number k h at ≡ got f m → f ≡ value h
  spelled e = got_inj (sym e ∙ number_is)

-- ---- bytes are the encoding of the number that they spell

pos : (k : ℕ) → zero < 256 ^ k
pos k = one-le-pow k 256 (omega arith)

-- what lies above the last k bytes does not count
be_add : (k x m : ℕ) → be k (x * 256 ^ k + m) ≡ be k m
unfolding be
be_add zero x m = refl
be_add (suc k) x m =
    let up : x * 256 ^ suc k ≡ x * 256 * 256 ^ k = ap (λ (n : ℕ). x * n) (pow-succ' 256 k) ∙ sym (mul_assoc x 256 (256 ^ k)) in
    let digit : (x * 256 + m / 256 ^ k) % 256 ≡ m / 256 ^ k % 256 = omega arith in
    rw (up, mul-add-div_right (pos k) (x * 256) m, be_add k (x * 256) m, digit)

value-less : (v : List ℕ) → ((i : ℕ) → get_or v i 0 < 256) → value v < 256 ^ length v
value-less [] h = omega arith
value-less (x ∷ xs) h =
    let l : x < 256 = h 0 in
    let m : x * 256 ^ length xs ≤ 255 * 256 ^ length xs = mul-le-mul_right (256 ^ length xs) (omega arith) in
    omega (arith, m, value-less xs (λ i. h (suc i)), pow-succ' 256 (length xs))

be-value : (v : List ℕ) → ((i : ℕ) → get_or v i 0 < 256) → be (length v) (value v) ≡ v
unfolding be
be-value [] h = refl
be-value (x ∷ xs) h =
    let l : x < 256 = h 0 in
    let less = value-less xs (λ i. h (suc i)) in
    let digit : (x + value xs / 256 ^ length xs) % 256 ≡ x = rw (div-eq_of_lt less) (omega arith) in
    rw (mul-add-div_right (pos (length xs)) x (value xs), digit, be_add (length xs) x (value xs), be-value xs (λ i. h (suc i)))

pub u64-value : (v : List ℕ) → length v ≡ 8 → ((i : ℕ) → get_or v i 0 < 256) → {n : ℕ} → n ≡ value v → u64 n ≡ v
unfolding u64
u64-value v long h e = rw (e, ← long) (be-value v h)
