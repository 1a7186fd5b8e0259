-- A number of j + k bytes is its upper j bytes and then its lower k: as it is written, and as it is read.
use Prim.Native.Nat.{ℕ, zero, suc, ◌+◌, ◌*◌, ◌/◌, ◌^◌, ◌≤◌, ◌<◌}
use mathlib.Core.Path.{◌≡◌, refl, ap, ◌∙◌}
use mathlib.Core.Bool.{Bool, true, false}
use mathlib.Core.List.{List, ◌++◌}
use native.Mathlib.Nat.{zero-add, suc-add, add_comm, add_assoc, max-eq_right, div-div-eq-div-mul}
use native.Mathlib.Omega.{arith}
use lib.Pow.{pow-add}
use lib.ListN.{length, take, drop, length-drop}
use lib.Seq.{drop-drop, take-add, length-take-le}
use lib.Dec.{leb}
use borrow.Author.Tests.{leb-true, leb-false}
use Rattle.xdr.specs.Encode.{be}
use Rattle.xdr.specs.Decode.{got, fault, and_then, fixed_at, number}
use Rattle.xdr.proofs.EncodeLaws.{value_append}
use Rattle.xdr.proofs.DecodeLaws.{missing, number-there, number-missing}

pub be-split : (j k n : ℕ) → be (j + k) n ≡ be j (n / 256 ^ k) ++ be k n
unfolding be
be-split zero k n = rw (zero-add k)
be-split (suc j) k n = rw (suc-add j k, be-split j k n, div-div-eq-div-mul n (256 ^ k) (256 ^ j), ← pow-add 256 k j, add_comm k j)

cut : (n : ℕ) (s : List ℕ) (at : ℕ) → at ≤ length s → length s < at + n → fixed_at n s at ≡ fault (length s)
cut n s at h k = missing n s at k ∙ ap fault (max-eq_right h)

pub number-split : (j k : ℕ) (s : List ℕ) (at : ℕ)
    → number (j + k) s at ≡ and_then (number j s at) (λ h next. and_then (number k s next) (λ l end. got (h * 256 ^ k + l) end))
number-split j k s at = go (leb (at + j) (length s)) refl (leb (at + j + k) (length s)) refl
  where
    go : (t : Bool) → leb (at + j) (length s) ≡ t → (u : Bool) → leb (at + j + k) (length s) ≡ u
        → number (j + k) s at ≡ and_then (number j s at) (λ h next. and_then (number k s next) (λ l end. got (h * 256 ^ k + l) end))
    go false e u f =
        let m : length s < at + j = leb-false _ _ e in
        let m' : length s < at + (j + k) = omega arith in
        rw (number-missing (j + k) s at _ (missing (j + k) s at m'), number-missing j s at _ (missing j s at m))
    go true e false f =
        let t : at + j ≤ length s = leb-true _ _ e in
        let m : length s < at + j + k = leb-false _ _ f in
        let m' : length s < at + (j + k) = omega arith in
        let h : at ≤ length s = omega arith in
        rw (number-missing (j + k) s at _ (cut (j + k) s at h m'), number-there j s at t, number-missing k s (at + j) _ (cut k s (at + j) t m))
    go true e true f =
        let t : at + j ≤ length s = leb-true _ _ e in
        let t2 : at + j + k ≤ length s = leb-true _ _ f in
        let t' : at + (j + k) ≤ length s = omega arith in
        let lo : length (take k (drop (at + j) s)) ≡ k = length-take-le k (drop (at + j) s) (rw (length-drop (at + j) s) (omega arith)) in
        rw (number-there (j + k) s at t', number-there j s at t, number-there k s (at + j) t2, take-add j k (drop at s), drop-drop j at s, value_append (take j (drop at s)) (take k (drop (at + j) s)), lo, add_assoc at j k)
