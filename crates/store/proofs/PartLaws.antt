-- For the code that stores a part of a block: an overlay of consecutive places is a splice, and what WRITE stores there is a part of its data.
use Prim.Native.Nat.{ℕ, suc, ◌+◌, ◌≤◌, ◌<◌, ◌-◌}
use mathlib.Core.Path.{◌≡◌, refl, sym, ap, ◌∙◌}
use mathlib.Core.Bool.{Bool, cond}
use mathlib.Core.List.{List, ◌∷◌, []}
use mathlib.Core.Logic.{inl, inr}
use native.Mathlib.Decide.{dec_le, dec_lt}
use native.Mathlib.Nat.{add-sub_of_le}
use native.Mathlib.Omega.{arith}
use lib.ListN.{length, get_or, take, drop, length-take, length-drop}
use lib.Seq.{ext_get_or, get_or-take, get_or-drop}
use Rattle.xdr.specs.Bytes.{splice}
use Rattle.xdr.proofs.BytesLaws.{length-splice, splice_in, splice-below, splice-above}
use Rattle.rules.specs.Lists.{tabulate}
use Rattle.rules.specs.Edit.{within, overlay}
use Rattle.rules.proofs.SlotByteLaws.{length-overlay, get_or-overlay, length_tab, get_or_tab}
use Rattle.rules.proofs.WriteLaws.{outside, inside}

-- a test that says the same at each place of the list
pub overlay_ext : (s t : ℕ → Bool) (new : ℕ → ℕ) (xs : List ℕ) (p : ℕ) → ((i : ℕ) → p ≤ i → i < p + length xs → s i ≡ t i) → overlay s new p xs ≡ overlay t new p xs
overlay_ext s t new [] p h = refl
overlay_ext s t new (x ∷ xs) p h = rw (h p (omega arith) (omega arith)) (ap (λ r. cond (t p) (new p) x ∷ r) (overlay_ext s t new xs (suc p) (λ i l u. h i (omega arith) (omega arith))))

-- n places from a on, in a list of bytes that starts at place p
pub overlay-splice : (new : ℕ → ℕ) (xs : List ℕ) (p a n : ℕ) → a + n ≤ length xs
    → overlay (within (p + a) (p + a + n)) new p xs ≡ splice xs a (tabulate new (p + a) n)
overlay-splice new xs p a n h = ext_get_or 0 _ _ (length-overlay w new xs p ∙ sym same) (λ j l. at_j j (rw (length-overlay w new xs p) at l) (dec_le a j) (dec_lt j (a + n)))
  where
    w : ℕ → Bool
    w = within (p + a) (p + a + n)

    bs : List ℕ
    bs = tabulate new (p + a) n

    len : length bs ≡ n
    len = length_tab new n (p + a)

    same : length (splice xs a bs) ≡ length xs
    same = length-splice xs a bs (rw len h)

    at_j : (j : ℕ) → j < length xs → Dec (a ≤ j) → Dec (j < a + n) → get_or (overlay w new p xs) j 0 ≡ get_or (splice xs a bs) j 0
    at_j j l (yes q) (yes u) =
        get_or-overlay w new xs p j l ∙ rw (inside (p + a) (p + a + n) (p + j) (omega arith) (omega arith))
        (sym (ap (λ y. get_or (splice xs a bs) y 0) (sym (add-sub_of_le q))
        ∙ splice_in xs a bs (j - a) (omega arith) (rw len (omega arith))
        ∙ get_or_tab new n (p + a) (j - a) (omega arith)
        ∙ ap new (place q)))
      where
        place : a ≤ j → p + a + (j - a) ≡ p + j
        place q = omega arith
    at_j j l (no d) u =
        get_or-overlay w new xs p j l ∙ rw (outside (p + a) (p + a + n) (p + j) (inl (omega (arith, d))))
        (sym (splice-below xs a bs j (omega arith) (omega (arith, d))))
    at_j j l (yes q) (no d) =
        get_or-overlay w new xs p j l ∙ rw (outside (p + a) (p + a + n) (p + j) (inr (omega (arith, d))))
        (sym (splice-above xs a bs j (omega arith) (rw len (omega (arith, d)))))

-- what WRITE of d at `off` stores at n places from p on
pub write-part : (d : List ℕ) (off p n : ℕ) → off ≤ p → p + n ≤ off + length d → tabulate (λ i. get_or d (i - off) 0) p n ≡ take n (drop (p - off) d)
write-part d off p n h u = ext_get_or 0 _ _ (length_tab new n p ∙ sym (length-take n (drop (p - off) d) ∙ rw (length-drop (p - off) d) (omega arith)))
    (λ j l. at_j j (rw (length_tab new n p) at l))
  where
    new : ℕ → ℕ
    new i = get_or d (i - off) 0

    at_j : (j : ℕ) → j < n → get_or (tabulate new p n) j 0 ≡ get_or (take n (drop (p - off) d)) j 0
    at_j j l =
        get_or_tab new n p j l ∙ ap (λ y. get_or d y 0) place ∙ sym (get_or-take n (drop (p - off) d) j 0 l ∙ get_or-drop (p - off) d j 0)
      where
        place : p + j - off ≡ p - off + j
        place = omega arith
