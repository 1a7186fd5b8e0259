-- A plan in place, kept where it fits the pool and else undone: the old words go back, and no other slot has changed.
use Prim.Native.Nat.{ℕ, ◌+◌, ◌/◌, ◌≤◌, ◌<◌, ◌-◌}
use mathlib.Core.Path.{◌≡◌, refl, sym, ap, ◌∙◌}
use mathlib.Core.Bool.{Bool, true, false}
use mathlib.Core.List.{List}
use mathlib.Core.Logic.{inl, inr}
use native.Mathlib.Decide.{dec_lt}
use native.Mathlib.Omega.{arith}
use lib.ListN.{length, get_or, take, drop, length-take, length-drop, get_or-eq_default}
use lib.Dec.{leb}
use lib.Seq.{get_or-take, get_or-drop, length-take-le, ext_get_or}
use Rattle.xdr.specs.Bytes.{splice}
use Rattle.xdr.proofs.BytesLaws.{length-splice, splice_in, splice-below, splice-above}
use Rattle.rules.specs.Store.{need, fits_pool}
use Rattle.rules.proofs.PlanLaws.{InPool}
use Rattle.tables.specs.Tables.{TableTrue}
use Rattle.store.specs.Plan.{Planned, Outside, Undone}
use Rattle.store.proofs.StoreLaws.{splice-same}

-- ---- kept or undone

pub planned-kept : {back planned cs : List ℕ} → TableTrue planned cs → fits_pool (length cs) planned ≡ true → Planned back planned true planned cs
planned-kept h e = record { answer = sym e; words_are = rw e; counted = h }

-- the words where those of old are to go, as the code takes them
module _ (ws old : List ℕ) (i : ℕ) (inside : i + length old ≤ length ws) where
  abbrev part : List ℕ
  part = take (i + length old - i) (drop i ws)

  -- where they are those of old, the need is what it was, and fits
  module _ (is : part ≡ old) where
    unchanged : ws ≡ splice ws i old
    unchanged =
        let all : i + length old - i ≡ length old = omega arith in
        sym (splice-same ws i (length old) inside) ∙ ap (splice ws i) (ap (λ n. take n (drop i ws)) (sym all) ∙ is)

    pub need-same : need ws ≡ need (splice ws i old)
    need-same = ap need unchanged

    pub planned-same : (cs : List ℕ) → TableTrue ws cs → fits_pool (length cs) (splice ws i old) ≡ true → Planned (splice ws i old) ws true ws cs
    planned-same cs h fitted = planned-kept h (ap (λ x. leb x (length cs)) need-same ∙ fitted)

-- undone in a pool of m blocks
pub planned-back : {back planned after cs : List ℕ} {m : ℕ} → fits_pool m planned ≡ false → length cs ≡ m → after ≡ back → TableTrue after cs
    → Planned back planned false after cs
planned-back {planned = planned} {cs = cs} e same b h =
    let f : fits_pool (length cs) planned ≡ false = rw same e in
    record { answer = sym f; words_are = rw f b; counted = h }

-- ---- other slots stay

pub outside_refl : (ws : List ℕ) (i n : ℕ) → Outside ws i n ws
outside_refl ws i n = record { slots = refl; same = λ p h. refl }

pub outside_trans : {a b c : List ℕ} {i n : ℕ} → Outside a i n b → Outside b i n c → Outside a i n c
outside_trans p q = record { slots = q.slots ∙ p.slots; same = λ j h. q.same j h ∙ p.same j h }

-- ---- the old words of the n slots from i on, as the code takes them

module _ (ws : List ℕ) (i n : ℕ) (old : List ℕ) (saved : old ≡ take (i + n - i) (drop i ws)) where
  pub saved_is : old ≡ take n (drop i ws)
  saved_is = let e : i + n - i ≡ n = omega arith in rw e at saved

  -- what `undo` and `settle` ask
  pub saved-pool : (m : ℕ) → InPool m ws → InPool m old
  saved-pool m h p = rw saved_is (go (dec_lt p n))
    where
      go : Dec (p < n) → get_or (take n (drop i ws)) p 0 / 2 ≤ m
      go (yes l) = rw (get_or-take n (drop i ws) p 0 l, get_or-drop i ws p 0) (h (i + p))
      go (no d) =
          let l : length (take n (drop i ws)) ≤ p = rw (length-take n (drop i ws)) (omega (arith, d)) in
          rw (get_or-eq_default (take n (drop i ws)) 0 l) (omega arith)

  module _ (inside : i + n ≤ length ws) {mid : List ℕ} (o : Outside ws i n mid) where
    old-long : length old ≡ n
    old-long = rw saved_is (length-take-le n (drop i ws) (rw (length-drop i ws) (omega arith)))

    -- stored again
    pub saved-back : splice mid i old ≡ ws
    saved-back = ext_get_or 0 (splice mid i old) ws (long ∙ o.slots) (λ p h. low p (omega (arith, long, o.slots)) (dec_lt p i))
      where
        long : length (splice mid i old) ≡ length mid
        long = length-splice mid i old (omega (arith, old-long, o.slots))

        high : (p : ℕ) → i ≤ p → Dec (p < i + n) → get_or (splice mid i old) p 0 ≡ get_or ws p 0
        high p l (yes u) =
            let j : ℕ = p - i in
            let e : p ≡ i + j = omega arith in
            rw e (splice_in mid i old j (omega (arith, o.slots)) (omega (arith, old-long)) ∙ rw (saved_is, get_or-take n (drop i ws) j 0 (omega arith), get_or-drop i ws j 0))
        high p l (no d) = splice-above mid i old p (omega (arith, o.slots)) (omega (arith, old-long, d)) ∙ o.same p (inr (omega (arith, d)))

        low : (p : ℕ) → p < length ws → Dec (p < i) → get_or (splice mid i old) p 0 ≡ get_or ws p 0
        low p h (yes l) = splice-below mid i old p (omega (arith, o.slots)) l ∙ o.same p (inl l)
        low p h (no d) = high p (omega (arith, d)) (dec_lt p (i + n))

    pub planned_undone : {planned after cs : List ℕ} {m : ℕ} → fits_pool m planned ≡ false → length cs ≡ m → Undone mid i old after cs
        → Planned ws planned false after cs
    planned_undone e same u = planned-back e same (u.words_are ∙ saved-back) u.counted

    pub planned_settled : {planned after cs : List ℕ} {d : Bool} → mid ≡ planned → Planned (splice mid i old) mid d after cs → Planned ws planned d after cs
    planned_settled e p = rw (saved-back, e) at p
