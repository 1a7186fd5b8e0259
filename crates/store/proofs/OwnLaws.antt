-- Laws on unshared blocks in place: one slot, and old words stored again.
use Prim.Native.Nat.{ℕ, suc, ◌+◌, ◌/◌, ◌%◌, ◌≤◌, ◌<◌}
use mathlib.Core.Path.{◌≡◌, refl, sym, ap, ◌∙◌}
use mathlib.Core.Bool.{Bool, true, false}
use mathlib.Core.List.{List, append_assoc}
use native.Mathlib.Nat.{add-suc}
use native.Mathlib.Numerals.{add-one}
use native.Mathlib.Omega.{arith}
use native.Mathlib.Decide.{dec_lt}
use borrow.Author.Tests.{ne_eqb, eqb-true, ltb-true}
use lib.ListN.{length, get_or, set, take, drop, drop_of_length-le, length-set}
use lib.Dec.{eqb}
use lib.Seq.{set-get_or, get_or-set_same, drop-cons, sets, sets-eq}
use Rattle.xdr.specs.Bytes.{splice}
use Rattle.rules.specs.Lists.{bit}
use Rattle.rules.specs.Store.{word, holds, holders, hole_or_shared}
use Rattle.rules.specs.Edit.{owns, owned, become}
use Rattle.rules.proofs.CountLaws.{count_set}
use Rattle.rules.proofs.PlanLaws.{one-holder}
use Rattle.tables.specs.Tally.{takes_by, first_zero}
use Rattle.tables.specs.Tables.{TableTrue, Stored}
use Rattle.std.specs.Prelude.{Ok, Err}
use Rattle.store.specs.declared.edit.NoSpace.{NoSpace}
use Rattle.store.specs.Planner.{SlotChanged}
use Rattle.store.proofs.KindLaws.{changed-done}
use Rattle.tables.proofs.PoolLaws.{first_below, first-from, takes_same, tallied_free, tallied_full}

-- ---- one slot

-- a block stays held when another slot than its only one gets a word
still_held : (ws : List ℕ) (i x c : ℕ) → i < length ws → 1 ≤ holders c ws → (get_or ws i 0 / 2 ≡ suc c → 2 ≤ holders c ws) → 1 ≤ holders c (set ws i x)
still_held ws i x c inside h two = go (eqb (get_or ws i 0 / 2) (suc c)) refl
  where
    go : (t : Bool) → eqb (get_or ws i 0 / 2) (suc c) ≡ t → 1 ≤ holders c (set ws i x)
    go true e = omega (arith, count_set (holds c) ws i x inside, ap bit e, two (eqb-true (get_or ws i 0 / 2) (suc c) e))
    go false e = omega (arith, count_set (holds c) ws i x inside, ap bit e)

module _ (ws cs : List ℕ) (known : TableTrue ws cs) where
  module _ (i : ℕ) where
    takes_is : takes_by cs (get_or ws i 0) ≡ hole_or_shared ws (get_or ws i 0)
    takes_is = takes_same ws cs known.table known.pool (get_or ws i 0) (known.pool i)

    pub slot_kept : takes_by cs (get_or ws i 0) ≡ false → {from : ℕ} → from ≤ first_zero cs → SlotChanged owns ws cs i (Ok from) ws cs
    unfolding owned become
    slot_kept e low = changed-done (rw (sym takes_is ∙ e) (sym (set-get_or ws i 0))) known low

    module _ (e : takes_by cs (get_or ws i 0) ≡ true) where
      pub slot-stopped : length cs ≤ first_zero cs → {no : NoSpace} → SlotChanged owns ws cs i (Err no) ws cs
      slot-stopped h = record {
        words_are = refl;
        counted = known;
        searched = tt;
        stopped = λ d. record { asked = refl; wants = sym takes_is ∙ e; full = tallied_full ws cs known.table known.pool h };
      }

      module _ (h : first_zero cs < length cs) (inside : i < length ws) {after cs' : List ℕ} (same : length cs' ≡ length cs)
          (s : Stored ws i (word (suc (first_zero cs)) (get_or ws i 0 % 2)) after cs') where
        x : ℕ
        x = word (suc (first_zero cs)) (get_or ws i 0 % 2)

        -- the blocks below the taken one were held, and a block that loses a holder has another
        held_below : (c : ℕ) → c < first_zero cs → 1 ≤ holders c (set ws i x)
        held_below c l =
            let r = first_below cs c l in
            let is : get_or cs c 0 ≡ holders c ws = known.table.each c r.0 in
            still_held ws i x c inside (omega arith) (λ q. omega (arith, is, ltb-true 1 (get_or cs c 0) (rw (q, ne_eqb (suc c) 0 (λ (z : suc c ≡ 0). omega arith)) at e)))

        taken-held : 1 ≤ holders (first_zero cs) (set ws i x)
        unfolding x
        taken-held = one-holder (set ws i x) i (first_zero cs) (rw (length-set ws i x) inside) (rw (get_or-set_same ws i x 0 inside) (omega arith))

        low-behind : first_zero cs + 1 ≤ first_zero cs'
        unfolding x
        low-behind = first-from cs' (first_zero cs + 1) (omega arith) (λ c l. rw (s.counted.table.each c (omega arith), s.words_are) (go c (dec_lt c (first_zero cs)) l))
          where
            go : (c : ℕ) → Dec (c < first_zero cs) → c < first_zero cs + 1 → 0 < holders c (set ws i x)
            go c (yes l) u = held_below c l
            go c (no d) u =
                let q : c ≡ first_zero cs = omega (arith, d) in
                rw q taken-held

        pub slot-taken : SlotChanged owns ws cs i (Ok (first_zero cs + 1)) after cs'
        unfolding owned become
        slot-taken =
            changed-done (s.words_are ∙ rw (sym takes_is ∙ e, tallied_free ws cs known.table known.pool h)) s.counted low-behind

-- ---- old words stored again

module _ (old words : List ℕ) (i k : ℕ) where
  pub undo_more : (after cs : List ℕ) → k < length old → Stored words (i + k) (get_or old k 0) after cs
      → sets after (i + (k + 1)) (drop (k + 1) old) ≡ sets words (i + k) (drop k old)
  undo_more after cs h s = rw (s.words_are, drop-cons old k 0 h, add-one k, add-suc i k)

  pub undo_all : (ws : List ℕ) → i + length old ≤ length ws → length old ≤ k → sets words (i + k) (drop k old) ≡ sets ws i old → words ≡ splice ws i old
  unfolding splice
  undo_all ws h l e = rw (drop_of_length-le old l) at e ∙ sets-eq old ws i h ∙ append_assoc (take i ws) old (drop (i + length old) ws)
