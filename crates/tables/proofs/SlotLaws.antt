-- Where a slot that is shown lies: its block's part is in the memory.
use Prim.Native.Nat.{◌+◌, ◌-◌, ℕ, ◌*◌, ◌/◌, ◌≤◌, ◌<◌}
use mathlib.Core.Path.{◌≡◌, refl, sym, ◌∙◌}
use mathlib.Core.Bool.{Bool, true, false, ◌&&◌, true≢false}
use mathlib.Core.List.{List}
use mathlib.Core.Logic.{◌≢◌}
use native.Mathlib.Nat.{mul-le-mul_right}
use native.Mathlib.Numerals.{sub-one}
use native.Mathlib.Omega.{arith}
use lib.ListN.{length, get_or}
use lib.Dec.{ltb, eqb}
use borrow.Author.Tests.{ltb-true, eqb-true}
use Rattle.rules.specs.Lists.{all_to}
use Rattle.rules.specs.Store.{Geometry, good_geometry, Store, good_lengths, word_of, sound}
use Rattle.rules.specs.Calls.{slot_refusals, slot_refusal, slot_is_hole, slot_start}
use Rattle.tables.specs.Tables.{Shaped}
use Rattle.tables.specs.View.{PlacePromise}
use Rattle.xdr.proofs.BoolLaws.{and_left, and_right, not_is}
use Rattle.rules.proofs.FirstLaws.{all-clear}
use Rattle.rules.proofs.SoundLaws.{sound-facts}
use Rattle.rules.proofs.GeometryLaws.{good, block-pos, lengths}
use Rattle.tables.proofs.FileTests.{block-end}

-- a file's slots lie among the words, and their blocks in the memory
pub record SlotRoom (g : Geometry) (st : Store) (f : ℕ) : Type 0 where
  pub slots : f * g.S + g.S ≤ length st.words
  pub block : (k : ℕ) → word_of g st.words f k / 2 * g.B ≤ length st.mem

module _ (g : Geometry) (st : Store) (page : List ℕ) (f k : ℕ) where
  abbrev clean : Bool
  clean = all_to (length page) (λ j. eqb (get_or page j 0) 0)

  -- what is known where nothing is refused
  pub record SlotKnown : Type 0 where
    pub shaped : Shaped g st
    pub page_long : length page ≡ g.B
    pub sound : sound g st ≡ true
    pub file : f < g.F
    pub slot : k < g.S

  pub slot-known : slot_refusal g st page f k ≡ 0 → SlotKnown
  unfolding slot_refusal
  slot-known e =
      let c = all-clear (slot_refusals g st page f k) refl e in
      let two = not_is (good_lengths g st && eqb (length page) g.B) c.1.0 in
      let eight = not_is (ltb f g.F && ltb k g.S) c.1.1.1.0 in
      record {
        shaped = record { geometry = not_is (good_geometry g) c.0; lengths = and_left (good_lengths g st) (eqb (length page) g.B) two };
        page_long = eqb-true (length page) g.B (and_right (good_lengths g st) (eqb (length page) g.B) two);
        sound = and_left (sound g st) clean (not_is (sound g st && clean) c.1.1.0);
        file = ltb-true f g.F (and_left (ltb f g.F) (ltb k g.S) eight);
        slot = ltb-true k g.S (and_right (ltb f g.F) (ltb k g.S) eight);
      }

  pub slot-room : SlotKnown → SlotRoom g st f
  slot-room h =
      let s = sound-facts g (block-pos (good g h.shaped.geometry)) st h.shaped.lengths h.sound in
      let l = lengths g st h.shaped.lengths in
      record {
        slots = omega (arith, l.slots, mul-le-mul_right g.S h.file);
        block = λ k. omega (arith, l.bytes, mul-le-mul_right g.B (s.pool (f * g.S + k)));
      }

  module _ {number start : ℕ} {hole : Bool} (p : PlacePromise g st page f k number hole start) where
    -- a block's part is in the memory
    pub block_inside : number ≡ 0 → hole ≡ false → start + g.B ≤ length st.mem
    unfolding slot_is_hole slot_start
    block_inside z h =
        let e : slot_refusal g st page f k ≡ 0 = sym p.number_is ∙ z in
        let t : slot_is_hole g st page f k ≡ false = sym p.hole_is ∙ h in
        let w : ℕ = word_of g st.words f k / 2 in
        let d : w ≢ 0 = λ (q : w ≡ 0). true≢false (sym (rw (e, q)) ∙ t) in
        let s : start ≡ (w - 1) * g.B = p.start_is ∙ rw (t, sub-one w) in
        omega (arith, s, (slot-room (slot-known e)).block k, block-end w g.B d)
