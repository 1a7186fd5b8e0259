-- Laws on the test of files: the slots past a file's size, and the bytes of its last slot past the size.
use Prim.Native.Nat.{ℕ, zero, suc, ◌+◌, ◌-◌, ◌*◌, ◌/◌, ◌%◌, ◌≤◌, ◌<◌}
use mathlib.Core.Path.{◌≡◌, refl, sym, ◌∙◌}
use mathlib.Core.Bool.{Bool, true, false, ◌&&◌, ◌||◌, not}
use mathlib.Core.List.{List}
use native.Mathlib.Nat.{add-zero, add-suc, add_assoc, add-sub_of_le, div-add-mod', mod-lt, mul-le-mul_right, mul-add-div_right, mul-add-mod_self_right, div-eq_of_lt, mod-eq_of_lt}
use native.Mathlib.Numerals.{sub-one}
use native.Mathlib.Decide.{dec_le}
use native.Mathlib.Omega.{arith}
use borrow.Author.Tests.{lt-ltb, le-ltb, leb-true, le-leb, lt-leb, eq-eqb, ne_eqb, not-true, not-false}
use lib.ListN.{length, get_or, take, drop, length-drop}
use lib.Seq.{length-take-le, get_or-take, get_or-drop}
use lib.Dec.{leb, ltb, eqb}
use Rattle.rules.specs.Lists.{all_to, ceil_div}
use Rattle.rules.specs.Store.{Geometry, Store, size_of, word_of, slot_byte, byte_at, sound_file}
use Rattle.tables.specs.Tables.{Shaped, FileKnown}
use Rattle.rules.proofs.GeometryLaws.{Good, good, block-pos, file-most, lengths}
use Rattle.xdr.proofs.BoolLaws.{and_left, and_right, and_false, or_inl}
use Rattle.rules.proofs.SoundStore.{ceil_le, le_ceil}
use Rattle.rules.proofs.SoundLaws.{all_to_all}
use Rattle.tables.proofs.GroupLaws.{all_to_ext}

-- ---- tests that agree

-- a test that the numbers below c pass
all_to_from : (c d : ℕ) (p : ℕ → Bool) → all_to (c + d) (λ k. ltb k c || p k) ≡ all_to d (λ j. p (c + j))
all_to_from c zero p = rw (add-zero c) (all_to_all c _ (λ k l. or_inl (ltb k c) (p k) (lt-ltb k c l)))
all_to_from c (suc d) p = rw (add-suc c d, le-ltb (c + d) c (omega arith), all_to_from c d p)

-- ---- zeros of a part

abbrev pub zeros : List ℕ → Bool
zeros l = all_to (length l) (λ j. eqb (get_or l j 0) 0)

-- of s elements at place k those from `from` on, as the code lends them
abbrev pub part : List ℕ → ℕ → ℕ → ℕ → List ℕ
part l k from s = take (k + s - (k + from)) (drop (k + from) l)

part-zeros : (l : List ℕ) (k from s : ℕ) → from ≤ s → k + s ≤ length l → zeros (part l k from s) ≡ all_to (s - from) (λ j. eqb (get_or l (k + (from + j)) 0) 0)
part-zeros l k from s h fit =
    let e : k + s - (k + from) ≡ s - from = omega arith in
    let n : length (take (s - from) (drop (k + from) l)) ≡ s - from = length-take-le _ _ (rw (length-drop (k + from) l) (omega arith)) in
    rw (e, n) (all_to_ext (s - from) _ _ (λ j u. rw (get_or-take (s - from) (drop (k + from) l) j 0 u, get_or-drop, add_assoc)))

-- slots of file f
pub slots-tail : (g : Geometry) (ws : List ℕ) (f from : ℕ) → f * g.S + g.S ≤ length ws → from ≤ g.S
    → zeros (part ws (f * g.S) from g.S) ≡ all_to g.S (λ k. ltb k from || eqb (word_of g ws f k) 0)
slots-tail g ws f from fit h =
    part-zeros ws (f * g.S) from g.S h fit ∙ sym (rw (add-sub_of_le h) at (all_to_from from (g.S - from) (λ k. eqb (word_of g ws f k) 0)))

-- the end of the block of a word that is no hole
pub block-end : (k b : ℕ) → (k ≡ 0 → ⊥) → (k - 1) * b + b ≡ k * b
block-end zero b d = absurd (d refl)
block-end (suc k) b d = rw (sub-one (suc k)) (omega arith)

-- bytes of the slot with word w
module _ (g : Geometry) (m : List ℕ) (w from : ℕ) where
  pub hole-tail : w / 2 ≡ 0 → true ≡ all_to (g.B - from) (λ j. eqb (slot_byte g m w (from + j)) 0)
  hole-tail e = rw (eq-eqb (w / 2) 0 e) (sym (all_to_all (g.B - from) _ (λ j h. refl)))

  pub block-tail : (w / 2 ≡ 0 → ⊥) → from ≤ g.B → w / 2 * g.B ≤ length m
      → zeros (part m ((w / 2 - 1) * g.B) from g.B) ≡ all_to (g.B - from) (λ j. eqb (slot_byte g m w (from + j)) 0)
  block-tail d h fit = rw (ne_eqb (w / 2) 0 d, ← sub-one (w / 2)) (part-zeros m ((w / 2 - 1) * g.B) from g.B h (omega (arith, block-end (w / 2) g.B d)))

-- ---- places of a slot of b bytes

module _ {b : ℕ} (pos : 0 < b) (n : ℕ) where
  -- the places past n in its slot
  module _ (j : ℕ) (h : j < b - n % b) where
    place : n + j ≡ n / b * b + (n % b + j)
    place = omega (arith, div-add-mod' n b)

    same-slot : (n + j) / b ≡ n / b
    same-slot = rw (place, mul-add-div_right {m = b} pos (n / b) (n % b + j)) (omega (arith, div-eq_of_lt {n = n % b + j} {m = b} (omega arith)))

    same_offset : (n + j) % b ≡ n % b + j
    same_offset = rw (place, mul-add-mod_self_right (n / b) b (n % b + j)) (mod-eq_of_lt (omega arith))

  ceil-even : n % b ≡ 0 → ceil_div n b * b - n ≡ 0
  ceil-even e = omega (arith, div-add-mod' n b, mul-le-mul_right b (ceil_le pos n (n / b) (omega (arith, div-add-mod' n b))))

  ceil-odd : (n % b ≡ 0 → ⊥) → ceil_div n b ≡ suc (n / b)
  ceil-odd d = go (dec_le (ceil_div n b) (n / b))
    where
      go : Dec (ceil_div n b ≤ n / b) → ceil_div n b ≡ suc (n / b)
      go (yes l) = absurd (d (omega (arith, div-add-mod' n b, le_ceil pos n (n / b) l)))
      go (no u) = omega (arith, u, ceil_le pos n (suc (n / b)) (omega (arith, div-add-mod' n b, mod-lt n pos)))

  -- the slot that n cuts is below its end
  pub cut_below : (n % b ≡ 0 → ⊥) → n / b < ceil_div n b
  cut_below d = omega (arith, ceil-odd d)

-- ---- a file

-- what is known of its tables, in numbers
pub record FileRoom (g : Geometry) (st : Store) (f : ℕ) : Type 0 where
  pub good : Good g
  pub pos : 0 < g.B
  pub most : g.S * g.B ≤ 4194304
  pub size : f < length st.sizes
  pub slots : f * g.S + g.S ≤ length st.words
  pub block : (k : ℕ) → k < ceil_div (size_of st f) g.B → word_of g st.words f k / 2 * g.B ≤ length st.mem

pub file_room : {g : Geometry} {st : Store} {f : ℕ} → Shaped g st → FileKnown g st f → FileRoom g st f
file_room {g} {st} {f} t h =
    let o = good g t.geometry in
    let l = lengths g st t.lengths in
    record {
      good = o;
      pos = block-pos o;
      most = file-most g o;
      size = omega (arith, h.file);
      slots = omega (arith, mul-le-mul_right g.S h.file);
      block = λ k below. omega (arith, mul-le-mul_right g.B (h.pool k below));
    }

-- the test of its slots past its size
abbrev pub slots_test : Geometry → Store → ℕ → Bool
slots_test g st f = all_to g.S (λ k. ltb k (ceil_div (size_of st f) g.B) || eqb (word_of g st.words f k) 0)

-- the ways out of `file_sound`; t is the answer to that test
module _ {g : Geometry} {st : Store} {f : ℕ} (r : FileRoom g st f) where
  pub too_large : g.S * g.B < size_of st f → false ≡ sound_file g st f
  unfolding sound_file
  too_large h = rw (lt-leb (size_of st f) (g.S * g.B) h)

  module _ {t : Bool} (is : t ≡ slots_test g st f) where
    pub slots_fail : not t ≡ true → false ≡ sound_file g st f
    unfolding sound_file
    slots_fail e = rw (← is, not-true t e, and_false)

    module _ (fits : size_of st f ≤ g.S * g.B) (pass : not t ≡ false) where
      pub whole-slots : size_of st f % g.B ≡ 0 → true ≡ sound_file g st f
      unfolding sound_file
      whole-slots e = rw (le-leb _ _ fits, ← is, not-false t pass, ceil-even r.pos _ e)

      pub part-slot : (size_of st f % g.B ≡ 0 → ⊥) → {u : Bool}
          → u ≡ all_to (g.B - size_of st f % g.B) (λ j. eqb (slot_byte g st.mem (word_of g st.words f (size_of st f / g.B)) (size_of st f % g.B + j)) 0)
          → u ≡ sound_file g st f
      unfolding sound_file byte_at
      part-slot d e =
          let n : ceil_div (size_of st f) g.B * g.B - size_of st f ≡ g.B - size_of st f % g.B =
          rw (ceil-odd r.pos _ d) (omega (arith, div-add-mod' (size_of st f) g.B)) in
          e ∙ rw (le-leb _ _ fits, ← is, not-false t pass, n) (all_to_ext (g.B - size_of st f % g.B) _ _ (λ j h. rw (same-slot r.pos _ j h, same_offset r.pos _ j h)))

-- what a sound file's slots are
module _ (g : Geometry) (st : Store) (f : ℕ) where
  abbrev bytes_test : Bool
  bytes_test = all_to (ceil_div (size_of st f) g.B * g.B - size_of st f) (λ j. eqb (byte_at g st f (size_of st f + j)) 0)

  pub file-fits : sound_file g st f ≡ true → size_of st f ≤ g.S * g.B
  unfolding sound_file
  file-fits is = leb-true (size_of st f) (g.S * g.B) (and_left (leb (size_of st f) (g.S * g.B)) (slots_test g st f) (and_left (leb (size_of st f) (g.S * g.B) && slots_test g st f) bytes_test is))

  pub file-past : sound_file g st f ≡ true → slots_test g st f ≡ true
  unfolding sound_file
  file-past is = and_right (leb (size_of st f) (g.S * g.B)) (slots_test g st f) (and_left (leb (size_of st f) (g.S * g.B) && slots_test g st f) bytes_test is)
