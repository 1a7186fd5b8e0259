-- Laws on a file's slots: those past its size hold no block and are not reserved, and what is counted of the others is counted of all.
use Prim.Native.Nat.{ℕ, suc, ◌+◌, ◌-◌, ◌*◌, ◌/◌, ◌≤◌, ◌<◌}
use mathlib.Core.Path.{◌≡◌, refl, sym, ap, ◌∙◌}
use mathlib.Core.Bool.{Bool, true, false, ◌||◌}
use mathlib.Core.List.{List}
use native.Mathlib.Nat.{mul-le-mul_right}
use native.Mathlib.Decide.{dec_lt}
use native.Mathlib.Omega.{arith}
use borrow.Author.Tests.{ne_eqb, eqb-true, le-ltb, leb-true, lt-leb}
use lib.ListN.{length, get_or, take, drop, length-take, length-drop, get_or-eq_default}
use lib.Seq.{get_or-take, get_or-drop, take-take, length-take-le}
use lib.Dec.{leb, ltb, eqb}
use Rattle.rules.specs.Lists.{count, all_to, ceil_div}
use Rattle.rules.specs.Store.{Geometry, Store, size_of, word_of, is_reserved, holds, sound_file}
use Rattle.rules.specs.Attributes.{slots_of}
use Rattle.tables.specs.Tables.{Shaped, FileKnown}
use Rattle.tables.specs.Tally.{Scannable, SlotsCounted}
use Rattle.tables.specs.Survey.{file_passes, FileReady}
use Rattle.rules.proofs.CountLaws.{count-parts, count-none-at}
use Rattle.rules.proofs.GeometryLaws.{Good, good, block-pos, lengths}
use Rattle.rules.proofs.SoundLaws.{all_to_at}
use Rattle.rules.proofs.SoundStore.{ceil_le}
use Rattle.xdr.proofs.BoolLaws.{and_false}
use Rattle.tables.proofs.GroupLaws.{all_to_ext}
use Rattle.tables.proofs.FileTests.{file-past}

-- what is not counted of the first s elements: from place c on they are 0
count_head : (p : ℕ → Bool) (c s : ℕ) (l : List ℕ) → c ≤ s → p 0 ≡ false → ((k : ℕ) → c ≤ k → k < s → get_or l k 0 ≡ 0)
    → count p (take s l) ≡ count p (take c l)
count_head p c s l h z e = omega (arith, count-parts p c (take s l), ap (count p) (take-take c s l h), count-none-at p (drop c (take s l)) each)
  where
    go : (i : ℕ) → Dec (c + i < s) → p (get_or (take s l) (c + i) 0) ≡ false
    go i (yes k) = rw (get_or-take s l (c + i) 0 k, e (c + i) (omega arith) k) z
    go i (no d) = rw (get_or-eq_default (take s l) 0 {n = c + i} (omega (arith, d, length-take s l))) z

    each : (i : ℕ) → p (get_or (drop c (take s l)) i 0) ≡ false
    each i = rw (get_or-drop c (take s l) i 0) (go i (dec_lt (c + i) s))

-- ---- one file

module _ (g : Geometry) (st : Store) (counts : List ℕ) (f : ℕ) (shaped : Shaped g st) (ready : FileReady g st counts f) where
  abbrev end : ℕ
  end = ceil_div (size_of st f) g.B

  is_good : Good g
  is_good = good g shaped.geometry

  pub block-some : 0 < g.B
  block-some = block-pos is_good

  pub slots-inside : f * g.S + g.S ≤ length st.words
  slots-inside = omega (arith, (lengths g st shaped.lengths).slots, mul-le-mul_right g.S ready.file)

  -- a size that does not fit
  pub size_fails : g.S * g.B < size_of st f → false ≡ file_passes g st f
  unfolding sound_file
  size_fails h = rw (lt-leb (size_of st f) (g.S * g.B) h, and_false)

  module _ (fits : size_of st f ≤ g.S * g.B) where
    pub end-inside : end ≤ g.S
    end-inside = ceil_le block-some (size_of st f) g.S fits

    -- the slots below its end, as the code takes them
    abbrev pub head_slots : List ℕ
    head_slots = take (f * g.S + end - f * g.S) (drop (f * g.S) st.words)

    head-is : f * g.S + end - f * g.S ≡ end
    head-is = omega arith

    head-long : length head_slots ≡ end
    unfolding head-is
    head-long =
        rw head-is
        (length-take-le end (drop (f * g.S) st.words) (rw (length-drop (f * g.S) st.words) (omega (arith, slots-inside, end-inside))))

    head_at : (k : ℕ) → k < end → get_or head_slots k 0 ≡ word_of g st.words f k
    unfolding head-is
    head_at k l =
        rw head-is (get_or-take end (drop (f * g.S) st.words) k 0 l ∙ get_or-drop (f * g.S) st.words k 0)

    -- no more of them are counted than of all slots
    head_few : (p : ℕ → Bool) → count p head_slots ≤ count p (slots_of g st.words f)
    unfolding head-is
    head_few p =
        rw head-is
        (omega (
          arith,
          count-parts p end (slots_of g st.words f),
          ap (count p) (take-take end g.S (drop (f * g.S) st.words) end-inside),
        ))

    -- what `scan_and_note` asks
    pub scannable : Scannable head_slots counts
    scannable = record {
      blocks = rw ready.long is_good.blocks_most;
      short = omega (arith, head-long, end-inside, is_good.slots_most);
      few = λ b h. omega (arith, ready.few b h, head_few (holds b));
    }

    -- the scan's test of them
    abbrev pub head_formed : Bool
    head_formed = all_to (length head_slots) (λ i. leb (get_or head_slots i 0 / 2) (length counts))

    formed_is : head_formed ≡ all_to end (λ k. leb (word_of g st.words f k / 2) g.N)
    formed_is =
        ap (λ (n : ℕ). all_to n (λ i. leb (get_or head_slots i 0 / 2) (length counts))) head-long
        ∙ all_to_ext end _ _ (λ k l. rw (head_at k l, ready.long))

    pub words_fail : false ≡ head_formed → false ≡ file_passes g st f
    words_fail e = rw (sym formed_is ∙ sym e)

    module _ (ok : true ≡ head_formed) where
      pub file_known : FileKnown g st f
      file_known = record {
        file = ready.file;
        pool = λ k l.
            leb-true (word_of g st.words f k / 2) g.N
            (all_to_at end (λ k. leb (word_of g st.words f k / 2) g.N) (sym formed_is ∙ sym ok) k l);
      }

      module _ (fine : true ≡ sound_file g st f) where
        past-zero : (k : ℕ) → end ≤ k → k < g.S → get_or (drop (f * g.S) st.words) k 0 ≡ 0
        past-zero k h l =
            get_or-drop (f * g.S) st.words k 0
            ∙ eqb-true (word_of g st.words f k) 0
            (rw (le-ltb k end h) at
            (all_to_at g.S (λ j. ltb j end || eqb (word_of g st.words f j) 0) (file-past g st f (sym fine)) k l))

        head_counts : (p : ℕ → Bool) → p 0 ≡ false → count p (slots_of g st.words f) ≡ count p head_slots
        unfolding head-is
        head_counts p z = rw head-is (count_head p end g.S (drop (f * g.S) st.words) end-inside z past-zero)

        -- the file passes, and what is counted of them is counted of all
        pub file_passes_lem : {held : ℕ} {reserved : Bool} {after : List ℕ} → SlotsCounted head_slots counts held reserved after
            → (true ≡ file_passes g st f) × SlotsCounted (slots_of g st.words f) counts held reserved after
        file_passes_lem scan = (
          rw (sym formed_is ∙ sym ok, sym fine),
          record {
            noted = record {
              long = scan.noted.long;
              each = λ b h. scan.noted.each b h ∙ ap (λ (n : ℕ). get_or counts b 0 + n) (sym (head_counts (holds b) (ne_eqb 0 (suc b) (λ (q : 0 ≡ suc b). omega arith))));
            };
            slots = record {
              held_is = scan.slots.held_is ∙ sym (head_counts (ltb 1) refl);
              reserved_is = scan.slots.reserved_is ∙ ap (ltb 0) (sym (head_counts is_reserved refl));
            };
          },
        )
