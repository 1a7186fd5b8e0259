-- The survey: what its tests and counts say of a store.
use Prim.Native.Nat.{ℕ, ◌+◌, ◌*◌, ◌/◌, ◌%◌, ◌≤◌, ◌<◌}
use mathlib.Core.Path.{◌≡◌, refl, sym, ap, subst, ◌∙◌}
use mathlib.Core.Bool.{Bool, true, false, ◌&&◌, ◌||◌, true≢false}
use mathlib.Core.List.{List}
use native.Mathlib.Nat.{div-add-mod', mod-lt, mul-le-mul_right}
use native.Mathlib.Decide.{dec_lt}
use native.Mathlib.Numerals.{add-one}
use native.Mathlib.Omega.{arith}
use lib.ListN.{length, get_or, drop, replicate, length-replicate}
use lib.Dec.{leb, ltb}
use borrow.Author.Tests.{le-leb, lt-leb, le-ltb, eqb-true}
use Rattle.rules.specs.Lists.{all_to, count, ceil_div}
use Rattle.rules.specs.Store.{Geometry, Store, size_of, word_of, is_reserved, holds, holders, used, owed, fits_pool, sound_file, sound}
use Rattle.rules.specs.Attributes.{slots_of}
use Rattle.rules.specs.Calls.{store_refusal, used_count, owed_count, SurveyPromise}
use Rattle.tables.specs.Tables.{Shaped, TableTrue}
use Rattle.tables.specs.Tally.{some_reserved, owes_by, SlotsCounted, RoomKnown}
use Rattle.tables.specs.Survey.{tables_pass, file_passes, FileReady, TableJudged}
use Rattle.tables.specs.Lent.{geometry_of}
use Rattle.tables.specs.Viewed.{view_store}
use Rattle.tables.specs.declared.lent.View.{View}
use Rattle.rules.proofs.CountLaws.{count_most, count-end}
use Rattle.rules.proofs.GeometryLaws.{good, block-pos, slots-all, lengths}
use Rattle.rules.proofs.SoundLaws.{all_to_at, all_to_all}
use Rattle.rules.proofs.SoundStore.{ceil_le}
use Rattle.xdr.proofs.BoolLaws.{and_left, and_right, and_both}
use Rattle.tables.proofs.GroupLaws.{same_tests}
use Rattle.tables.proofs.TallyLaws.{count-from, formed_pool, some-part, some-none}
use Rattle.tables.proofs.PoolLaws.{all_to_fails, tallied_used, tallied_owed}
use Rattle.tables.proofs.FileTests.{file-fits, file-past}

-- ---- the tests, file by file

module _ (g : Geometry) (st : Store) (h : Shaped g st) where
  abbrev formed_all : Bool
  formed_all = all_to (g.F * g.S) (λ i. leb (get_or st.words i 0 / 2) g.N)

  abbrev formed_head : ℕ → Bool
  formed_head f = all_to (ceil_div (size_of st f) g.B) (λ k. leb (word_of g st.words f k / 2) g.N)

  -- each word is one of a file: below its end it was tested, behind it is 0
  word_formed : ((f : ℕ) → f < g.F → file_passes g st f ≡ true) → (i : ℕ) → i < g.F * g.S → leb (get_or st.words i 0 / 2) g.N ≡ true
  word_formed all i l = subst (λ (n : ℕ). leb (get_or st.words n 0 / 2) g.N ≡ true) split (go (dec_lt (i % g.S) (ceil_div (size_of st (i / g.S)) g.B)))
    where
      pos : 0 < g.S
      pos = (good g h.geometry).slots

      split : i / g.S * g.S + i % g.S ≡ i
      split = div-add-mod' i g.S

      file : i / g.S < g.F
      file = below (dec_lt (i / g.S) g.F)
        where
          below : Dec (i / g.S < g.F) → i / g.S < g.F
          below (yes k) = k
          below (no d) =
              let past : g.F ≤ i / g.S = omega (arith, d) in
              absurd (omega (arith, mul-le-mul_right g.S past, split))

      go : Dec (i % g.S < ceil_div (size_of st (i / g.S)) g.B) → leb (word_of g st.words (i / g.S) (i % g.S) / 2) g.N ≡ true
      go (yes k) = all_to_at (ceil_div (size_of st (i / g.S)) g.B) _ (and_left (formed_head (i / g.S)) (sound_file g st (i / g.S)) (all (i / g.S) file)) (i % g.S) k
      go (no d) =
          let zero : word_of g st.words (i / g.S) (i % g.S) ≡ 0 =
          eqb-true (word_of g st.words (i / g.S) (i % g.S)) 0
          (rw (le-ltb (i % g.S) (ceil_div (size_of st (i / g.S)) g.B) (omega (arith, d))) at
          (all_to_at g.S _ (file-past g st (i / g.S) (and_right (formed_head (i / g.S)) (sound_file g st (i / g.S)) (all (i / g.S) file))) (i % g.S) (mod-lt i pos))) in
          rw zero (le-leb 0 g.N (omega arith))

  head_formed : tables_pass g st ≡ true → (f : ℕ) → f < g.F → file_passes g st f ≡ true
  unfolding tables_pass
  head_formed e f l =
      let is : sound_file g st f ≡ true = all_to_at g.F (sound_file g st) (and_right formed_all (all_to g.F (sound_file g st)) e) f l in
      and_both (formed_head f) (sound_file g st f)
      (all_to_all (ceil_div (size_of st f) g.B) _ (λ k m.
      all_to_at (g.F * g.S) (λ i. leb (get_or st.words i 0 / 2) g.N) (and_left formed_all (all_to g.F (sound_file g st)) e) (f * g.S + k)
      (omega (arith, ceil_le (block-pos (good g h.geometry)) (size_of st f) g.S (file-fits g st f is), mul-le-mul_right g.S l))))
      is

  pub pass-files : tables_pass g st ≡ all_to g.F (file_passes g st)
  unfolding tables_pass
  pass-files =
      same_tests (tables_pass g st) (all_to g.F (file_passes g st))
      (λ e. all_to_all g.F (file_passes g st) (head_formed e))
      (λ e.
      let all = all_to_at g.F (file_passes g st) e in
      and_both formed_all (all_to g.F (sound_file g st)) (all_to_all (g.F * g.S) _ (word_formed all))
      (all_to_all g.F (sound_file g st) (λ f l. and_right (formed_head f) (sound_file g st f) (all f l))))

passed_words : (g : Geometry) (st : Store) → tables_pass g st ≡ true → all_to (g.F * g.S) (λ i. leb (get_or st.words i 0 / 2) g.N) ≡ true
unfolding tables_pass
passed_words g st e = and_left (all_to (g.F * g.S) (λ i. leb (get_or st.words i 0 / 2) g.N)) (all_to g.F (sound_file g st)) e

-- the first f files have passed and are counted
pub record Testing (g : Geometry) (st : Store) (counts : List ℕ) (f held : ℕ) (reserved : Bool) : Type 0 where
  pub within : f ≤ g.F
  pub long : length counts ≡ g.N
  pub passed : all_to f (file_passes g st) ≡ true
  pub each : (b : ℕ) → b < length counts → get_or counts b 0 + holders b (drop (f * g.S) st.words) ≡ holders b st.words
  pub held_rest : held + count (ltb 1) (drop (f * g.S) st.words) ≡ count (ltb 1) st.words
  pub reserved_rest : (reserved || some_reserved (drop (f * g.S) st.words)) ≡ some_reserved st.words

pub ready_long : (n : ℕ) (counts : List ℕ) → counts ≡ replicate n 0 → length counts ≡ n
ready_long n counts zeros = ap length zeros ∙ length-replicate n 0

module _ {g : Geometry} {st : Store} {counts : List ℕ} {f held : ℕ} {reserved : Bool} (h : Shaped g st) (t : Testing g st counts f held reserved) where
  most-words : length st.words ≤ 65536
  most-words = omega (arith, (lengths g st h.lengths).slots, slots-all g (good g h.geometry))

  -- the file's slots, and those of the files behind
  split : (p : ℕ → Bool) → count p (slots_of g st.words f) + count p (drop ((f + 1) * g.S) st.words) ≡ count p (drop (f * g.S) st.words)
  split p = let e : (f + 1) * g.S ≡ f * g.S + g.S = omega arith in rw e (count-from p (f * g.S) g.S st.words)

  pub held_small : held ≤ 65536
  held_small = omega (arith, t.held_rest, count_most (ltb 1) st.words, most-words)

  pub file_ready : f < g.F → FileReady g st counts f
  file_ready l = record {
    file = l;
    long = t.long;
    few = λ b k. omega (arith, split (holds b), t.each b k, count_most (holds b) st.words, most-words);
  }

  pub testing_fails : f < g.F → false ≡ file_passes g st f → false ≡ tables_pass g st
  testing_fails l e = sym (pass-files g st h ∙ all_to_fails g.F f (file_passes g st) l (sym e))

  -- file f has passed and is counted
  module _ {more : ℕ} {too : Bool} {after : List ℕ} (r : SlotsCounted (slots_of g st.words f) counts more too after) where
    pub more_small : more ≤ 65536
    more_small = omega (arith, r.slots.held_is, split (ltb 1), t.held_rest, count_most (ltb 1) st.words, most-words)

    pub testing_more : f < g.F → true ≡ file_passes g st f → Testing g st after (f + 1) (held + more) (reserved || too)
    testing_more l ok =
        let n = r.noted in
        record {
          within = omega (arith, l);
          long = n.long ∙ t.long;
          passed = rw (add-one f) (and_both (file_passes g st f) (all_to f (file_passes g st)) (sym ok) t.passed);
          each = λ b k.
              let m : b < length counts = omega (arith, n.long) in
              omega (arith, n.each b m, split (holds b), t.each b m);
          held_rest = omega (arith, r.slots.held_is, split (ltb 1), t.held_rest);
          reserved_rest =
              rw r.slots.reserved_is
              (some-part reserved (count is_reserved (slots_of g st.words f)) (count is_reserved (drop ((f + 1) * g.S) st.words)) ∙ ap (λ (n : ℕ). reserved || ltb 0 n) (split is_reserved) ∙ t.reserved_rest);
        }

  -- all have
  module _ (l : g.F ≤ f) where
    last : f ≡ g.F
    last = omega (arith, t.within)

    pub testing_all : true ≡ tables_pass g st
    unfolding last
    testing_all = sym (pass-files g st h ∙ rw last at t.passed)

    none : (p : ℕ → Bool) → count p (drop (f * g.S) st.words) ≡ 0
    unfolding last
    none p = count-end p st.words (f * g.S) (rw last (omega (arith, (lengths g st h.lengths).slots)))

    pub testing_room : RoomKnown held reserved st.words counts
    testing_room = record {
      counted = record {
        table = record { each = λ b k. omega (arith, t.each b k, none (holds b)) };
        pool = rw t.long (formed_pool (g.F * g.S) g.N st.words (lengths g st h.lengths).slots (passed_words g st (sym testing_all)));
        few = most-words;
        some = rw t.long (good g h.geometry).blocks;
        most = rw t.long (good g h.geometry).blocks_most;
      };
      slots = record { held_is = omega (arith, t.held_rest, none (ltb 1)); reserved_is = some-none reserved ∙ ap (λ (n : ℕ). reserved || ltb 0 n) (sym (none is_reserved)) ∙ t.reserved_rest };
    }

-- ---- what is told

module _ (g : Geometry) (st : Store) (h : Shaped g st) where
  survey_unsound : sound g st ≡ false → SurveyPromise g st 3 0 0
  unfolding store_refusal used_count owed_count
  survey_unsound k =
      record { number_is = rw (h.geometry, h.lengths, k); used_is = rw (h.geometry, h.lengths, k); owed_is = rw (h.geometry, h.lengths, k) }

  survey_sound : sound g st ≡ true → SurveyPromise g st 0 (used st.words) (owed st.words)
  unfolding store_refusal used_count owed_count
  survey_sound k =
      record { number_is = rw (h.geometry, h.lengths, k); used_is = rw (h.geometry, h.lengths, k); owed_is = rw (h.geometry, h.lengths, k) }

-- ---- the room

-- sound, in two parts
sound-parts : (g : Geometry) (st : Store) → sound g st ≡ (tables_pass g st && fits_pool g.N st.words)
unfolding sound tables_pass
sound-parts g st = refl

module _ (g : Geometry) (st : Store) where
  module _ (fails : false ≡ tables_pass g st) where
    not_sound : sound g st ≡ false
    not_sound = sound-parts g st ∙ rw (sym fails)

    pub judge_fails : {after : List ℕ} → TableJudged g st false after
    judge_fails = record { judged = sym not_sound; table = λ q. absurd (true≢false (sym q)) }

    pub survey_fails : Shaped g st → SurveyPromise g st 3 0 0
    survey_fails h = survey_unsound g st h not_sound

  module _ {after : List ℕ} {held : ℕ} {reserved : Bool} (passes : true ≡ tables_pass g st) (long : length after ≡ g.N) (room : RoomKnown held reserved st.words after) where
    sound-is : sound g st ≡ fits_pool g.N st.words
    sound-is = sound-parts g st ∙ rw (sym passes)

    true-table : TableTrue st.words after
    true-table = room.counted

    pub judge_room : {fits : Bool} → fits ≡ fits_pool (length after) st.words → TableJudged g st fits after
    judge_room e = record { judged = e ∙ ap (λ (n : ℕ). fits_pool n st.words) long ∙ sym sound-is; table = λ q. true-table }

    -- used and owed blocks, counted
    module _ {u o : ℕ} (used_told : u ≡ count (ltb 0) after) (owed_told : o ≡ count (owes_by after) st.words) where
      pub sum_small : u + o ≤ 131072
      sum_small = omega (arith, used_told, owed_told, count_most (ltb 0) after, count_most (owes_by after) st.words, true-table.most, true-table.few)

      used-same : u ≡ used st.words
      used-same = used_told ∙ tallied_used st.words after true-table.table true-table.pool

      owed_same : o ≡ owed st.words
      owed_same = owed_told ∙ tallied_owed st.words after true-table.table true-table.pool

      pub survey_room : Shaped g st → g.N < u + o → SurveyPromise g st 3 0 0
      survey_room h l = survey_unsound g st h (sound-is ∙ lt-leb (used st.words + owed st.words) g.N (omega (arith, used-same, owed_same)))

      pub surveyed : Shaped g st → u + o ≤ g.N → SurveyPromise g st 0 u o
      surveyed h l =
          rw (used-same, owed_same)
          (survey_sound g st h (sound-is ∙ le-leb (used st.words + owed st.words) g.N (omega (arith, used-same, owed_same))))

-- ---- the table's length

-- ---- a view's tables

pub view_shaped : (v : View) → Shaped (geometry_of v.geometry) (view_store v)
view_shaped v = record { geometry = v.geometry.good; lengths = v.lengths }
