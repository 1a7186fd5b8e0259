-- The survey: what is asked of its table of holders, and what it tells.
use Rattle.std.specs.Prelude.{ℕ, ◌+◌, ◌*◌, ◌/◌, ◌≤◌, ◌<◌, ◌≡◌, Bool, true, ◌&&◌, List, length, get_or, leb, Result, Ok, Err}
use Rattle.rules.specs.Lists.{all_to, ceil_div}
use Rattle.rules.specs.Store.{Geometry, Store, size_of, word_of, holders, sound_file, sound}
use Rattle.rules.specs.Attributes.{slots_of}
use Rattle.tables.specs.Tables.{TableTrue}
use Rattle.tables.specs.declared.refusal.Refusal.{Refusal}
use Rattle.tables.specs.declared.counted.Survey.{Survey}

-- the tests of a sound store but for the room: words well formed, and each file sound
unfoldable pub tables_pass : Geometry → Store → Bool
tables_pass g st = all_to (g.F * g.S) (λ i. leb (get_or st.words i 0 / 2) g.N) && all_to g.F (sound_file g st)

-- the slots of file f below its end name blocks of the pool, and it is sound
abbrev pub file_passes : Geometry → Store → ℕ → Bool
file_passes g st f = all_to (ceil_div (size_of st f) g.B) (λ k. leb (word_of g st.words f k / 2) g.N) && sound_file g st f

-- a table of one number for each block, to which the slots of file f can be added
pub record FileReady (g : Geometry) (st : Store) (counts : List ℕ) (f : ℕ) : Type 0 where
  pub file : f < g.F
  pub long : length counts ≡ g.N
  pub few : (b : ℕ) → b < length counts → get_or counts b 0 + holders b (slots_of g st.words f) ≤ 65536

-- whether the store is sound, with a true table of holders where it is
pub record TableJudged (g : Geometry) (st : Store) (sound-is : Bool) (after : List ℕ) : Type 0 where
  pub judged : sound-is ≡ sound g st
  pub table : sound-is ≡ true → TableTrue st.words after

-- the counts of a survey, 0 on a refusal
abbrev pub used_told : Result Survey Refusal → ℕ
used_told (Ok s) = s.used
used_told (Err r) = 0

abbrev pub owed_told : Result Survey Refusal → ℕ
owed_told (Ok s) = s.owed
owed_told (Err r) = 0
