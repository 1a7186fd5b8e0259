-- What is known of the tables where an inner function is called: contracts cite these records.
use Rattle.std.specs.Prelude.{ℕ, ◌/◌, ◌≤◌, ◌<◌, ◌≡◌, true, List, length, get_or, set}
use Rattle.rules.specs.Lists.{ceil_div}
use Rattle.rules.specs.Store.{Geometry, good_geometry, Store, good_lengths, size_of, word_of, holders}
use Rattle.rules.proofs.PlanLaws.{InPool}

-- a good geometry, and tables of its lengths
pub record Shaped (g : Geometry) (st : Store) : Type 0 where
  pub geometry : good_geometry g ≡ true
  pub lengths : good_lengths g st ≡ true

-- file f is one of theirs, and its slots below its end name blocks of the pool
pub record FileKnown (g : Geometry) (st : Store) (f : ℕ) : Type 0 where
  pub file : f < g.F
  pub pool : (k : ℕ) → k < ceil_div (size_of st f) g.B → word_of g st.words f k / 2 ≤ g.N

-- the table of holders: for each block the number of slots that hold it
pub record Tallied (ws counts : List ℕ) : Type 0 where
  pub each : (b : ℕ) → b < length counts → get_or counts b 0 ≡ holders b ws

-- words whose blocks are in the pool, with a true table of holders
pub record TableTrue (ws counts : List ℕ) : Type 0 where
  pub table : Tallied ws counts
  pub pool : InPool (length counts) ws
  pub few : length ws ≤ 65536
  pub some : 0 < length counts
  pub most : length counts ≤ 65536

-- one word stored, the table still true
pub record Stored (ws : List ℕ) (i w : ℕ) (after counts : List ℕ) : Type 0 where
  pub words_are : after ≡ set ws i w
  pub counted : TableTrue after counts
