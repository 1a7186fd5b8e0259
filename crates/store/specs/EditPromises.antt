-- The promise of an edit, and what is known where it is called. Contracts cite these records.
use Rattle.std.specs.Prelude.{ℕ, ◌<◌, ◌≡◌, Bool, true, cond, List, length}
use Rattle.rules.specs.Store.{Geometry, Store, sound, fits_pool}
use Rattle.tables.specs.Tables.{Shaped, TableTrue}

-- a sound store with its table of holders, one number for each block, and a file
pub record EditKnown (g : Geometry) (st : Store) (counts : List ℕ) (f : ℕ) : Type 0 where
  pub shaped : Shaped g st
  pub sound : sound g st ≡ true
  pub counted : TableTrue st.words counts
  pub blocks : length counts ≡ g.N
  pub file : f < g.F

-- NOSPC is given exactly if used + owed of the store that the edit would leave exceed the pool; then nothing changes
abbrev pub judged : Geometry → Store → Store → Store
judged g st planned = cond (fits_pool g.N planned.words) planned st

-- the answer is whether the edit was done; `planned` is the store that it would leave
pub record EditPromise (g : Geometry) (st planned : Store) (done : Bool) (after : Store) (counts : List ℕ) : Type 0 where
  pub answer : done ≡ fits_pool g.N planned.words
  pub sizes_are : after.sizes ≡ (judged g st planned).sizes
  pub words_are : after.words ≡ (judged g st planned).words
  pub mem_is : after.mem ≡ (judged g st planned).mem
  pub counted : TableTrue after.words counts
