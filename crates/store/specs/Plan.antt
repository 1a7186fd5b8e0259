-- What a plan in place leaves. Contracts cite these records.
use Rattle.std.specs.Prelude.{ℕ, ◌+◌, ◌≤◌, ◌<◌, ◌≡◌, Bool, true, cond, List, ◌⊎◌, length, get_or}
use Rattle.xdr.specs.Bytes.{splice}
use Rattle.rules.specs.Store.{fits_pool}
use Rattle.rules.proofs.PlanLaws.{InPool}
use Rattle.tables.specs.Tables.{TableTrue}

-- the planned words where they fit the pool, else the words as they were; the table is true either way
pub record Planned (ws planned : List ℕ) (done : Bool) (after counts : List ℕ) : Type 0 where
  pub answer : done ≡ fits_pool (length counts) planned
  pub words_are : after ≡ cond (fits_pool (length counts) planned) planned ws
  pub counted : TableTrue after counts

-- words that differ from ws at the n slots from i on alone
pub record Outside (ws : List ℕ) (i n : ℕ) (after : List ℕ) : Type 0 where
  pub slots : length after ≡ length ws
  pub same : (p : ℕ) → (p < i) ⊎ (i + n ≤ p) → get_or after p 0 ≡ get_or ws p 0

-- words of the pool that can be stored from slot i on
pub record Undoable (ws counts : List ℕ) (i : ℕ) (old : List ℕ) : Type 0 where
  pub counted : TableTrue ws counts
  pub inside : i + length old ≤ length ws
  pub pool : InPool (length counts) old

-- with them the words fit the pool
pub record Settleable (ws counts : List ℕ) (i : ℕ) (old : List ℕ) : Type 0 where
  pub undoable : Undoable ws counts i old
  pub fitted : fits_pool (length counts) (splice ws i old) ≡ true

-- the words old stored from slot i on, the table still true
pub record Undone (ws : List ℕ) (i : ℕ) (old after counts : List ℕ) : Type 0 where
  pub words_are : after ≡ splice ws i old
  pub counted : TableTrue after counts
