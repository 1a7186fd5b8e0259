-- What lent tables hold, which slices are lent, and the number that a refused call is told.
use Rattle.std.specs.Prelude.{ℕ, ◌≡◌, length, Result, Ok, Err}
use Rattle.rules.specs.Store.{Store}
use Rattle.tables.specs.Lent.{tables}
use Rattle.tables.specs.Refusal.{number_of}
use Rattle.tables.specs.declared.refusal.Refusal.{Refusal}
use Rattle.tables.specs.declared.lent.Lent.{Lent}
use Rattle.tables.specs.declared.lent.Seen.{Seen}

abbrev pub lent_store : Lent → Store
lent_store t = tables t.sizes.now t.words.now t.memory.now

abbrev pub seen_store : Seen → Store
seen_store t = tables t.sizes.now t.words.now t.memory.now

-- the same slices are lent, as long as before
pub record KeepsLoan (old new : Lent) : Type 0 where
  pub sizes : new.sizes.ghost_name ≡ old.sizes.ghost_name
  pub words : new.words.ghost_name ≡ old.words.ghost_name
  pub memory : new.memory.ghost_name ≡ old.memory.ghost_name
  pub sizes_long : length new.sizes.now ≡ length old.sizes.now
  pub words_long : length new.words.now ≡ length old.words.now
  pub memory_long : length new.memory.now ≡ length old.memory.now

-- a refusal's number; 0 where nothing is refused
abbrev pub refusal_told : {A : Type 0} → Result A Refusal → ℕ
refusal_told (Ok a) = 0
refusal_told (Err r) = number_of r
