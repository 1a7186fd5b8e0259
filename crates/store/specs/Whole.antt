-- What a lent store holds. This file names the struct, which has ghost fields: import it inside the impl block.
use Rattle.std.specs.Prelude.{◌≡◌}
use Rattle.rules.specs.Store as Rules
use Rattle.tables.specs.Lent.{tables}
use Rattle.store.specs.declared.store.Store.{Store}

abbrev pub whole : Store → Rules.Store
whole s = tables s.sizes.now s.words.now s.memory.now

-- b lends the slices that a lent, of the same geometry
pub record KeepsWhole (a b : Store) : Type 0 where
  pub geometry : b.geometry ≡ a.geometry
  pub sizes : b.sizes.ghost_name ≡ a.sizes.ghost_name
  pub words : b.words.ghost_name ≡ a.words.ghost_name
  pub memory : b.memory.ghost_name ≡ a.memory.ghost_name
  pub holders : b.holders.ghost_name ≡ a.holders.ghost_name
