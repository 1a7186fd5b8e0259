-- The numbers of a geometry. This file names no type of the code: a type's own fact can cite it.
use Rattle.std.specs.Prelude.{ℕ}
use Rattle.rules.specs.Store.{Geometry}

abbrev pub numbers : ℕ → ℕ → ℕ → ℕ → Geometry
numbers files slots blocks block_size = record { F = files; S = slots; N = blocks; B = block_size }
