-- The numbers of a refused call.
use Rattle.std.specs.Prelude.{ℕ}
use Rattle.tables.specs.declared.refusal.Refusal.{Refusal}

abbrev pub number_of : Refusal → ℕ
number_of Refusal.Geometry = 1
number_of Refusal.Length = 2
number_of Refusal.Unsound = 3
number_of Refusal.NoSlot = 8
