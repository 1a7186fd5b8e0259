use Prim.Native.Nat.{ℕ, ◌-◌}
use mathlib.Core.Path.{◌≡◌}
use mathlib.Core.List.{List}
use lib.ListN.{get_or}
use Rattle.rules.specs.Read.{seek_place}
use Rattle.tables.specs.Lent.{geometry_of}
use Rattle.store.proofs.seek.seek_file.Given as goal

abbrev pub invariant-loop-i : goal.invariant-loop-i
invariant-loop-i l = (sizes m : List ℕ) → get_or sizes l.f 0 ≡ l.size
    → seek_place (geometry_of l.g) (record { sizes = sizes; words = l.words; mem = m }) l.f l.hole l.i
    ≡ seek_place (geometry_of l.g) (record { sizes = sizes; words = l.words; mem = m }) l.f l.hole l.off

abbrev pub decreases-loop-i : goal.decreases-loop-i
decreases-loop-i l = l.size - l.i
