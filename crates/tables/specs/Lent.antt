-- What a call is lent, as contracts name it.
use Rattle.std.specs.Prelude.{ℕ, List}
use Rattle.std.specs.Borrow.{Bor}
use Rattle.rules.specs.Store.{Geometry, Store}
use Rattle.tables.specs.Dimensions.{numbers}
use Rattle.tables.specs.declared.geometry.Geometry as Code
use Rattle.tables.specs.declared.geometry.Dimensions as Said

abbrev pub geometry_of : Code.Geometry → Geometry
geometry_of g = numbers g.files g.slots g.blocks g.block_size

-- what a caller says of its tables
abbrev pub dimensions_of : Said.Dimensions → Geometry
dimensions_of d = numbers d.files d.slots d.blocks d.block_size

-- a lent slice
abbrev pub Slice : Type 0
Slice = Bor (List ℕ)

-- the lent tables, sizes, words and memory: what they hold at one moment
abbrev pub tables : List ℕ → List ℕ → List ℕ → Store
tables s w m = record { sizes = s; words = w; mem = m }
