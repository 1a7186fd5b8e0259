-- What the functions that read a file ask of the lent tables, and what they leave.
use Rattle.std.specs.Prelude.{ℕ, ◌+◌, ◌*◌, ◌/◌, ◌≤◌, ◌<◌, ◌≡◌, Bool, true, not, List, length}
use Rattle.rules.specs.Store.{Geometry, good_geometry, is_hole, word_of}
use Rattle.rules.specs.Read.{Piece}
use Rattle.rules.proofs.PlanLaws.{InPool}

-- file f has a slot word for each place below `end`
pub record Placed (g : Geometry) (ws : List ℕ) (f end : ℕ) : Type 0 where
  pub geometry : good_geometry g ≡ true
  pub slots : length ws ≡ g.F * g.S
  pub file : f < g.F
  pub fits : end ≤ g.S * g.B

-- and bytes: the blocks of its slots lie in the memory
pub record Readable (g : Geometry) (ws m : List ℕ) (f end : ℕ) : Type 0 where
  pub geometry : good_geometry g ≡ true
  pub slots : length ws ≡ g.F * g.S
  pub bytes : length m ≡ g.N * g.B
  pub pool : InPool g.N ws
  pub file : f < g.F
  pub fits : end ≤ g.S * g.B

-- n places from i on, at least one, in one slot of b bytes
pub record InSlot (b i n : ℕ) : Type 0 where
  pub some : 1 ≤ n
  pub ends : i + n ≤ (i / b + 1) * b

-- ---- pieces

-- place i of file f lies in a hole (`is_hole_at` of Read)
abbrev pub hole_in : Geometry → List ℕ → ℕ → ℕ → Bool
hole_in g ws f i = is_hole (word_of g ws f (i / g.B))

-- the piece of file f that starts at place i ends at p: the first place after i of the other kind, or `end`
pub record PieceEnds (g : Geometry) (ws : List ℕ) (f i end p : ℕ) : Type 0 where
  pub more : i < p
  pub most : p ≤ end
  pub same : (j : ℕ) → i ≤ j → j < p → hole_in g ws f j ≡ hole_in g ws f i
  pub other : p < end → hole_in g ws f p ≡ not (hole_in g ws f i)

-- n bytes from place i on, as a piece
abbrev pub piece_at : Geometry → List ℕ → ℕ → ℕ → ℕ → Piece
piece_at g ws f i n = record { hole = hole_in g ws f i; start = i; size = n }
