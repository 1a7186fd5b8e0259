-- READ, READ_PLUS and SEEK (document 01, "Reading").
use Rattle.std.specs.Prelude.{ℕ, zero, suc, ◌+◌, ◌-◌, ◌*◌, ◌/◌, min, Bool, true, false, List, [], ◌∷◌, leb, ltb}
use Rattle.std.specs.Bool.{beq}
use Rattle.rules.specs.Store.{Geometry, Store, is_hole, size_of, word_of}

abbrev pub granted : ℕ → ℕ
granted n = min n 2048

-- how many bytes a READ gives: what is granted, cut at the size; none past it
abbrev pub read_count : Store → ℕ → ℕ → ℕ → ℕ
read_count st f off n = min (granted n) (size_of st f - off)

-- eof
abbrev pub is_at_end : Store → ℕ → ℕ → ℕ → Bool
is_at_end st f off n = leb (size_of st f) (off + granted n)

-- place i of file f lies in a hole
abbrev pub is_hole_at : Geometry → Store → ℕ → ℕ → Bool
is_hole_at g st f i = is_hole (word_of g st.words f (i / g.B))

-- ---- READ_PLUS

-- a piece of a file: a hole or data, from a place on, so many bytes
pub record Piece : Type 0 where
  pub hole : Bool
  pub start : ℕ
  pub size : ℕ

-- a piece in front of others, joined with the first where both are holes or both are data
unfoldable pub join : Piece → List Piece → List Piece
join p [] = p ∷ []
join p (q ∷ qs) = elim (beq p.hole q.hole) [
  | true ↦ record { hole = p.hole; start = p.start; size = p.size + q.size } ∷ qs
  | false ↦ p ∷ q ∷ qs
]

-- the pieces of file f from place i up to `end`, slot by slot; k bounds the number of slots
unfoldable pub pieces : Geometry → Store → ℕ → ℕ → ℕ → ℕ → List Piece
pieces g st f end zero i = []
pieces g st f end (suc k) i = elim (ltb i end) [
  | true ↦ let next = min end ((i / g.B + 1) * g.B) in
      join (record { hole = is_hole_at g st f i; start = i; size = next - i }) (pieces g st f end k next)
  | false ↦ []
]

-- clipped to the granted range and the size; at or past the size none (house)
abbrev pub read_pieces : Geometry → Store → ℕ → ℕ → ℕ → List Piece
read_pieces g st f off n = pieces g st f (min (off + granted n) (size_of st f)) (suc g.S) off

-- ---- SEEK

-- the first place from i on that is a hole (or data), or the size; k bounds the number of slots
unfoldable pub seek_from : Geometry → Store → ℕ → Bool → ℕ → ℕ → ℕ
seek_from g st f hole zero i = size_of st f
seek_from g st f hole (suc k) i = elim (ltb i (size_of st f)) [
  | true ↦ elim (beq hole (is_hole_at g st f i)) [ true ↦ i | false ↦ seek_from g st f hole k ((i / g.B + 1) * g.B) ]
  | false ↦ size_of st f
]

-- the place that SEEK answers
abbrev pub seek_place : Geometry → Store → ℕ → Bool → ℕ → ℕ
seek_place g st f hole off = seek_from g st f hole (suc g.S) off
