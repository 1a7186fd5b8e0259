-- The pieces of READ_PLUS as they are answered.
use Rattle.std.specs.Prelude.{ℕ, suc, ◌+◌, cond, List, [], ◌∷◌}
use Rattle.xdr.specs.Encode.{opaque_size}
use Rattle.rules.specs.Store.{Geometry, Store}
use Rattle.rules.specs.Read.{Piece, pieces}

-- how many bytes a piece is
abbrev pub piece_size : Piece → ℕ
piece_size p = cond p.hole (4 + (8 + 8)) (4 + (8 + opaque_size p.size))

abbrev pub pieces_size : List Piece → ℕ
pieces_size [] = 0
pieces_size (p ∷ ps) = piece_size p + pieces_size ps

-- the pieces from `off` up to `end`
abbrev pub pieces_to : Geometry → Store → ℕ → ℕ → ℕ → List Piece
pieces_to g st f off end = pieces g st f end (suc g.S) off
