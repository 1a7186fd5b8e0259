-- The frames of document 01's program, by computation: lines in, lines out, from an empty store.
use Prim.Native.Nat.{ℕ}
use Prim.Native.Char.{code}
use Prim.Native.String.{String, len, char_at}
use mathlib.Core.Path.{◌≡◌, refl}
use mathlib.Core.List.{List, [], ◌∷◌, map}
use Rattle.rules.specs.Lists.{tabulate}
use Rattle.rules.specs.Store.{empty_store}
use Rattle.rules.specs.Line.{line_bytes, hex_line, request_of, frame_geometry, answer_request, answer_line, answer_lines}
use Rattle.rules.proofs.Script.{rules}

-- a text's ASCII codes
abbrev codes : String → List ℕ
codes s = tabulate (λ i. code (char_at s i)) 0 (len s)

abbrev lines_in : List String
lines_in =
    "0000000000000002000000020000001600000004000000010000003b0000000000000000000000000000000000000000000000000000000000000200"
    ∷ "0000000000000002000000020000001600000004000000010000004400000000000000000000000000000000000000000000000000000010"
    ∷ "zz"
    ∷ []

abbrev lines_out : List String
lines_out =
    "00000000000000000000000200000016000000000000003b00000000"
    ∷ "0000000000000000000000020000001600000000000000440000000000000000000000010000000100000000000000000000000000000010"
    ∷ "-7"
    ∷ []

pub frames_hold : answer_lines (empty_store frame_geometry) (map codes lines_in) ≡ map codes lines_out
unfolding rules line_bytes hex_line request_of answer_request answer_line answer_lines
frames_hold = refl
