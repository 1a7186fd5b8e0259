-- The program's lines (document 01, "A day's frames"; refusal 7). A line is a list of ASCII codes, without its newline.
use Rattle.std.specs.Prelude.{ℕ, ◌+◌, ◌-◌, ◌*◌, ◌/◌, ◌%◌, cond, ◌&&◌, List, [], ◌∷◌, length, take, replicate, leb, ltb, eqb}
use Rattle.std.proofs.Math.Option.{Option, none, some}
use Rattle.xdr.specs.Encode.{concat_map}
use Rattle.rules.specs.Store.{Geometry, Store}
use Rattle.rules.specs.Calls.{Call, Outcome, answer}

-- ---- hexadecimal: either letter case in, lower out

-- the value of a digit: 0 to 9, a to f, A to F
abbrev pub digit_value : ℕ → Option ℕ
digit_value c =
    cond (leb 48 c && leb c 57) (some (c - 48))
    (cond (leb 97 c && leb c 102) (some (c - 87))
    (cond (leb 65 c && leb c 70) (some (c - 55)) none))

abbrev pub digit : ℕ → ℕ
digit n = cond (ltb n 10) (48 + n) (87 + n)

-- the byte of two digits
abbrev pub byte_of : Option ℕ → Option ℕ → Option ℕ
byte_of none l = none
byte_of (some h) none = none
byte_of (some h) (some l) = some (h * 16 + l)

-- a byte in front of others
abbrev pub byte_front : Option ℕ → Option (List ℕ) → Option (List ℕ)
byte_front none bs = none
byte_front (some b) none = none
byte_front (some b) (some bs) = some (b ∷ bs)

-- the bytes of an even number of digits, if they are digits
unfoldable pub line_bytes : List ℕ → Option (List ℕ)
line_bytes [] = some []
line_bytes (a ∷ []) = none
line_bytes (a ∷ b ∷ cs) = byte_front (byte_of (digit_value a) (digit_value b)) (line_bytes cs)

abbrev pub byte_digits : ℕ → List ℕ
byte_digits b = digit (b / 16) ∷ digit (b % 16) ∷ []

unfoldable pub hex_line : List ℕ → List ℕ
hex_line bs = concat_map byte_digits bs

-- ---- a line's answer

-- the request of a line of at most 8,192 digits (refusal 7)
unfoldable pub request_of : List ℕ → Option (List ℕ)
request_of l = cond (ltb 8192 (length l)) none (line_bytes l)

-- F 4, S 16, N 32, B 512
abbrev pub frame_geometry : Geometry
frame_geometry = record { F = 4; S = 16; N = 32; B = 512 }

-- "-" and the number
abbrev pub refusal_line : ℕ → List ℕ
refusal_line k = 45 ∷ (48 + k) ∷ []

-- the line written, and the store after it
pub record Line : Type 0 where
  pub line : List ℕ
  pub store : Store

abbrev pub line_of : Outcome Store → Line
line_of o = record { line = cond (eqb o.number 0) (hex_line (take o.written o.reply)) (refusal_line o.number); store = o.store }

-- the verifier is zero; the reply buffer has 32,768 bytes
abbrev pub frame_call : List ℕ → Call
frame_call s = record { config = record { geometry = frame_geometry; verifier = replicate 8 0 }; request = s; buffer = replicate 32768 0 }

unfoldable pub answer_request : Store → List ℕ → Line
answer_request st s = line_of (answer (frame_call s) st)

unfoldable pub answer_line : Store → List ℕ → Line
answer_line st l = elim (request_of l) [ none ↦ record { line = refusal_line 7; store = st } | some s ↦ answer_request st s ]

-- one line out for each line in
unfoldable pub answer_lines : Store → List (List ℕ) → List (List ℕ)
answer_lines st [] = []
answer_lines st (l ∷ ls) = (answer_line st l).line ∷ answer_lines (answer_line st l).store ls
