-- What the answers of the line's readers say.
use Rattle.std.specs.Prelude.{ℕ, ◌/◌, ◌%◌, ◌≤◌, ◌≡◌, cond, ◌||◌, List, [], ◌∷◌, length, take, ltb, eqb}
use Rattle.std.specs.Prelude.{Option, Some, None, IfSome}
use Rattle.std.proofs.Math.Option.{Option as Maybe, none, some}
use Rattle.xdr.specs.Bytes.{splice}
use Rattle.rules.specs.Line.{digit_value, byte_of, request_of}

-- an answer in the rules' words
abbrev pub of_option : Option ℕ → Maybe ℕ
of_option (Some v) = some v
of_option None = none

-- the bytes that an answer says stand at the start of the buffer
abbrev pub of_request : Option ℕ → List ℕ → Maybe (List ℕ)
of_request (Some n) out = some (take n out)
of_request None out = none

-- a byte in front of others, or none of them where it is no byte
abbrev pub front_of : Maybe ℕ → List ℕ → List ℕ
front_of none bs = []
front_of (some b) bs = b ∷ bs

-- the bytes of a line's pairs of digits, up to the first pair that is none
unfoldable pub good_bytes : List ℕ → List ℕ
good_bytes [] = []
good_bytes (a ∷ []) = []
good_bytes (a ∷ b ∷ cs) = front_of (byte_of (digit_value a) (digit_value b)) (good_bytes cs)

-- what the reader stores: nothing of a line that is too long or has an odd number of digits
unfoldable pub stored_bytes : List ℕ → List ℕ
stored_bytes line = cond (ltb 8192 (length line) || eqb (length line % 2) 1) [] (good_bytes line)

-- what the reader of a line answers, and what it leaves in the buffer
pub record RequestRead (line before out : List ℕ) (r : Option ℕ) : Type 0 where
  pub bytes : request_of line ≡ of_request r out
  pub half : IfSome r (λ n. n ≡ length line / 2)
  pub within : IfSome r (λ n. n ≤ 4096)
  pub left : out ≡ splice before 0 (stored_bytes line)
