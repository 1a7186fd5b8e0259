-- A recording judged (request K1): a request's line, a reply's line, and so on by turns.
use Rattle.std.specs.Prelude.{ℕ, zero, suc, ◌+◌, ◌/◌, ◌%◌, Bool, false, cond, ◌&&◌, ◌||◌, List, [], ◌∷◌, ◌++◌, length, leb, ltb, eqb}
use Rattle.rules.specs.Store.{Store, empty_store}
use Rattle.rules.specs.Line.{digit, frame_geometry, answer_line}

-- ---- two reply lines

-- a digit's letter, A to F, in lower case
abbrev pub lower : ℕ → ℕ
lower c = cond (leb 65 c && leb c 70) (c + 32) c

-- how many characters two lines begin with alike, in either letter case: the place where they part
unfoldable pub alike : List ℕ → List ℕ → ℕ
alike [] ys = 0
alike (a ∷ xs) [] = 0
alike (a ∷ xs) (b ∷ ys) = cond (eqb (lower a) (lower b)) (suc (alike xs ys)) 0

-- the same to the end of both
unfoldable pub same_line : List ℕ → List ℕ → Bool
same_line a b = eqb (alike a b) (length a) && eqb (alike a b) (length b)

-- begins with "-"
abbrev pub refusal : List ℕ → Bool
refusal [] = false
refusal (c ∷ cs) = eqb c 45

-- the byte of the first difference: two digits are a byte, and a refusal has none
unfoldable pub byte_place : List ℕ → List ℕ → ℕ
byte_place a b = cond (refusal a || refusal b) 0 (alike a b / 2)

-- ---- the verdict

-- all pairs are the same; the first pair that differs, counted from 1, and the byte; the last request, which has no reply
pub data Verdict : Type 0 where
  same : ℕ → Verdict
  differs : ℕ → ℕ → Verdict
  odd : ℕ → Verdict

-- n pairs were the same and left the store; a request without a reply is not run
unfoldable pub verdict_from : Store → ℕ → List (List ℕ) → Verdict
verdict_from st n [] = same n
verdict_from st n (q ∷ []) = odd (n + 1)
verdict_from st n (q ∷ l ∷ ls) =
    cond (same_line (answer_line st q).line l) (verdict_from (answer_line st q).store (n + 1) ls) (differs (n + 1) (byte_place (answer_line st q).line l))

-- the lines of a recording, on the program's store, which is empty at the start
unfoldable pub verdict : List (List ℕ) → Verdict
verdict ls = verdict_from (empty_store frame_geometry) 0 ls

-- ---- the line that is printed

-- a number in decimal digits, of which there are at most k
unfoldable pub decimal_in : ℕ → ℕ → List ℕ
decimal_in zero n = []
decimal_in (suc k) n = cond (ltb n 10) (digit n ∷ []) (decimal_in k (n / 10) ++ (digit (n % 10) ∷ []))

unfoldable pub decimal : ℕ → List ℕ
decimal n = decimal_in (suc n) n

-- "same N", "PAIR PLACE", "odd N"
unfoldable pub verdict_line : Verdict → List ℕ
verdict_line (same n) = 115 ∷ 97 ∷ 109 ∷ 101 ∷ 32 ∷ decimal n
verdict_line (differs n place) = decimal n ++ (32 ∷ decimal place)
verdict_line (odd n) = 111 ∷ 100 ∷ 100 ∷ 32 ∷ decimal n
