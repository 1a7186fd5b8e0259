-- The lines of a text served as it comes. Contracts cite these.
use Rattle.std.specs.Prelude.{ℕ, ◌+◌, ◌≤◌, ◌≡◌, Bool, true, cond, ◌||◌, List, [], ◌∷◌, ◌++◌, length, take, drop, ltb, eqb}
use Rattle.rules.specs.Store.{Store}
use Rattle.xdr.specs.Encode.{concat_map}
use Rattle.rules.specs.Line.{Line, answer_line, answer_lines}
use Rattle.frame.specs.declared.text.Progress.{Progress}
use Rattle.frame.specs.Text.{Part, part, parts_of, lines_of, each_part}

-- of a line 8,193 characters are kept, one more than a request may have
unfoldable pub keep : List ℕ → List ℕ → List ℕ
keep l t = take 8193 (l ++ t)

-- how far a text is served: the store, what is kept of the line that has not ended, the answers, each with its newline, and
-- the number of characters taken
pub record Reading : Type 0 where
  pub store : Store
  pub line : List ℕ
  pub answers : List ℕ
  pub taken : ℕ

abbrev pub reading : Store → List ℕ → Reading
reading st l = record { store = st; line = l; answers = []; taken = 0 }

-- a part of a line that goes on, and the part that ends it
abbrev pub goes_on : Reading → List ℕ → Reading
goes_on r t = record { store = r.store; line = keep r.line t; answers = r.answers; taken = r.taken + length t }

abbrev pub ends_with : Reading → List ℕ → Line → Reading
ends_with r t a = record { store = a.store; line = []; answers = r.answers ++ (a.line ++ 10 ∷ []); taken = r.taken + (length t + 1) }

unfoldable pub read_part : Reading → Part → Reading
read_part r p = cond p.ended (ends_with r p.text (answer_line r.store (keep r.line p.text))) (goes_on r p.text)

-- parts are taken as long as there is room for an answer of 65,536 characters and its newline
unfoldable pub read_parts : ℕ → Reading → List Part → Reading
read_parts room r [] = r
read_parts room r (p ∷ ps) = cond (ltb room (length r.answers + 65537)) r (read_parts room (read_part r p) ps)

-- `line` is too short, or keeps more than there may be
unfoldable pub unready : List ℕ → ℕ → Bool
unready line kept = ltb (length line) 8193 || ltb 8193 kept

-- The call on a text, with `kept` characters of a line at the start of `line`. Where that is not ready, nothing is taken (house).
unfoldable pub read_text : List ℕ → ℕ → List ℕ → Store → List ℕ → Reading
read_text line kept out st t =
    cond (unready line kept) (reading st (take kept line)) (read_parts (length out) (reading st (take kept line)) (parts_of t))

-- the end of the text ends the line that was begun
unfoldable pub read_end : List ℕ → ℕ → List ℕ → Store → Reading
read_end line kept out st = cond (eqb kept 0) (reading st []) (read_text line kept out st (10 ∷ []))

-- ---- the whole of a text

-- a line that was begun ends where the text does
abbrev pub ended : Reading → List ℕ → Reading
ended r [] = r
ended r (c ∷ l) = read_part r (part [] true)

abbrev pub after : Reading → List Part → List ℕ
after r ps = (ended (each_part read_part r ps) (each_part read_part r ps).line).answers

-- the answers to a text that follows the beginning l of a line
unfoldable pub answers : Store → List ℕ → List ℕ → List ℕ
answers st l t = after (reading st l) (parts_of t)

-- one line out for each line of a text
abbrev pub answers_to : Store → List ℕ → List ℕ
answers_to st t = concat_map (λ l. l ++ 10 ∷ []) (answer_lines st (lines_of t))

-- ---- what calls leave

-- the reading that the numbers and the lent bytes stand for
abbrev pub reading_of : Progress → List ℕ → List ℕ → Store → Reading
reading_of p line out st = record { store = st; line = take p.kept line; answers = take p.written out; taken = p.taken }

-- Free is what `line` has behind the characters kept: only its length stays. A call that takes nothing, as `line` is not ready, leaves that too.
pub record ReadPromise (want : Reading) (r : Progress) (line out after : List ℕ) (left : Store) : Type 0 where
  pub reading_is : reading_of r line after left ≡ want
  pub kept_fits : r.kept ≤ length line
  pub written_fits : r.written ≤ length out
  pub rest_is : drop r.written after ≡ drop r.written out

-- all of the text t is taken, in whatever calls, if nothing went wrong: it followed the beginning l of a line, and left the store and what is kept
pub record Taken (well : Bool) (st : Store) (l t : List ℕ) (left : Store) (line : List ℕ) : Type 0 where
  pub store_is : well ≡ true → left ≡ (each_part read_part (reading st l) (parts_of t)).store
  pub line_is : well ≡ true → line ≡ (each_part read_part (reading st l) (parts_of t)).line

abbrev pub Stays : Bool → List ℕ → List ℕ → Type 0
Stays t line after = t ≡ true → after ≡ line

-- the characters kept of a line, when a part is added
pub record Kept (l t : List ℕ) (r : ℕ) (line : List ℕ) : Type 0 where
  pub kept_is : take r line ≡ keep l t
  pub few : r ≤ 8193

-- an answer and its newline at place `at`
pub record Answered (want : Line) (at : ℕ) (out : List ℕ) (r : ℕ) (after : List ℕ) (left : Store) : Type 0 where
  pub answers_are : take r after ≡ take at out ++ (want.line ++ 10 ∷ [])
  pub fits : r ≤ length out
  pub rest_is : drop r after ≡ drop r out
  pub store_is : left ≡ want.store
