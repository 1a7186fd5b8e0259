-- A recording judged as its text comes. Contracts cite these.
use Rattle.std.specs.Prelude.{ℕ, ◌+◌, ◌/◌, ◌≡◌, Bool, true, false, cond, ◌&&◌, List, [], ◌∷◌, length, take, drop, ltb, leb}
use Rattle.rules.specs.Store.{Store}
use Rattle.rules.specs.Line.{answer_line}
use Rattle.frame.specs.declared.judge.Step.{Step}
use Rattle.frame.specs.declared.judge.Judge.{Judge}
use Rattle.frame.specs.Text.{Part, parts_of, each_part}
use Rattle.frame.specs.Reading.{keep}
use Rattle.frame.specs.Recording.{alike, refusal, Verdict, same, differs, odd}

-- ---- the state that goes from piece to piece

-- a request's line that has not ended; one that has, and nothing of its reply's line came; the answer to it, with the number of characters
-- of the reply's line that came, all alike; the byte of the first difference
pub data Stage : Type 0 where
  asking : List ℕ → Stage
  asked : List ℕ → Stage
  comparing : List ℕ → ℕ → Stage
  parted : ℕ → Stage

-- the store, the number of pairs that are the same, and the next pair's stage
pub record Judging : Type 0 where
  pub store : Store
  pub pairs : ℕ
  pub stage : Stage

abbrev pub judging : Store → ℕ → Stage → Judging
judging st n s = record { store = st; pairs = n; stage = s }

-- 2^64 − 1 is the last number
abbrev pub next : ℕ → ℕ
next n = cond (ltb n 18446744073709551615) (n + 1) n

-- the byte where a line parts from the answer a after n characters
unfoldable pub place_in : List ℕ → ℕ → ℕ
place_in a n = cond (refusal a) 0 (n / 2)

-- ---- a part of a line

-- of the request's line
unfoldable pub asks : Store → ℕ → List ℕ → Part → Judging
asks st n l p = judging st n (cond p.ended (asked (keep l p.text)) (asking (keep l p.text)))

-- of the reply's line, which has m characters alike and ends there
abbrev pub reply_ends : Store → ℕ → List ℕ → ℕ → Judging
reply_ends st n a m = cond (ltb m (length a)) (judging st n (parted (place_in a m))) (judging st (next n) (asking []))

-- of the reply's line, which has m characters alike: another one that is not, or the end of the part
abbrev pub replies_by : Store → ℕ → List ℕ → ℕ → Bool → Bool → Judging
replies_by st n a m other ended = cond other (judging st n (parted (place_in a m))) (cond ended (reply_ends st n a m) (judging st n (comparing a m)))

-- of the reply's line, of which `at` characters came
unfoldable pub replies : Store → ℕ → List ℕ → ℕ → Part → Judging
replies st n a at p = replies_by st n a (at + alike (drop at a) p.text) (ltb (alike (drop at a) p.text) (length p.text)) p.ended

abbrev pub judge_by : Store → ℕ → Stage → Part → Judging
judge_by st n (asking l) p = asks st n l p
judge_by st n (asked l) p = replies (answer_line st l).store n (answer_line st l).line 0 p
judge_by st n (comparing a at) p = replies st n a at p
judge_by st n (parted place) p = judging st n (parted place)

unfoldable pub judge_part : Judging → Part → Judging
judge_part j p = judge_by j.store j.pairs j.stage p

unfoldable pub judge_text : Judging → List ℕ → Judging
judge_text j t = each_part judge_part j (parts_of t)

-- ---- the end of the text

unfoldable pub verdict_by : ℕ → Stage → Verdict
verdict_by n (asking []) = same n
verdict_by n (asking (c ∷ l)) = odd (next n)
verdict_by n (asked l) = odd (next n)
verdict_by n (comparing a at) = cond (ltb at (length a)) (differs (next n) (place_in a at)) (same (next n))
verdict_by n (parted place) = differs (next n) place

-- ---- what calls leave

-- the request's line stands in `line`, the answer in `out`
abbrev pub stage_of : Step → List ℕ → List ℕ → Stage
stage_of (Step.Asking k) line out = asking (take k line)
stage_of (Step.Asked k) line out = asked (take k line)
stage_of (Step.Comparing n at) line out = comparing (take n out) at
stage_of (Step.Parted place) line out = parted place

unfoldable pub judging_of : Judge → List ℕ → List ℕ → Store → Judging
judging_of j line out st = judging st j.pairs (stage_of j.step line out)

-- the numbers lie within the line and the answer
abbrev pub within : Step → Bool
within (Step.Asking k) = leb k 8193
within (Step.Asked k) = leb k 8193
within (Step.Comparing n at) = leb at n && leb n 65536
within (Step.Parted place) = true

unfoldable pub fits : Judge → List ℕ → List ℕ → Bool
fits j line out = leb 8193 (length line) && (leb 65536 (length out) && within j.step)

-- a difference was found
abbrev pub is_parted : Step → Bool
is_parted (Step.Parted place) = true
is_parted (Step.Asking k) = false
is_parted (Step.Asked k) = false
is_parted (Step.Comparing n at) = false

-- The call on a text. Where the buffers are too short or the numbers don't fit, nothing changes (house).
unfoldable pub judge_call : Judge → List ℕ → List ℕ → Store → List ℕ → Judging
judge_call j line out st t = cond (fits j line out) (judge_text (judging_of j line out st) t) (judging_of j line out st)

-- Free is what `line` and `out` have behind the line and the answer of the stage: only their length stays.
pub record JudgePromise (want : Judging) (j r : Judge) (line out : List ℕ) (left : Store) : Type 0 where
  pub judging_is : judging_of r line out left ≡ want
  pub within_is : within r.step ≡ within j.step

-- where the numbers don't fit the free parts stay too
pub record Untouched (fit : Bool) (j r : Judge) (line line' out out' : List ℕ) : Type 0 where
  pub judge_is : fit ≡ false → r ≡ j
  pub line_is : fit ≡ false → line' ≡ line
  pub out_is : fit ≡ false → out' ≡ out

-- ---- what functions on a part promise

-- the request's line l goes on in `line`; `out` and the store are others' business
pub record Asks (n : ℕ) (l : List ℕ) (p : Part) (r : Judge) (line : List ℕ) : Type 0 where
  pub judging_is : (out : List ℕ) (st : Store) → judging_of r line out st ≡ asks st n l p
  pub within_is : within r.step ≡ true

-- the reply's line is compared with the answer a, which stands at the start of `out`
pub record Replies (n : ℕ) (a : List ℕ) (at : ℕ) (p : Part) (r : Judge) : Type 0 where
  pub judging_is : (line out : List ℕ) (st : Store) → take (length a) out ≡ a → judging_of r line out st ≡ replies st n a at p
  pub within_is : within r.step ≡ true

-- the request l is run first
pub record Answers (st : Store) (n : ℕ) (l : List ℕ) (p : Part) (r : Judge) (out : List ℕ) (left : Store) : Type 0 where
  pub judging_is : (line : List ℕ) → judging_of r line out left ≡ replies (answer_line st l).store n (answer_line st l).line 0 p
  pub within_is : within r.step ≡ true
