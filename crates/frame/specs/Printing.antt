-- The verdict where a recording ends, and its line. Contracts cite these.
use Rattle.std.specs.Prelude.{ℕ, ◌≡◌, cond, List, [], ◌∷◌, ◌++◌, length, drop, ltb}
use Rattle.std.proofs.Math.Option.{Option, none, some}
use Rattle.frame.specs.declared.judge.Judge.{Judge}
use Rattle.frame.specs.declared.judge.Verdict as Code
use Rattle.frame.specs.Recording.{Verdict, same, differs, odd, verdict_line}
use Rattle.frame.specs.Judging.{stage_of, fits, verdict_by}

abbrev pub of_verdict : Code.Verdict → Option Verdict
of_verdict (Code.Verdict.Same n) = some (same n)
of_verdict (Code.Verdict.Differs n place) = some (differs n place)
of_verdict (Code.Verdict.Odd n) = some (odd n)
of_verdict Code.Verdict.Refused = none

-- no verdict where the buffers are too short or the numbers don't fit (house)
unfoldable pub verdict_call : Judge → List ℕ → List ℕ → Option Verdict
verdict_call j line out = cond (fits j line out) (some (verdict_by j.pairs (stage_of j.step line out))) none

-- the verdict's line and its newline
abbrev pub printed : Option Verdict → List ℕ
printed none = []
printed (some v) = verdict_line v ++ 10 ∷ []

-- an `out` of fewer than 42 bytes takes no line (house)
unfoldable pub verdict_text : Code.Verdict → List ℕ → List ℕ
verdict_text v out = cond (ltb (length out) 42) [] (printed (of_verdict v))

-- the text stands at the start of `out`, bytes past it unchanged; its length is answered
pub record Printed (text out : List ℕ) (r : ℕ) (after : List ℕ) : Type 0 where
  pub length_is : r ≡ length text
  pub out_is : after ≡ text ++ drop (length text) out
