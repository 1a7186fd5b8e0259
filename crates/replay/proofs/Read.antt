-- Laws on a recording that is read in pieces to its end, or to a difference.
use Rattle.std.proofs.Common.{arith, length-append, ◌≡◌, ℕ, ◌+◌, ◌<◌, ◌≤◌, ◌⊎◌, inl, inr, true, List, [], ◌++◌, length, take, drop, refl, sym, ap, ◌∙◌, subst}
use Rattle.std.proofs.Math.Seq.{take-append_seam}
use borrow.Author.Tests.{le-ltb}
use Rattle.std.specs.Prelude.{Option, Some, None, IfSome, Result, Ok, Err, OnOk}
use Rattle.std.specs.Io.KnownBytes.{Appends, Consumes, Keeps, IsAtEnd}
use Rattle.std.proofs.KnownBytes.{Consumes-trans, Consumes-kept, Consumes-nil}
use Rattle.rules.specs.Store.{Store, empty_store}
use Rattle.rules.specs.Line.{frame_geometry}
use Rattle.frame.specs.declared.judge.Judge.{Judge}
use Rattle.frame.specs.declared.judge.Step.{Step}
use Rattle.frame.specs.Judging.{judge_call, is_parted, JudgePromise}
use Rattle.frame.specs.declared.judge.Verdict.{Verdict}
use Rattle.frame.specs.Printing.{of_verdict, verdict_call, printed, verdict_text, Printed}
use Rattle.frame.proofs.RecordingProof.{Judged, judged-start, judged-more, judged-told}
use Rattle.replay.specs.Replayed.{told_of}

-- what is read, in n turns, is judged
pub record Read (from from' : Option (List ℕ)) (j : Judge) (line out : List ℕ) (st : Store) (n : ℕ) : Type 0 where
  pub text : List ℕ
  pub long : n ≤ length text
  pub consumed : Consumes from from' text
  pub judged : Judged text j line out st

pub read_none : (from : Option (List ℕ)) {line out : List ℕ} {st : Store} → st ≡ empty_store frame_geometry → 8193 ≤ length line → 65536 ≤ length out
    → Read from from (record { pairs = 0; step = Step.Asking 0 }) line out st 0
read_none from e h k = record { text = []; long = omega arith; consumed = Consumes-nil from; judged = rw e (judged-start _ _ h k) }

module _ {from from' : Option (List ℕ)} {j : Judge} {line out : List ℕ} {st : Store} {n : ℕ} (r : Read from from' j line out st n) where
  pub read_more : {from'' : Option (List ℕ)} (piece : List ℕ) {q : Judge} {line' out' : List ℕ} {st' : Store} → Consumes from' from'' piece
      → JudgePromise (judge_call j line out st piece) j q line' out' st' → 8193 ≤ length line' → 65536 ≤ length out' → 0 < length piece
      → (m : ℕ) → m ≤ n + 1 → Read from from'' q line' out' st' m
  read_more piece c p h k some m more = record { text = r.text ++ piece; long = omega (arith, more, r.long, some, length-append r.text piece); consumed = Consumes-trans _ _ _ _ _ r.consumed c; judged = judged-more _ _ h k piece r.judged p }

  -- nothing more is wanted, or there is nothing more
  pub read_all : (from'' : Option (List ℕ)) → Keeps from' from'' → (is_parted j.step ≡ true) ⊎ IsAtEnd from''
      → IfSome from (λ text. length text < 18446744073709551615 → printed (verdict_call j line out) ≡ told_of text)
  read_all from'' k e = go from from'' (Consumes-kept _ _ _ _ r.consumed k) e
    where
      go : (a b : Option (List ℕ)) → Consumes a b r.text → (is_parted j.step ≡ true) ⊎ IsAtEnd b
          → IfSome a (λ text. length text < 18446744073709551615 → printed (verdict_call j line out) ≡ told_of text)
      go None b c e = tt
      go (Some xs) None c e = absurd c
      go (Some xs) (Some ys) c (inl p) = λ few. ap printed (judged-told ys (omega (arith, few, ap length c)) r.judged (inl p)) ∙ ap told_of (sym c)
      go (Some xs) (Some ys) c (inr n) = λ few. ap printed (judged-told ys (omega (arith, few, ap length c)) r.judged (inr n)) ∙ ap told_of (sym c)

-- the verdict's line, which stands at the front of a buffer that has room for it
pub line_alone : (v : Verdict) (out : List ℕ) {n : ℕ} {after : List ℕ} → 42 ≤ length out → Printed (verdict_text v out) out n after → take n after ≡ printed (of_verdict v)
unfolding verdict_text
line_alone v out h p =
    let room : verdict_text v out ≡ printed (of_verdict v) = rw (le-ltb (length out) 42 h) refl in
    rw (p.length_is, p.out_is) (take-append_seam (verdict_text v out) (drop (length (verdict_text v out)) out) ∙ room)

-- its verdict is written
pub told : {T E : Type 0} (r : Result T E) (x a b : Option (List ℕ)) {bs cs : List ℕ} → OnOk r (Appends a b bs) → bs ≡ cs → IfSome x (λ text. length text < 18446744073709551615 → cs ≡ told_of text)
    → OnOk r (IfSome x (λ text. length text < 18446744073709551615 → Appends a b (told_of text)))
told (Err e) x a b w h f = tt
told (Ok u) None a b w h f = tt
told (Ok u) (Some text) a b w h f = λ few. subst (Appends a b) (h ∙ f few) w
