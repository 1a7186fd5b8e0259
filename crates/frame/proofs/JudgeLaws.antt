-- Laws on a recording that is judged: one for each way out of the functions on a part, a text and its end.
use Prim.Native.Nat.{ℕ, ◌+◌, ◌-◌, ◌≤◌, ◌<◌}
use mathlib.Core.Path.{◌≡◌, refl, sym, ap, ◌∙◌}
use mathlib.Core.Bool.{Bool, true, false}
use mathlib.Core.List.{List, [], ◌∷◌}
use native.Mathlib.Omega.{arith}
use lib.ListN.{length, take, drop, length-take, length-drop}
use Rattle.std.proofs.lemmas.List.{take_rest}
use Rattle.xdr.proofs.BoolLaws.{and_right, and_both}
use lib.Dec.{leb}
use borrow.Author.Tests.{lt-ltb, le-ltb, le-leb}
use Rattle.rules.specs.Store.{Store}
use Rattle.rules.specs.Line.{answer_line}
use Rattle.frame.specs.declared.judge.Step.{Step}
use Rattle.frame.specs.declared.judge.Judge.{Judge}
use Rattle.frame.specs.Text.{Part, part, parts_of, each_part}
use Rattle.frame.specs.Recording.{alike}
use Rattle.frame.specs.LineCall.{line_into, LinePromise}
use Rattle.frame.specs.Judging.{next, place_in, replies, judge_part, judge_text, judging_of, within, fits, Replies, Answers, JudgePromise}
use Rattle.frame.proofs.AlikeLaws.{alike_le}
use Rattle.frame.proofs.LineLaws.{store_is, line-written}
use Rattle.frame.proofs.TextLaws.{take_min, Lengths, lengths-start, lengths-on}

-- ---- a part of the reply's line

module _ (a t : List ℕ) {at k : ℕ} (h : (at ≤ length a) × (length a ≤ 65536)) (ka : k ≡ alike (take (length a - at) (drop at a)) t) where
  known : alike (drop at a) t ≡ k
  known = ap (λ (l : List ℕ). alike l t) (sym (take_rest a at)) ∙ sym ka

  pub alike_within : at + k ≤ length a
  alike_within = omega (arith, alike_le (drop at a) t, known, length-drop at a)

  pub replies_parted : {pairs : ℕ} {e : Bool} → k < length t → Replies pairs a at (part t e) (record { pairs = pairs; step = Step.Parted (place_in a (at + k)) })
  unfolding replies judging_of
  replies_parted less = record { judging_is = λ line out st q. rw (known, lt-ltb k (length t) less); within_is = refl }

  module _ (all : length t ≤ k) where
    pub replies_on : {pairs : ℕ} {e : Bool} → e ≡ false → Replies pairs a at (part t e) (record { pairs = pairs; step = Step.Comparing (length a) (at + k) })
    unfolding replies judging_of
    replies_on e = record {
      judging_is = λ line out st q. rw (q, known, le-ltb k (length t) all, e);
      within_is = and_both (leb (at + k) (length a)) (leb (length a) 65536) (le-leb (at + k) (length a) alike_within) (le-leb (length a) 65536 h.1);
    }

    pub replies_short : {pairs : ℕ} {e : Bool} → e ≡ true → at + k < length a → Replies pairs a at (part t e) (record { pairs = pairs; step = Step.Parted (place_in a (at + k)) })
    unfolding replies judging_of
    replies_short e less = record {
      judging_is = λ line out st q. rw (known, le-ltb k (length t) all, e, lt-ltb (at + k) (length a) less);
      within_is = refl;
    }

    pub replies_same : {pairs : ℕ} {e : Bool} → e ≡ true → length a ≤ at + k → Replies pairs a at (part t e) (record { pairs = next pairs; step = Step.Asking 0 })
    unfolding replies judging_of
    replies_same e less = record {
      judging_is = λ line out st q. rw (known, le-ltb k (length t) all, e, le-ltb (at + k) (length a) less);
      within_is = refl;
    }

-- what is at the front of a list
pub front_again : (n : ℕ) (l : List ℕ) → take (length (take n l)) l ≡ take n l
front_again n l = ap (λ (m : ℕ). take m l) (length-take n l) ∙ take_min n l

-- the request is run, and the reply's line begins
pub answers_first : {st left : Store} {l out after : List ℕ} {n pairs : ℕ} {p : Part} {r : Judge} → 65536 ≤ length out → LinePromise (line_into out st l) out n after left
    → Replies pairs (take n after) 0 p r → Answers st pairs l p r after left
answers_first {st} {left} {l} {after = after} {n} {pairs} {p} {r} h a k = record {
  judging_is = λ line.
      k.judging_is line after left (front_again n after) ∙ ap (λ s. replies s pairs (take n after) 0 p) (store_is st l h a)
      ∙ ap (λ (x : List ℕ). replies (answer_line st l).store pairs x 0 p) (line-written st l h a);
  within_is = k.within_is;
}

-- where the numbers fit, those of the step do
pub fits-step : (j : Judge) (line out : List ℕ) → fits j line out ≡ true → within j.step ≡ true
unfolding fits
fits-step j line out f = and_right (leb 65536 (length out)) _ (and_right (leb 8193 (length line)) _ f)

-- ---- a text

-- some parts are judged; with those that are left they are the text's
pub record JudgeLeft (j₀ : Judge) (line₀ out₀ t : List ℕ) (st₀ : Store) (j : Judge) (line out : List ℕ) (st : Store) (rest : List ℕ) : Type 0 where
  pub long : Lengths line₀ out₀ line out
  pub within_is : within j.step ≡ within j₀.step
  pub same : each_part judge_part (judging_of j line out st) (parts_of rest) ≡ judge_text (judging_of j₀ line₀ out₀ st₀) t

pub judge_start : (j : Judge) (line out t : List ℕ) (st : Store) → JudgeLeft j line out t st j line out st t
unfolding judge_text
judge_start j line out t st = record { long = lengths-start line out; within_is = refl; same = refl }

module _ {j₀ : Judge} {line₀ out₀ t : List ℕ} {st₀ : Store} {j : Judge} {line out : List ℕ} {st : Store} {rest : List ℕ} (left : JudgeLeft j₀ line₀ out₀ t st₀ j line out st rest) where
  pub judge_fits : fits j₀ line₀ out₀ ≡ true → fits j line out ≡ true
  unfolding fits
  judge_fits f = rw (left.long.line_is, left.long.out_is, left.within_is) f

  pub judge_more : {r : Judge} {p : Part} {line₁ out₁ rest₁ : List ℕ} {st₁ : Store} → parts_of rest ≡ p ∷ parts_of rest₁ → Lengths line out line₁ out₁
      → JudgePromise (judge_part (judging_of j line out st) p) j r line₁ out₁ st₁ → JudgeLeft j₀ line₀ out₀ t st₀ r line₁ out₁ st₁ rest₁
  unfolding each_part
  judge_more {rest₁ = rest₁} e l p = record {
    long = lengths-on left.long l;
    within_is = p.within_is ∙ left.within_is;
    same = ap (λ x. each_part judge_part x (parts_of rest₁)) p.judging_is ∙ sym (ap (each_part judge_part (judging_of j line out st)) e) ∙ left.same;
  }

  pub judge_end : rest ≡ [] → JudgePromise (judge_text (judging_of j₀ line₀ out₀ st₀) t) j₀ j line out st
  unfolding each_part parts_of
  judge_end h = record {
    judging_is = rw h at left.same;
    within_is = left.within_is;
  }
