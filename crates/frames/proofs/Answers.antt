-- Laws on what is written of the answers to what was read.
use Rattle.std.proofs.Common.{arith, length-append, ◌≡◌, ℕ, ◌+◌, ◌-◌, ◌≤◌, ◌<◌, List, [], ◌++◌, length, take, drop, refl, sym, ap, ◌∙◌, subst, append_assoc, append-nil, drop_of_length-le}
use Rattle.std.specs.Prelude.{Option, Some, None}
use Rattle.std.proofs.lemmas.List.{take_rest, drop-drop}
use Rattle.std.specs.Io.KnownBytes.{Appends, Consumes}
use Rattle.std.proofs.KnownBytes.{Appends-trans, Appends-nil, Consumes-trans, Consumes-kept, Consumes-nil, Consumes-whole}
use Rattle.std.specs.Option.{IfSome}
use Rattle.rules.specs.Store.{Store}
use Rattle.frame.specs.declared.text.Progress.{Progress}
use Rattle.frame.specs.Reading.{read_text, read_end, answers, answers_to, ReadPromise}
use Rattle.frame.proofs.TextProof.{text-served, text-ended, answers_are}
use Rattle.frames.specs.Answering.{Answered, Finished, Went}

-- ---- a piece

pub answered_start : (a : Option (List ℕ)) (st : Store) (l piece : List ℕ) → Answered a a st l piece st l piece
answered_start a st l piece = record { written = []; appended = Appends-nil a; same = λ u. refl }

-- one call more on what is left from place i on
module _ {a b : Option (List ℕ)} {st₀ : Store} {l₀ piece : List ℕ} {st : Store} (line : List ℕ) (kept : ℕ) (out : List ℕ) (i : ℕ)
    (so-far : Answered a b st₀ l₀ piece st (take kept line) (drop i piece)) {r : Progress} {line' out' : List ℕ} {left : Store}
    (w : ReadPromise (read_text line kept out st (take (length piece - i) (drop i piece))) r line' out out' left) (h : 8193 ≤ length line) (g : kept ≤ 8193) where
  pub answered_more : {c : Option (List ℕ)} → Appends b c (take r.written out') → Answered a c st₀ l₀ piece left (take r.kept line') (drop (i + r.taken) piece)
  answered_more {c} q = record {
    written = so-far.written ++ take r.written out';
    appended = Appends-trans a b c _ _ so-far.appended q;
    same = λ u.
        append_assoc so-far.written (take r.written out') _
        ∙ ap (λ (x : List ℕ). so-far.written ++ x) (here u) ∙ so-far.same u;
  }
    where
      is : record { store = left; line = take r.kept line'; answers = take r.written out'; taken = r.taken } ≡ read_text line kept out st (drop i piece)
      is = w.reading_is ∙ ap (read_text line kept out st) (take_rest piece i)

      here : (u : List ℕ) → take r.written out' ++ answers left (take r.kept line') (drop (i + r.taken) piece ++ u) ≡ answers st (take kept line) (drop i piece ++ u)
      here u =
          ap (λ (x : List ℕ). take r.written out' ++ answers left (take r.kept line') (x ++ u)) (sym (drop-drop r.taken i piece))
          ∙ ap (λ x. x.answers ++ answers x.store x.line (drop x.taken (drop i piece) ++ u)) is
          ∙ text-served line kept out st h g (drop i piece) u

-- the piece is at its end
pub answered_all : {a b : Option (List ℕ)} {st st' : Store} {l piece l' : List ℕ} (i : ℕ) → length piece ≤ i → Answered a b st l piece st' l' (drop i piece)
    → Answered a b st l piece st' l' []
answered_all {piece = piece} i h r = rw (drop_of_length-le piece h) at r

-- the end of the input
pub last_answer : (st : Store) (line : List ℕ) (kept : ℕ) (out : List ℕ) {r : Progress} {line' out' : List ℕ} {left : Store}
    → ReadPromise (read_end line kept out st) r line' out out' left → 8193 ≤ length line → kept ≤ 8193 → 65537 ≤ length out
    → take r.written out' ≡ answers st (take kept line) []
last_answer st line kept out w h g room = ap (λ x. x.answers) w.reading_is ∙ text-ended line kept out st h g room

-- ---- the whole input

-- of an input of fewer bytes than there are turns
abbrev pub IfFew : Option (List ℕ) → (List ℕ → Type 0) → Type 0
IfFew a P = IfSome a (λ text. length text < 18446744073709551615 → P text)

-- what is read, in n turns, is answered as far as lines have ended, and the line that has not is kept
pub record Served (from from' to to' : Option (List ℕ)) (st₀ st : Store) (l : List ℕ) (n : ℕ) : Type 0 where
  pub text : List ℕ
  pub long : n ≤ length text
  pub consumed : Consumes from from' text
  pub answered : Answered to to' st₀ [] text st l []

pub served_none : (from to : Option (List ℕ)) (st : Store) → Served from from to to st st [] 0
served_none from to st = record { text = []; long = omega arith; consumed = Consumes-nil from; answered = answered_start to st [] [] }

module _ {from from' to to' : Option (List ℕ)} {st₀ st : Store} {l : List ℕ} {n : ℕ} (s : Served from from' to to' st₀ st l n) where
  pub served_more : {from'' to'' : Option (List ℕ)} {st' : Store} {l' : List ℕ} → Went from' from'' to' to'' st l st' l' → (m : ℕ) → m ≤ n + 1
      → Served from from'' to to'' st₀ st' l' m
  served_more w m h = record {
    text = s.text ++ w.piece;
    long = omega (arith, h, s.long, w.some, length-append s.text w.piece);
    consumed = Consumes-trans _ _ _ _ _ s.consumed w.consumed;
    answered = record {
      written = s.answered.written ++ w.answered.written;
      appended = Appends-trans _ _ _ _ _ s.answered.appended w.answered.appended;
      same = λ u.
          append_assoc s.answered.written w.answered.written _
          ∙ ap (λ (x : List ℕ). s.answered.written ++ x) (w.answered.same u)
          ∙ s.answered.same (w.piece ++ u)
          ∙ ap (answers st₀ []) (sym (append_assoc s.text w.piece u));
    };
  }

  pub served_all : {from'' to'' : Option (List ℕ)} → Finished from' from'' to' to'' st l → IfFew from (λ text. Appends to to'' (answers_to st₀ text))
  served_all {from''} {to''} f =
      let all : s.answered.written ++ answers st l [] ≡ answers_to st₀ s.text =
      s.answered.same [] ∙ ap (answers st₀ []) (append-nil s.text) ∙ answers_are st₀ s.text in
      few from
      (Consumes-whole from from'' s.text (λ text. Appends to to'' (answers_to st₀ text)) (Consumes-kept _ _ _ _ s.consumed f.kept) f.end
      (subst (Appends to to'') all (Appends-trans _ _ _ _ _ s.answered.appended f.appended)))
    where
      few : (a : Option (List ℕ)) → IfSome a (λ text. Appends to to'' (answers_to st₀ text)) → IfFew a (λ text. Appends to to'' (answers_to st₀ text))
      few None h = tt
      few (Some x) h = λ less. h
