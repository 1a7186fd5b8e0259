-- A text served in calls of any length, with any room, has the rules' answers to its lines, in order.
use Prim.Native.Nat.{ℕ, zero, suc, ◌+◌, ◌-◌, ◌≤◌, ◌<◌}
use mathlib.Core.Path.{◌≡◌, refl, sym, ap, subst, ◌∙◌}
use mathlib.Core.Bool.{Bool, true, false, cond}
use mathlib.Core.List.{List, [], ◌∷◌, ◌++◌, map, append_assoc, append-nil}
use native.Mathlib.Nat.{sub-zero}
use native.Mathlib.Omega.{arith}
use lib.ListN.{length, take, drop, length-append, length-take, length-drop, drop_of_length-le}
use lib.Seq.{drop-nil, drop-drop, length-take-le, take_all}
use lib.Dec.{ltb}
use borrow.Author.Tests.{le-ltb, ltb-true, ltb-false, ne_eqb}
use Rattle.xdr.specs.Encode.{concat_map}
use Rattle.frame.specs.Lines.{index_of}
use Rattle.rules.specs.Store.{Store}
use Rattle.rules.specs.Line.{Line, answer_line, answer_lines}
use Rattle.frame.specs.declared.text.Progress.{Progress}
use Rattle.frame.specs.Text.{Part, part, parts_of, lines_of, each_part}
use Rattle.frame.specs.Reading.{keep, Reading, reading, goes_on, ends_with, read_part, read_parts, unready, read_text, read_end, ended, after, answers, ReadPromise, Taken}
use Rattle.frame.proofs.BlockLaws.{index_le}
use Rattle.frame.proofs.TextLaws.{parts_first, pieces, keep-keep, answer-keep, keep_some, Proper, parts_proper}

-- ---- the answers to its lines

abbrev line_text : List ℕ → List ℕ
line_text l = l ++ 10 ∷ []

-- a part, by whether it has ended
abbrev step_by : Reading → List ℕ → Bool → Reading
step_by r t b = cond b (ends_with r t (answer_line r.store (keep r.line t))) (goes_on r t)

module _ (st : Store) (a : List ℕ) (n : ℕ) where
  abbrev fresh : Reading
  fresh = record { store = st; line = []; answers = a; taken = n }

  -- a text's last part
  last-answer : (p : Part) → Proper (p ∷ []) → after fresh (p ∷ []) ≡ a ++ line_text (answer_line st p.text).line
  unfolding each_part read_part
  last-answer p pr = by p.ended refl (keep [] p.text) refl
    where
      by : (e : Bool) → p.ended ≡ e → (l : List ℕ) → keep [] p.text ≡ l → after fresh (p ∷ []) ≡ a ++ line_text (answer_line st p.text).line
      by true e l f =
          ap (λ b. (ended (step_by fresh p.text b) (step_by fresh p.text b).line).answers) e
          ∙ ap (λ (x : Line). a ++ line_text x.line) (answer-keep st p.text)
      by false e [] f = absurd (let z = keep_some p.text (pr e) in omega (arith, z, ap length f))
      by false e (c ∷ cs) f =
          ap (λ b. (ended (step_by fresh p.text b) (step_by fresh p.text b).line).answers) e
          ∙ ap (λ (m : List ℕ). (ended (step_by fresh p.text false) m).answers) f
          ∙ ap (λ (m : List ℕ). a ++ line_text (answer_line st m).line) (keep-keep [] p.text [] ∙ ap (keep []) (append-nil p.text))
          ∙ ap (λ (x : Line). a ++ line_text x.line) (answer-keep st p.text)

lines-answered : (ps : List Part) → Proper ps → (st : Store) (a : List ℕ) (n : ℕ)
    → after (fresh st a n) ps ≡ a ++ concat_map line_text (answer_lines st (map (λ p. p.text) ps))
unfolding each_part read_part answer_lines
lines-answered [] pr st a n = sym (append-nil a)
lines-answered (p ∷ []) pr st a n =
    last-answer st a n p pr ∙ ap (λ (x : List ℕ). a ++ x) (sym (append-nil (line_text (answer_line st p.text).line)))
lines-answered (p ∷ q ∷ ps) pr st a n =
    ap (λ b. after (step_by (fresh st a n) p.text b) (q ∷ ps)) pr.0
    ∙ ap (λ (x : Line). after (fresh x.store (a ++ line_text x.line) (n + (length p.text + 1))) (q ∷ ps)) (answer-keep st p.text)
    ∙ lines-answered (q ∷ ps) pr.1 (answer_line st p.text).store (a ++ line_text (answer_line st p.text).line) (n + (length p.text + 1))
    ∙ append_assoc a (line_text (answer_line st p.text).line) _

-- a text's answers are those to its lines, a line each
pub answers_are : (st : Store) (t : List ℕ) → answers st [] t ≡ concat_map (λ l. l ++ 10 ∷ []) (answer_lines st (lines_of t))
unfolding answers lines_of
answers_are st t = lines-answered (parts_of t) (parts_proper t) st [] 0

-- ---- what was answered before

front-end : (st : Store) (l a : List ℕ) (n : ℕ) → (ended (record { store = st; line = l; answers = a; taken = n }) l).answers ≡ a ++ (ended (reading st l) l).answers
unfolding read_part
front-end st [] a n = sym (append-nil a)
front-end st (c ∷ l) a n = refl

after_front : (ps : List Part) (r : Reading) → after r ps ≡ r.answers ++ after (reading r.store r.line) ps
unfolding each_part read_part
after_front [] r = front-end r.store r.line r.answers r.taken
after_front (p ∷ ps) r = by p.ended (after_front ps)
  where
    by : (b : Bool) → ((r : Reading) → after r ps ≡ r.answers ++ after (reading r.store r.line) ps)
        → after (step_by r p.text b) ps ≡ r.answers ++ after (step_by (reading r.store r.line) p.text b) ps
    by true ih =
        ih (step_by r p.text true) ∙ append_assoc r.answers _ _
        ∙ ap (λ (x : List ℕ). r.answers ++ x) (sym (ih (step_by (reading r.store r.line) p.text true)))
    by false ih =
        ih (step_by r p.text false) ∙ ap (λ (x : List ℕ). r.answers ++ x) (sym (ih (step_by (reading r.store r.line) p.text false)))

-- ---- what a call leaves to the next one

read_joins : (r : Reading) (l m : List ℕ) (e : Bool) → read_part (read_part r (part l false)) (part m e) ≡ read_part r (part (l ++ m) e)
unfolding read_part
read_joins r l m true =
    let a = answer_line r.store (keep r.line (l ++ m)) in
    let z : r.taken + length l + (length m + 1) ≡ r.taken + (length (l ++ m) + 1) = omega (arith, length-append l m) in
    ap (λ (x : List ℕ). ends_with (goes_on r l) m (answer_line r.store x)) (keep-keep r.line l m)
    ∙ ap (λ (n : ℕ). record { store = a.store; line = []; answers = r.answers ++ line_text a.line; taken = n }) z
read_joins r l m false =
    let z : r.taken + length l + length m ≡ r.taken + length (l ++ m) = omega (arith, length-append l m) in
    ap (λ (x : List ℕ). record { store = r.store; line = x; answers = r.answers; taken = r.taken + length l + length m }) (keep-keep r.line l m)
    ∙ ap (λ (n : ℕ). record { store = r.store; line = keep r.line (l ++ m); answers = r.answers; taken = n }) z

-- the first part is read: its characters and its newline are taken
abbrev one : Reading → List ℕ → ℕ → Reading
one r t k = read_part r (part (take k t) (ltb k (length t)))

module _ (r : Reading) (t : List ℕ) (k : ℕ) (h : k ≤ length t) where
  took : ((r.taken ≤ (one r t k).taken) × ((one r t k).taken + length (drop (suc k) t) ≤ r.taken + length t)) × ((n : ℕ) → (one r t k).taken ≤ n → drop (n - r.taken) t ≡ drop (n - (one r t k).taken) (drop (suc k) t))
  unfolding read_part
  took = by (ltb k (length t)) refl
    where
      many : length (take k t) ≡ k
      many = length-take-le k t h

      by : (b : Bool) → ltb k (length t) ≡ b
          → ((r.taken ≤ (step_by r (take k t) b).taken) × ((step_by r (take k t) b).taken + length (drop (suc k) t) ≤ r.taken + length t)) × ((n : ℕ) → (step_by r (take k t) b).taken ≤ n → drop (n - r.taken) t ≡ drop (n - (step_by r (take k t) b).taken) (drop (suc k) t))
      by true b = (
        (omega arith, omega (arith, many, length-drop (suc k) t, ltb-true k (length t) b)),
        λ n g.
            let z : n - r.taken ≡ suc k + (n - (r.taken + (length (take k t) + 1))) = omega (arith, many) in
            ap (λ (m : ℕ). drop m t) z ∙ sym (drop-drop (n - (r.taken + (length (take k t) + 1))) (suc k) t),
      )
      by false b = (
        (omega arith, omega (arith, many, length-drop (suc k) t)),
        λ n g.
            drop_of_length-le t {i = n - r.taken} (omega (arith, many, ltb-false k (length t) b))
            ∙ sym (ap (drop (n - (r.taken + length (take k t)))) (drop_of_length-le t {i = suc k} (omega (arith, ltb-false k (length t) b))) ∙ drop-nil (n - (r.taken + length (take k t)))),
      )

-- after a call with any room, what is left of the text has the rest of the answers
abbrev Left : ℕ → Reading → List ℕ → List Part → Type 0
Left room r t ps =
    ((r.taken ≤ (read_parts room r ps).taken) × ((read_parts room r ps).taken ≤ r.taken + length t))
    × (each_part read_part (read_parts room r ps) (parts_of (drop ((read_parts room r ps).taken - r.taken) t)) ≡ each_part read_part r ps)

left-first : (t : List ℕ) (room : ℕ) (r : Reading) → ((u : List ℕ) (q : Reading) → length u < length t → Left room q u (parts_of u)) → Left room r t (parts_of t)
unfolding parts_of read_parts each_part
left-first [] room r ih = ((omega arith, omega arith), rw (drop-nil {A = ℕ} (r.taken - r.taken)))
left-first (c ∷ cs) room r ih =
    let t = c ∷ cs in
    let k = index_of 10 t in
    let first = parts_first t (omega arith) in
    subst (Left room r t) (sym first)
    (by (ltb room (length r.answers + 65537)) t k (index_le t) first (ih (drop (suc k) t) (one r t k) (omega (arith, length-drop (suc k) t))))
  where
    by : (o : Bool) (t : List ℕ) (k : ℕ) → k ≤ length t → parts_of t ≡ part (take k t) (ltb k (length t)) ∷ parts_of (drop (suc k) t)
        → Left room (one r t k) (drop (suc k) t) (parts_of (drop (suc k) t))
        → ((r.taken ≤ (cond o r (read_parts room (one r t k) (parts_of (drop (suc k) t)))).taken)
        × ((cond o r (read_parts room (one r t k) (parts_of (drop (suc k) t)))).taken ≤ r.taken + length t))
        × (each_part read_part (cond o r (read_parts room (one r t k) (parts_of (drop (suc k) t))))
        (parts_of (drop ((cond o r (read_parts room (one r t k) (parts_of (drop (suc k) t)))).taken - r.taken) t)) ≡ each_part read_part (one r t k) (parts_of (drop (suc k) t)))
    by true t k g first ih =
        let z : r.taken - r.taken ≡ 0 = omega arith in
        ((omega arith, omega arith), ap (λ (n : ℕ). each_part read_part r (parts_of (drop n t))) z ∙ ap (each_part read_part r) first)
    by false t k g first ih = (
      (omega (arith, (took r t k g).0.0, ih.0.0), omega (arith, (took r t k g).0.1, ih.0.1)),
      ap (λ (l : List ℕ). each_part read_part (read_parts room (one r t k) (parts_of (drop (suc k) t))) (parts_of l))
          ((took r t k g).1 (read_parts room (one r t k) (parts_of (drop (suc k) t))).taken ih.0.0) ∙ ih.1,
    )

read_left : (fuel : ℕ) (t : List ℕ) → length t ≤ fuel → (room : ℕ) (r : Reading) → Left room r t (parts_of t)
read_left zero t h room r = left-first t room r (λ u q g. absurd (omega arith))
read_left (suc f) t h room r = left-first t room r (λ u q g. read_left f u (omega arith) room q)

-- ---- calls on a text

module _ (line : List ℕ) (kept : ℕ) (out : List ℕ) (st : Store) (h : 8193 ≤ length line) (g : kept ≤ 8193) where
  abbrev began : Reading
  began = reading st (take kept line)

  text-is : (t : List ℕ) → read_text line kept out st t ≡ read_parts (length out) began (parts_of t)
  unfolding read_text unready
  text-is t = rw (le-ltb (length line) 8193 h, le-ltb 8193 kept g)

  -- what a call writes, and the answers to what it leaves of the text and to any that follows, are the answers to the text
  pub text-served : (t u : List ℕ)
      → (read_text line kept out st t).answers ++ answers (read_text line kept out st t).store (read_text line kept out st t).line (drop (read_text line kept out st t).taken t ++ u)
      ≡ answers st (take kept line) (t ++ u)
  unfolding answers
  text-served t u = rw (text-is t) (sym (after_front (parts_of (drop r.taken t ++ u)) r) ∙ ap (λ x. (ended x x.line).answers) whole)
    where
      r : Reading
      r = read_parts (length out) began (parts_of t)

      left : Left (length out) began t (parts_of t)
      left = read_left (length t) t (omega arith) (length out) began

      whole : each_part read_part r (parts_of (drop r.taken t ++ u)) ≡ each_part read_part began (parts_of (t ++ u))
      whole =
          pieces read_part read_joins (drop r.taken t) u r
          ∙ ap (λ x. each_part read_part x (parts_of u)) (ap (λ (n : ℕ). each_part read_part r (parts_of (drop n t))) (sym (sub-zero r.taken)) ∙ left.1)
          ∙ sym (pieces read_part read_joins t u began)

  -- it takes no more than there is
  pub text-within : (t : List ℕ) → (read_text line kept out st t).taken ≤ length t
  text-within t = rw (text-is t) (omega (arith, (read_left (length t) t (omega arith) (length out) began).0.1))

  -- and, with room for an answer, some of it
  pub text_moves : (t : List ℕ) → 65537 ≤ length out → 0 < length t → 0 < (read_text line kept out st t).taken
  unfolding read_parts read_part
  text_moves t room some =
      rw (text-is t, parts_first t some, le-ltb (length out) 65537 room)
      (omega (arith, moved, (read_left (length rest) rest (omega arith) (length out) (one began t k)).0.0))
    where
      k : ℕ
      k = index_of 10 t

      rest : List ℕ
      rest = drop (suc k) t

      moved : 0 < (one began t k).taken
      moved = by (ltb k (length t)) refl
        where
          by : (b : Bool) → ltb k (length t) ≡ b → 0 < (step_by began (take k t) b).taken
          by true b = omega arith
          by false b = omega (arith, length-take k t, ltb-false k (length t) b)

-- the same of what such a call answers
module _ (line : List ℕ) (kept : ℕ) (out : List ℕ) (st : Store) (t : List ℕ) {r : Progress} {line' out' : List ℕ} {left : Store}
    (w : ReadPromise (read_text line kept out st t) r line' out out' left) (h : 8193 ≤ length line) (g : kept ≤ 8193) where
  pub call-within : r.taken ≤ length t
  call-within = omega (arith, ap (λ x. x.taken) w.reading_is, text-within line kept out st h g t)

  pub call_moves : 65537 ≤ length out → 0 < length t → 0 < r.taken
  call_moves room some = omega (arith, ap (λ x. x.taken) w.reading_is, text_moves line kept out st h g t room some)

-- ---- a text taken in several calls

-- the same store and line, whatever was answered and taken before
abbrev pub SameState : Reading → Reading → Type 0
SameState r q = (r.store ≡ q.store) × (r.line ≡ q.line)

part-state : (p : Part) (r q : Reading) → SameState r q → SameState (read_part r p) (read_part q p)
unfolding read_part
part-state p r q a = by p.ended
  where
    by : (e : Bool) → SameState (step_by r p.text e) (step_by q p.text e)
    by true =
        (ap (λ x. (answer_line x (keep r.line p.text)).store) a.0 ∙ ap (λ (l : List ℕ). (answer_line q.store (keep l p.text)).store) a.1, refl)
    by false = (a.0, ap (λ (l : List ℕ). keep l p.text) a.1)

parts-state : (ps : List Part) (r q : Reading) → SameState r q → SameState (each_part read_part r ps) (each_part read_part q ps)
unfolding each_part
parts-state [] r q a = a
parts-state (p ∷ ps) r q a = parts-state ps (read_part r p) (read_part q p) (part-state p r q a)

-- what follows place i takes a piece to its end
abbrev pub TakenTo : Store → List ℕ → List ℕ → Store → List ℕ → ℕ → Type 0
TakenTo st₀ l₀ piece st l i = SameState (each_part read_part (reading st l) (parts_of (drop i piece))) (each_part read_part (reading st₀ l₀) (parts_of piece))

pub taken_start : (st : Store) (l piece : List ℕ) → TakenTo st l piece st l 0
taken_start st l piece = (refl, refl)

module _ (st₀ : Store) (l₀ piece : List ℕ) (line : List ℕ) (kept : ℕ) (out : List ℕ) (st : Store) (i : ℕ) {r : Progress} {line' out' : List ℕ} {left : Store}
    (w : ReadPromise (read_text line kept out st (take (length piece - i) (drop i piece))) r line' out out' left) (h : 8193 ≤ length line) (g : kept ≤ 8193) where
  pub taken_more : TakenTo st₀ l₀ piece st (take kept line) i → TakenTo st₀ l₀ piece left (take r.kept line') (i + r.taken)
  taken_more a =
      let t = drop i piece in
      let whole : take (length piece - i) t ≡ t = take_all (length piece - i) t (omega (arith, length-drop i piece)) in
      let e = w.reading_is ∙ ap (read_text line kept out st) whole ∙ text-is line kept out st h g t in
      let q = read_parts (length out) (reading st (take kept line)) (parts_of t) in
      let n : r.taken ≡ q.taken - 0 = ap (λ x. x.taken) e ∙ sym (sub-zero q.taken) in
      let b = parts-state (parts_of (drop r.taken t)) (reading left (take r.kept line')) q (ap (λ x. x.store) e, ap (λ x. x.line) e) in
      let f = ap (λ (m : ℕ). each_part read_part q (parts_of (drop m t))) n ∙ (read_left (length t) t (omega arith) (length out) (reading st (take kept line))).1 in
      let d = ap (λ (x : List ℕ). each_part read_part (reading left (take r.kept line')) (parts_of x)) (sym (drop-drop r.taken i piece)) in
      (ap (λ x. x.store) d ∙ b.0 ∙ ap (λ x. x.store) f ∙ a.0, ap (λ x. x.line) d ∙ b.1 ∙ ap (λ x. x.line) f ∙ a.1)

pub taken-all : {st₀ st : Store} {l₀ l : List ℕ} (piece : List ℕ) {i : ℕ} (well : Bool) → length piece ≤ i → TakenTo st₀ l₀ piece st l i → Taken well st₀ l₀ piece st l
unfolding each_part parts_of
taken-all piece well h a =
    let b = rw (drop_of_length-le piece h) at a.0 in
    let c = rw (drop_of_length-le piece h) at a.1 in
    record { store_is = λ e. b; line_is = λ e. c }

-- the end of the text answers the line that was begun
pub text-ended : (line : List ℕ) (kept : ℕ) (out : List ℕ) (st : Store) → 8193 ≤ length line → kept ≤ 8193 → 65537 ≤ length out
    → (read_end line kept out st).answers ≡ answers st (take kept line) []
unfolding read_end answers parts_of each_part read_parts
text-ended line zero out st h g room = refl
text-ended [] (suc k) out st h g room = absurd (omega arith)
text-ended (c ∷ l) (suc k) out st h g room =
    rw (ne_eqb (suc k) 0 (λ z. omega (arith, z)), text-is (c ∷ l) (suc k) out st h g (10 ∷ []), le-ltb (length out) 65537 room)
