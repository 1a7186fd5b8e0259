-- Laws on a text served as it comes: an answer written, a part of a line taken, and the parts one after the other.
use Prim.Native.Nat.{ℕ, ◌+◌, ◌-◌, ◌≤◌, ◌<◌}
use mathlib.Core.Path.{◌≡◌, refl, sym, ap, ◌∙◌}
use mathlib.Core.Bool.{Bool, true, false, cond}
use mathlib.Core.List.{List, [], ◌∷◌, ◌++◌, append_assoc, append-nil}
use native.Mathlib.Omega.{arith}
use lib.ListN.{length, set, take, drop, length-append, length-take, length-drop}
use lib.Seq.{length-take-le, take_all, drop-drop, drop-length, sets-eq}
use borrow.Author.Tests.{lt-ltb, le-ltb}
use borrow.Rule.Slice.PartMut as P
use Rattle.xdr.specs.Bytes.{splice}
use Rattle.xdr.proofs.BytesLaws.{length-splice, take_spliced, drop_spliced, splice-splice}
use Rattle.rules.specs.Store.{Store}
use Rattle.rules.specs.Line.{Line, answer_line}
use Rattle.frame.specs.declared.text.Progress.{Progress}
use Rattle.frame.specs.LineCall.{line_into, LinePromise}
use Rattle.frame.specs.Text.{Part, part, parts_of}
use Rattle.frame.specs.Reading.{keep, Reading, reading, goes_on, ends_with, read_part, read_parts}
use Rattle.frame.specs.Reading.{reading_of, ReadPromise, Kept, Answered}
use Rattle.frame.proofs.LineLaws.{line-fits, line-many, line-stands, store_is}
use Rattle.frame.proofs.TextLaws.{Lengths, lengths-on}

-- ---- an answer

-- the part of a list from `at` on, and the list when that comes back
abbrev pub lent : List ℕ → ℕ → List ℕ
lent out at = P.mid_of at (length out - at) out

abbrev pub back : List ℕ → ℕ → List ℕ → List ℕ
back out at last = P.put_mid at (length out - at) out last

-- a text at the front of the part that is lent
back-splice : (text out last : List ℕ) (at : ℕ) → at + length text ≤ length out → last ≡ text ++ drop (length text) (lent out at)
    → back out at last ≡ splice out at text
unfolding splice
back-splice text out last at h e =
    let rest : length (drop at out) ≤ length out - at = rw (length-drop at out) (omega arith) in
    rw (e, take_all (length out - at) (drop at out) rest, P.Post-is at (length out) out (omega arith), drop-length out, append-nil, drop-drop (length text) at out)

char-splice : (x : List ℕ) (k c : ℕ) → k < length x → set x k c ≡ splice x k (c ∷ [])
unfolding splice
char-splice x k c h = sets-eq (c ∷ []) x k (omega arith) ∙ append_assoc (take k x) (c ∷ []) (drop (k + 1) x)

set-splice : (out : List ℕ) (at : ℕ) (bs : List ℕ) (c : ℕ) → at + length bs < length out → set (splice out at bs) (at + length bs) c ≡ splice out at (bs ++ c ∷ [])
set-splice out at bs c h = char-splice _ _ c (omega (arith, length-splice out at bs (omega arith))) ∙ splice-splice out at bs (c ∷ []) (omega arith)

-- a line that is served into the part from `at` on, and its newline
module _ (st : Store) (l out : List ℕ) (at : ℕ) (h : at + 65537 ≤ length out) {last : List ℕ} {n : ℕ} {left : Store}
    (p : LinePromise (line_into (lent out at) st l) (lent out at) n last left) where
  room : 65536 ≤ length (lent out at)
  room = omega (arith, P.mid_len at (length out) out (omega arith))

  abbrev text : List ℕ
  text = (answer_line st l).line

  many : length text ≡ n
  many = sym (line-many st l room p)

  pub answer-fits : at + n + 1 ≤ length out
  answer-fits = omega (arith, line-fits st l room p)

  stored : back out at last ≡ splice out at text
  stored = back-splice text out last at (omega (arith, answer-fits, many)) (line-stands st l room p)

  pub answer-inside : at + n < length (back out at last)
  answer-inside = omega (arith, answer-fits, many, ap length stored, length-splice out at text (omega (arith, answer-fits, many)))

  pub answered : Answered (answer_line st l) at out (at + n + 1) (set (back out at last) (at + n) 10) left
  answered =
      let line : List ℕ = text ++ 10 ∷ [] in
      let whole : set (back out at last) (at + n) 10 ≡ splice out at (text ++ 10 ∷ []) =
      ap (λ (x : List ℕ). set x (at + n) 10) stored ∙ ap (λ (k : ℕ). set (splice out at text) (at + k) 10) (sym many) ∙ set-splice out at text 10 (omega (arith, answer-fits, many)) in
      let end : at + n + 1 ≡ at + length (text ++ 10 ∷ []) = omega (arith, many, length-append text (10 ∷ [])) in
      record {
        answers_are = rw (whole, end) (take_spliced out at (text ++ 10 ∷ []) (omega arith));
        fits = answer-fits;
        rest_is = rw (whole, end) (drop_spliced out at (text ++ 10 ∷ []) (omega arith) ∙ drop-drop (length (text ++ 10 ∷ [])) at out);
        store_is = store_is st l room p;
      }

-- ---- a part

reading_eq : {a b : Reading} → a.store ≡ b.store → a.line ≡ b.line → a.answers ≡ b.answers → a.taken ≡ b.taken → a ≡ b
reading_eq s l w t = λ i. record { store = s i; line = l i; answers = w i; taken = t i }

module _ (text : List ℕ) (ended : Bool) (p : Progress) (line out : List ℕ) (st : Store) {line' : List ℕ} {kept : ℕ}
    (f : Kept (take p.kept line) text kept line') (g : 8193 ≤ length line') where
  pub part_goes_on : ended ≡ false → p.written ≤ length out
      → ReadPromise (read_part (reading_of p line out st) (part text ended)) (record { taken = p.taken + length text; kept = kept; written = p.written }) line' out out st
  unfolding read_part
  part_goes_on e w = rw e (record { reading_is = reading_eq refl f.kept_is refl refl; kept_fits = omega (arith, f.few); written_fits = w; rest_is = refl })

  pub part-ends : {n : ℕ} {out' : List ℕ} {left : Store} → ended ≡ true → Answered (answer_line st (take kept line')) p.written out n out' left
      → ReadPromise (read_part (reading_of p line out st) (part text ended)) (record { taken = p.taken + length text + 1; kept = 0; written = n }) line' out out' left
  unfolding read_part
  part-ends e a =
      rw (e, ← f.kept_is)
      (record {
        reading_is = reading_eq a.store_is refl a.answers_are (omega arith);
        kept_fits = omega arith;
        written_fits = a.fits;
        rest_is = a.rest_is;
      })

-- ---- the parts

-- where there is room for an answer a part is taken, and where there is none no part is
part-taken : (room : ℕ) (r : Reading) (q : Part) (ps : List Part) → length r.answers + 65537 ≤ room
    → read_parts room r (q ∷ ps) ≡ read_parts room (read_part r q) ps
unfolding read_parts
part-taken room r q ps h = rw (le-ltb room (length r.answers + 65537) h)

none-taken : (room : ℕ) (r : Reading) (ps : List Part) → room < length r.answers + 65537 → read_parts room r ps ≡ r
unfolding read_parts
none-taken room r [] h = refl
none-taken room r (q ∷ ps) h = rw (lt-ltb room (length r.answers + 65537) h)

answers_grow : (r : Reading) (q : Part) → length r.answers ≤ length (read_part r q).answers
unfolding read_part
answers_grow r q = go q.ended
  where
    a : Line
    a = answer_line r.store (keep r.line q.text)

    go : (b : Bool) → length r.answers ≤ length (cond b (ends_with r q.text a) (goes_on r q.text)).answers
    go true = omega (arith, length-append r.answers (a.line ++ 10 ∷ []))
    go false = omega arith

-- its characters and its newline are taken
part_size : (r : Reading) (q : Part) → (read_part r q).taken ≡ r.taken + (length q.text + cond q.ended 1 0)
unfolding read_part
part_size r q = go q.ended
  where
    a : Line
    a = answer_line r.store (keep r.line q.text)

    go : (b : Bool) → (cond b (ends_with r q.text a) (goes_on r q.text)).taken ≡ r.taken + (length q.text + cond b 1 0)
    go true = refl
    go false = omega arith

drop_more : (a b : List ℕ) (n m : ℕ) → n ≤ m → drop n a ≡ drop n b → drop m a ≡ drop m b
drop_more a b n m h q =
    let e : n + (m - n) ≡ m = omega arith in
    rw (← e, ← drop-drop (m - n) n a, ← drop-drop (m - n) n b, q)

-- some parts are taken; with those left they are the whole text
pub record ReadLeft (st₀ : Store) (line₀ out₀ text : List ℕ) (kept : ℕ) (st : Store) (line out : List ℕ) (p : Progress) (rest : List ℕ) : Type 0 where
  pub long : Lengths line₀ out₀ line out
  pub few : p.kept ≤ 8193
  pub within : p.taken + length rest ≡ length text
  pub fits : p.written ≤ length out
  pub rest_is : drop p.written out ≡ drop p.written out₀
  pub same : read_parts (length out₀) (reading_of p line out st) (parts_of rest) ≡ read_parts (length out₀) (reading st₀ (take kept line₀)) (parts_of text)

module _ {st₀ : Store} {line₀ out₀ text : List ℕ} {kept : ℕ} {st : Store} {line out : List ℕ} {p : Progress} {rest : List ℕ}
    (left : ReadLeft st₀ line₀ out₀ text kept st line out p rest) where
  abbrev pub here : Reading
  here = reading_of p line out st

  abbrev pub whole : Reading
  whole = read_parts (length out₀) (reading st₀ (take kept line₀)) (parts_of text)

  written_is : length (take p.written out) ≡ p.written
  written_is = length-take-le p.written out left.fits

  done : 8193 ≤ length line₀ → read_parts (length out₀) here (parts_of rest) ≡ here → ReadPromise whole p line out₀ out st
  done h e = record {
    reading_is = sym e ∙ left.same;
    kept_fits = omega (arith, left.few, left.long.line_is);
    written_fits = omega (arith, left.fits, left.long.out_is);
    rest_is = left.rest_is;
  }

  -- the text is at its end, or no room is left
  pub read_all : 8193 ≤ length line₀ → rest ≡ [] → ReadPromise whole p line out₀ out st
  unfolding parts_of read_parts
  read_all h e = done h (rw e)

  pub read_full : 8193 ≤ length line₀ → length out - p.written < 65537 → ReadPromise whole p line out₀ out st
  read_full h e = done h (none-taken (length out₀) here (parts_of rest) (omega (arith, written_is, left.fits, left.long.out_is)))

  -- a part is taken
  module _ (q : Part) {r : Progress} {line' out' : List ℕ} {st' : Store} (w : ReadPromise (read_part here q) r line' out out' st') where
    size_is : r.taken ≡ p.taken + (length q.text + cond q.ended 1 0)
    size_is = ap (λ x. x.taken) w.reading_is ∙ part_size here q

    written-more : p.written ≤ r.written
    written-more =
        let g = answers_grow here q in
        omega (arith, written_is, g, ap (λ x. length x.answers) w.reading_is, length-take r.written out')

    pub read_more : {rest' : List ℕ} → parts_of rest ≡ q ∷ parts_of rest' → length q.text + cond q.ended 1 0 + length rest' ≡ length rest → 65537 ≤ length out - p.written
        → r.kept ≤ 8193 → Lengths line out line' out' → ReadLeft st₀ line₀ out₀ text kept st' line' out' r rest'
    read_more {rest'} next size f g l =
        let roomy : length here.answers + 65537 ≤ length out₀ = omega (arith, written_is, left.fits, left.long.out_is) in
        record {
          long = lengths-on left.long l;
          few = g;
          within = omega (arith, size_is, left.within, size);
          fits = omega (arith, w.written_fits, l.out_is);
          rest_is = w.rest_is ∙ drop_more out out₀ p.written r.written written-more left.rest_is;
          same =
              ap (λ x. read_parts (length out₀) x (parts_of rest')) w.reading_is
              ∙ sym (part-taken (length out₀) here q (parts_of rest') roomy)
              ∙ ap (read_parts (length out₀) here) (sym next) ∙ left.same;
        }
