-- A recording judged in pieces of any length has the rules' verdict on its lines, and a difference decides it.
use Prim.Native.Nat.{ℕ, suc, ◌+◌, ◌/◌, ◌≤◌, ◌<◌}
use mathlib.Core.Path.{◌≡◌, refl, sym, ap, ◌∙◌}
use mathlib.Core.Bool.{Bool, true, false, cond, ◌&&◌, ◌||◌, true≢false}
use mathlib.Core.Option.{some}
use mathlib.Core.List.{List, [], ◌∷◌, ◌++◌, map, append-nil}
use mathlib.Core.Logic.{◌≢◌, ◌⊎◌, inl, inr}
use native.Mathlib.Nat.{add_assoc, zero-add}
use native.Mathlib.Omega.{arith}
use lib.ListN.{length, drop, length-append}
use lib.Seq.{drop-drop}
use lib.Dec.{leb, ltb, eqb}
use borrow.Author.Tests.{lt-ltb, le-ltb, le-leb, ltb-true, ltb-false, eq-eqb, ne_eqb, eqb-true, eqb-false, leb-true}
use Rattle.rules.specs.Store.{Store, empty_store}
use Rattle.rules.specs.Line.{frame_geometry, Line, answer_line}
use Rattle.xdr.proofs.BoolLaws.{and_left, and_both, and_false}
use Rattle.frame.specs.declared.judge.Step.{Step}
use Rattle.frame.specs.declared.judge.Judge.{Judge}
use Rattle.frame.specs.Text.{Part, part, parts_of, lines_of, each_part}
use Rattle.frame.specs.Reading.{keep}
use Rattle.frame.specs.Recording.{lower, alike, same_line, refusal, byte_place, Verdict, same, differs, odd, verdict_from, verdict}
use Rattle.frame.specs.Judging.{Stage, asking, asked, comparing, parted, Judging, judging, next, place_in, asks, replies_by, replies, judge_by, judge_part, judge_text, verdict_by, stage_of, judging_of, fits, judge_call, is_parted, JudgePromise}
use Rattle.frame.specs.Printing.{verdict_call}
use Rattle.frame.proofs.TextLaws.{pieces, keep-keep, answer-keep, keep_some, Proper, parts_proper, parts-few}
use Rattle.frame.proofs.AlikeLaws.{alike_le, alike_le_right, alike-parted, alike-on}
use Rattle.frame.proofs.JudgeLaws.{fits-step}

-- the verdict where the text ends
abbrev pub verdict_of : Judging → Verdict
verdict_of j = verdict_by j.pairs j.stage

-- ---- a line's parts

module _ (st : Store) (n : ℕ) where
  asks_joins : (l a b : List ℕ) (e : Bool) → judge_part (asks st n l (part a false)) (part b e) ≡ asks st n l (part (a ++ b) e)
  unfolding asks judge_part
  asks_joins l a b e = ap (λ (x : List ℕ). judging st n (cond e (asked x) (asking x))) (keep-keep l a b)

  replies_joins : (ans : List ℕ) (at : ℕ) (a b : List ℕ) (e : Bool) → judge_part (replies st n ans at (part a false)) (part b e) ≡ replies st n ans at (part (a ++ b) e)
  unfolding replies judge_part
  replies_joins ans at a b e = go (ltb (alike (drop at ans) a) (length a)) refl
    where
      shift : (k m l : ℕ) → ltb (k + m) (k + l) ≡ ltb m l
      shift k m l = by (ltb m l) refl
        where
          by : (t : Bool) → ltb m l ≡ t → ltb (k + m) (k + l) ≡ t
          by true t = lt-ltb (k + m) (k + l) (omega (arith, ltb-true m l t))
          by false t = le-ltb (k + m) (k + l) (omega (arith, ltb-false m l t))

      go : (t : Bool) → ltb (alike (drop at ans) a) (length a) ≡ t → judge_part (replies st n ans at (part a false)) (part b e) ≡ replies st n ans at (part (a ++ b) e)
      go true t =
          let q = alike-parted (drop at ans) a b (ltb-true (alike (drop at ans) a) (length a) t) in
          rw (t, q, lt-ltb (alike (drop at ans) a) (length (a ++ b)) (omega (arith, length-append a b, ltb-true (alike (drop at ans) a) (length a) t)))
      go false t =
          let h = ltb-false (alike (drop at ans) a) (length a) t in
          let z : alike (drop at ans) a ≡ length a = omega (arith, alike_le_right (drop at ans) a) in
          let q = alike-on (drop at ans) a b h ∙ ap (λ (x : List ℕ). length a + alike x b) (drop-drop (length a) at ans) in
          let m = alike (drop (at + length a) ans) b in
          rw (q, length-append a b, shift (length a) m (length b), ← add_assoc at (length a) m, t, z)

-- as `pieces` wants it
pub judge_joins : (j : Judging) (a b : List ℕ) (e : Bool) → judge_part (judge_part j (part a false)) (part b e) ≡ judge_part j (part (a ++ b) e)
unfolding judge_part
judge_joins j a b e = go j.stage
  where
    go : (s : Stage) → judge_part (judge_by j.store j.pairs s (part a false)) (part b e) ≡ judge_by j.store j.pairs s (part (a ++ b) e)
    go (asking l) = asks_joins j.store j.pairs l a b e
    go (asked l) = replies_joins (answer_line j.store l).store j.pairs (answer_line j.store l).line 0 a b e
    go (comparing x at) = replies_joins j.store j.pairs x at a b e
    go (parted place) = refl

-- pieces of any length are judged as the whole
pub in_pieces : (j : Judging) (a b : List ℕ) → judge_text j (a ++ b) ≡ judge_text (judge_text j a) b
unfolding judge_text
in_pieces j a b = pieces judge_part judge_joins a b j

-- ---- a difference decides

parted-stays : (st : Store) (n place : ℕ) (ps : List Part) → each_part judge_part (judging st n (parted place)) ps ≡ judging st n (parted place)
unfolding each_part judge_part
parted-stays st n place [] = refl
parted-stays st n place (p ∷ ps) = parted-stays st n place ps

pub decided : (st : Store) (n place : ℕ) (t : List ℕ) → judge_text (judging st n (parted place)) t ≡ judging st n (parted place)
unfolding judge_text
decided st n place t = parted-stays st n place (parts_of t)

-- ---- the pair that differs

module _ (n : ℕ) (h : n < 18446744073709551615) where
  next-is : next n ≡ n + 1
  next-is = rw (lt-ltb n 18446744073709551615 h)

lower-minus : (c : ℕ) → c ≢ 45 → lower c ≢ 45
lower-minus c h = go (leb 65 c && leb c 70) refl
  where
    go : (t : Bool) → leb 65 c && leb c 70 ≡ t → cond t (c + 32) c ≢ 45
    go true t e = omega (arith, e, leb-true 65 c (and_left (leb 65 c) (leb c 70) t))
    go false t e = h e

-- the byte where two lines part
place_is : (a b : List ℕ) → place_in a (alike a b) ≡ byte_place a b
unfolding place_in byte_place alike
place_is [] b = go (refusal b)
  where
    go : (t : Bool) → ◌≡◌ {A = ℕ} (0 / 2) (cond t 0 (0 / 2))
    go true = refl
    go false = refl
place_is (x ∷ xs) [] = go (eqb x 45)
  where
    go : (t : Bool) → ◌≡◌ {A = ℕ} (cond t 0 (0 / 2)) (cond (t || false) 0 (0 / 2))
    go true = refl
    go false = refl
place_is (x ∷ xs) (y ∷ ys) = go (eqb x 45) refl (eqb y 45) refl
  where
    go : (t : Bool) → eqb x 45 ≡ t → (u : Bool) → eqb y 45 ≡ u
        → cond t 0 (cond (eqb (lower x) (lower y)) (suc (alike xs ys)) 0 / 2) ≡ cond (t || u) 0 (cond (eqb (lower x) (lower y)) (suc (alike xs ys)) 0 / 2)
    go true t u v = refl
    go false t false v = refl
    go false t true v =
        let h : eqb (lower x) (lower y) ≡ false = ne_eqb (lower x) (lower y) (λ e. lower-minus x (eqb-false x 45 t) (e ∙ ap lower (eqb-true y 45 v))) in
        rw h

-- ---- the verdict on the lines

abbrev After : Judging → List Part → Verdict
After j ps = verdict_of (each_part judge_part j ps)

-- a difference was found
after-parted : (st : Store) (n place : ℕ) (ps : List Part) → n < 18446744073709551615 → After (judging st n (parted place)) ps ≡ differs (n + 1) place
unfolding verdict_by
after-parted st n place ps h = ap verdict_of (parted-stays st n place ps) ∙ ap (λ (m : ℕ). differs m place) (next-is n h)

module _ (st : Store) (n : ℕ) (a : List ℕ) (q : Part) (ps : List Part) (h : n < 18446744073709551615)
    (go_on : After (judging st (n + 1) (asking [])) ps ≡ verdict_from st (n + 1) (map (λ p. p.text) ps)) (last : q.ended ≡ false → ps ≡ []) where
  abbrev k : ℕ
  k = alike a q.text

  abbrev Told : Judging → Type 0
  Told j = After j ps ≡ cond (same_line a q.text) (verdict_from st (n + 1) (map (λ p. p.text) ps)) (differs (n + 1) (byte_place a q.text))

  -- the lines part
  told-parted : same_line a q.text ≡ false → Told (judging st n (parted (place_in a (alike a q.text))))
  told-parted e = after-parted st n _ ps h ∙ rw (e, place_is a q.text)

  told_same : same_line a q.text ≡ true → Told (judging st (next n) (asking []))
  told_same e = rw (e, next-is n h) go_on

  -- the text ends in the reply's line, which is alike so far
  told_open : length q.text ≡ k → q.ended ≡ false → Told (judging st n (comparing a k))
  unfolding verdict_by verdict_from each_part same_line
  told_open all o = rw (last o) (by (ltb k (length a)) refl)
    where
      by : (t : Bool) → ltb k (length a) ≡ t
          → verdict_of (judging st n (comparing a k)) ≡ cond (same_line a q.text) (same (n + 1)) (differs (n + 1) (byte_place a q.text))
      by true t = rw (t, next-is n h, ne_eqb k (length a) (λ e. omega (arith, e, ltb-true k (length a) t)), place_is a q.text)
      by false t =
          rw (t, next-is n h, eq-eqb k (length a) (omega (arith, ltb-false k (length a) t, alike_le a q.text)), eq-eqb k (length q.text) (sym all))

  -- the reply's line, compared with the answer
  pub reply-told : Told (replies st n a 0 q)
  unfolding replies same_line
  reply-told = rw (zero-add (alike a q.text)) (by (ltb k (length q.text)) refl q.ended refl)
    where
      ends : length q.text ≡ k → (t : Bool) → ltb k (length a) ≡ t → Told (cond t (judging st n (parted (place_in a k))) (judging st (next n) (asking [])))
      ends all true t = told-parted (rw (ne_eqb k (length a) (λ e. omega (arith, e, ltb-true k (length a) t))))
      ends all false t =
          told_same (and_both (eqb k (length a)) (eqb k (length q.text))
          (eq-eqb k (length a) (omega (arith, ltb-false k (length a) t, alike_le a q.text))) (eq-eqb k (length q.text) (sym all)))

      by : (o : Bool) → ltb k (length q.text) ≡ o → (e : Bool) → q.ended ≡ e → Told (replies_by st n a k o e)
      by true o e f =
          told-parted (rw (ne_eqb k (length q.text) (λ e. omega (arith, e, ltb-true k (length q.text) o))) (and_false (eqb k (length a))))
      by false o true f = ends (omega (arith, ltb-false k (length q.text) o, alike_le_right a q.text)) (ltb k (length a)) refl
      by false o false f = told_open (omega (arith, ltb-false k (length q.text) o, alike_le_right a q.text)) f

-- ---- the verdict on the lines

proper_last : (q : Part) (ps : List Part) → Proper (q ∷ ps) → q.ended ≡ false → ps ≡ []
proper_last q [] h e = refl
proper_last q (r ∷ rs) h e = absurd (true≢false (sym h.0 ∙ e))

proper_rest : (q : Part) (ps : List Part) → Proper (q ∷ ps) → Proper ps
proper_rest q [] h = tt
proper_rest q (r ∷ rs) h = h.1

-- a request without a reply
odd-told : (p : Part) (st : Store) (n : ℕ) → Proper (p ∷ []) → n < 18446744073709551615 → After (judging st n (asking [])) (p ∷ []) ≡ odd (n + 1)
unfolding each_part judge_part asks verdict_by
odd-told p st n pr h = by p.ended refl (keep [] p.text) refl
  where
    by : (e : Bool) → p.ended ≡ e → (l : List ℕ) → keep [] p.text ≡ l → verdict_by n (cond p.ended (asked (keep [] p.text)) (asking (keep [] p.text))) ≡ odd (n + 1)
    by true e l f = rw (e, next-is n h)
    by false e [] f = absurd (let z = keep_some p.text (pr e) in omega (arith, z, ap length f))
    by false e (c ∷ cs) f = rw (e, f, next-is n h)

verdict-parts : (ps : List Part) → Proper ps → (st : Store) (n : ℕ) → n + length ps < 18446744073709551616
    → After (judging st n (asking [])) ps ≡ verdict_from st n (map (λ p. p.text) ps)
unfolding verdict_from each_part judge_part asks verdict_by
verdict-parts [] pr st n h = refl
verdict-parts (p ∷ []) pr st n h = odd-told p st n pr (omega arith)
verdict-parts (p ∷ q ∷ ps) pr st n h =
    ap (λ b. After (judging st n (cond b (asked (keep [] p.text)) (asking (keep [] p.text)))) (q ∷ ps)) pr.0
    ∙ ap (λ (x : Line). After (replies x.store n x.line 0 q) ps) (answer-keep st p.text)
    ∙ reply-told (answer_line st p.text).store n (answer_line st p.text).line q ps (omega arith)
    (verdict-parts ps (proper_rest q ps pr.1) (answer_line st p.text).store (n + 1) (omega arith)) (proper_last q ps pr.1)

-- nothing of a recording is read, and the store is empty
abbrev pub start : Judging
start = judging (empty_store frame_geometry) 0 (asking [])

-- judged to its end, a recording has the rules' verdict on its lines
pub verdict-is : (t : List ℕ) → length t < 18446744073709551616 → verdict_of (judge_text start t) ≡ verdict (lines_of t)
unfolding judge_text verdict lines_of
verdict-is t h = verdict-parts (parts_of t) (parts_proper t) (empty_store frame_geometry) 0 (omega (arith, parts-few t))

-- a difference found in its beginning is the verdict, whatever follows
pub first-difference : (a b : List ℕ) (st : Store) (n place : ℕ) → length (a ++ b) < 18446744073709551616 → judge_text start a ≡ judging st n (parted place)
    → verdict (lines_of (a ++ b)) ≡ verdict_of (judging st n (parted place))
first-difference a b st n place h e =
    sym (verdict-is (a ++ b) h) ∙ ap verdict_of (in_pieces start a b ∙ ap (λ j. judge_text j b) e ∙ decided st n place b)

-- ---- calls on a recording, one a piece

-- what the text t that was read so far has come to
pub record Judged (t : List ℕ) (j : Judge) (line out : List ℕ) (st : Store) : Type 0 where
  pub judging_is : judging_of j line out st ≡ judge_text start t
  pub fits_is : fits j line out ≡ true

module _ (line out : List ℕ) (h : 8193 ≤ length line) (k : 65536 ≤ length out) where
  pub judged-start : Judged [] (record { pairs = 0; step = Step.Asking 0 }) line out (empty_store frame_geometry)
  unfolding judging_of judge_text parts_of each_part fits
  judged-start = record {
    judging_is = refl;
    fits_is = and_both (leb 8193 (length line)) _ (le-leb 8193 (length line) h) (and_both (leb 65536 (length out)) true (le-leb 65536 (length out) k) refl);
  }

  pub judged-more : (piece : List ℕ) {t line₀ out₀ : List ℕ} {j r : Judge} {st₀ st : Store} → Judged t j line₀ out₀ st₀
      → JudgePromise (judge_call j line₀ out₀ st₀ piece) j r line out st → Judged (t ++ piece) r line out st
  unfolding judge_call fits
  judged-more piece {t} {line₀} {out₀} {j} {r} {st₀} {st} b p = record {
    judging_is = p.judging_is ∙ rw b.fits_is (ap (λ x. judge_text x piece) b.judging_is ∙ sym (in_pieces start t piece));
    fits_is = and_both (leb 8193 (length line)) _ (le-leb 8193 (length line) h)
        (and_both (leb 65536 (length out)) _ (le-leb 65536 (length out) k) (p.within_is ∙ fits-step j line₀ out₀ b.fits_is));
  }

pub judged-end : {t line out : List ℕ} {j : Judge} {st : Store} → length t < 18446744073709551616 → Judged t j line out st → verdict_call j line out ≡ some (verdict (lines_of t))
unfolding verdict_call judging_of
judged-end {t} {line} {out} {j} {st} h b = rw b.fits_is (ap some (by ∙ ap verdict_of b.judging_is ∙ verdict-is t h))
  where
    by : verdict_by j.pairs (stage_of j.step line out) ≡ verdict_of (judging_of j line out st)
    by = refl

-- the same where nothing more comes, or a difference was found
pub judged-told : {t line out : List ℕ} {j : Judge} {st : Store} (rest : List ℕ) → length (t ++ rest) < 18446744073709551616 → Judged t j line out st
    → (is_parted j.step ≡ true) ⊎ (rest ≡ []) → verdict_call j line out ≡ some (verdict (lines_of (t ++ rest)))
unfolding verdict_call judging_of
judged-told {t} rest h b (inr e) =
    judged-end (omega (arith, h, length-append t rest)) b
    ∙ ap (λ (l : List ℕ). some (verdict (lines_of l))) (sym (ap (λ (r : List ℕ). t ++ r) e ∙ append-nil t))
judged-told {t} {line} {out} {j} {st} rest h b (inl p) = go j.step refl p
  where
    go : (s : Step) → j.step ≡ s → is_parted s ≡ true → verdict_call j line out ≡ some (verdict (lines_of (t ++ rest)))
    go (Step.Asking k) e q = absurd (true≢false (sym q))
    go (Step.Asked k) e q = absurd (true≢false (sym q))
    go (Step.Comparing n at) e q = absurd (true≢false (sym q))
    go (Step.Parted place) e q =
        let is : judging_of j line out st ≡ judging st j.pairs (parted place) = ap (λ s. judging st j.pairs (stage_of s line out)) e in
        let called : verdict_call j line out ≡ some (verdict_by j.pairs (parted place)) = rw b.fits_is (ap (λ s. some (verdict_by j.pairs (stage_of s line out))) e) in
        called ∙ ap some (sym (first-difference t rest st j.pairs place h (sym b.judging_is ∙ is)))
