-- Laws on text as lines: its parts one after the other, and a line that is kept.
use Prim.Native.Nat.{ℕ, zero, suc, ◌+◌, ◌-◌, ◌≤◌, ◌<◌, min}
use mathlib.Core.Path.{◌≡◌, refl, sym, ap, ◌∙◌}
use mathlib.Core.Bool.{Bool, true, false, cond, true≢false}
use mathlib.Core.Option.{none, some}
use mathlib.Core.List.{List, [], ◌∷◌, ◌++◌, append_assoc}
use native.Mathlib.Omega.{arith}
use lib.ListN.{length, take, drop, length-take, drop_of_length-le}
use lib.Seq.{take_all, take-length, take-append-add, take_at, length-take-le}
use lib.Dec.{ltb, eqb, leb-suc-suc}
use borrow.Author.Tests.{lt-ltb, ltb-true, ltb-false}
use borrow.Rule.Slice.PartMut as P
use mir.Val.{bool_byte}
use Rattle.std.proofs.lemmas.List.{take_rest}
use Rattle.xdr.specs.Bytes.{splice}
use Rattle.rules.specs.Store.{Store}
use Rattle.rules.specs.Line.{line_bytes, request_of, refusal_line, answer_request, answer_line}
use Rattle.frame.specs.Lines.{index_after, index_of}
use Rattle.frame.specs.Text.{Part, part, in_front, parts_of, each_part}
use Rattle.frame.specs.Reading.{keep, Kept}

-- ---- the first part

abbrev pub First : List ℕ → Type 0
First t = parts_of t ≡ part (take (index_of 10 t) t) (ltb (index_of 10 t) (length t)) ∷ parts_of (drop (suc (index_of 10 t)) t)

-- the text up to the first newline, or all of it
pub parts_first : (t : List ℕ) → 0 < length t → First t
unfolding parts_of index_of index_after
parts_first [] h = absurd (omega arith)
parts_first (c ∷ cs) h = go (eqb c 10) refl cs (parts_first cs)
  where
    go : (b : Bool) → eqb c 10 ≡ b → (cs : List ℕ) → (0 < length cs → First cs) → First (c ∷ cs)
    go true e cs ih = rw (e, lt-ltb 0 (suc (length cs)) (omega arith))
    go false e [] ih = rw e
    go false e (d ∷ ds) ih = rw (e, ih (omega arith), leb-suc-suc (suc (index_of 10 (d ∷ ds))) (length (d ∷ ds)))

-- the same, with its newline's place, and what follows the part
parts_split : (t : List ℕ) (end : ℕ) → 0 < length t → end ≡ index_of 10 t
    → parts_of t ≡ part (take end t) (ltb end (length t)) ∷ parts_of (drop (end + cond (ltb end (length t)) 1 0) t)
parts_split t end h e = rw e (parts_first t h ∙ go (ltb k (length t)) refl)
  where
    k : ℕ
    k = index_of 10 t

    go : (b : Bool) → ltb k (length t) ≡ b → part (take k t) b ∷ parts_of (drop (suc k) t) ≡ part (take k t) b ∷ parts_of (drop (k + cond b 1 0) t)
    go true b = let z : suc k ≡ k + 1 = omega arith in ap (λ (n : ℕ). part (take k t) true ∷ parts_of (drop n t)) z
    go false b =
        let past : length t ≤ k = ltb-false k (length t) b in
        ap (λ (l : List ℕ). part (take k t) false ∷ parts_of l)
        (drop_of_length-le t {i = suc k} (omega (arith, past)) ∙ sym (drop_of_length-le t {i = k + 0} (omega (arith, past))))

pub parts_rest : (t : List ℕ) (end b : ℕ) → 0 < length t → end ≡ index_of 10 t → b ≡ bool_byte (ltb end (length t))
    → parts_of t ≡ part (take end t) (ltb end (length t)) ∷ parts_of (take (length t - (end + b)) (drop (end + b) t))
parts_rest t end b h e f = rw (take_rest t (end + b), f, by (ltb end (length t))) (parts_split t end h e)
  where
    by : (c : Bool) → bool_byte c ≡ cond c 1 0
    by true = refl
    by false = refl

-- ---- pieces

-- a step that takes a line's parts as it takes the line takes a text's pieces as it takes the text
module _ {X : Type 0} (step : X → Part → X) (joins : (x : X) (l m : List ℕ) (e : Bool) → step (step x (part l false)) (part m e) ≡ step x (part (l ++ m) e)) where
  front : (c : ℕ) (ps : List Part) (x : X) → each_part step x (in_front c ps) ≡ each_part step (step x (part (c ∷ []) false)) ps
  unfolding each_part
  front c [] x = refl
  front c (p ∷ ps) x = ap (λ y. each_part step y ps) (sym (joins x (c ∷ []) p.text p.ended))

  pub pieces : (a b : List ℕ) (x : X) → each_part step x (parts_of (a ++ b)) ≡ each_part step (each_part step x (parts_of a)) (parts_of b)
  unfolding parts_of each_part
  pieces [] b x = refl
  pieces (c ∷ cs) b x = go (eqb c 10) refl (pieces cs b)
    where
      go : (t : Bool) → eqb c 10 ≡ t → ((y : X) → each_part step y (parts_of (cs ++ b)) ≡ each_part step (each_part step y (parts_of cs)) (parts_of b))
          → each_part step x (parts_of (c ∷ cs ++ b)) ≡ each_part step (each_part step x (parts_of (c ∷ cs))) (parts_of b)
      go true e ih = rw e (ih (step x (part [] true)))
      go false e ih =
          rw e (front c (parts_of (cs ++ b)) x ∙ ih (step x (part (c ∷ []) false))
          ∙ ap (λ y. each_part step y (parts_of b)) (sym (front c (parts_of cs) x)))

-- ---- a line that is kept

cut_append : (n : ℕ) (a b : List ℕ) → take n (take n a ++ b) ≡ take n (a ++ b)
cut_append zero a b = refl
cut_append (suc n) [] b = refl
cut_append (suc n) (x ∷ xs) b = ap (λ (l : List ℕ). x ∷ l) (cut_append n xs b)

pub keep-keep : (l a b : List ℕ) → keep (keep l a) b ≡ keep l (a ++ b)
unfolding keep
keep-keep l a b = cut_append 8193 (l ++ a) b ∙ ap (take 8193) (append_assoc l a b)

pub take_min : (n : ℕ) (l : List ℕ) → take (min n (length l)) l ≡ take n l
take_min n l = go (ltb n (length l)) refl
  where
    go : (b : Bool) → ltb n (length l) ≡ b → take (min n (length l)) l ≡ take n l
    go true b = let e : min n (length l) ≡ n = omega (arith, ltb-true n (length l) b) in ap (λ (m : ℕ). take m l) e
    go false b =
        let e : min n (length l) ≡ length l = omega (arith, ltb-false n (length l) b) in
        ap (λ (m : ℕ). take m l) e ∙ take-length l ∙ sym (take_all n l (ltb-false n (length l) b))

-- characters copied over those behind the ones that are kept
pub copied : (line last t : List ℕ) (kept n : ℕ) → n ≤ length t → last ≡ take n t → P.put_mid kept (kept + n - kept) line last ≡ splice line kept (take n t)
unfolding splice
copied line last t kept n h e = rw (e, P.Post-is kept (kept + n) line (omega arith), length-take-le n t h)

-- n more characters are stored behind those kept
pub keep-more : (line t after : List ℕ) {kept n : ℕ} → kept ≤ 8193 → 8193 ≤ length line → n ≡ min (8193 - kept) (length t)
    → after ≡ splice line kept (take n t) → Kept (take kept line) t (kept + n) after
unfolding keep splice
keep-more line t after {kept} {n} h k e q = record { kept_is = stored ∙ sym wanted; few = omega arith }
  where
    front : length (take kept line) ≡ kept
    front = length-take-le kept line (omega arith)

    many : length (take n t) ≡ n
    many = length-take-le n t (omega arith)

    stored : take (kept + n) after ≡ take kept line ++ take n t
    stored =
        ap (take (kept + n)) q
        ∙ ap (λ (m : ℕ). take (m + n) (splice line kept (take n t))) (sym front)
        ∙ take-append-add (take kept line) (take n t ++ drop (kept + length (take n t)) line) n
        ∙ ap (λ (l : List ℕ). take kept line ++ l) (take_at (take n t) _ n many)

    wanted : take 8193 (take kept line ++ t) ≡ take kept line ++ take n t
    wanted =
        let s : 8193 ≡ length (take kept line) + (8193 - kept) = omega (arith, front) in
        ap (λ (m : ℕ). take m (take kept line ++ t)) s
        ∙ take-append-add (take kept line) t (8193 - kept)
        ∙ ap (λ (l : List ℕ). take kept line ++ l) (sym (take_min (8193 - kept) t) ∙ ap (λ (m : ℕ). take m t) (sym e))

-- a line is answered by what is kept of it
request-keep : (l : List ℕ) → request_of (keep [] l) ≡ request_of l
unfolding request_of keep
request-keep l = go (ltb 8192 (length l)) refl
  where
    go : (b : Bool) → ltb 8192 (length l) ≡ b
        → cond (ltb 8192 (length (take 8193 l))) none (line_bytes (take 8193 l)) ≡ cond (ltb 8192 (length l)) none (line_bytes l)
    go true b = rw (b, lt-ltb 8192 (length (take 8193 l)) (omega (arith, length-take 8193 l, ltb-true 8192 (length l) b)))
    go false b = rw (take_all 8193 l (omega (arith, ltb-false 8192 (length l) b)))

pub answer-keep : (st : Store) (l : List ℕ) → answer_line st (keep [] l) ≡ answer_line st l
unfolding answer_line
answer-keep st l = ap (λ r. elim r [ none ↦ record { line = refusal_line 7; store = st } | some s ↦ answer_request st s ]) (request-keep l)

pub keep_some : (l : List ℕ) → 0 < length l → 0 < length (keep [] l)
unfolding keep
keep_some l h = omega (arith, length-take 8193 l)

-- ---- a text's parts

-- all but the last have ended, and the last has ended or some characters
abbrev pub Proper : List Part → Type 0
Proper [] = Unit {0}
Proper (p ∷ []) = p.ended ≡ false → 0 < length p.text
Proper (p ∷ q ∷ ps) = (p.ended ≡ true) × Proper (q ∷ ps)

pub parts_proper : (t : List ℕ) → Proper (parts_of t)
unfolding parts_of
parts_proper [] = tt
parts_proper (c ∷ cs) = go (eqb c 10) (parts_of cs) (parts_proper cs)
  where
    go : (b : Bool) (ps : List Part) → Proper ps → Proper (cond b (part [] true ∷ ps) (in_front c ps))
    go true [] h = λ e. absurd (true≢false e)
    go true (p ∷ ps) h = (refl, h)
    go false [] h = λ e. omega arith
    go false (p ∷ []) h = λ e. omega arith
    go false (p ∷ q ∷ ps) h = h

pub parts-few : (t : List ℕ) → length (parts_of t) ≤ length t
unfolding parts_of
parts-few [] = omega arith
parts-few (c ∷ cs) = go (eqb c 10) (parts_of cs) (parts-few cs)
  where
    go : (b : Bool) (ps : List Part) → length ps ≤ length cs → length (cond b (part [] true ∷ ps) (in_front c ps)) ≤ suc (length cs)
    go true ps h = omega arith
    go false [] h = omega arith
    go false (p ∷ ps) h = omega arith

-- ---- what is lent

-- buffers keep their lengths
pub record Lengths (line₀ out₀ line out : List ℕ) : Type 0 where
  pub line_is : length line ≡ length line₀
  pub out_is : length out ≡ length out₀

pub lengths-start : (line out : List ℕ) → Lengths line out line out
lengths-start line out = record { line_is = refl; out_is = refl }

pub lengths-on : {line₀ line line' out₀ out out' : List ℕ} → Lengths line₀ out₀ line out → Lengths line out line' out' → Lengths line₀ out₀ line' out'
lengths-on a b = record { line_is = b.line_is ∙ a.line_is; out_is = b.out_is ∙ a.out_is }
