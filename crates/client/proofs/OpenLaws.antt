-- What results that are read say of a reply that is opened.
use Prim.Native.Nat.{ℕ, zero, suc, ◌+◌, ◌-◌, ◌<◌, ◌≤◌}
use mathlib.Core.Path.{◌≡◌, refl, sym, ap, ◌∙◌}
use mathlib.Core.Bool.{Bool, true, false, cond, ◌&&◌}
use mathlib.Core.List.{List, [], ◌∷◌}
use native.Mathlib.Numerals.{add-one}
use native.Mathlib.Omega.{arith}
use borrow.Author.Tests.{eqb-true, eqb-false, eq-eqb, ne_eqb}
use lib.ListN.{length, get_or, drop, length-drop}
use lib.Seq.{drop-cons}
use lib.Dec.{eqb}
use lib.Pointwise.{pointwise}
use Rattle.xdr.specs.Decode.{Parsed, got, fault, stop, and_then, times}
use Rattle.xdr.proofs.BoolLaws.{and_false}
use Rattle.rules.specs.Run.{same_bytes}
use Rattle.rules.specs.Calls.{reply_head}
use Rattle.rules.specs.Client.{Result, result, Reply, reply, agree, follow, answers, Opened, not_opened, opened}
use Rattle.client.specs.Read.{results_good}

-- ---- one result after another

-- tests in another order
swap : (a b c : Bool) → a && (b && c) ≡ b && (a && c)
swap true b c = refl
swap false true c = refl
swap false false c = refl

-- the end, a status, a number, and the rest
turned : (end status number rest : Bool) → end && (status && (number && rest)) ≡ cond (number && status) (end && rest) false
turned end true true rest = refl
turned end true false rest = and_false end
turned end false true rest = and_false end
turned end false false rest = and_false end

-- the rest in two parts
parted : (end status statuses number numbers : Bool)
    → end && ((status && statuses) && (number && numbers)) ≡ cond (number && status) (end && (statuses && numbers)) false
parted end true statuses number numbers = rw (swap statuses number numbers) (turned end true number (statuses && numbers))
parted end false statuses number numbers = turned end false number (statuses && numbers)

neither : (t : Bool) → false ≡ cond t false false
neither true = refl
neither false = refl

-- what is asked of results that were read
abbrev passes : List ℕ → ℕ → List ℕ → Parsed (List Result) → Bool
passes s e ns t = elim t [ got rs next ↦ eqb next (length s) && (agree e rs && follow (eqb e 0) ns rs) | fault p ↦ false ]

-- a result in front of those that are read
abbrev infront : Result → Parsed (List Result) → Parsed (List Result)
infront r t = and_then t (λ rs end. got (r ∷ rs) end)

module _ (s : List ℕ) (e k : ℕ) (ns : List ℕ) (r : Result) where
  -- r, and n others behind it
  first_of : (n m : ℕ) → passes s e (k ∷ ns) (infront r (times n result s m))
      ≡ cond (eqb r.number k && eqb r.status (cond (eqb (suc n) 1) e 0)) (passes s e ns (times n result s m)) false
  unfolding times
  first_of zero m = turned (eqb m (length s)) (eqb r.status e) (eqb r.number k) (follow (eqb e 0) ns [])
  first_of (suc n) m = rw (ne_eqb (suc (suc n)) 1 (λ h. omega (arith, h))) (go (result s m))
    where
      ok : Bool
      ok = eqb r.number k && eqb r.status 0

      others : (q : Result) (t : Parsed (List Result)) → passes s e (k ∷ ns) (infront r (infront q t)) ≡ cond ok (passes s e ns (infront q t)) false
      others q (got rs end) = parted (eqb end (length s)) (eqb r.status 0) (agree e (q ∷ rs)) (eqb r.number k) (follow (eqb e 0) ns (q ∷ rs))
      others q (fault p) = neither ok

      go : (t : Parsed Result)
          → passes s e (k ∷ ns) (infront r (and_then t (λ q next. infront q (times n result s next))))
          ≡ cond ok (passes s e ns (and_then t (λ q next. infront q (times n result s next)))) false
      go (got q next) = others q (times n result s next)
      go (fault p) = neither ok

-- a result with number k and status w, and what g says of the place behind it
abbrev pub goes_on : ℕ → ℕ → (ℕ → Bool) → Parsed Result → Bool
goes_on k w g (got r next) = cond (eqb r.number k && eqb r.status w) (g next) false
goes_on k w g (fault p) = false

-- where the first result is right, the others decide
one_more : (s : List ℕ) (at n e k : ℕ) (ns : List ℕ)
    → results_good s at (suc n) e (k ∷ ns) ≡ goes_on k (cond (eqb (suc n) 1) e 0) (λ m. results_good s m n e ns) (result s at)
unfolding results_good times
one_more s at n e k ns = go (result s at)
  where
    go : (t : Parsed Result) → passes s e (k ∷ ns) (and_then t (λ r next. infront r (times n result s next)))
        ≡ goes_on k (cond (eqb (suc n) 1) e 0) (λ m. results_good s m n e ns) t
    go (got r m) = first_of s e k ns r n m
    go (fault p) = refl

-- more results than numbers
pub too_many : (s : List ℕ) (at n e : ℕ) (ns : List ℕ) → length ns < n → results_good s at n e ns ≡ false
unfolding results_good times
too_many s at zero e ns h = absurd (omega (arith, h))
too_many s at (suc n) e [] h = go (result s at)
  where
    others : (r : Result) (t : Parsed (List Result)) → passes s e [] (infront r t) ≡ false
    others r (got rs end) = rw (and_false (agree e (r ∷ rs))) (and_false (eqb end (length s)))
    others r (fault p) = refl

    go : (t : Parsed Result) → passes s e [] (and_then t (λ r next. infront r (times n result s next))) ≡ false
    go (got r next) = others r (times n result s next)
    go (fault p) = refl
too_many s at (suc n) e (k ∷ ns) h = one_more s at n e k ns ∙ go (λ m. too_many s m n e ns (omega (arith, h))) (result s at)
  where
    chosen : (t b : Bool) → b ≡ false → cond t b false ≡ false
    chosen true b e = e
    chosen false b e = refl

    go : ((m : ℕ) → results_good s m n e ns ≡ false) → (t : Parsed Result) → goes_on k (cond (eqb (suc n) 1) e 0) (λ m. results_good s m n e ns) t ≡ false
    go ih (got r m) = chosen (eqb r.number k && eqb r.status (cond (eqb (suc n) 1) e 0)) (results_good s m n e ns) (ih m)
    go ih (fault p) = refl

-- ---- the results from place `at` on, for the numbers from the i-th on

module _ (s : List ℕ) (at i n e : ℕ) (ns : List ℕ) where
  pub good_step : i < n → n ≤ length ns → results_good s at (n - i) e (drop i ns)
      ≡ goes_on (get_or ns i 0) (cond (eqb (i + 1) n) e 0) (λ m. results_good s m (n - (i + 1)) e (drop (i + 1) ns)) (result s at)
  good_step h k =
      let left : n - i ≡ suc (n - (i + 1)) = omega arith in
      rw (left, last (eqb (i + 1) n) refl, add-one i, drop-cons ns i 0 (omega arith)) (one_more s at (n - suc i) e (get_or ns i 0) (drop (suc i) ns))
    where
      last : (t : Bool) → eqb (i + 1) n ≡ t → eqb (i + 1) n ≡ eqb (suc (n - (i + 1))) 1
      last true q = q ∙ sym (eq-eqb (suc (n - (i + 1))) 1 (omega (arith, eqb-true (i + 1) n q)))
      last false q = q ∙ sym (ne_eqb (suc (n - (i + 1))) 1 (λ d. eqb-false (i + 1) n q (omega (arith, d))))

  -- the end: after an error the request may have more numbers
  pub good_end : i ≡ n → n ≤ length ns → results_good s at (n - i) e (drop i ns) ≡ eqb at (length s) && cond (eqb e 0) (eqb n (length ns)) true
  unfolding results_good times
  good_end h k =
      let none_left : n - i ≡ 0 = omega arith in
      rw none_left (ap (λ (t : Bool). eqb at (length s) && t) (go (eqb e 0) (drop i ns) (length-drop i ns)))
    where
      go : (all : Bool) (rest : List ℕ) → length rest ≡ length ns - i → follow all rest [] ≡ cond all (eqb n (length ns)) true
      go false [] g = refl
      go false (m ∷ rest) g = refl
      go true [] g = sym (eq-eqb n (length ns) (omega arith))
      go true (m ∷ rest) g = sym (ne_eqb n (length ns) (λ d. omega (arith, d)))

-- ---- the whole reply

-- the tag
pub same_tag : (a b : List ℕ) → same_bytes a b ≡ pointwise eqb a b
same_tag [] [] = refl
same_tag [] (y ∷ b) = refl
same_tag (x ∷ a) [] = refl
same_tag (x ∷ a) (y ∷ b) = ap (λ (t : Bool). eqb x y && t) (same_tag a b)

-- a reply that was read, whose first result stands at m
abbrev opened_by : List ℕ → List ℕ → List ℕ → ℕ → Parsed Reply → Opened
opened_by tag ns s m t = elim t [
  | got r next ↦ cond (eqb next (length s) && answers tag ns r) (record { number = 0; status = r.status; first = m }) (not_opened s)
  | fault p ↦ not_opened s
]

-- what is said of a reply by its head
abbrev pub by_head : List ℕ → List ℕ → List ℕ → Parsed (ℕ × (List ℕ × ℕ)) → Opened
by_head tag ns s (got h m) = cond (same_bytes h.1.0 tag && results_good s m h.1.1 h.0 ns) (record { number = 0; status = h.0; first = m }) (not_opened s)
by_head tag ns s (fault p) = not_opened s

pub opened_is : (tag ns s : List ℕ) → opened tag ns s ≡ by_head tag ns s (reply_head.read s 0)
unfolding opened reply results_good
opened_is tag ns s = go (reply_head.read s 0)
  where
    tests : (status : ℕ) (t : List ℕ) (m : ℕ) (u : Parsed (List Result))
        → opened_by tag ns s m (and_then u (λ rs end. got (record { status = status; tag = t; results = rs }) end))
        ≡ cond (same_bytes t tag && passes s status ns u) (record { number = 0; status = status; first = m }) (not_opened s)
    tests status t m (got rs end) = ap (λ (b : Bool). cond b (record { number = 0; status = status; first = m }) (not_opened s)) (swap (eqb end (length s)) (same_bytes t tag) _)
    tests status t m (fault p) = rw (and_false (same_bytes t tag))

    go : (h : Parsed (ℕ × (List ℕ × ℕ)))
        → opened_by tag ns s (stop h) (and_then h (λ a m. and_then (times a.1.1 result s m) (λ rs end. got (record { status = a.0; tag = a.1.0; results = rs }) end)))
        ≡ by_head tag ns s h
    go (got h m) = tests h.0 h.1.0 m (times h.1.1 result s m)
    go (fault p) = refl
