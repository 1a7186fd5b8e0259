-- Reading a reply: results one after the other to the last byte; and the results of the operations reached, read in the reply that has them.
use Prim.Native.Nat.{ℕ, zero, suc, ◌+◌, ◌^◌, ◌≤◌, ◌<◌, max}
use mathlib.Core.Path.{◌≡◌, refl, sym, ap, ◌∙◌, subst}
use mathlib.Core.Bool.{Bool, true, false, cond, ◌&&◌}
use mathlib.Core.List.{List, [], ◌∷◌, ◌++◌}
use mathlib.Core.Logic.{◌≢◌, ◌⊎◌, inl, inr}
use native.Mathlib.Nat.{add_assoc, add-zero}
use native.Mathlib.Decide.{dec_le}
use native.Mathlib.Omega.{arith}
use borrow.Author.Tests.{eqb-true, le-leb, lt-leb, lt-ltb, eq-eqb, ne_eqb}
use lib.ListN.{length, length-append}
use lib.Dec.{eqb}
use Rattle.xdr.specs.Encode.{u32, concat_map}
use Rattle.xdr.specs.Decode.{Parsed, got, fault, stop, and_then, times}
use Rattle.xdr.proofs.BoolLaws.{and_left, and_both}
use Rattle.xdr.proofs.DecodeLaws.{missing, number-missing}
use Rattle.xdr.proofs.Onward.{fault≢got}
use Rattle.xdr.proofs.RoundTrip.{Stands, stands-first, stands-rest}
use Rattle.xdr.proofs.LayoutLaws.{uint-back}
use Rattle.rules.specs.Store.{Geometry}
use Rattle.rules.specs.Operation.{Op, op_number, op_bytes, Item, op}
use Rattle.rules.specs.Run.{State, Config, config, Event, perform, reached}
use Rattle.rules.specs.Calls.{item_number, result_bytes, last_status, reply_head}
use Rattle.rules.specs.Client.{Body, empty, body_bytes, body_by, Result, result, Reply, reply, agree, follow, answers, Opened, not_opened, opened, handed, step}
use Rattle.rules.specs.Client as client
use Rattle.rules.specs.Builder.{HandsOut, OpensOr, SameResult, SameResults, items_from, op_numbers}
use Rattle.rules.proofs.GeometryLaws.{Good}
use Rattle.rules.proofs.OperationLaws.{Performed, refused, nospc, done, performed, performed-item}
use Rattle.rules.proofs.ChainLaws.{Step, decoded, undecoded, Chain, nil, cons, step-known}
use Rattle.rules.proofs.ResultLaws.{body-shown}

-- ---- any bytes

-- a result is no end
result-missing : (s : List ℕ) (at : ℕ) → length s ≤ at → result s at ≡ fault (max at (length s))
unfolding result
result-missing s at h = rw (number-missing 4 s at (max at (length s)) (missing 4 s at (omega arith)), result)

result-there : (s : List ℕ) (at : ℕ) (r : Result) (next : ℕ) → result s at ≡ got r next → at < length s
result-there s at r next e = go (dec_le (length s) at)
  where
    go : Dec (length s ≤ at) → at < length s
    go (yes h) = absurd (fault≢got (sym (result-missing s at h) ∙ e))
    go (no d) = omega (arith, d)

module _ (s : List ℕ) where
  -- results that end with the reply are handed out
  abbrev Out : ℕ → Parsed (List Result) → Type 0
  Out at t = elim t [ got rs end ↦ end ≡ length s → HandsOut s at rs | fault p ↦ Unit {0} ]

  hands_out : (n at : ℕ) → Out at (times n result s at)
  unfolding times step
  hands_out zero at = λ e. rw (le-leb (length s) at (omega (arith, e)), step)
  hands_out (suc n) at = go (result s at) refl (hands_out n)
    where
      tail : (r : Result) (next : ℕ) → result s at ≡ got r next → (t : Parsed (List Result)) → Out next t → Out at (and_then t (λ rest end. got (r ∷ rest) end))
      tail r next e (got rs end) ih = λ q. (next, rw (lt-leb (length s) at (result-there s at r next e), step) (rw e), ih q)
      tail r next e (fault p) ih = tt

      go : (t : Parsed Result) → result s at ≡ t → ((m : ℕ) → Out m (times n result s m))
          → Out at (and_then t (λ r next. and_then (times n result s next) (λ rest end. got (r ∷ rest) end)))
      go (got r next) e ih = tail r next e (times n result s next) (ih next)
      go (fault p) e ih = tt

  abbrev OutReply : Parsed Reply → Type 0
  OutReply t = elim t [ got r end ↦ end ≡ length s → HandsOut s (stop (reply_head.read s 0)) r.results | fault p ↦ Unit {0} ]

  reply_out : OutReply (reply s 0)
  unfolding reply
  reply_out = go (reply_head.read s 0) refl
    where
      tail : (h : ℕ × (List ℕ × ℕ)) (at : ℕ) → reply_head.read s 0 ≡ got h at → (t : Parsed (List Result)) → Out at t
          → OutReply (and_then t (λ rs end. got (record { status = h.0; tag = h.1.0; results = rs }) end))
      tail h at e (got rs end) k = λ q. rw e (k q)
      tail h at e (fault p) k = tt

      go : (t : Parsed (ℕ × (List ℕ × ℕ))) → reply_head.read s 0 ≡ t
          → OutReply (and_then t (λ h at. and_then (times h.1.1 result s at) (λ rs end. got (record { status = h.0; tag = h.1.0; results = rs }) end)))
      go (got h at) e = tail h at e (times h.1.1 result s at) (hands_out h.1.1 at)
      go (fault p) e = tt

  at_end : step s (length s) ≡ client.done
  unfolding step
  at_end = rw (le-leb (length s) (length s) (omega arith), step)

  module _ (tag ns : List ℕ) where
    abbrev pub verdict : Parsed Reply → Opened
    verdict t = elim t [
      | got r next ↦ cond (eqb next (length s) && answers tag ns r) (record { number = 0; status = r.status; first = stop (reply_head.read s 0) }) (not_opened s)
      | fault p ↦ not_opened s
    ]

    record Judged (o : Opened) : Type 0 where
      opens : o.number ≡ 0 → (r : Reply) × (reply s 0 ≡ got r (length s)) × HandsOut s o.first r.results
      refuses : o.number ≡ 10 → HandsOut s o.first []
      either : (o.number ≡ 0) ⊎ (o.number ≡ 10)

    not_opened_lem : Judged (not_opened s)
    not_opened_lem = record { opens = λ (e : ◌≡◌ {A = ℕ} 10 0). absurd (omega arith); refuses = λ e. at_end; either = inr refl }

    judged : (t : Parsed Reply) → reply s 0 ≡ t → OutReply t → Judged (verdict t)
    judged (fault p) e k = not_opened_lem
    judged (got r next) e k = go (eqb next (length s) && answers tag ns r) refl
      where
        go : (b : Bool) → eqb next (length s) && answers tag ns r ≡ b → Judged (cond b (record { number = 0; status = r.status; first = stop (reply_head.read s 0) }) (not_opened s))
        go true q =
            let end : next ≡ length s = eqb-true next (length s) (and_left (eqb next (length s)) (answers tag ns r) q) in
            record { opens = λ h. (r, e ∙ ap (got r) end, k end); refuses = λ (h : ◌≡◌ {A = ℕ} 0 10). absurd (omega arith); either = inl refl }
        go false q = not_opened_lem

    pub opens_or : OpensOr tag ns s
    unfolding opened
    opens_or = let j = judged (reply s 0) refl reply_out in record { opens = j.opens; refuses = j.refuses; either = j.either }

-- ---- the results of the operations reached

-- event z's result as it is read: its body, and where it stands
pub record Reads (z : Event) : Type 0 where
  pub body : Body
  pub bytes_are : body_bytes body ≡ z.body
  pub reads : (s : List ℕ) (at : ℕ) → Stands s at z.body → body_by (item_number z.item) z.status s at ≡ got body (at + length z.body)

abbrev pub result_of : {z : Event} → Reads z → Result
result_of {z} r = record { number = item_number z.item; status = z.status; body = r.body }

pub no_body : (n e : ℕ) → e ≢ 0 → (s : List ℕ) (at : ℕ) → body_by n e s at ≡ got empty (at + 0)
no_body n zero h s at = absurd (h refl)
no_body n (suc e) h s at = ap (got empty) (sym (add-zero at))

module _ (g : Geometry) (bd : Good g) where
  unfoldable pub step-reads : {z : Event} → Step g z → Reads z
  step-reads (undecoded x k e r b) = record { body = empty; bytes_are = refl; reads = λ s at w. no_body k e (λ q. omega (arith, b.status_some, q)) s at }
  step-reads (decoded v x o next hv r p) = go p
    where
      go : {z : Event} → Performed (config g v) x o next z → Reads z
      go (refused e h) = record { body = empty; bytes_are = refl; reads = λ s at w. ap (got empty) (sym (add-zero at)) }
      go (nospc h l) = record { body = empty; bytes_are = refl; reads = λ s at w. ap (got empty) (sym (add-zero at)) }
      go (done h l) = let b = body-shown g bd x r v hv o h in record { body = b.body; bytes_are = b.bytes_are; reads = b.reads }

  -- a result where it stands
  step-result : {z : Event} (t : Step g z) (s : List ℕ) (at : ℕ) → Stands s at (result_bytes z) → result s at ≡ got (result_of (step-reads t)) (at + length (result_bytes z))
  unfolding result
  step-result {z} t s at w =
      let k = step-known g bd t in
      let n = item_number z.item in
      let e = z.status in
      let rest = stands-rest (u32 n) (u32 e ++ z.body) w in
      let size : at + length (u32 n) + length (u32 e) + length z.body ≡ at + length (result_bytes z)
      = omega (arith, length-append (u32 n) (u32 e ++ z.body), length-append (u32 e) z.body) in
      rw (
        uint-back n (lt-ltb n (2 ^ 32) (omega (arith, k.number))) s at (stands-first (u32 n) (u32 e ++ z.body) w),
        uint-back e (lt-ltb e (2 ^ 32) (omega (arith, k.status))) s (at + length (u32 n)) (stands-first (u32 e) z.body rest),
        (step-reads t).reads s (at + length (u32 n) + length (u32 e)) (stands-rest (u32 e) z.body rest),
        size,
      )

  unfoldable pub chain-results : {x : State} {zs : List Event} → Chain g x zs → List Result
  chain-results (nil r) = []
  chain-results (cons t e f c) = result_of (step-reads t) ∷ chain-results c

  pub chain-read : {x : State} {zs : List Event} (c : Chain g x zs) (s : List ℕ) (at : ℕ) → Stands s at (concat_map result_bytes zs)
      → times (length zs) result s at ≡ got (chain-results c) (at + length (concat_map result_bytes zs))
  unfolding times chain-results
  chain-read (nil r) s at w = ap (got []) (sym (add-zero at))
  chain-read (cons {z = z} {zs = zs} t e f c) s at w =
      rw (
        step-result t s at (stands-first (result_bytes z) (concat_map result_bytes zs) w),
        chain-read c s (at + length (result_bytes z)) (stands-rest (result_bytes z) (concat_map result_bytes zs) w),
        length-append (result_bytes z) (concat_map result_bytes zs),
        add_assoc at (length (result_bytes z)) (length (concat_map result_bytes zs)),
      )

  step_same : {z : Event} (t : Step g z) → SameResult z (result_of (step-reads t))
  step_same t = record { number = refl; status = refl; body = (step-reads t).bytes_are }

  -- each of them is its own event's
  pub chain_same : {x : State} {zs : List Event} (c : Chain g x zs) → SameResults zs (chain-results c)
  unfolding chain-results
  chain_same (nil r) = tt
  chain_same (cons t e f c) = (step_same t, chain_same c)

  -- the first that fails is the last, with the reply's status
  pub chain-agree : (a : ℕ) {x : State} {zs : List Event} (c : Chain g x zs) → agree (last_status a zs) (chain-results c) ≡ true
  unfolding chain-results
  chain-agree a (nil r) = refl
  chain-agree a (cons {z = z} t e f (nil r)) = eq-eqb z.status z.status refl
  chain-agree a (cons {z = z} t e f (cons {z = y} {zs = ys} u e' f' c)) =
      and_both (eqb z.status 0) (agree (last_status z.status (y ∷ ys)) (chain-results (cons {z = y} {zs = ys} u e' f' c)))
      (eq-eqb z.status 0 (ok z.status f)) (chain-agree z.status (cons u e' f' c))
    where
      ok : (n : ℕ) → (n ≢ 0 → y ∷ ys ≡ []) → n ≡ 0
      ok zero h = refl
      ok (suc n) h = absurd (let q : suc (length ys) ≡ 0 = ap length (h (λ (e : suc n ≡ 0). omega arith)) in omega arith)

-- ---- the numbers of the results follow those of the operations

-- the operations os, run: each event is the next one's
pub ran-follow : (c : Config) (os : List Op) (at : ℕ) (x : State) (rs : List Result) → SameResults (reached c x (items_from at os)) rs
    → follow (eqb (last_status 0 (reached c x (items_from at os))) 0) (op_numbers os) rs ≡ true
unfolding reached
ran-follow c [] at x [] same = refl
ran-follow c [] at x (r ∷ rs) same = absurd same
ran-follow c (o ∷ os) at x rs same =
    go (perform c x o (at + length (op_bytes o))) (performed-item (performed c x o (at + length (op_bytes o)))) rs same (λ y qs k. ran-follow c os (at + length (op_bytes o)) y qs k)
  where
    rest : List Item
    rest = items_from (at + length (op_bytes o)) os

    -- with no more results a part of the numbers is enough
    cut : (ns : List ℕ) → follow false ns [] ≡ true
    cut [] = refl
    cut (n ∷ ns) = refl

    pick : (z : Event) → z.item ≡ op o (at + length (op_bytes o)) → (e : ℕ) → z.status ≡ e → (qs : List Result)
        → SameResults (elim e [ zero ↦ z ∷ reached c z.after rest | suc e ↦ z ∷ [] ]) qs
        → ((y : State) (qs : List Result) → SameResults (reached c y rest) qs → follow (eqb (last_status 0 (reached c y rest)) 0) (op_numbers os) qs ≡ true)
        → follow (eqb (last_status 0 (elim e [ zero ↦ z ∷ reached c z.after rest | suc e ↦ z ∷ [] ])) 0) (op_numbers (o ∷ os)) qs ≡ true
    pick z i zero st [] k ih = absurd k
    pick z i (suc e) st [] k ih = absurd k
    pick z i zero st (q ∷ qs) k ih =
        and_both (eqb q.number (op_number o)) _ (eq-eqb q.number (op_number o) (k.0.number ∙ ap item_number i)) (subst (λ (n : ℕ). follow (eqb (last_status n (reached c z.after rest)) 0) (op_numbers os) qs ≡ true) (sym st) (ih z.after qs k.1))
    pick z i (suc e) st (q ∷ []) k ih =
        and_both (eqb q.number (op_number o)) _ (eq-eqb q.number (op_number o) (k.0.number ∙ ap item_number i))
        (subst (λ (n : ℕ). follow (eqb n 0) (op_numbers os) [] ≡ true) (sym st) (rw (ne_eqb (suc e) 0 (λ (h : suc e ≡ 0). omega arith)) (cut (op_numbers os))))
    pick z i (suc e) st (q ∷ p ∷ qs) k ih = absurd k.1

    go : (z : Event) → z.item ≡ op o (at + length (op_bytes o)) → (qs : List Result)
        → SameResults (elim z.status [ zero ↦ z ∷ reached c z.after rest | suc e ↦ z ∷ [] ]) qs
        → ((y : State) (qs : List Result) → SameResults (reached c y rest) qs → follow (eqb (last_status 0 (reached c y rest)) 0) (op_numbers os) qs ≡ true)
        → follow (eqb (last_status 0 (elim z.status [ zero ↦ z ∷ reached c z.after rest | suc e ↦ z ∷ [] ])) 0) (op_numbers (o ∷ os)) qs ≡ true
    go z i qs k ih = pick z i z.status refl qs k ih
