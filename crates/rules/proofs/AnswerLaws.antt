-- The call that serves a compound: it is refused, or its header was read; what comes of it, what it ran, and what its reply says.
use Prim.Native.Nat.{ℕ, zero, suc, ◌+◌, ◌≤◌}
use mathlib.Core.Path.{◌≡◌, refl, sym, ap, ◌∙◌, subst}
use mathlib.Core.Bool.{Bool, true, false, ◌&&◌, not}
use mathlib.Core.Option.{none, some}
use mathlib.Core.List.{List, [], ◌∷◌, ◌++◌}
use mathlib.Core.Logic.{◌≢◌, ◌⊎◌, inl, inr}
use native.Mathlib.Omega.{arith}
use borrow.Author.Tests.{eqb-true, ltb-false, not-false}
use lib.ListN.{length, drop, length-append, length-drop}
use lib.Seq.{drop-append_seam}
use lib.Dec.{ltb, eqb}
use Rattle.xdr.specs.Encode.{concat_map}
use Rattle.xdr.specs.Decode.{Parsed, got, fault}
use Rattle.xdr.proofs.RoundTrip.{Stands, stands-first, stands-rest}
use Rattle.rules.specs.Lists.{first}
use Rattle.rules.specs.Store.{Store, good_geometry, good_lengths, sound}
use Rattle.rules.specs.Operation.{MINOR_VERS_MISMATCH, TOO_MANY_OPS, Header, header}
use Rattle.rules.specs.Run.{Event}
use Rattle.rules.specs.Calls.{fresh, header_status, compound, result_bytes, last_status, last_store, last_place, reply_head, reply_bytes, Call, with_place, refuse, served, refusals, refusal, answer_no_place, place_of, answer}
use Rattle.rules.specs.Claim.{ran_call, serving, events, Results, Says, Refused}
use Rattle.xdr.proofs.BoolLaws.{and_left, and_right}
use Rattle.rules.proofs.FirstLaws.{all-clear}
use Rattle.rules.proofs.ErrorLaws.{OwnError, first-known}
use Rattle.rules.proofs.GeometryLaws.{Good, good, block-pos}
use Rattle.rules.proofs.SoundStore.{Sound}
use Rattle.rules.proofs.SoundLaws.{sound-facts}
use Rattle.rules.proofs.ItemLaws.{header-reads}
use Rattle.rules.proofs.ChainLaws.{Chain}
use Rattle.rules.proofs.ReplyLaws.{compound-few, compound-chain, reply-most, results-read, head_read, last_status_lem, last_status_most}

-- ---- refused, or not

-- refusals 1 to 5 do not apply, and the header h was read up to place `at`
pub record Accepted (c : Call) (st : Store) (h : Header) (at : ℕ) : Type 0 where
  pub passes : refusal c st ≡ 0
  pub decoded : header c.request 0 ≡ got h at

-- the call is refused with number k: before its header is read, or because the header does not decode
pub data Refusal (c : Call) (st : Store) : ℕ → Type 0 where
  early : (k : ℕ) → refusal c st ≡ suc k → Refusal c st (suc k)
  no_header : (p : ℕ) → refusal c st ≡ 0 → header c.request 0 ≡ fault p → Refusal c st 6

pub accepted_or_refused : (c : Call) (st : Store) → ((h : Header) × (at : ℕ) × Accepted c st h at) ⊎ ((k : ℕ) × Refusal c st k)
accepted_or_refused c st = go (refusal c st) refl (header c.request 0) refl
  where
    go : (n : ℕ) → refusal c st ≡ n → (t : Parsed Header) → header c.request 0 ≡ t → ((h : Header) × (at : ℕ) × Accepted c st h at) ⊎ ((k : ℕ) × Refusal c st k)
    go zero e (got h at) d = inl (h, at, record { passes = e; decoded = d })
    go zero e (fault p) d = inr (6, no_header p e d)
    go (suc k) e t d = inr (suc k, early k e)

-- ---- a refused call

pub refusal-most : (c : Call) (st : Store) → refusal c st ≤ 5
unfolding refusal
refusal-most c st =
    go (not (good_geometry c.config.geometry)) (not (good_lengths c.config.geometry st && eqb (length c.config.verifier) 8)) (not (sound c.config.geometry st))
    (ltb 65536 (length c.request)) (ltb (length c.buffer) 32768)
  where
    go : (t1 t2 t3 t4 t5 : Bool) → first ((t1, 1) ∷ (t2, 2) ∷ (t3, 3) ∷ (t4, 4) ∷ (t5, 5) ∷ []) ≤ 5
    go true t2 t3 t4 t5 = omega arith
    go false true t3 t4 t5 = omega arith
    go false false true t4 t5 = omega arith
    go false false false true t5 = omega arith
    go false false false false true = omega arith
    go false false false false false = omega arith

refused-most : {c : Call} {st : Store} {k : ℕ} → Refusal c st k → k ≤ 6
refused-most {c} {st} (early k e) = omega (arith, refusal-most c st)
refused-most (no_header p e d) = omega arith

pub refused-no-place : {c : Call} {st : Store} {k : ℕ} → Refusal c st k → answer_no_place c st ≡ refuse k c.buffer st
unfolding answer_no_place
refused-no-place (early k e) = rw (e, answer_no_place)
refused-no-place (no_header p e d) = rw (e, answer_no_place) (rw d)

pub refused-is : {c : Call} {st : Store} {k : ℕ} → Refusal c st k → answer c st ≡ with_place (place_of c st) (refuse k c.buffer st)
unfolding answer
refused-is {c} {st} r = ap (with_place (place_of c st)) (refused-no-place r)

ran-nothing : {c : Call} {st : Store} {k : ℕ} → Refusal c st k → ran_call c st ≡ none
unfolding ran_call
ran-nothing (early k e) = rw (e, ran_call)
ran-nothing (no_header p e d) = rw (e, ran_call) (rw d)

pub refused-call : {c : Call} {st : Store} {k : ℕ} → Refusal c st k → Refused serving c st (answer c st)
refused-call r = record {
  number = omega (arith, ap (λ o. o.number) (refused-is r), refused-most r);
  read = ap (λ o. o.read) (refused-is r);
  written = ap (λ o. o.written) (refused-is r);
  reply = ap (λ o. o.reply) (refused-is r);
  tables = ap (λ o. o.store) (refused-is r);
  nothing_run = ran-nothing r;
}

-- ---- a served call

-- the status of a compound without results
pub header-own : (h : Header) → OwnError (header_status h)
header-own h = first-known ((not (eqb h.minor 2), MINOR_VERS_MISMATCH) ∷ (ltb 12 h.ops, TOO_MANY_OPS) ∷ []) refl

-- what the tests say
pub record Passed (c : Call) (st : Store) : Type 0 where
  pub bounds : Good c.config.geometry
  pub verifier : length c.config.verifier ≡ 8
  pub sound : Sound c.config.geometry st
  pub room : 32768 ≤ length c.buffer

pub passed : {c : Call} {st : Store} → refusal c st ≡ 0 → Passed c st
unfolding refusal
passed {c} {st} e =
    let g = c.config.geometry in
    let t = all-clear (refusals c st) refl e in
    let bd = good g (not-false _ t.0) in
    let lengths = not-false (good_lengths g st && eqb (length c.config.verifier) 8) t.1.0 in
    record {
      bounds = bd;
      verifier = eqb-true (length c.config.verifier) 8 (and_right (good_lengths g st) (eqb (length c.config.verifier) 8) lengths);
      sound = sound-facts g (block-pos bd) st (and_left (good_lengths g st) (eqb (length c.config.verifier) 8) lengths) (not-false (sound g st) t.1.1.0);
      room = ltb-false (length c.buffer) 32768 t.1.1.1.1.0;
    }

module _ {c : Call} {st : Store} {h : Header} {at : ℕ} (a : Accepted c st h at) where
  -- the operations reached, and the reply
  abbrev pub zs : List Event
  zs = compound c.config st c.request h at

  abbrev pub status : ℕ
  status = last_status (header_status h) zs

  abbrev pub reply : List ℕ
  reply = reply_bytes status h.tag zs

  pub served-no-place : answer_no_place c st ≡ served c.buffer st h at zs
  unfolding answer_no_place
  served-no-place = rw (a.passes, answer_no_place) (rw a.decoded)

  answer-is : answer c st ≡ with_place (place_of c st) (served c.buffer st h at zs)
  unfolding answer
  answer-is = ap (with_place (place_of c st)) served-no-place

  pub ran-is : ran_call c st ≡ some (record { status = status; tag = h.tag; events = zs })
  unfolding ran_call
  ran-is = rw (a.passes, ran_call) (rw a.decoded)

  pub events_are : events serving c st ≡ zs
  unfolding events
  events_are = rw (ran-is, events)

  tests : Passed c st
  tests = passed a.passes

  pub tag-short : length h.tag ≤ 1024
  tag-short = rw a.decoded at (header-reads c.request 0)

  pub accepted-chain : Chain c.config.geometry (fresh st) zs
  accepted-chain = compound-chain c.config.geometry tests.bounds c.config.verifier tests.verifier st tests.sound c.request h at

  pub reply-short : length reply ≤ 27184
  reply-short = reply-most c.config.geometry tests.bounds status h.tag accepted-chain (compound-few c.config st c.request h at).most tag-short

  pub buffer_is : (answer c st).reply ≡ reply ++ drop (length reply) c.buffer
  unfolding served
  buffer_is = ap (λ o. o.reply) answer-is

  pub written_is : (answer c st).written ≡ length reply
  unfolding served
  written_is = ap (λ o. o.written) answer-is

  pub store_is : (answer c st).store ≡ last_store st zs
  unfolding served
  store_is = ap (λ o. o.store) answer-is

  pub read_is : (answer c st).read ≡ last_place at zs
  unfolding served
  read_is = ap (λ o. o.read) answer-is

  pub number_is : (answer c st).number ≡ 0
  unfolding served
  number_is = ap (λ o. o.number) answer-is

  pub stands : Stands (answer c st).reply 0 reply
  stands = record { rest = drop (length reply) c.buffer; inside = omega arith; there = buffer_is }

  head_bytes : List ℕ
  head_bytes = reply_head.write (status, (h.tag, length zs))

  parts : Stands (answer c st).reply 0 (head_bytes ++ concat_map result_bytes zs)
  unfolding head_bytes reply_bytes
  parts = stands

  whole : length head_bytes + length (concat_map result_bytes zs) ≡ length reply
  unfolding head_bytes reply_bytes
  whole = sym (length-append (reply_head.write (status, (h.tag, length zs))) (concat_map result_bytes zs))

  pub accepted-says : Says c.buffer (record { status = status; tag = h.tag; events = zs }) (answer c st)
  unfolding head_bytes
  accepted-says = record {
    number = number_is;
    start = 0 + length head_bytes;
    head = head_read (answer c st).reply status h.tag (length zs)
        (last_status_most c.config.geometry tests.bounds (header_status h) accepted-chain (header-own h).most)
        tag-short (compound-few c.config st c.request h at).most (stands-first head_bytes (concat_map result_bytes zs) parts);
    results = subst (Results (answer c st).reply (0 + length head_bytes) zs) (omega (arith, whole, written_is))
        (results-read c.config.geometry tests.bounds (answer c st).reply accepted-chain (0 + length head_bytes) (stands-rest head_bytes (concat_map result_bytes zs) parts));
    behind = rw (written_is, buffer_is) (drop-append_seam reply (drop (length reply) c.buffer));
    small = omega (arith, written_is, reply-short);
    status = λ pre z e. ap (last_status (header_status h)) e ∙ last_status_lem (header_status h) pre z;
  }

-- ---- any call

-- the bytes written, 0 for a refused call
pub reply-bound : (c : Call) (st : Store) → (answer c st).written ≤ 27184
reply-bound c st = go (accepted_or_refused c st)
  where
    go : ((h : Header) × (at : ℕ) × Accepted c st h at) ⊎ ((k : ℕ) × Refusal c st k) → (answer c st).written ≤ 27184
    go (inl a) = (accepted-says a.2).small
    go (inr r) = omega (arith, (refused-call r.1).written)

-- the reply buffer keeps its length
pub reply-length : (c : Call) (st : Store) → length (answer c st).reply ≡ length c.buffer
reply-length c st = go (accepted_or_refused c st)
  where
    go : ((h : Header) × (at : ℕ) × Accepted c st h at) ⊎ ((k : ℕ) × Refusal c st k) → length (answer c st).reply ≡ length c.buffer
    go (inl a) =
        ap length (buffer_is a.2) ∙ simp (length-append, length-drop) (omega (arith, reply-short a.2, (passed a.2.passes).room))
    go (inr r) = ap length (refused-call r.1).reply

-- a call that answers another number than 0
pub refused-number : (c : Call) (st : Store) → (answer c st).number ≢ 0 → Refused serving c st (answer c st)
refused-number c st n = go (accepted_or_refused c st)
  where
    go : ((h : Header) × (at : ℕ) × Accepted c st h at) ⊎ ((k : ℕ) × Refusal c st k) → Refused serving c st (answer c st)
    go (inl a) = absurd (n (number_is a.2))
    go (inr r) = refused-call r.1
