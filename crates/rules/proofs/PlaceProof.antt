-- The place of a fault: what it says of the request's bytes, and that the answer is otherwise what it is without it.
use Prim.Native.Nat.{ℕ, zero, suc, ◌≤◌}
use mathlib.Core.Path.{◌≡◌, refl, sym, ap, ◌∙◌, subst}
use mathlib.Core.Bool.{Bool, true, false, cond}
use mathlib.Core.Option.{Option, none, some}
use mathlib.Core.List.{List, [], ◌∷◌, ◌++◌}
use mathlib.Core.Logic.{◌≢◌, ◌⊎◌, inl, inr}
use native.Mathlib.Omega.{arith}
use borrow.Author.Tests.{eq-eqb, ne_eqb}
use lib.Dec.{eqb}
use lib.ListN.{length, replicate, length-take}
use lib.Seq.{take-append-le}
use Rattle.xdr.specs.Decode.{Parsed, got, fault, and_then, stop, Reader, ret, number}
use Rattle.xdr.specs.Layout.{Layout, uint, hyper, up_to_limit, boolean, opaque_data, any_length, ◌then◌}
use Rattle.xdr.proofs.Onward.{Onward, fault≢got, length-zeros, stops-inside, longer, ret_onward, then_onward, Completed, mended}
use Rattle.xdr.proofs.ReaderLaws.{fixed_onward, number_onward, bounded_onward, opaque_onward, array_onward, both_onward, boolean_onward}
use Rattle.rules.specs.Store.{Geometry, Store}
use Rattle.rules.specs.Operation.{NOTSUPP, BADXDR, OP_ILLEGAL, SEQUENCE_POS, Op, GETATTR, GETFH, RESTOREFH, SAVEFH, PUTFH, READ, READ_PLUS, ALLOCATE, DEALLOCATE, SEEK, stateid, handle_args, bitmap_args, read_args, write_args, region_args, clone_args, copy_args, three, write_of, clone_of, copy_of, reading, readers, find, Item, op, bad, args_item, SEQUENCE, is_operation, ILLEGAL, unserved, number_item, item_at, items, Header, header_layout, header}
use Rattle.rules.specs.Fault.{NOWHERE, fault_of, args_by, op_reader, fault_at}
use Rattle.rules.specs.Run.{State, Config, config, Event, perform, reached}
use Rattle.rules.specs.Calls.{fresh, header_status, compound, last_status, last_place, Call, refusal, with_place, served, answer_no_place, last_fault, place_of, answer}
use Rattle.rules.specs.Claim.{Ran}
use Rattle.rules.specs.Place.{ops_reader, request_reader, Mends, OutOfRange, PlaceRight, PlaceTold, PlaceClaim}
use Rattle.rules.proofs.GeometryLaws.{Good}
use Rattle.rules.proofs.OperationLaws.{performed, performed-item}
use Rattle.rules.proofs.ChainLaws.{op≢bad, Chain, cons, chain-start, performed-decodes}
use Rattle.rules.proofs.AnswerLaws.{Accepted, Refusal, early, no_header, accepted_or_refused, refusal-most, refused-no-place, refused-is, refused-call, header-own, passed, zs, status, accepted-chain, served-no-place, ran-is, number_is, read_is}
use Rattle.rules.proofs.ClaimProof.{some-ran, none-ran}

-- ---- every reader of a request goes on

reading_onward : {A : Type 0} (l : Layout A) (make : A → Option Op) → Onward l.read → Onward (reading l make)
reading_onward l make h = then_onward l.read (λ a. ret (make a)) h (λ a. ret_onward (make a))

-- stateid and offset, and what follows
start_onward : {A : Type 0} (l : Layout A) → Onward l.read → Onward (stateid then hyper then l).read
start_onward l h = both_onward stateid (hyper then l) (fixed_onward 16) (both_onward hyper l (number_onward 8) h)

write_onward : Onward write_args.read
write_onward =
    start_onward (up_to_limit 2 then opaque_data any_length) (both_onward (up_to_limit 2) (opaque_data any_length) (bounded_onward 2) (opaque_onward any_length))

clone_onward : Onward clone_args.read
clone_onward =
    both_onward stateid (stateid then hyper then hyper then hyper) (fixed_onward 16)
    (start_onward (hyper then hyper) (both_onward hyper hyper (number_onward 8) (number_onward 8)))

copy_onward : Onward copy_args.read
copy_onward =
    both_onward clone_args (boolean then boolean then uint) clone_onward
    (both_onward boolean (boolean then uint) boolean_onward (both_onward boolean uint boolean_onward (number_onward 4)))

infixr 40 ◌and◌
data AllOnward : List (ℕ × Reader (Option Op)) → Type 0 where
  end : AllOnward []
  ◌and◌ : {n : ℕ} {r : Reader (Option Op)} {rs : List (ℕ × Reader (Option Op))} → Onward r → AllOnward rs → AllOnward ((n, r) ∷ rs)

-- a row for each operation
readers_onward : AllOnward readers
readers_onward =
    reading_onward bitmap_args (λ ws. some (GETATTR ws)) (array_onward 4)
    and ret_onward (some GETFH)
    and reading_onward handle_args (λ h. some (PUTFH h)) (opaque_onward 128)
    and reading_onward read_args (λ a. some (three READ a)) (start_onward uint (number_onward 4))
    and ret_onward (some RESTOREFH)
    and ret_onward (some SAVEFH)
    and reading_onward write_args (λ a. some (write_of a)) write_onward
    and reading_onward region_args (λ a. some (three ALLOCATE a)) (start_onward hyper (number_onward 8))
    and reading_onward copy_args copy_of copy_onward
    and reading_onward region_args (λ a. some (three DEALLOCATE a)) (start_onward hyper (number_onward 8))
    and reading_onward read_args (λ a. some (three READ_PLUS a)) (start_onward uint (number_onward 4))
    and reading_onward read_args (λ a. some (three SEEK a)) (start_onward uint (number_onward 4))
    and reading_onward clone_args (λ a. some (clone_of a)) clone_onward
    and end

find_onward : {rs : List (ℕ × Reader (Option Op))} → AllOnward rs → (n : ℕ) → Onward (args_by (find n rs))
find_onward end n = ret_onward none
find_onward (◌and◌ {n = m} {r = r} {rs = rs} h k) n = go (eqb n m) (find_onward k n)
  where
    go : (t : Bool) → Onward (args_by (find n rs)) → Onward (args_by (cond t (some r) (find n rs)))
    go true ih = h
    go false ih = ih

op_onward : Onward op_reader
op_onward = then_onward (number 4) (λ n. args_by (find n readers)) (number_onward 4) (find_onward readers_onward)

ops_onward : (n : ℕ) → Onward (ops_reader n)
unfolding ops_reader
ops_onward zero = ret_onward tt
ops_onward (suc n) = then_onward op_reader (λ o. elim o [ none ↦ ret tt | some o ↦ ops_reader n ]) op_onward (λ o. go o (ops_onward n))
  where
    go : (o : Option Op) → Onward (ops_reader n) → Onward {A = Unit {0}} (elim o [ none ↦ ret tt | some o ↦ ops_reader n ])
    go none h = ret_onward tt
    go (some o) h = h

request_onward : Onward request_reader
unfolding request_reader header
request_onward =
    then_onward header (λ h. ops_reader h.ops)
    (then_onward header_layout.read (λ a. ret (record { tag = a.0; minor = a.1.0; ops = a.1.1 }))
    (both_onward (opaque_data 1024) (uint then uint) (opaque_onward 1024) (both_onward uint uint (number_onward 4) (number_onward 4))) (λ a. ret_onward _))
    (λ h. ops_onward h.ops)

-- ---- what stands at a place, and how it is read

data Tells : Item → Parsed (Option Op) → Type 0 where
  reads : (o : Op) (next : ℕ) → Tells (op o next) (got (some o) next)
  faults : (k p : ℕ) → Tells (bad k BADXDR) (fault p)
  unlike : (k e next : ℕ) → e ≢ BADXDR → Tells (bad k e) (got none next)

args_tell : (n : ℕ) (t : Parsed (Option Op)) → Tells (args_item n t) t
args_tell n (fault p) = faults n p
args_tell n (got none next) = unlike n NOTSUPP next (λ e. omega (arith, e))
args_tell n (got (some o) next) = reads o next

unserved-tells : (n next : ℕ) → Tells (unserved n) (got none next)
unserved-tells n next = go (eqb n SEQUENCE) (is_operation n)
  where
    go : (a b : Bool) → Tells (cond a (bad SEQUENCE SEQUENCE_POS) (cond b (bad n NOTSUPP) (bad ILLEGAL OP_ILLEGAL))) (got none next)
    go true b = unlike SEQUENCE SEQUENCE_POS next (λ e. omega (arith, e))
    go false true = unlike n NOTSUPP next (λ e. omega (arith, e))
    go false false = unlike ILLEGAL OP_ILLEGAL next (λ e. omega (arith, e))

item-tells : (s : List ℕ) (at : ℕ) → Tells (item_at s at) (op_reader s at)
unfolding item_at
item-tells s at = go (number 4 s at)
  where
    by : (n m : ℕ) (u : Option (Reader (Option Op))) → Tells (elim u [ none ↦ unserved n | some r ↦ args_item n (r s m) ]) (args_by u s m)
    by n m none = unserved-tells n m
    by n m (some r) = args_tell n (r s m)

    go : (t : Parsed ℕ) → Tells (number_item s t) (and_then t (λ n next. args_by (find n readers) s next))
    go (fault p) = faults ILLEGAL p
    go (got n m) = by n m (find n readers)

bad-status : {j d k e : ℕ} → bad j d ≡ bad k e → d ≡ e
bad-status q = cc

-- the fault of an operation that was read, and of what ends the compound
pub no-fault : (s : List ℕ) (at : ℕ) {o : Op} {next : ℕ} → item_at s at ≡ op o next → fault_at s at ≡ NOWHERE
unfolding fault_at
no-fault s at {o} {next} e = go (item-tells s at) e
  where
    go : {i : Item} {t : Parsed (Option Op)} → Tells i t → i ≡ op o next → fault_of t ≡ NOWHERE
    go (reads o' m) q = refl
    go (faults k p) q = absurd (op≢bad (sym q))
    go (unlike k d m h) q = refl

pub bad-fault : (s : List ℕ) (at : ℕ) {k e : ℕ} → item_at s at ≡ bad k e → fault_at s at ≡ cond (eqb e BADXDR) (fault_at s at) NOWHERE
unfolding fault_at
bad-fault s at {k} {e} q = go (item-tells s at) q
  where
    go : {i : Item} {t : Parsed (Option Op)} → Tells i t → i ≡ bad k e → fault_of t ≡ cond (eqb e BADXDR) (fault_of t) NOWHERE
    go (reads o m) q = absurd (op≢bad q)
    go (faults j p) q = rw (eq-eqb e BADXDR (sym (bad-status q)))
    go (unlike j d m h) q = rw (ne_eqb e BADXDR (λ r. h (bad-status q ∙ r)))

-- ---- the operations reached: where the last one's status is BADXDR, its fault is the first of the list

record FirstFault (s : List ℕ) (n at q : ℕ) : Type 0 where
  list : ops_reader n s at ≡ fault (fault_at s q)
  item : op_reader s q ≡ fault (fault_at s q)

-- of n operations from place `at` on, of which these events were reached
abbrev Finds : Geometry → List ℕ → ℕ → ℕ → ℕ → State → List Event → Type 0
Finds g s n at a x zs = Chain g x zs → last_status a zs ≡ BADXDR → FirstFault s n at (last_place at zs)

first-fault : (g : Geometry) → Good g → (v s : List ℕ) (n at : ℕ) (x : State) (a : ℕ) → a ≢ BADXDR → Finds g s n at a x (reached (config g v) x (items s n at))
unfolding reached items ops_reader fault_at
first-fault g bd v s zero at x a other ch e = absurd (other e)
first-fault g bd v s (suc n) at x a other ch e = go (item-tells s at) refl (λ next y b. first-fault g bd v s n next y b) ch e
  where
    c : Config
    c = config g v

    pick : (o : Op) (next : ℕ) → op_reader s at ≡ got (some o) next → (z : Event) → z.item ≡ op o next → z.status ≢ BADXDR
        → ((y : State) (b : ℕ) → b ≢ BADXDR → Finds g s n next b y (reached c y (items s n next)))
        → (t : ℕ) → z.status ≡ t → Finds g s (suc n) at a x (elim t [ zero ↦ z ∷ reached c z.after (items s n next) | suc e ↦ z ∷ [] ])
    pick o next r z i k ih zero t (cons st b f rest) e = let found = ih z.after z.status k rest e in rw i (record { list = rw r found.list; item = found.item })
    pick o next r z i k ih (suc d) t ch e = absurd (k e)

    go : {i : Item} {t : Parsed (Option Op)} → Tells i t → op_reader s at ≡ t
        → ((next : ℕ) (y : State) (b : ℕ) → b ≢ BADXDR → Finds g s n next b y (reached c y (items s n next)))
        → Finds g s (suc n) at a x (reached c x (elim i [ op o next ↦ op o next ∷ items s n next | bad k e ↦ bad k e ∷ [] ]))
    go (reads o next) r ih ch e =
        let z = perform c x o next in
        let p = performed c x o next in
        pick o next r z (performed-item p) (performed-decodes g bd (chain-start g bd ch) p) (ih next) z.status refl ch e
    go (faults k p) r ih ch e = record { list = rw r; item = rw r }
    go (unlike k d next h) r ih ch e = absurd (h e)

-- ---- a call

module _ {c : Call} {st : Store} {h : Header} {at : ℕ} (a : Accepted c st h at) where
  -- where the reply's status is BADXDR, the fault is the first of the list
  found : status a ≡ BADXDR → FirstFault c.request h.ops at (last_place at (zs a))
  unfolding compound
  found e = go (header_status h) (accepted-chain a) e
    where
      run : ℕ → List Event
      run n = elim n [ zero ↦ reached c.config (fresh st) (items c.request h.ops at) | suc e ↦ [] ]

      go : (n : ℕ) → Finds c.config.geometry c.request h.ops at (header_status h) (fresh st) (run n)
      go zero = first-fault c.config.geometry (passed a.passes).bounds c.config.verifier c.request h.ops at (fresh st) (header_status h) (header-own h).not_badxdr
      go (suc n) = λ ch e. absurd ((header-own h).not_badxdr e)

  served-place : (answer c st).place ≡ cond (eqb (status a) BADXDR) (fault_at c.request (last_place at (zs a))) NOWHERE
  unfolding answer place_of last_fault
  served-place = rw (a.passes, place_of) (rw a.decoded)

  fault-place : status a ≡ BADXDR → (answer c st).place ≡ fault_at c.request (last_place at (zs a))
  fault-place e = served-place ∙ rw (eq-eqb (status a) BADXDR e)

  no-fault-place : status a ≢ BADXDR → (answer c st).place ≡ NOWHERE
  no-fault-place n = served-place ∙ rw (ne_eqb (status a) BADXDR n)

early-place : (c : Call) (st : Store) (k : ℕ) → refusal c st ≡ suc k → (answer c st).place ≡ NOWHERE
unfolding answer place_of
early-place c st k e = rw (e, place_of)

header-place : (c : Call) (st : Store) (p : ℕ) → refusal c st ≡ 0 → header c.request 0 ≡ fault p → (answer c st).place ≡ p
unfolding answer place_of
header-place c st p e d = rw (e, place_of) (rw d)

-- what is known of the first fault of a request, in a part that starts at or before it
place_right : (s : List ℕ) (start p : ℕ) → start ≤ p → request_reader s 0 ≡ fault p → PlaceRight s start p
place_right s start p h e = record {
  first = e;
  from = h;
  to = stops-inside request_onward s 0 (fault p) (omega arith) e;
  before = go (mended request_reader s 0 p request_onward (omega arith) e);
}
  where
    go : Completed request_reader s 0 p ⊎ OutOfRange s p → Mends s p ⊎ OutOfRange s p
    go (inl t) = inl (t.0, t.1, t.3, t.4)
    go (inr q) = inr q

-- the two cases exclude each other: bytes that begin a number out of range are those of no request without a fault
pub not-both : (s : List ℕ) (p : ℕ) → OutOfRange s p → Mends s p → ⊥
not-both s p (last, q, low, high, wrong) (t, same, next, right) =
    let long : p ≤ length t = omega (arith, length-take p t, length-take p s, ap length same) in
    let inside : next ≤ length t = stops-inside request_onward t 0 (got tt next) (omega arith) right in
    let more : List ℕ = t ++ replicate 4 0 in
    fault≢got (sym (wrong more (take-append-le p t (replicate 4 0) long ∙ same) (omega (arith, length-zeros t 4))) ∙ longer request_onward t 0 (replicate 4 0) tt next inside right)

-- of the header
header_right : (c : Call) (st : Store) (p : ℕ) → refusal c st ≡ 0 → header c.request 0 ≡ fault p → PlaceRight c.request 0 (answer c st).place
unfolding request_reader
header_right c st p e d = rw (header-place c st p e d) (place_right c.request 0 p (omega arith) (rw d))

-- of the last operation reached
operation_right : {c : Call} {st : Store} {h : Header} {at : ℕ} (a : Accepted c st h at) → status a ≡ BADXDR → PlaceRight c.request (answer c st).read (answer c st).place
unfolding request_reader
operation_right {c} {st} {h} {at} a e =
    let f = found a e in
    let q = last_place at (zs a) in
    let from : q ≤ fault_at c.request q = subst (λ (t : Parsed (Option Op)). q ≤ stop t) f.item (op_onward.forth c.request q) in
    rw (fault-place a e, read_is a) (place_right c.request q (fault_at c.request q) from (rw a.decoded f.list))

pub places : PlaceClaim
places c st = go (accepted_or_refused c st)
  where
    go : ((h : Header) × (at : ℕ) × Accepted c st h at) ⊎ ((k : ℕ) × Refusal c st k) → PlaceTold c st
    go (inl (h, at, a)) = record {
      header = λ e. absurd (omega (arith, e, number_is a));
      operation = λ r e b. operation_right a (ap (λ (o : Ran). o.status) (some-ran _ r (sym (ran-is a) ∙ e)) ∙ b);
      nowhere = λ n k. no-fault-place a (k _ (ran-is a));
    }
    go (inr (k, early j e)) = record {
      header = λ q. absurd (omega (arith, q, ap (λ o. o.number) (refused-is (early j e)), e, refusal-most c st));
      operation = λ r q b. absurd (none-ran r (sym (refused-call (early j e)).nothing_run ∙ q));
      nowhere = λ n k. early-place c st j e;
    }
    go (inr (k, no_header p e d)) = record {
      header = λ q. header_right c st p e d;
      operation = λ r q b. absurd (none-ran r (sym (refused-call (no_header p e d)).nothing_run ∙ q));
      nowhere = λ n k. absurd (n (ap (λ o. o.number) (refused-is (no_header p e d))));
    }

-- ---- the rest of the answer is what it is without the place

pub without_place : (c : Call) (st : Store) → with_place NOWHERE (answer c st) ≡ answer_no_place c st
unfolding answer served
without_place c st = go (accepted_or_refused c st)
  where
    go : ((h : Header) × (at : ℕ) × Accepted c st h at) ⊎ ((k : ℕ) × Refusal c st k) → with_place NOWHERE (answer c st) ≡ answer_no_place c st
    go (inl (h, at, a)) = ap (with_place NOWHERE) (served-no-place a) ∙ sym (served-no-place a)
    go (inr (k, r)) = ap (with_place NOWHERE) (refused-no-place r) ∙ sym (refused-no-place r)
