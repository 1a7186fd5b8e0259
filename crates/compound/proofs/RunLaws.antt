-- From the parts of an operation to its answer: what it does and the bytes that were written, against the rules' event.
use Prim.Native.Nat.{ℕ, zero, suc, ◌-◌, ◌^◌, ◌<◌}
use mathlib.Core.Path.{◌≡◌, refl, sym, ap, ◌∙◌, subst}
use mathlib.Core.Bool.{true, false}
use mathlib.Core.List.{List, ◌++◌, append_assoc, append-nil}
use native.Mathlib.Decide.{dec_lt}
use native.Mathlib.Omega.{arith}
use borrow.Author.Tests.{le-leb}
use Rattle.std.proofs.Common.{Result, Ok, Err, Some, None}
use Rattle.std.specs.declared.option.Option as Std
use mathlib.Core.Option.{some}
use Rattle.xdr.specs.Encode.{u32}
use Rattle.xdr.specs.Writing.{Wrote}
use Rattle.xdr.specs.declared.writer.Writer.{Writer}
use Rattle.rules.specs.Lists.{first}
use Rattle.rules.specs.Store.{Geometry, Store, need, fits_pool}
use Rattle.rules.specs.Edit.{Edit, edited}
use Rattle.rules.specs.Operation.{NOSPC, Op, op, bad, op_number, item_at}
use Rattle.rules.specs.Fault.{NOWHERE, fault_at}
use Rattle.rules.specs.Run.{State, Config, Event, failed, errors, sets, shows, edits, does, edit_of, effect, body, counted_after, perform}
use Rattle.rules.specs.Calls.{place_after}
use Rattle.rules.proofs.ItemLaws.{Known, item-known}
use Rattle.rules.proofs.GeometryLaws.{Good, file-most}
use Rattle.rules.proofs.SoundStore.{Sound}
use Rattle.rules.proofs.EditLaws.{Lawful, lawful-fits}
use Rattle.rules.proofs.OperationLaws.{Ready, some_inj, none≢some, effect-edit, performed, performed-item}
use Rattle.tables.specs.Lent.{geometry_of}
use Rattle.store.specs.declared.store.Store as Lent
use Rattle.store.specs.Whole.{whole}
use Rattle.wire.specs.declared.status.Status.{Status}
use Rattle.wire.specs.Status.{number_of}
use Rattle.compound.specs.declared.check.Context.{Context}
use Rattle.compound.specs.declared.does.Does.{Does}
use Rattle.compound.specs.declared.handles.Handles.{Handles}
use Rattle.compound.specs.Does.{state_in, does_of, AllowedIn, Checked}
use Rattle.compound.specs.Runner.{file_in, state_of, Named, Answered, event_of, place_told, Turned}
use Rattle.compound.proofs.WholeLaws.{limits, facts}

-- ---- what the tests of an operation say

pub checked-error : {c : Context} {o : Op} {r : Result Does Status} {e : Status} → Checked c o r → r ≡ Err e
    → (number_of e ≡ first (errors (geometry_of c.store.now.geometry) (state_in c) o)) × (0 < number_of e)
checked-error {c} {o} k q = let m = subst (Checked c o) q k in (m.error, m.failed)

pub checked-clear : {c : Context} {o : Op} {r : Result Does Status} {d : Does} → Checked c o r → r ≡ Ok d
    → first (errors (geometry_of c.store.now.geometry) (state_in c) o) ≡ 0
checked-clear {c} {o} k q = sym (subst (Checked c o) q k).error

pub checked-does : {c : Context} {o : Op} {r : Result Does Status} {d e : Does} → Checked c o r → r ≡ Ok d → d ≡ e
    → (does_of c e ≡ does (geometry_of c.store.now.geometry) (state_in c) o) × AllowedIn c e
checked-does {c} {o} k q s = let m = subst (Checked c o) (q ∙ ap (λ (d : Does). Ok d) s) k in (m.does, m.allowed)

-- ---- a lent store, and handles that name files of it

pub ready : (t : Lent.Store) (h : Handles) → Named t.geometry.files h → Ready (geometry_of t.geometry) (state_of h (whole t))
ready t h n = record { sound = facts t; current = named h.current n.current; saved = named h.saved n.saved }
  where
    named : (u : Std.Option ℕ) → ((f : ℕ) → u ≡ Some f → f < t.geometry.files) → (f : ℕ) → file_in u ≡ some f → f < t.geometry.files
    named None n f e = absurd (none≢some e)
    named (Some g) n f e = rw (some_inj g f e) at (n g refl)

-- an edit that no error forbids
pub edit-lawful : (t : Lent.Store) {x : State} → Ready (geometry_of t.geometry) x → (o : Op) → first (errors (geometry_of t.geometry) x o) ≡ 0
    → {e : Edit} {b : List ℕ → List ℕ} → edits e b ≡ does (geometry_of t.geometry) x o → Lawful (geometry_of t.geometry) x.store e
unfolding edit_of
edit-lawful t {x} r o clear {e} is = (effect-edit (geometry_of t.geometry) (limits t).block x r o clear e (rw (← is, edit_of) refl)).0

pub region-small : {g : Geometry} {st : Store} {e : Edit} → Good g → Sound g st → Lawful g st e → e.end - e.off < 2 ^ 32
region-small {g} {st} {e} d s l = go (dec_lt e.off e.end)
  where
    go : Dec (e.off < e.end) → e.end - e.off < 2 ^ 32
    go (yes h) = omega (arith, lawful-fits s l h, file-most g d)
    go (no n) = omega (arith, n)

-- ---- the rules' event

module _ (c : Config) (x : State) (o : Op) (next : ℕ) where
  perform-failed : (e : ℕ) → first (errors c.geometry x o) ≡ e → 0 < e → perform c x o next ≡ failed (op o next) x e
  unfolding perform
  perform-failed zero h n = absurd (omega arith)
  perform-failed (suc e) h n = rw (h, perform)

  perform-full : first (errors c.geometry x o) ≡ 0 → fits_pool c.geometry.N (counted_after c.geometry x o) ≡ false
      → perform c x o next ≡ failed (op o next) x NOSPC
  unfolding perform
  perform-full h l = rw (h, perform) (rw l)

  perform-done : first (errors c.geometry x o) ≡ 0 → fits_pool c.geometry.N (counted_after c.geometry x o) ≡ true
      → perform c x o next ≡ record { item = op o next; before = x; status = 0; after = effect c.geometry x o; body = body c.geometry c.verifier x o }
  unfolding perform
  perform-done h l = rw (h, perform) (rw l)

-- ---- the answer, in the state of handles h and store st

module _ (c : Config) (h : Handles) (st : Store) (o : Op) (next : ℕ) {number : ℕ} (same : number ≡ op_number o) where
  abbrev here : State
  here = state_of h st

  abbrev z : Event
  z = perform c here o next

  -- an error: nothing changes
  pub answers-failed : {w v : Writer} {e : Status} → number_of e ≡ first (errors c.geometry here o) → 0 < number_of e → Wrote (u32 number ++ u32 (number_of e)) w v
      → Answered z h (Err e) st w v
  answers-failed {e} m n wrote =
      rw (perform-failed c here o next (number_of e) (sym m) n)
      (record { status = refl; failed = n; state = refl; wrote = rw (← same, append-nil (u32 (number_of e))) wrote })

  module _ (clear : first (errors c.geometry here o) ≡ 0) where
    module _ (fits : fits_pool c.geometry.N st.words ≡ true) where
      pub answers-sets : {w v : Writer} (k : Handles) → Wrote (u32 number ++ u32 0) w v → sets (file_in k.current) (file_in k.saved) ≡ does c.geometry here o
          → Answered z h (Ok k) st w v
      unfolding effect body
      answers-sets k wrote d =
          rw (perform-done c here o next clear (rw (← d, counted_after, effect) fits), ← d, effect, body)
          (record { status = refl; failed = tt; state = refl; wrote = rw (← same, append-nil (u32 0)) wrote })

      pub answers-shows : {w v : Writer} {b : List ℕ} → Wrote ((u32 number ++ u32 0) ++ b) w v → shows b ≡ does c.geometry here o → Answered z h (Ok h) st w v
      unfolding effect body
      answers-shows wrote d =
          rw (perform-done c here o next clear (rw (← d, counted_after, effect) fits), ← d, effect, body)
          (record { status = refl; failed = tt; state = refl; wrote = rw (← same) (rw append_assoc at wrote) })

    module _ {e : Edit} {b : List ℕ → List ℕ} (d : edits e b ≡ does c.geometry here o) where
      pub answers-done : {w v : Writer} → fits_pool c.geometry.N (edited c.geometry st e).words ≡ true → {after : Store} → after ≡ edited c.geometry st e
          → Wrote ((u32 number ++ u32 0) ++ b c.verifier) w v → Answered z h (Ok h) after w v
      unfolding effect body
      answers-done fits {after} is wrote =
          rw (perform-done c here o next clear (rw (← d, counted_after, effect) fits), ← d, effect, body)
          (record { status = refl; failed = tt; state = ap (state_of h) is; wrote = rw (← same) (rw append_assoc at wrote) })

      pub answers-full : {w v : Writer} → fits_pool c.geometry.N (edited c.geometry st e).words ≡ false → {after : Store} → after ≡ st
          → Wrote (u32 number ++ u32 NOSPC) w v → Answered z h (Err Status.NoSpace) after w v
      unfolding effect body
      answers-full fits {after} is wrote =
          rw (perform-full c here o next clear (rw (← d, counted_after, effect) fits))
          (record { status = refl; failed = omega arith; state = ap (state_of h) is; wrote = rw (← same, append-nil (u32 NOSPC)) wrote })

-- a sound store has room for what it holds
pub has_room : (t : Lent.Store) → fits_pool t.geometry.blocks t.words.now ≡ true
has_room t = le-leb (need t.words.now) t.geometry.blocks (facts t).room

-- ---- what stands at place `at` of request s

module _ (c : Config) (h : Handles) (st : Store) (s : List ℕ) (at : ℕ) where
  pub turned-done : (o : Op) (next : ℕ) → op o next ≡ item_at s at → NOWHERE ≡ fault_at s at → {k : Handles} {after : Store} {w v : Writer}
      → Answered (perform c (state_of h st) o next) h (Ok k) after w v
      → Turned (event_of c (state_of h st) (item_at s at)) (fault_at s at) at h (Ok k) next after w v
  turned-done o next i f a = rw (← i, ← f) (record {
    status = a.status;
    failed = tt;
    place = refl;
    read = sym (ap (place_after at) (performed-item (performed c (state_of h st) o next)));
    state = a.state;
    wrote = a.wrote;
  })

  pub turned-failed : (o : Op) (next : ℕ) → op o next ≡ item_at s at → NOWHERE ≡ fault_at s at → {e : Status} {after : Store} {w v : Writer}
      → Answered (perform c (state_of h st) o next) h (Err e) after w v
      → Turned (event_of c (state_of h st) (item_at s at)) (fault_at s at) at h (Err (record { status = e; place = None })) next after w v
  turned-failed o next i f a = rw (← i, ← f) (record {
    status = a.status;
    failed = a.failed;
    place = refl;
    read = sym (ap (place_after at) (performed-item (performed c (state_of h st) o next)));
    state = a.state;
    wrote = a.wrote;
  })

  pub turned-bad : (number : ℕ) (e : Status) → bad number (number_of e) ≡ item_at s at → {p : Std.Option ℕ} → place_told p ≡ fault_at s at
      → {w v : Writer} → Wrote (u32 number ++ u32 (number_of e)) w v
      → Turned (event_of c (state_of h st) (item_at s at)) (fault_at s at) at h (Err (record { status = e; place = p })) at st w v
  turned-bad number e i f wrote = rw (← i, ← f) (record {
    status = refl;
    failed = omega (arith, (subst Known (sym i) (item-known s at)).status_some);
    place = refl;
    read = refl;
    state = refl;
    wrote = rw (append-nil (u32 (number_of e))) wrote;
  })
