-- The runner's values and what its functions leave.
use Rattle.std.specs.Prelude.{ℕ, ◌<◌, ◌≡◌, cond, List, length, eqb, Some, None, Result, Ok, Err, IfErr}
use Rattle.std.specs.declared.option.Option as Std
use Rattle.std.proofs.Math.Option.{Option, none, some}
use Rattle.xdr.specs.Encode.{u64, concat_map}
use Rattle.xdr.specs.Writing.{Wrote}
use Rattle.xdr.specs.declared.writer.Writer.{Writer}
use Rattle.rules.specs.Store.{Store}
use Rattle.rules.specs.Operation.{BADXDR, Item, op, bad, Header}
use Rattle.rules.specs.Fault.{NOWHERE, fault_at}
use Rattle.rules.specs.Run.{State, Config, config, Event, failed, perform}
use Rattle.rules.specs.Calls.{result_bytes, place_after, last_place, last_status, last_store, compound, Call, Outcome, with_place, served, last_fault, Gives}
use Rattle.tables.specs.Lent.{geometry_of}
use Rattle.tables.specs.declared.geometry.Geometry.{Geometry}
use Rattle.wire.specs.declared.status.Status.{Status}
use Rattle.wire.specs.Status.{number_of}
use Rattle.compound.specs.declared.handles.Handles.{Handles}
use Rattle.compound.specs.declared.run.Stop.{Stop}
use Rattle.compound.specs.declared.run.Ended.{Ended}
use Rattle.tables.specs.Refusal as Tables
use Rattle.compound.specs.declared.served.Served.{Served}
use Rattle.compound.specs.declared.served.Refused.{Refused}

-- ---- the state

-- the verifier's bytes spell its number
abbrev pub config_of : Geometry → ℕ → Config
config_of g v = config (geometry_of g) (u64 v)

-- the file that a handle names
abbrev pub file_in : Std.Option ℕ → Option ℕ
file_in None = none
file_in (Some f) = some f

-- the handles and the lent tables
abbrev pub state_of : Handles → Store → State
state_of h st = record { current = file_in h.current; saved = file_in h.saved; store = st }

-- handles that name files, of so many
pub record Named (files : ℕ) (h : Handles) : Type 0 where
  pub current : (f : ℕ) → h.current ≡ Some f → f < files
  pub saved : (f : ℕ) → h.saved ≡ Some f → f < files

-- ---- an operation

-- the status number of an answer, 0 where there is no error
abbrev pub first_of : {A : Type 0} → Result A Status → ℕ
first_of (Ok _) = 0
first_of (Err e) = number_of e

-- the handles afterwards: an operation that fails leaves them
abbrev pub handles_after : {E : Type 0} → Handles → Result Handles E → Handles
handles_after h (Ok k) = k
handles_after h (Err e) = h

-- the event z, with its result written
pub record Answered (z : Event) (h : Handles) (r : Result Handles Status) (after : Store) (old new : Writer) : Type 0 where
  pub status : first_of r ≡ z.status
  pub failed : IfErr r (λ e. 0 < number_of e)
  pub state : state_of (handles_after h r) after ≡ z.after
  pub wrote : Wrote (result_bytes z) old new

-- ---- one after the other

-- what comes of an item that is reached in state x
abbrev pub event_of : Config → State → Item → Event
event_of c x (op o next) = perform c x o next
event_of c x (bad k e) = failed (bad k e) x e

-- a place where the request went wrong
abbrev pub place_told : Std.Option ℕ → ℕ
place_told None = NOWHERE
place_told (Some p) = p

abbrev pub stop_status : {A : Type 0} → Result A Stop → ℕ
stop_status (Ok _) = 0
stop_status (Err s) = number_of s.status

abbrev pub stop_place : {A : Type 0} → Result A Stop → ℕ
stop_place (Ok _) = NOWHERE
stop_place (Err s) = place_told s.place

-- the event z of what stands at place `at`, and the place of its fault
pub record Turned (z : Event) (fault at : ℕ) (h : Handles) (r : Result Handles Stop) (next : ℕ) (after : Store) (old new : Writer) : Type 0 where
  pub status : stop_status r ≡ z.status
  pub failed : IfErr r (λ s. 0 < number_of s.status)
  pub place : stop_place r ≡ fault
  pub read : next ≡ place_after at z.item
  pub state : state_of (handles_after h r) after ≡ z.after
  pub wrote : Wrote (result_bytes z) old new

-- ---- all of them

-- how the run of request s from place `at` on ends, by the operations reached; k is the status where there is none
pub record RanAll (k : ℕ) (s : List ℕ) (zs : List Event) (st : Store) (at : ℕ) (r : Ended) (next : ℕ) (after : Store) (old new : Writer) : Type 0 where
  pub status : number_of r.status ≡ last_status k zs
  pub count : r.count ≡ length zs
  pub read : next ≡ last_place at zs
  pub place : place_told r.place ≡ cond (eqb (last_status k zs) BADXDR) (fault_at s (last_place at zs)) NOWHERE
  pub store : after ≡ last_store st zs
  pub wrote : Wrote (concat_map result_bytes zs) old new

-- ---- the call, as its contract names it

abbrev pub call : Config → List ℕ → List ℕ → Call
call c s reply = record { config = c; request = s; buffer = reply }

abbrev pub refused_number : Refused → ℕ
refused_number (Refused.Tables r) = Tables.number_of r
refused_number Refused.LongRequest = 4
refused_number Refused.ShortReply = 5
refused_number (Refused.BadHeader p) = 6

abbrev pub refused_place : Refused → ℕ
refused_place (Refused.BadHeader p) = p
refused_place r = NOWHERE

-- a refusal has zero counts
abbrev pub outcome : Result Served Refused → List ℕ → Store → Outcome Store
outcome (Ok r) reply st = record { number = 0; read = r.read; written = r.written; place = place_told r.place; reply = reply; store = st }
outcome (Err e) reply st = record { number = refused_number e; read = 0; written = 0; place = refused_place e; reply = reply; store = st }

-- a compound served: what the rules say of it, the place of a fault with it
abbrev pub ServedAs : Config → Store → List ℕ → Header → ℕ → List ℕ → Served → List ℕ → Store → Type 0
ServedAs c st s h at buf r reply after =
    let zs = compound c st s h at in
    Gives (with_place (last_fault s h at zs) (served buf st h at zs)) (outcome (Ok r) reply after)
