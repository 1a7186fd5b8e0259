-- What the place of a fault says of the request's bytes (request K5).
use Rattle.std.specs.Prelude.{ℕ, zero, suc, ◌+◌, ◌≤◌, ◌<◌, ◌≡◌, List, ◌≢◌, ◌⊎◌, length, take}
use Rattle.std.proofs.Math.Option.{none, some}
use Rattle.xdr.specs.Decode.{got, fault, Reader, ret, ◌>>=◌}
use Rattle.rules.specs.Operation.{BADXDR, header}
use Rattle.rules.specs.Fault.{NOWHERE, op_reader}
use Rattle.rules.specs.Store.{Store}
use Rattle.rules.specs.Calls.{Call, answer}
use Rattle.rules.specs.Claim.{Ran, ran_call}

-- ---- a request read in order: its header, then its operations, up to the first that we don't serve

unfoldable pub ops_reader : ℕ → Reader (Unit {0})
ops_reader zero = ret tt
ops_reader (suc n) = ◌>>=◌ op_reader (λ o. elim o [ none ↦ ret tt | some o ↦ ops_reader n ])

unfoldable pub request_reader : Reader (Unit {0})
request_reader = ◌>>=◌ header (λ h. ops_reader h.ops)

-- request t has the bytes of s before place p
abbrev pub SameBefore : ℕ → List ℕ → List ℕ → Type 0
SameBefore p s t = take p t ≡ take p s

-- ---- what is known of place p, where the part of request s that starts at `start` went wrong

-- a request with the same bytes before p is read without a fault
abbrev pub Mends : List ℕ → ℕ → Type 0
Mends s p = (t : List ℕ) × SameBefore p s t × (next : ℕ) × (request_reader t 0 ≡ got tt next)

-- the request ends at p, in a number that starts at q and is out of range whatever follows: with the whole number the fault is at q
abbrev pub OutOfRange : List ℕ → ℕ → Type 0
OutOfRange s p = (p ≡ length s) × (q : ℕ) × (q < p) × (p < q + 4) × ((t : List ℕ) → SameBefore p s t → q + 4 ≤ length t → request_reader t 0 ≡ fault q)

pub record PlaceRight (s : List ℕ) (start p : ℕ) : Type 0 where
  -- the first fault in reading order, inside that part
  pub first : request_reader s 0 ≡ fault p
  pub from : start ≤ p
  pub to : p ≤ length s
  -- the bytes before it are those of a request without a fault, but for a number that is cut off and out of range
  pub before : Mends s p ⊎ OutOfRange s p

-- of a call: refusal 6 is of the header, at the request's start; a served one that ends in BADXDR of the operation behind the bytes read
pub record PlaceTold (c : Call) (st : Store) : Type 0 where
  pub header : (answer c st).number ≡ 6 → PlaceRight c.request 0 (answer c st).place
  pub operation : (r : Ran) → ran_call c st ≡ some r → r.status ≡ BADXDR → PlaceRight c.request (answer c st).read (answer c st).place
  pub nowhere : (answer c st).number ≢ 6 → ((r : Ran) → ran_call c st ≡ some r → r.status ≢ BADXDR) → (answer c st).place ≡ NOWHERE

abbrev pub PlaceClaim : Type 0
PlaceClaim = (c : Call) (st : Store) → PlaceTold c st
