-- What SEEK answers, and a client's walk over a file by SEEK (document 01, "Reading", with request K2; RFC 7862, 15.11).
use Rattle.std.specs.Prelude.{ℕ, zero, suc, ◌+◌, ◌-◌, ◌≤◌, ◌<◌, ◌≡◌, Bool, true, false, cond, not, List, [], ◌∷◌, ◌↔◌, ◌⊎◌, length, drop, eqb}
use Rattle.std.proofs.Math.Option.{Option, none, some}
use Rattle.xdr.specs.Encode.{u32, concat_map}
use Rattle.xdr.specs.Decode.{got, fault}
use Rattle.xdr.specs.Layout.{Layout, uint, ◌then◌}
use Rattle.rules.specs.Store.{Geometry, good_geometry, Store, good_lengths, size_of, content, sound}
use Rattle.rules.specs.Read.{is_hole_at, Piece}
use Rattle.rules.specs.Operation.{NXIO, UNION_NOTSUPP, PUTFH, SEEK, request_bytes, seek_result}
use Rattle.rules.specs.Run.{zero_id, read_stateid, Config, Event}
use Rattle.rules.specs.Calls.{result_layout, reply_head, Call, answer}
use Rattle.rules.specs.Claim.{Entry, OK, Is, laid, Unlike, EveryEvent}

-- ---- the answer

-- eof and a place found from place `off` of file f on: the first of the kind asked for, or the size; eof says which
pub record Finds (g : Geometry) (st : Store) (f off : ℕ) (hole eof : Bool) (place : ℕ) : Type 0 where
  pub from : off ≤ place
  pub to : place ≤ size_of st f
  pub between : (i : ℕ) → off ≤ i → i < place → is_hole_at g st f i ≡ not hole
  pub found : place < size_of st f → is_hole_at g st f place ≡ hole
  pub at_end : (eof ≡ true) ↔ (place ≡ size_of st f)

-- z is a SEEK in file f from place `off` on, with a stateid that passes; `what` is 0 for data and 1 for a hole
pub record SeekRight (g : Geometry) (f off what : ℕ) (z : Event) : Type 0 where
  pub neither : 1 < what → z.status ≡ UNION_NOTSUPP
  pub past : what ≤ 1 → size_of z.before.store f < off → z.status ≡ NXIO
  pub finds : what ≤ 1 → off ≤ size_of z.before.store f
      → OK z × (eof : Bool) × (place : ℕ) × (z.body ≡ seek_result.write (eof, place)) × Finds g z.before.store f off (eqb what 1) eof place
  pub at_size : what ≤ 1 → off ≡ size_of z.before.store f → OK z × (z.body ≡ seek_result.write (true, off))
  pub keeps : z.after ≡ z.before

-- of every SEEK that a list of calls reaches, as in the claim
abbrev pub SeekClaim : Entry → Type 0
SeekClaim E = EveryEvent E (λ g z. (id : List ℕ) (off what f : ℕ) → Is z (SEEK id off what) f → read_stateid id ≡ true → SeekRight g f off what z)

-- ---- the walk

-- a client's call: a compound of PUTFH and SEEK
abbrev pub seek_call : Config → List ℕ → ℕ → Bool → ℕ → Call
seek_call c buffer f hole off = record { config = c; request = request_bytes [] (PUTFH (u32 f) ∷ SEEK zero_id off (cond hole 1 0) ∷ []); buffer = buffer }

-- what the reply to it says: status, tag and number of results; PUTFH's result; SEEK's number, status, eof and place
abbrev pub SeekReplied : Type 0
SeekReplied = (ℕ × (List ℕ × ℕ)) × ((ℕ × (ℕ × List ℕ)) × (ℕ × (ℕ × (Bool × ℕ))))

abbrev pub seek_replied : Layout SeekReplied
seek_replied = reply_head then result_layout 0 then uint then uint then seek_result

-- eof and the place, where the reply's status is OK
abbrev pub ok_answer : SeekReplied → Option (Bool × ℕ)
ok_answer ((status, (tag, results)), (put, (number, (seek_status, a)))) = cond (eqb status 0) (some a) none

-- as the client reads them in the reply
abbrev pub sought : List ℕ → Option (Bool × ℕ)
sought reply = elim (seek_replied.read reply 0) [ got r next ↦ ok_answer r | fault p ↦ none ]

-- The walk: SEEK for data and for a hole by turns, each from the place that the one before answered, up to the first TRUE. Its answers; k bounds
-- their number.
unfoldable pub walk : Config → List ℕ → ℕ → ℕ → Store → Bool → ℕ → List (Bool × ℕ)
walk c buffer f zero st hole off = []
walk c buffer f (suc k) st hole off =
    let o = answer (seek_call c buffer f hole off) st in
    elim (sought o.reply) [ none ↦ [] | some a ↦ a ∷ cond a.0 [] (walk c buffer f k o.store (not hole) a.1) ]

-- the ranges between the places asked from and answered, each of the kind that was not asked for; one without a byte is left out
abbrev pub ranges : Bool → ℕ → List (Bool × ℕ) → List Piece
ranges hole off [] = []
ranges hole off (a ∷ rest) = cond (eqb a.1 off) (ranges (not hole) a.1 rest)
    (record { hole = not hole; start = off; size = a.1 - off } ∷ ranges (not hole) a.1 rest)

-- the first TRUE is the last answer, and its place is n
abbrev pub EndsAt : ℕ → List (Bool × ℕ) → Type 0
EndsAt n [] = ⊥
EndsAt n (a ∷ rest) = ((a ≡ (true, n)) × (rest ≡ [])) ⊎ ((a.0 ≡ false) × EndsAt n rest)

-- a piece of file f: at least one byte, all of its kind
pub record PieceOf (g : Geometry) (st : Store) (f : ℕ) (p : Piece) : Type 0 where
  pub some_byte : 1 ≤ p.size
  pub kind : (i : ℕ) → p.start ≤ i → i < p.start + p.size → is_hole_at g st f i ≡ p.hole

-- file f's data and holes in order, from place i up to the size: each piece starts where the one before ends, and neighbours differ in kind
abbrev pub DataAndHoles : Geometry → Store → ℕ → ℕ → List Piece → Type 0
DataAndHoles g st f i [] = i ≡ size_of st f
DataAndHoles g st f i (p ∷ ps) = (p.start ≡ i) × (PieceOf g st f p × (Unlike p.hole ps × DataAndHoles g st f (p.start + p.size) ps))

-- the answers of a walk over file f from place `off` on, a hole (or data) being asked for first
pub record WalkRight (g : Geometry) (st : Store) (f : ℕ) (hole : Bool) (off : ℕ) (answers : List (Bool × ℕ)) : Type 0 where
  -- it reaches the size; from there, and so in an empty file, by one SEEK
  pub ends : EndsAt (size_of st f) answers
  pub at_size : off ≡ size_of st f → answers ≡ (true, off) ∷ []
  -- its ranges; with zeros for the holes they are the file's bytes
  pub in_order : DataAndHoles g st f off (ranges hole off answers)
  pub laid : concat_map (laid g st f) (ranges hole off answers) ≡ drop off (content g st f)

-- what a walk is given: a geometry, a verifier and a reply buffer that pass, a sound store and a file of it
pub record WalkGiven (c : Config) (buffer : List ℕ) (st : Store) (f : ℕ) : Type 0 where
  pub geometry : good_geometry c.geometry ≡ true
  pub verifier : length c.verifier ≡ 8
  pub room : 32768 ≤ length buffer
  pub lengths : good_lengths c.geometry st ≡ true
  pub sound : sound c.geometry st ≡ true
  pub file : f < c.geometry.F

-- from any place up to the size, 0 above all; one SEEK for each slot and one more are enough
abbrev pub WalkClaim : Type 0
WalkClaim = (c : Config) (buffer : List ℕ) (st : Store) (f : ℕ) → WalkGiven c buffer st f → (hole : Bool) (off : ℕ) → off ≤ size_of st f
    → WalkRight c.geometry st f hole off (walk c buffer f (suc c.geometry.S) st hole off)
