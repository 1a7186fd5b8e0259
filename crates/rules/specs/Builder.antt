-- What a builder's program has of the client's half (request K6): a request that was written decodes as its operations; the reply to it reads
-- back as their results; and so demand 3, of what the program reads.
use Rattle.std.specs.Prelude.{ℕ, ◌+◌, ◌≤◌, ◌≡◌, true, ◌⊎◌, length, take}
use Rattle.std.proofs.Math.Option.{some}
use mathlib.Core.List.{List, [], ◌∷◌, ◌++◌, Memᴰ}
use Rattle.xdr.specs.Decode.{got, fault}
use Rattle.rules.specs.Store.{Geometry, Store}
use Rattle.rules.specs.Operation.{Op, WRITE, ALLOCATE, op_number, op_bytes, Item, op, items, header, request_bytes, file_sync}
use Rattle.rules.specs.Run.{Event, zero_id}
use Rattle.rules.specs.Calls.{item_number, last_status, Call, Outcome, answer}
use Rattle.rules.specs.Claim.{Entry, serving, events, history, Is, SlotOf, GivesBack, Between, EveryList}
use Rattle.rules.specs.Client.{request_fits, wrote, written, body_bytes, Result, Reply, reply, opened, handed, done, step}

-- ---- a request that was written

-- the operations, as they are read from place `at` on
abbrev pub items_from : ℕ → List Op → List Item
items_from at [] = []
items_from at (o ∷ os) = op o (at + length (op_bytes o)) ∷ items_from (at + length (op_bytes o)) os

-- the request s decodes as its header and all of its operations
pub record Decodes (tag : List ℕ) (os : List Op) (s : List ℕ) : Type 0 where
  pub at : ℕ
  pub header_is : header s 0 ≡ got (record { tag = tag; minor = 2; ops = length os }) at
  pub items_are : items s (length os) at ≡ items_from at os

abbrev pub WritingClaim : Type 0
WritingClaim = (tag : List ℕ) (os : List Op) (buf : List ℕ) → let w = wrote tag (some os) buf in w.number ≡ 0 → Decodes tag os (take w.written w.buffer)

-- ---- any reply that is opened

-- from place `at` on, the results rs are handed out, one after the other, and then that it is done
abbrev pub HandsOut : List ℕ → ℕ → List Result → Type 0
HandsOut s at [] = step s at ≡ done
HandsOut s at (r ∷ rs) = (next : ℕ) × (step s at ≡ handed r next) × HandsOut s next rs

-- of any bytes: they are opened, and all of their results are handed out; or refused, and none is
pub record OpensOr (tag ns s : List ℕ) : Type 0 where
  pub opens : (opened tag ns s).number ≡ 0 → (r : Reply) × (reply s 0 ≡ got r (length s)) × HandsOut s (opened tag ns s).first r.results
  pub refuses : (opened tag ns s).number ≡ 10 → HandsOut s (opened tag ns s).first []
  pub either : ((opened tag ns s).number ≡ 0) ⊎ ((opened tag ns s).number ≡ 10)

-- ---- the reply to such a request

-- result r is event z's: number, status, and the body to its last byte
pub record SameResult (z : Event) (r : Result) : Type 0 where
  pub number : r.number ≡ item_number z.item
  pub status : r.status ≡ z.status
  pub body : body_bytes r.body ≡ z.body

abbrev pub SameResults : List Event → List Result → Type 0
SameResults [] [] = Unit {0}
SameResults [] (r ∷ rs) = ⊥
SameResults (z ∷ zs) [] = ⊥
SameResults (z ∷ zs) (r ∷ rs) = SameResult z r × SameResults zs rs

-- the bytes of a reply
abbrev pub reply_of : {L : Type 0} → Outcome L → List ℕ
reply_of o = take o.written o.reply

abbrev pub op_numbers : List Op → List ℕ
op_numbers [] = []
op_numbers (o ∷ os) = op_number o ∷ op_numbers os

-- the reply s is opened with the request's tag and numbers, and hands out the results of the events zs
pub record ReadsAs (tag : List ℕ) (os : List Op) (zs : List Event) (s : List ℕ) : Type 0 where
  pub opens : (opened tag (op_numbers os) s).number ≡ 0
  pub status : (opened tag (op_numbers os) s).status ≡ last_status 0 zs
  pub results : List Result
  pub hands_out : HandsOut s (opened tag (op_numbers os) s).first results
  pub same : SameResults zs results

-- of every call that serves a request that was written, from any sound store
abbrev pub ReplyClaim : Type 0
ReplyClaim = (c : Call) (st : Store) (tag : List ℕ) (os : List Op) → request_fits tag os ≡ true → c.request ≡ request_bytes tag os
    → (answer c st).number ≡ 0 → ReadsAs tag os (events serving c st) (reply_of (answer c st))

-- ---- demand 3, of what is read

-- the results that a reply has
abbrev pub results_in : List ℕ → List Result
results_in s = elim (reply s 0) [ got r next ↦ r.results | fault p ↦ [] ]

abbrev pub pairs : List Event → List Result → List (Event × Result)
pairs [] rs = []
pairs (z ∷ zs) [] = []
pairs (z ∷ zs) (r ∷ rs) = (z, r) ∷ pairs zs rs

-- the operations that a list of calls reaches, each with its result as read in the call's reply
abbrev pub readings : (E : Entry) → E.Tables → List E.Given → List (Outcome E.Tables) → List (Event × Result)
readings E t [] os = []
readings E t (c ∷ cs) [] = []
readings E t (c ∷ cs) (o ∷ os) = pairs (events E c t) (results_in (reply_of o)) ++ readings E o.store cs os

-- as `Allocated` of the claim, but that the ALLOCATE was answered OK is what was read: in rs it stands with status 0
pub record AllocatedAsRead (g : Geometry) (zs : List Event) (rs : List (Event × Result)) (f o n p : ℕ) (d : List ℕ) (w : Event) : Type 0 where
  pub a : Event
  pub mid : List Event
  pub between : Between zs a mid w
  pub id : List ℕ
  pub allocate : Is a (ALLOCATE id o n) f
  pub result : Result
  pub read : Memᴰ (a, result) rs
  pub read_ok : result.status ≡ 0
  pub kept : (z : Event) (k : ℕ) → Memᴰ z mid → SlotOf g o (o + n) k → GivesBack g f k z → ⊥
  pub stable : ℕ
  pub write : Is w (WRITE zero_id p stable d) f
  pub some_byte : 1 ≤ length d
  pub starts : o ≤ p
  pub ends : p + length d ≤ o + n

-- r is read as a WRITE's result: OK, all n bytes written, FILE_SYNC4
pub record ReadsWritten (n : ℕ) (r : Result) : Type 0 where
  pub number : r.number ≡ 38
  pub status : r.status ≡ 0
  pub verifier : List ℕ
  pub body : r.body ≡ written n file_sync verifier

pub record ReadsTrue (E : Entry) (g : Geometry) (t : E.Tables) (cs : List E.Given) (os : List (Outcome E.Tables)) : Type 0 where
  -- every operation reached was read, each with its own result
  pub all : (z : Event) → Memᴰ z (history E t cs) → (r : Result) × Memᴰ (z, r) (readings E t cs os)
  pub own : (z : Event) (r : Result) → Memᴰ (z, r) (readings E t cs os) → SameResult z r
  -- an ALLOCATE read as OK, and then a WRITE into its region: it is read as OK
  pub reservation : (f o n p : ℕ) (d : List ℕ) (w : Event) → AllocatedAsRead g (history E t cs) (readings E t cs os) f o n p d w
      → (r : Result) → Memᴰ (w, r) (readings E t cs os) → ReadsWritten (length d) r

abbrev pub BuilderClaim : Entry → Type 0
BuilderClaim E = EveryList E (ReadsTrue E)
