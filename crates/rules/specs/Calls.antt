-- The reply, the calls and their refusals (document 01, "Numbers of a refused call", "The compound" and "The store").
use Rattle.std.specs.Prelude.{ℕ, zero, suc, pred, ◌*◌, ◌/◌, ◌≡◌, Bool, true, cond, ◌&&◌, not, List, [], ◌∷◌, ◌++◌, length, get_or, take, drop, ltb, eqb}
use Rattle.std.proofs.Math.Option.{none}
use Rattle.xdr.specs.Encode.{concat_map}
use Rattle.xdr.specs.Decode.{got, fault}
use Rattle.xdr.specs.Layout.{Layout, uint, bytes, opaque_data, ◌then◌}
use Rattle.rules.specs.Lists.{first, all_to}
use Rattle.rules.specs.Store.{Geometry, good_geometry, Store, good_lengths, empty_store, is_hole, word_of, used, owed, sound}
use Rattle.rules.specs.Operation.{MINOR_VERS_MISMATCH, TOO_MANY_OPS, BADXDR, Item, op, bad, op_number, items, Header, header}
use Rattle.rules.specs.Fault.{NOWHERE, fault_at}
use Rattle.rules.specs.Run.{State, Config, Event, reached}

-- ---- the operations reached

-- no handle is current or saved at the start
abbrev pub fresh : Store → State
fresh st = record { current = none; saved = none; store = st }

-- a compound that is refused as a whole, with no results (house for 10070): no operation is reached
abbrev pub header_status : Header → ℕ
header_status h = first ((not (eqb h.minor 2), MINOR_VERS_MISMATCH) ∷ (ltb 12 h.ops, TOO_MANY_OPS) ∷ [])

-- the operations reached of a compound whose header was read up to place `at`; an empty list has none (house: it is answered OK)
unfoldable pub compound : Config → Store → List ℕ → Header → ℕ → List Event
compound c st s h at = elim (header_status h) [ zero ↦ reached c (fresh st) (items s h.ops at) | suc e ↦ [] ]

-- ---- the reply

-- a result: operation number, status and, for OK, a body of n bytes
abbrev pub result_layout : ℕ → Layout (ℕ × (ℕ × List ℕ))
result_layout n = uint then uint then bytes n

abbrev pub item_number : Item → ℕ
item_number (op o next) = op_number o
item_number (bad k e) = k

abbrev pub result_bytes : Event → List ℕ
result_bytes z = (result_layout (length z.body)).write (item_number z.item, (z.status, z.body))

-- what the last of the events says, or a where there is none
abbrev pub last_of : {A : Type 0} → (Event → A) → A → List Event → A
last_of f a [] = a
last_of f a (z ∷ zs) = last_of f (f z) zs

abbrev pub last_status : ℕ → List Event → ℕ
last_status s zs = last_of (λ z. z.status) s zs

abbrev pub last_store : Store → List Event → Store
last_store st zs = last_of (λ z. z.after.store) st zs

-- status, tag, number of results; they follow
abbrev pub reply_head : Layout (ℕ × (List ℕ × ℕ))
reply_head = uint then opaque_data 1024 then uint

unfoldable pub reply_bytes : ℕ → List ℕ → List Event → List ℕ
reply_bytes status tag zs = reply_head.write (status, (tag, length zs)) ++ concat_map result_bytes zs

-- the place after the last operation counted; one that ends in BADXDR, NOTSUPP, SEQUENCE_POS or OP_ILLEGAL counts none of its bytes
abbrev pub place_after : ℕ → Item → ℕ
place_after at (op o next) = next
place_after at (bad k e) = at

abbrev pub last_place : ℕ → List Event → ℕ
last_place at [] = at
last_place at (z ∷ zs) = last_place (place_after at z.item) zs

-- ---- a call

-- what a call that serves a compound is given besides the store
pub record Call : Type 0 where
  pub config : Config
  pub request : List ℕ
  pub buffer : List ℕ

-- what comes of a call with the lent tables L: number, bytes read, bytes written, the place of a fault, the reply buffer, and the tables
-- afterwards
pub record Outcome (L : Type 0) : Type 0 where
  pub number : ℕ
  pub read : ℕ
  pub written : ℕ
  pub place : ℕ
  pub reply : List ℕ
  pub store : L

abbrev pub with_place : {L : Type 0} → ℕ → Outcome L → Outcome L
with_place p o = record { number = o.number; read = o.read; written = o.written; place = p; reply = o.reply; store = o.store }

abbrev pub refuse : {L : Type 0} → ℕ → List ℕ → L → Outcome L
refuse k buf st = record { number = k; read = 0; written = 0; place = NOWHERE; reply = buf; store = st }

unfoldable pub served : List ℕ → Store → Header → ℕ → List Event → Outcome Store
served buf st h at zs =
    let r = reply_bytes (last_status (header_status h) zs) h.tag zs in
    record { number = 0; read = last_place at zs; written = length r; place = NOWHERE; reply = r ++ drop (length r) buf; store = last_store st zs }

-- the refusals before the header is read, in order
abbrev pub refusals : Call → Store → List (Bool × ℕ)
refusals c st =
    (not (good_geometry c.config.geometry), 1)
    ∷ (not (good_lengths c.config.geometry st && eqb (length c.config.verifier) 8), 2)
    ∷ (not (sound c.config.geometry st), 3)
    ∷ (ltb 65536 (length c.request), 4)
    ∷ (ltb (length c.buffer) 32768, 5) ∷ []

unfoldable pub refusal : Call → Store → ℕ
refusal c st = first (refusals c st)

-- the rules' answer to a call but for the place of a fault
unfoldable pub answer_no_place : Call → Store → Outcome Store
answer_no_place c st = elim (refusal c st) [
  | zero ↦ elim (header c.request 0) [
    | got h at ↦ served c.buffer st h at (compound c.config st c.request h at)
    | fault p ↦ refuse 6 c.buffer st
  ]
  | suc k ↦ refuse (suc k) c.buffer st
]

-- where a served compound of request s went wrong: in the last operation reached, if its status is BADXDR. None of its bytes is counted, so it
-- stands where the bytes read end.
unfoldable pub last_fault : List ℕ → Header → ℕ → List Event → ℕ
last_fault s h at zs = cond (eqb (last_status (header_status h) zs) BADXDR) (fault_at s (last_place at zs)) NOWHERE

-- where the request of a call went wrong (request K5): refusal 6 has the place of the header's fault
unfoldable pub place_of : Call → Store → ℕ
place_of c st = elim (refusal c st) [
  | zero ↦ elim (header c.request 0) [
    | got h at ↦ last_fault c.request h at (compound c.config st c.request h at)
    | fault p ↦ p
  ]
  | suc k ↦ NOWHERE
]

-- the rules' answer to a call
unfoldable pub answer : Call → Store → Outcome Store
answer c st = with_place (place_of c st) (answer_no_place c st)

-- an outcome that is the rules': number, counts, place, reply buffer and every byte of the tables
pub record Gives (want o : Outcome Store) : Type 0 where
  pub number : o.number ≡ want.number
  pub read : o.read ≡ want.read
  pub written : o.written ≡ want.written
  pub place : o.place ≡ want.place
  pub reply : o.reply ≡ want.reply
  pub sizes : o.store.sizes ≡ want.store.sizes
  pub words : o.store.words ≡ want.store.words
  pub mem : o.store.mem ≡ want.store.mem

-- What the code promises of the call that serves a compound: its `ensures` is this, of the result's four numbers, and of the reply buffer and
-- the tables at exit.
abbrev pub Contract : Call → Store → Outcome Store → Type 0
Contract c st o = Gives (answer c st) o

-- ---- the store's own calls: make an empty store

unfoldable pub make_refusal : Geometry → Store → ℕ
make_refusal g st = first ((not (good_geometry g), 1) ∷ (not (good_lengths g st), 2) ∷ [])

unfoldable pub made_store : Geometry → Store → Store
made_store g st = cond (eqb (make_refusal g st) 0) (empty_store g) st

-- the number answered, and the tables afterwards
pub record MakePromise (g : Geometry) (st : Store) (number : ℕ) (after : Store) : Type 0 where
  pub number_is : number ≡ make_refusal g st
  pub sizes_are : after.sizes ≡ (made_store g st).sizes
  pub words_are : after.words ≡ (made_store g st).words
  pub mem_is : after.mem ≡ (made_store g st).mem

-- ---- survey a store: whether it is sound, with its used and owed blocks (request K8 made one call of two); zero counts on a refusal

unfoldable pub store_refusal : Geometry → Store → ℕ
store_refusal g st = first ((not (good_geometry g), 1) ∷ (not (good_lengths g st), 2) ∷ (not (sound g st), 3) ∷ [])

unfoldable pub used_count : Geometry → Store → ℕ
used_count g st = cond (eqb (store_refusal g st) 0) (used st.words) 0

unfoldable pub owed_count : Geometry → Store → ℕ
owed_count g st = cond (eqb (store_refusal g st) 0) (owed st.words) 0

pub record SurveyPromise (g : Geometry) (st : Store) (number used_told owed_told : ℕ) : Type 0 where
  pub number_is : number ≡ store_refusal g st
  pub used_is : used_told ≡ used_count g st
  pub owed_is : owed_told ≡ owed_count g st

-- ---- show slot k of file f, by two calls; `page` is the zero page that the caller lends

abbrev pub slot_refusals : Geometry → Store → List ℕ → ℕ → ℕ → List (Bool × ℕ)
slot_refusals g st page f k =
    (not (good_geometry g), 1)
    ∷ (not (good_lengths g st && eqb (length page) g.B), 2)
    ∷ (not (sound g st && all_to (length page) (λ j. eqb (get_or page j 0) 0)), 3)
    ∷ (not (ltb f g.F && ltb k g.S), 8) ∷ []

unfoldable pub slot_refusal : Geometry → Store → List ℕ → ℕ → ℕ → ℕ
slot_refusal g st page f k = first (slot_refusals g st page f k)

-- the block's part of the memory, or for a hole the zero page; on a refusal the page's empty start
unfoldable pub slot_view : Geometry → Store → List ℕ → ℕ → ℕ → List ℕ
slot_view g st page f k =
    let w = word_of g st.words f k in
    cond (eqb (slot_refusal g st page f k) 0) (cond (is_hole w) page (take g.B (drop (pred (w / 2) * g.B) st.mem))) []

-- which of the two it is: a hole, also on a refusal
unfoldable pub slot_is_hole : Geometry → Store → List ℕ → ℕ → ℕ → Bool
slot_is_hole g st page f k = cond (eqb (slot_refusal g st page f k) 0) (is_hole (word_of g st.words f k)) true

-- where the part starts in the slice that it is of: at the slot's block in the memory, or at the page's first byte
unfoldable pub slot_start : Geometry → Store → List ℕ → ℕ → ℕ → ℕ
slot_start g st page f k = cond (slot_is_hole g st page f k) 0 (pred (word_of g st.words f k / 2) * g.B)

pub record KindPromise (g : Geometry) (st : Store) (page : List ℕ) (f k number : ℕ) (hole : Bool) : Type 0 where
  pub number_is : number ≡ slot_refusal g st page f k
  pub hole_is : hole ≡ slot_is_hole g st page f k
