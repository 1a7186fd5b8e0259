-- The claim about lists of calls (document 01, "The list of demand 3"; demands 1 to 3).
use Rattle.std.specs.Prelude.{ℕ, zero, suc, ◌+◌, ◌-◌, ◌*◌, ◌≤◌, ◌<◌, min, ◌≡◌, Bool, true, false, cond, not, ◌&&◌, ◌||◌, ◌↔◌, ◌≢◌, length, take, drop, replicate, eqb}
use Rattle.std.proofs.Math.Option.{Option, none, some}
use mathlib.Core.List.{List, [], ◌∷◌, ◌++◌, Memᴰ}
use Rattle.xdr.specs.Bytes.{splice}
use Rattle.xdr.specs.Encode.{concat_map}
use Rattle.xdr.specs.Decode.{got, fault}
use Rattle.rules.specs.Lists.{first, tabulate, ceil_div}
use Rattle.rules.specs.Store.{Geometry, good_geometry, Store, size_of, good_lengths, fits_pool, bytes_from, content, sound}
use Rattle.rules.specs.Edit.{Edit, write, copy, clone, allocate, deallocate, covers}
use Rattle.rules.specs.Read.{granted, read_count, is_at_end, is_hole_at, Piece, read_pieces}
use Rattle.rules.specs.Operation.{NOSPC, Op, READ, READ_PLUS, WRITE, ALLOCATE, op, bad, header, read_result, read_plus_reply}
use Rattle.rules.specs.Run.{State, zero_id, errors, Event, edit_of, counted_after}
use Rattle.rules.specs.Calls.{fresh, result_layout, item_number, reply_head, last_status, header_status, compound, Call, Outcome, refusal, answer, Contract}

-- ---- entries and lists of calls

-- what a call ran: the reply's status, the compound's tag, and the operations reached
pub record Ran : Type 0 where
  pub status : ℕ
  pub tag : List ℕ
  pub events : List Event

-- An entry: a call that serves compounds. It takes lent tables, the store among them, which it leaves to the next call; and what else it is
-- given. The rules say what comes of it and what it ran, if anything; the contract is what the code promises.
pub record Entry : Type 1 where
  pub Tables : Type 0
  pub Given : Type 0
  pub store : Tables → Store
  pub good : Geometry → Tables → Bool
  pub geometry : Given → Geometry
  pub buffer : Given → List ℕ
  pub answer : Given → Tables → Outcome Tables
  pub ran : Given → Tables → Option Ran
  pub Contract : Given → Tables → Outcome Tables → Type 0

-- the call that serves a compound; a refused one runs nothing
unfoldable pub ran_call : Call → Store → Option Ran
ran_call c st = elim (refusal c st) [
  | zero ↦ elim (header c.request 0) [
    | got h at ↦ let zs = compound c.config st c.request h at in some (record { status = last_status (header_status h) zs; tag = h.tag; events = zs })
    | fault p ↦ none
  ]
  | suc k ↦ none
]

abbrev pub serving : Entry
serving = record {
  Tables = Store;
  Given = Call;
  store = λ st. st;
  good = λ g st. good_lengths g st && sound g st;
  geometry = λ c. c.config.geometry;
  buffer = λ c. c.buffer;
  answer = answer;
  ran = ran_call;
  Contract = Contract;
}

module _ (E : Entry) where
  -- P of each call, the tables that it got and what came of it: each call gets the tables as the last one left them
  abbrev pub Each : (E.Given → E.Tables → Outcome E.Tables → Type 0) → E.Tables → List E.Given → List (Outcome E.Tables) → Type 0
  Each P t [] [] = Unit {0}
  Each P t [] (o ∷ os) = ⊥
  Each P t (c ∷ cs) [] = ⊥
  Each P t (c ∷ cs) (o ∷ os) = P c t o × Each P o.store cs os

  -- the plain machine: fed with the first tables and then each call's other arguments alone
  unfoldable pub machine : E.Tables → List E.Given → List (Outcome E.Tables)
  machine t [] = []
  machine t (c ∷ cs) = E.answer c t ∷ machine (E.answer c t).store cs

  -- the operations reached by a call, and across the calls
  unfoldable pub events : E.Given → E.Tables → List Event
  events c t = elim (E.ran c t) [ none ↦ [] | some r ↦ r.events ]

  unfoldable pub history : E.Tables → List E.Given → List Event
  history t [] = []
  history t (c ∷ cs) = events c t ++ history (E.answer c t).store cs

-- ---- what a reply says

-- the results of the events zs stand in the reply from place `at` up to `end`, each read as a number, a status and a body
abbrev pub Results : List ℕ → ℕ → List Event → ℕ → Type 0
Results reply at [] end = at ≡ end
Results reply at (z ∷ zs) end = (next : ℕ)
    × ((result_layout (length z.body)).read reply at ≡ got (item_number z.item, (z.status, z.body)) next) × Results reply next zs end

-- A call that ran r: its reply, read, is the status, the tag and one result for each operation reached, up to the last byte written. The bytes
-- behind are as before. The status is the last result's.
pub record Says {L : Type 0} (buffer : List ℕ) (r : Ran) (o : Outcome L) : Type 0 where
  pub number : o.number ≡ 0
  pub start : ℕ
  pub head : reply_head.read o.reply 0 ≡ got (r.status, (r.tag, length r.events)) start
  pub results : Results o.reply start r.events o.written
  pub behind : drop o.written o.reply ≡ drop o.written buffer
  pub small : o.written ≤ 27184
  pub status : (pre : List Event) (z : Event) → r.events ≡ pre ++ (z ∷ []) → r.status ≡ z.status

-- ---- demand 1

-- a refused call
pub record Refused (E : Entry) (c : E.Given) (t : E.Tables) (o : Outcome E.Tables) : Type 0 where
  pub number : o.number ≤ 6
  pub read : o.read ≡ 0
  pub written : o.written ≡ 0
  pub reply : o.reply ≡ E.buffer c
  pub tables : o.store ≡ t
  pub nothing_run : E.ran c t ≡ none

-- the operations of a compound from state x on: each starts from the state that the one before left, the first that fails is the last, and
-- what they left stands
abbrev pub InOrder : State → List Event → Store → Type 0
InOrder x [] st = x.store ≡ st
InOrder x (z ∷ zs) st = (z.before ≡ x) × (z.status ≢ 0 → zs ≡ []) × InOrder z.after zs st

-- ---- an operation reached

abbrev pub OK : Event → Type 0
OK z = z.status ≡ 0

-- *Current* (document 01's term): file f is named by the current handle. The claim's field `current` says which one that is.
abbrev pub Current : Event → ℕ → Type 0
Current z f = z.before.current ≡ some f

-- z is a PUTFH (22) or a RESTOREFH (31)
abbrev pub sets_current : Event → Bool
sets_current z = eqb (item_number z.item) 22 || eqb (item_number z.item) 31

-- the file that the last of them set, or a where there is none
abbrev pub last_set : Option ℕ → List Event → Option ℕ
last_set a [] = a
last_set a (z ∷ zs) = last_set (cond (sets_current z) z.after.current a) zs

-- *Well-formed* (document 01's term): number and arguments of z decode without BADXDR, as operation o.
abbrev pub WellFormed : Event → Op → Type 0
WellFormed z o = (next : ℕ) × (z.item ≡ op o next)

-- z is the well-formed operation o, with file f current
abbrev pub Is : Event → Op → ℕ → Type 0
Is z o f = WellFormed z o × Current z f

-- the edit of an event, where it is an edit answered OK
unfoldable pub edit_done : Geometry → Event → Option Edit
edit_done g z = elim z.item [ op o next ↦ cond (eqb z.status 0) (edit_of g z.before o) none | bad k e ↦ none ]

-- ---- demand 2: the edits as edits of plain byte arrays, lists of bytes with neither slots nor blocks. A file's array is its content, and its
-- size the array's length.

-- zeros behind xs up to length n; xs itself if it is as long
unfoldable pub extend : List ℕ → ℕ → List ℕ
extend xs n = xs ++ replicate (n - length xs) 0

-- the bytes d from place off on, the array extended to their end; no bytes change nothing
unfoldable pub array_write : List ℕ → ℕ → List ℕ → List ℕ
array_write xs off d = cond (eqb (length d) 0) xs (splice (extend xs (off + length d)) off d)

-- zeros at those of the n places from off on that the array has; its length stays
unfoldable pub array_zero : List ℕ → ℕ → ℕ → List ℕ
array_zero xs off n = splice xs off (replicate (min n (length xs - off)) 0)

-- the array xs after an edit of n bytes; `files` gives the array of each file. CLONE also zeroes to the end of its last slot, as far as
-- the array reaches; no bytes change nothing.
unfoldable pub array_act : ℕ → (ℕ → List ℕ) → Edit → List ℕ → List ℕ
array_act B files e xs =
    let n = e.end - e.off in
    elim e.act [
      | write new ↦ array_write xs e.off (tabulate new e.off n)
      | copy s soff ↦ array_write xs e.off (take n (drop soff (files s)))
      | clone s soff ↦ cond (eqb n 0) xs (array_zero (array_write xs e.off (take n (drop soff (files s)))) e.end (ceil_div e.end B * B - e.end))
      | allocate ↦ extend xs e.end
      | deallocate ↦ array_zero xs e.off n
    ]

-- the array of file f after an edit, from the arrays before it: any file but the edit's keeps its own
unfoldable pub array_edit : Geometry → Store → Edit → ℕ → List ℕ
array_edit g st e f = cond (eqb f e.file) (array_act g.B (content g st) e (content g st f)) (content g st f)

-- the array of file f after an event
unfoldable pub array_after : Geometry → Event → ℕ → List ℕ
array_after g z f = elim (edit_done g z) [ none ↦ content g z.before.store f | some e ↦ array_edit g z.before.store e f ]

-- a piece's bytes, a hole as so many zeros
abbrev pub laid : Geometry → Store → ℕ → Piece → List ℕ
laid g st f p = cond p.hole (replicate p.size 0) (bytes_from g st f p.start p.size)

-- the first of the pieces starts at i, each later one where the one before ends
abbrev pub Follow : ℕ → List Piece → Type 0
Follow i [] = Unit {0}
Follow i (p ∷ ps) = (p.start ≡ i) × Follow (p.start + p.size) ps

-- neighbours differ in kind
abbrev pub Unlike : Bool → List Piece → Type 0
Unlike t [] = Unit {0}
Unlike t (p ∷ ps) = p.hole ≡ not t

abbrev pub Alternate : List Piece → Type 0
Alternate [] = Unit {0}
Alternate (p ∷ ps) = Unlike p.hole ps × Alternate ps

-- the pieces of READ_PLUS for n bytes of file f from place off on: laid end to end they are the bytes that READ gives; each place of a hole lies
-- in a slot that is a hole, each place of data in a slot that holds a block
pub record PiecesRight (g : Geometry) (st : Store) (f off n : ℕ) : Type 0 where
  pub laid : concat_map (laid g st f) (read_pieces g st f off n) ≡ bytes_from g st f off (read_count st f off n)
  pub starts : Follow off (read_pieces g st f off n)
  pub none_empty : (p : Piece) → Memᴰ p (read_pieces g st f off n) → 1 ≤ p.size
  pub alternate : Alternate (read_pieces g st f off n)
  pub inside : (p : Piece) → Memᴰ p (read_pieces g st f off n) → p.start + p.size ≤ min (off + granted n) (size_of st f)
  pub kinds : (p : Piece) → Memᴰ p (read_pieces g st f off n) → (i : ℕ) → p.start ≤ i → i < p.start + p.size → is_hole_at g st f i ≡ p.hole

-- What an operation reached leaves and shows: one that is answered with an error changes nothing; every file's bytes and size are as its
-- byte-array edit says; READ_PLUS's pieces are READ's bytes.
pub record Leaves (g : Geometry) (z : Event) : Type 0 where
  pub failed : z.status ≢ 0 → (z.after ≡ z.before) × (z.body ≡ [])
  pub contents : (f : ℕ) → f < g.F → content g z.after.store f ≡ array_after g z f
  pub size : (f : ℕ) → f < g.F → size_of z.after.store f ≡ length (array_after g z f)
  pub pieces : (i : List ℕ) (off n f : ℕ) → Is z (READ_PLUS i off n) f → OK z
      → (z.body ≡ read_plus_reply g z.before.store f off n) × PiecesRight g z.before.store f off n

-- ---- demand 3: reservation, read-back and NOSPC

-- *Slot of the region* (document 01's term): slot k has at least one byte in the region from o to e.
abbrev pub SlotOf : Geometry → ℕ → ℕ → ℕ → Type 0
SlotOf g o e k = (k * g.B < e) × (o < k * g.B + g.B)

-- z is an edit with file f as its target, answered OK
abbrev pub Edits : Geometry → ℕ → Event → Edit → Type 0
Edits g f z e = (edit_done g z ≡ some e) × (e.file ≡ f)

-- *Gives back* (document 01's term): z is a DEALLOCATE of file f, answered OK, that gives back slot k.
abbrev pub GivesBack : Geometry → ℕ → ℕ → Event → Type 0
GivesBack g f k z = (e : Edit) × Edits g f z e × (e.act ≡ deallocate) × (covers g (size_of z.before.store f) e.off e.end k ≡ true)

-- *Right after* (document 01's term): no edit with file f as target is answered OK in between; anything else may stand there.
abbrev pub RightAfter : Geometry → ℕ → List Event → Type 0
RightAfter g f mid = (z : Event) → Memᴰ z mid → (e : Edit) → Edits g f z e → ⊥

-- in the events zs stands a, then mid, then b
abbrev pub Between : List Event → Event → List Event → Event → Type 0
Between zs a mid b = (pre : List Event) × (post : List Event) × (zs ≡ pre ++ (a ∷ (mid ++ (b ∷ post))))

-- w is a WRITE of d at place p of file f, at least one byte, with the all-zero stateid, wholly inside the region from o to o + n. ALLOCATE was
-- answered OK for that region, and then no slot of it was given back.
pub record Allocated (g : Geometry) (zs : List Event) (f o n p : ℕ) (d : List ℕ) (w : Event) : Type 0 where
  pub a : Event
  pub mid : List Event
  pub between : Between zs a mid w
  pub id : List ℕ
  pub allocate : Is a (ALLOCATE id o n) f
  pub done : OK a
  pub kept : (z : Event) (k : ℕ) → Memᴰ z mid → SlotOf g o (o + n) k → GivesBack g f k z → ⊥
  pub stable : ℕ
  pub write : Is w (WRITE zero_id p stable d) f
  pub some_byte : 1 ≤ length d
  pub starts : o ≤ p
  pub ends : p + length d ≤ o + n

-- r is a READ of at most 2,048 bytes, n from place p of file f on, with the all-zero stateid, right after a WRITE of d at place o of that file
-- and inside what it wrote
pub record ReadAfter (g : Geometry) (zs : List Event) (f o p n : ℕ) (d : List ℕ) (r : Event) : Type 0 where
  pub w : Event
  pub mid : List Event
  pub between : Between zs w mid r
  pub id : List ℕ
  pub stable : ℕ
  pub write : Is w (WRITE id o stable d) f
  pub done : OK w
  pub right_after : RightAfter g f mid
  pub read : Is r (READ zero_id p n) f
  pub starts : o ≤ p
  pub ends : p + n ≤ o + length d
  pub granted : n ≤ 2048

-- its body: eof, and exactly the bytes written there; o ≤ p
abbrev pub ReadsBack : ℕ → ℕ → ℕ → ℕ → List ℕ → Event → Type 0
ReadsBack f o p n d r = r.body ≡ read_result.write (is_at_end r.before.store f p n, take n (drop (p - o) d))

-- NOSPC exactly: no earlier error, and used + owed, counted after, don't fit the pool
pub record NospcExactly (g : Geometry) (z : Event) : Type 0 where
  pub decoded : (o : Op) (next : ℕ) → z.item ≡ op o next
      → (z.status ≡ NOSPC) ↔ ((first (errors g z.before o) ≡ 0) × (fits_pool g.N (counted_after g z.before o) ≡ false))
  pub undecoded : (k e : ℕ) → z.item ≡ bad k e → z.status ≢ NOSPC

-- ---- the claim

pub record Promise (E : Entry) (g : Geometry) (t : E.Tables) (cs : List E.Given) (os : List (Outcome E.Tables)) : Type 0 where
  -- after every call number, counts, place, reply buffer and every byte of the tables are the machine's
  pub equal : os ≡ machine E t cs
  -- after every call the store is sound
  pub sound_after : Each E (λ c t o. E.good g o.store ≡ true) t cs os
  -- the reply of a call that ran says what its operations answered; a refused call changes nothing
  pub replies : Each E (λ c t o. (r : Ran) → E.ran c t ≡ some r → Says (E.buffer c) r o) t cs os
  pub refused : Each E (λ c t o. o.number ≢ 0 → Refused E c t o) t cs os
  -- its operations follow one another, from no handle and the store that it got to the store that it leaves
  pub in_order : Each E (λ c t o. InOrder (fresh (E.store t)) (events E c t) (E.store o.store)) t cs os
  -- the current handle is what the last PUTFH or RESTOREFH before it in its compound set
  pub current : Each E (λ c t o. (pre : List Event) (z : Event) (post : List Event) → events E c t ≡ pre ++ (z ∷ post) → z.before.current ≡ last_set none pre) t cs os
  -- each operation edits plain byte arrays
  pub leaves : (z : Event) → Memᴰ z (history E t cs) → Leaves g z
  -- a WRITE into an allocated region is answered OK
  pub reservation : (f o n p : ℕ) (d : List ℕ) (w : Event) → Allocated g (history E t cs) f o n p d w → OK w
  -- a READ right after a WRITE gives the bytes written
  pub read_back : (f o p n : ℕ) (d : List ℕ) (r : Event) → ReadAfter g (history E t cs) f o p n d r → OK r × ReadsBack f o p n d r
  pub nospc : (z : Event) → Memᴰ z (history E t cs) → NospcExactly g z

-- P of every list of calls that starts from a sound store; served ones keep its geometry, in a refused one anything but the tables may be wrong
abbrev pub EveryList : (E : Entry) → (Geometry → E.Tables → List E.Given → List (Outcome E.Tables) → Type 0) → Type 0
EveryList E P = (g : Geometry) (t : E.Tables) → good_geometry g ≡ true → E.good g t ≡ true → (cs : List E.Given) (os : List (Outcome E.Tables))
    → Each E E.Contract t cs os → Each E (λ c t o. o.number ≡ 0 → E.geometry c ≡ g) t cs os → P g t cs os

abbrev pub Claim : Entry → Type 0
Claim E = EveryList E (Promise E)

-- P of every operation that such a list reaches
abbrev pub EveryEvent : Entry → (Geometry → Event → Type 0) → Type 0
EveryEvent E P = EveryList E (λ g t cs os. (z : Event) → Memᴰ z (history E t cs) → P g z)
