-- The edits (document 01, "The edits").
-- An edit gives the store that it would leave in a pool without end; whether the pool has room is judged afterwards, on those words.
use Rattle.std.specs.Prelude.{ℕ, suc, pred, ◌+◌, ◌-◌, ◌*◌, ◌/◌, ◌%◌, min, max, Bool, true, false, cond, ◌&&◌, ◌||◌, not, List, [], ◌∷◌, get_or, set, take, drop, replicate, leb, ltb}
use Rattle.xdr.specs.Bytes.{splice}
use Rattle.rules.specs.Lists.{each, all_to, ceil_div}
use Rattle.rules.specs.Store.{Geometry, Store, word, is_hole, size_of, word_of, hole_or_shared, lowest_free, byte_at}
use Rattle.rules.specs.Read.{is_hole_at}

-- what an edit does at the places of its region
pub data Act : Type 0 where
  -- the byte that goes to each place
  write : (ℕ → ℕ) → Act
  -- from a source: its file, and the offset in it
  copy clone : ℕ → ℕ → Act
  allocate deallocate : Act

-- an edit: its file, its region, from `off` up to `end`, and what it does there
pub record Edit : Type 0 where
  pub file : ℕ
  pub off : ℕ
  pub end : ℕ
  pub act : Act

-- an edit of file f, from off up to end; s and soff are a source
abbrev pub writing : ℕ → ℕ → ℕ → (ℕ → ℕ) → Edit
writing f off end new = record { file = f; off = off; end = end; act = write new }

abbrev pub copying : ℕ → ℕ → ℕ → ℕ → ℕ → Edit
copying f off end s soff = record { file = f; off = off; end = end; act = copy s soff }

abbrev pub cloning : ℕ → ℕ → ℕ → ℕ → ℕ → Edit
cloning f off end s soff = record { file = f; off = off; end = end; act = clone s soff }

abbrev pub allocating : ℕ → ℕ → ℕ → Edit
allocating f off end = record { file = f; off = off; end = end; act = allocate }

abbrev pub deallocating : ℕ → ℕ → ℕ → Edit
deallocating f off end = record { file = f; off = off; end = end; act = deallocate }

-- ---- the region

abbrev pub within : ℕ → ℕ → ℕ → Bool
within off end i = leb off i && ltb i end

-- its slots, those with at least one byte in it: the first, and how many they are
abbrev pub first_slot : Geometry → ℕ → ℕ
first_slot g off = off / g.B

abbrev pub slot_count : Geometry → ℕ → ℕ → ℕ
slot_count g off end = ceil_div end g.B - off / g.B

abbrev pub each_slot {ℓ} : {A : Type ℓ} → Geometry → Edit → (A → ℕ → A) → A → A
each_slot g e step a = each step a (first_slot g e.off) (slot_count g e.off e.end)

-- ---- what becomes of a slot of the region

pub data Kind : Type 0 where
  -- it gets an unshared block and keeps its r
  owns : Kind
  -- it is given back: word 0
  given : Kind
  -- it becomes a hole and keeps its r
  cleared : Kind
  -- it takes the block, or the hole, of the slot with that index, and keeps its r
  shares : ℕ → Kind
  -- its r is set
  reserved : Kind
  stays : Kind

-- all of slot k's bytes below the size, at least one, lie in the region
unfoldable pub covers : Geometry → ℕ → ℕ → ℕ → ℕ → Bool
covers g size off end k = leb off (k * g.B) && ltb (k * g.B) size && leb (min (k * g.B + g.B) size) end

-- the size that an edit leaves: the larger of the old size and the end; DEALLOCATE's region is cut at the size, which so stays
abbrev pub size_after : Store → Edit → ℕ
size_after st e = max (size_of st e.file) e.end

-- the place of the source that matches place p of the region
abbrev pub source_place : Edit → ℕ → ℕ → ℕ
source_place e soff p = soff + (p - e.off)

-- each place of slot k in the region is matched by a place of file s that lies in a hole
unfoldable pub from_holes : Geometry → Store → Edit → ℕ → ℕ → ℕ → Bool
from_holes g st e s soff k = all_to g.B (λ j. let p = k * g.B + j in not (within e.off e.end p) || is_hole_at g st s (source_place e soff p))

-- COPY makes slot k a hole (request K7): its bytes below the new size all lie in the region and are matched by holes alone
unfoldable pub clears : Geometry → Store → Edit → ℕ → ℕ → ℕ → Bool
clears g st e s soff k = covers g (size_after st e) e.off e.end k && from_holes g st e s soff k

-- slot k of the file; CLONE's source slots lie as its target slots do
unfoldable pub kind_of : Geometry → Store → Edit → ℕ → Kind
kind_of g st e k = elim e.act [
  | write new ↦ owns
  | copy s soff ↦ cond (clears g st e s soff k) cleared owns
  | clone s soff ↦ shares (s * g.S + soff / g.B + (k - first_slot g e.off))
  | allocate ↦ reserved
  | deallocate ↦ cond (covers g (size_of st e.file) e.off e.end k) given (cond (is_hole (word_of g st.words e.file k)) stays owns)
]

-- ---- the slot words: given-back and cleared slots first, then the others, each in rising order

-- the word of a slot that is to have an unshared block: its own, or the lowest free one where it is a hole or shared
unfoldable pub owned : List ℕ → ℕ → ℕ
owned ws w = cond (hole_or_shared ws w) (word (suc (lowest_free ws)) (w % 2)) w

-- the words with what becomes of slot i
unfoldable pub become : Kind → List ℕ → ℕ → List ℕ
become owns ws i = set ws i (owned ws (get_or ws i 0))
become given ws i = set ws i 0
become cleared ws i = set ws i (word 0 (get_or ws i 0 % 2))
become (shares p) ws i = set ws i (word (get_or ws p 0 / 2) (get_or ws i 0 % 2))
become reserved ws i = set ws i (word (get_or ws i 0 / 2) 1)
become stays ws i = ws

-- the slot becomes a hole, before any other takes a block
abbrev pub goes_first : Kind → Bool
goes_first owns = false
goes_first given = true
goes_first cleared = true
goes_first (shares p) = false
goes_first reserved = false
goes_first stays = false

-- the slot is to have a block of its own
abbrev pub is_owned : Kind → Bool
is_owned owns = true
is_owned given = false
is_owned cleared = false
is_owned (shares p) = false
is_owned reserved = false
is_owned stays = false

-- the slots whose kind passes the test
unfoldable pub pass : Geometry → Store → Edit → (Kind → Bool) → List ℕ → List ℕ
pass g st e p ws = each_slot g e (λ ws k. let c = kind_of g st e k in cond (p c) (become c ws (e.file * g.S + k)) ws) ws

unfoldable pub plan : Geometry → Store → Edit → List ℕ
plan g st e = pass g st e (λ c. not (goes_first c)) (pass g st e goes_first st.words)

-- ---- the bytes

-- the B bytes of the slot with word w
abbrev pub slot_bytes : Geometry → List ℕ → ℕ → List ℕ
slot_bytes g m w = cond (is_hole w) (replicate g.B 0) (take g.B (drop (pred (w / 2) * g.B) m))

-- the bytes xs of a file from place p on, with `new i` at each place i of the region
abbrev pub overlay : (ℕ → Bool) → (ℕ → ℕ) → ℕ → List ℕ → List ℕ
overlay region new p [] = []
overlay region new p (x ∷ xs) = cond (region p) (new p) x ∷ overlay region new (suc p) xs

-- Slot k of a file, whose word goes from w to w': the block of w' is the old slot's bytes (zeros for a hole), with the new bytes over them.
unfoldable pub store_slot : Geometry → (ℕ → Bool) → (ℕ → ℕ) → ℕ → ℕ → List ℕ → ℕ → List ℕ
store_slot g region new w w' m k = splice m (pred (w' / 2) * g.B) (overlay region new (k * g.B) (slot_bytes g m w))

-- the byte that goes to place p of the region, in a slot that gets a block of its own; CLONE and ALLOCATE have none
abbrev pub new_byte : Geometry → Store → Edit → ℕ → ℕ
new_byte g st e p = elim e.act [
  | write new ↦ new p
  | copy s soff ↦ byte_at g st s (source_place e soff p)
  | clone s soff ↦ 0
  | allocate ↦ 0
  | deallocate ↦ 0
]

-- slot k: only one that is to have a block of its own is written; a freed block keeps its bytes
unfoldable pub fill_slot : Geometry → Store → Edit → List ℕ → ℕ → List ℕ
fill_slot g st e m k = cond (is_owned (kind_of g st e k))
    (store_slot g (within e.off e.end) (new_byte g st e) (word_of g st.words e.file k) (word_of g (plan g st e) e.file k) m k) m

unfoldable pub edit_bytes : Geometry → Store → Edit → List ℕ
edit_bytes g st e = each_slot g e (fill_slot g st e) st.mem

-- ---- the store after the edit

-- an edit of no bytes changes nothing
unfoldable pub edited : Geometry → Store → Edit → Store
edited g st e = cond (leb e.end e.off) st
    (record { sizes = set st.sizes e.file (size_after st e); words = plan g st e; mem = edit_bytes g st e })
