-- The attributes of a file (request K4; RFC 5661, 5.8 and 18.7; RFC 7862, 12.2): the room that it takes, bitmaps, values.
use Rattle.std.specs.Prelude.{ℕ, ◌+◌, ◌*◌, ◌/◌, ◌%◌, ◌^◌, max, Bool, cond, ◌&&◌, ◌||◌, not, List, [], ◌∷◌, ◌++◌, get_or, take, drop, ltb, eqb}
use Rattle.xdr.specs.Encode.{u32, u64, array}
use Rattle.rules.specs.Lists.{count, count_to, tabulate}
use Rattle.rules.specs.Store.{Geometry, Store, is_hole, is_reserved, size_of, holders, block_bound, owes}

-- ---- room

-- the slots of file f, and those of the other files
abbrev pub slots_of : Geometry → List ℕ → ℕ → List ℕ
slots_of g ws f = take g.S (drop (f * g.S) ws)

abbrev pub others_of : Geometry → List ℕ → ℕ → List ℕ
others_of g ws f = take (f * g.S) ws ++ drop (f * g.S + g.S) ws

-- a slot with word w holds a block or is reserved
abbrev pub takes_room : ℕ → Bool
takes_room w = not (is_hole w) || is_reserved w

-- space_used: B times the file's slots that hold a block or are reserved
unfoldable pub space_used : Geometry → List ℕ → ℕ → ℕ
space_used g ws f = g.B * count takes_room (slots_of g ws f)

-- block b is held by the file's slots and by no other file's
abbrev pub held_alone : List ℕ → List ℕ → ℕ → Bool
held_alone own others b = ltb 0 (holders b own) && eqb (holders b others) 0

-- such blocks, each once however many slots of the file hold it, and the file's owed slots
unfoldable pub freed_blocks : Geometry → List ℕ → ℕ → ℕ
freed_blocks g ws f = let own = slots_of g ws f in count_to (block_bound own) (held_alone own (others_of g ws f)) + count (owes ws) own

-- space_freed (house)
unfoldable pub space_freed : Geometry → List ℕ → ℕ → ℕ
space_freed g ws f = g.B * freed_blocks g ws f

-- ---- attributes

pub data Attr : Type 0 where
  SUPPORTED_ATTRS SIZE SPACE_USED CLONE_BLKSIZE SPACE_FREED : Attr

abbrev pub attr_number : Attr → ℕ
attr_number SUPPORTED_ATTRS = 0
attr_number SIZE = 4
attr_number SPACE_USED = 45
attr_number CLONE_BLKSIZE = 77
attr_number SPACE_FREED = 78

-- those that we have, in rising number
abbrev pub supported : List Attr
supported = SUPPORTED_ATTRS ∷ SIZE ∷ SPACE_USED ∷ CLONE_BLKSIZE ∷ SPACE_FREED ∷ []

-- those that pass the test
abbrev pub select : (Attr → Bool) → List Attr → List Attr
select p [] = []
select p (a ∷ xs) = cond (p a) (a ∷ select p xs) (select p xs)

-- ---- bitmaps: attribute n is bit n % 32 of word n / 32

-- a bitmap of words ws asks for attribute n
abbrev pub asks_for : List ℕ → ℕ → Bool
asks_for ws n = eqb (get_or ws (n / 32) 0 / 2 ^ (n % 32) % 2) 1

-- word i of the bitmap of attributes
abbrev pub bitmap_word : List Attr → ℕ → ℕ
bitmap_word [] i = 0
bitmap_word (a ∷ xs) i = cond (eqb (attr_number a / 32) i) (2 ^ (attr_number a % 32)) 0 + bitmap_word xs i

-- its words end with the one of the highest attribute, so that the last is not zero
abbrev pub bitmap_length : List Attr → ℕ
bitmap_length [] = 0
bitmap_length (a ∷ xs) = max (attr_number a / 32 + 1) (bitmap_length xs)

abbrev pub bitmap : List Attr → List ℕ
bitmap xs = tabulate (bitmap_word xs) 0 (bitmap_length xs)

-- ---- values

-- what a file's attributes say
pub record FileAttrs : Type 0 where
  pub size : ℕ
  pub space_used : ℕ
  pub clone_blksize : ℕ
  pub space_freed : ℕ

abbrev pub file_attrs : Geometry → Store → ℕ → FileAttrs
file_attrs g st f = record { size = size_of st f; space_used = space_used g st.words f; clone_blksize = g.B; space_freed = space_freed g st.words f }

-- an attribute's value as bytes
abbrev pub attr_value : FileAttrs → Attr → List ℕ
attr_value v SUPPORTED_ATTRS = array (bitmap supported)
attr_value v SIZE = u64 v.size
attr_value v SPACE_USED = u64 v.space_used
attr_value v CLONE_BLKSIZE = u32 v.clone_blksize
attr_value v SPACE_FREED = u64 v.space_freed
