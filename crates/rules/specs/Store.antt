-- The store (document 01, "The store"): geometry, tables, blocks, a file's bytes, and when a store is sound.
use Rattle.std.specs.Prelude.{ℕ, zero, suc, pred, ◌+◌, ◌-◌, ◌*◌, ◌/◌, ◌%◌, max, Bool, true, false, cond, ◌&&◌, ◌||◌, List, [], ◌∷◌, length, get_or, replicate, leb, ltb, eqb}
use Rattle.rules.specs.Lists.{count, count_to, all_to, tabulate, ceil_div}

-- ---- geometry, in document 01's letters

-- F files of S slots, a pool of N blocks of B bytes
pub record Geometry : Type 0 where
  pub F : ℕ
  pub S : ℕ
  pub N : ℕ
  pub B : ℕ

unfoldable pub good_block_size : ℕ → Bool
good_block_size b = eqb b 512 || eqb b 1024 || eqb b 2048 || eqb b 4096

-- inside document 01's limits (refusal 1)
unfoldable pub good_geometry : Geometry → Bool
good_geometry g =
    (ltb 0 g.F && leb g.F 64) && (ltb 0 g.S && leb g.S 1024) && (ltb 0 g.N && leb g.N 65536) && good_block_size g.B

-- ---- the lent tables

-- F sizes, F × S slot words (file by file), N × B bytes of block memory
pub record Store : Type 0 where
  pub sizes : List ℕ
  pub words : List ℕ
  pub mem : List ℕ

-- the tables have the lengths of the geometry (refusal 2)
unfoldable pub good_lengths : Geometry → Store → Bool
good_lengths g st = eqb (length st.sizes) g.F && eqb (length st.words) (g.F * g.S) && eqb (length st.mem) (g.N * g.B)

-- an empty store: every table zero
unfoldable pub empty_store : Geometry → Store
empty_store g = record { sizes = replicate g.F 0; words = replicate (g.F * g.S) 0; mem = replicate (g.N * g.B) 0 }

-- a slot word is 2 × b + r: b is 0 for a hole, else block number + 1; r is 1 where reserved
abbrev pub word : ℕ → ℕ → ℕ
word b r = 2 * b + r

abbrev pub is_hole : ℕ → Bool
is_hole w = eqb (w / 2) 0

abbrev pub is_reserved : ℕ → Bool
is_reserved w = eqb (w % 2) 1

abbrev pub size_of : Store → ℕ → ℕ
size_of st f = get_or st.sizes f 0

-- slot k of file f
abbrev pub word_of : Geometry → List ℕ → ℕ → ℕ → ℕ
word_of g ws f k = get_or ws (f * g.S + k) 0

-- ---- blocks

-- a slot with word w holds block b
abbrev pub holds : ℕ → ℕ → Bool
holds b w = eqb (w / 2) (suc b)

-- how many slots hold block b
abbrev pub holders : ℕ → List ℕ → ℕ
holders b ws = count (holds b) ws

-- *Shared* (document 01's term): the block of w, which is no hole, is held by two slots or more.
abbrev pub is_shared : List ℕ → ℕ → Bool
is_shared ws w = ltb 1 (holders (pred (w / 2)) ws)

-- a slot with word w holds no block or a shared one
abbrev pub hole_or_shared : List ℕ → ℕ → Bool
hole_or_shared ws w = is_hole w || is_shared ws w

-- every block that a slot holds is below this number
abbrev pub block_bound : List ℕ → ℕ
block_bound [] = 0
block_bound (w ∷ ws) = max (w / 2) (block_bound ws)

-- *Used* (document 01's term): blocks held by at least one slot.
unfoldable pub used : List ℕ → ℕ
used ws = count_to (block_bound ws) (λ b. ltb 0 (holders b ws))

-- *Owed* (document 01's term): reserved slots that hold no block or a shared one; each counts 1.
abbrev pub owes : List ℕ → ℕ → Bool
owes ws w = hole_or_shared ws w && is_reserved w

unfoldable pub owed : List ℕ → ℕ
owed ws = count (owes ws) ws

-- used + owed, and whether a pool of n blocks has room for them
abbrev pub need : List ℕ → ℕ
need ws = used ws + owed ws

abbrev pub fits_pool : ℕ → List ℕ → Bool
fits_pool n ws = leb (need ws) n

-- *Free* (document 01's term): held by no slot.
abbrev pub is_free : List ℕ → ℕ → Bool
is_free ws b = eqb (holders b ws) 0

-- the first free block from b on, if it is among the next k; else b + k
abbrev pub free_from : List ℕ → ℕ → ℕ → ℕ
free_from ws zero b = b
free_from ws (suc k) b = elim (is_free ws b) [ true ↦ b | false ↦ free_from ws k (suc b) ]

-- The lowest-numbered free block. The pool is not looked at: where it has no free block, they are numbered on from N.
unfoldable pub lowest_free : List ℕ → ℕ
lowest_free ws = free_from ws (block_bound ws) 0

-- ---- a file's bytes: its slots in order, holes as zeros, cut at its size

-- byte j of the slot with word w: of its block, or 0 in a hole
abbrev pub slot_byte : Geometry → List ℕ → ℕ → ℕ → ℕ
slot_byte g m w j = cond (is_hole w) 0 (get_or m (pred (w / 2) * g.B + j) 0)

-- byte i of file f
unfoldable pub byte_at : Geometry → Store → ℕ → ℕ → ℕ
byte_at g st f i = slot_byte g st.mem (word_of g st.words f (i / g.B)) (i % g.B)

-- n bytes of file f from place i on
abbrev pub bytes_from : Geometry → Store → ℕ → ℕ → ℕ → List ℕ
bytes_from g st f i n = tabulate (byte_at g st f) i n

-- the file's bytes, cut at its size
abbrev pub content : Geometry → Store → ℕ → List ℕ
content g st f = bytes_from g st f 0 (size_of st f)

-- ---- *Sound* (document 01's term; refusal 3)

-- file f: its size at most S × B, its slots from ceil(size/B) on 0, and the bytes of its last slot past the size 0
unfoldable pub sound_file : Geometry → Store → ℕ → Bool
sound_file g st f =
    let n = size_of st f in
    leb n (g.S * g.B)
    && all_to g.S (λ k. ltb k (ceil_div n g.B) || eqb (word_of g st.words f k) 0)
    && all_to (ceil_div n g.B * g.B - n) (λ j. eqb (byte_at g st f (n + j)) 0)

-- words well formed, each file sound, and used + owed at most N
unfoldable pub sound : Geometry → Store → Bool
sound g st =
    all_to (g.F * g.S) (λ i. leb (get_or st.words i 0 / 2) g.N)
    && all_to g.F (sound_file g st)
    && fits_pool g.N st.words
