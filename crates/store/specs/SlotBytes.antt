-- Storing an edit's bytes, slot by slot. Contracts cite these.
use Rattle.std.specs.Prelude.{ℕ, pred, ◌+◌, ◌*◌, ◌/◌, ◌^◌, ◌≤◌, ◌<◌, ◌-◌, ◌≡◌, ◌≢◌, ◌⊎◌, List, length}
use Rattle.rules.specs.Store.{Geometry, word_of}
use Rattle.store.specs.Readable.{Readable}

-- the block of word w starts at r
pub record Starts (g : Geometry) (w r : ℕ) : Type 0 where
  pub start : r ≡ pred (w / 2) * g.B
  pub end : r + g.B ≡ w / 2 * g.B

-- A slot's word goes from `old` to `new`: `new` names a block, and the blocks of both lie in the len bytes of block memory.
pub record Backed (g : Geometry) (len old new : ℕ) : Type 0 where
  pub block : 512 ≤ g.B
  pub block_most : g.B ≤ 4096
  pub some : 1 ≤ new / 2
  pub new_inside : new / 2 * g.B ≤ len
  pub old_inside : old / 2 * g.B ≤ len

-- Such a slot, with number k, is touched by the region from off up to end, whose places fit the code's numbers.
pub record Touched (g : Geometry) (len old new k off end : ℕ) : Type 0 where
  pub backed : Backed g len old new
  pub ordered : off ≤ end
  pub after : off < k * g.B + g.B
  pub before : k * g.B < end
  pub small : end + g.B < 2 ^ 64

-- ---- COPY: the bytes of file s from soff on, at the places from off up to end

-- slot k is touched, the bytes can be read, and no slot of s has its block
pub record SlotCopy (g : Geometry) (ws m : List ℕ) (s soff old new k off end : ℕ) : Type 0 where
  pub touched : Touched g (length m) old new k off end
  pub readable : Readable g ws m s (soff + (end - off))
  pub other : (q : ℕ) → q < g.S → word_of g ws s q / 2 ≢ new / 2

-- the block of word w lies apart from the n bytes at `to`
abbrev pub Apart : Geometry → ℕ → ℕ → ℕ → Type 0
Apart g w to n = (w / 2 * g.B ≤ to) ⊎ (to + n ≤ pred (w / 2) * g.B)

-- n bytes of file s from soff on can be read, and the blocks of its slots lie apart from the bytes at `to`
pub record Copyable (g : Geometry) (ws m : List ℕ) (s soff n to : ℕ) : Type 0 where
  pub readable : Readable g ws m s (soff + n)
  pub room : to + n ≤ length m
  pub apart : (q : ℕ) → q < g.S → Apart g (word_of g ws s q) to n
