-- The room that a file takes, by the table of holders: what is asked and answered, and the passes over the table.
use Rattle.std.specs.Prelude.{ℕ, pred, ◌+◌, ◌*◌, ◌/◌, ◌≤◌, ◌<◌, ◌≡◌, Bool, ◌&&◌, not, List, length, get_or, ltb, eqb}
use Rattle.rules.specs.Lists.{count, count_to}
use Rattle.rules.specs.Store.{Geometry, is_hole, holders}
use Rattle.rules.specs.Attributes.{slots_of, takes_room, freed_blocks}
use Rattle.rules.proofs.PlanLaws.{InPool}
use Rattle.tables.specs.Tables.{TableTrue}
use Rattle.tables.specs.Tally.{forgot, owes_by, InTable}

-- ---- the slots forgotten, one holder less for each

-- the table counts them among the holders of each block
pub record Counted (ws counts : List ℕ) : Type 0 where
  pub pool : InPool (length counts) ws
  pub held : (b : ℕ) → b < length counts → holders b ws ≤ get_or counts b 0

-- the block of word w has no holder
abbrev pub block_free : List ℕ → ℕ → Bool
block_free counts w = not (is_hole w) && eqb (get_or counts (pred (w / 2)) 0) 0

-- one slot forgotten, with word w; whether it was the last holder of its block
pub record ForgotLast (w : ℕ) (last : Bool) (before after : List ℕ) : Type 0 where
  pub table : after ≡ forgot (w / 2) before
  pub last_is : last ≡ block_free after w

-- by the counts, block b is held by slots ws and by no other
abbrev pub held_only : List ℕ → List ℕ → ℕ → Bool
held_only ws counts b = ltb 0 (holders b ws) && eqb (get_or counts b 0) (holders b ws)

-- all of them forgotten: n blocks have lost their last holder
pub record ForgotAll (ws : List ℕ) (n : ℕ) (before after : List ℕ) : Type 0 where
  pub long : length after ≡ length before
  pub each : (b : ℕ) → b < length before → get_or after b 0 + holders b ws ≡ get_or before b 0
  pub last : n ≡ count_to (length before) (held_only ws before)

-- ---- the room of slots, by the counts

pub record SlotsKnown (ws counts : List ℕ) : Type 0 where
  pub counted : Counted ws counts
  pub looked_up : InTable ws counts
  pub few : (b : ℕ) → b < length counts → get_or counts b 0 ≤ 65536

pub record SlotsSpace (ws : List ℕ) (used freed : ℕ) (before after : List ℕ) : Type 0 where
  pub used_is : used ≡ count (ltb 0) ws
  pub freed_is : freed ≡ count_to (length before) (held_only ws before) + count (owes_by before) ws
  pub table : after ≡ before

-- ---- the room of a file

-- Where a file's room is counted: a true table of holders, and the file's slots among the words.
pub record SpaceKnown (g : Geometry) (ws counts : List ℕ) (f : ℕ) : Type 0 where
  pub counted : TableTrue ws counts
  pub slots : length ws ≡ g.F * g.S
  pub file : f < g.F

-- the room of file f, in slots, and what emptying it frees, in blocks; the table is as before
pub record SpaceIs (g : Geometry) (ws : List ℕ) (f used freed : ℕ) (before after : List ℕ) : Type 0 where
  pub used_is : used ≡ count takes_room (slots_of g ws f)
  pub freed_is : freed ≡ freed_blocks g ws f
  pub table : after ≡ before
