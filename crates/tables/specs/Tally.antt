-- The table of holders, filled by one pass over the slot words, and what is read off it.
use Rattle.std.specs.Prelude.{ℕ, zero, suc, pred, ◌+◌, ◌-◌, ◌/◌, ◌≤◌, ◌<◌, ◌≡◌, Bool, true, false, ◌&&◌, ◌||◌, List, [], ◌∷◌, length, get_or, set, drop, leb, ltb}
use Rattle.rules.specs.Lists.{count}
use Rattle.rules.specs.Store.{is_hole, is_reserved, holders}
use Rattle.rules.proofs.PlanLaws.{InPool}
use Rattle.tables.specs.Tables.{TableTrue}

-- a slot with word w holds one of n blocks
abbrev pub holds_one : ℕ → ℕ → Bool
holds_one n w = ltb 1 w && leb (w / 2) n

-- a slot is reserved
abbrev pub some_reserved : List ℕ → Bool
some_reserved ws = ltb 0 (count is_reserved ws)

-- so many slots hold a block, as their word is above 1, and one is reserved or none is
pub record SlotCounts (ws : List ℕ) (held : ℕ) (reserved : Bool) : Type 0 where
  pub held_is : held ≡ count (ltb 1) ws
  pub reserved_is : reserved ≡ some_reserved ws

-- the counts with one more for block k - 1; a hole's k is 0
unfoldable pub noted : ℕ → List ℕ → List ℕ
noted zero counts = counts
noted (suc b) counts = set counts b (get_or counts b 0 + 1)

-- the counts with one less for block k - 1; a hole's k is 0
unfoldable pub forgot : ℕ → List ℕ → List ℕ
forgot zero counts = counts
forgot (suc b) counts = set counts b (get_or counts b 0 - 1)

-- a slot with word w can be taken out of the counts: its block is in the table and has a holder
pub record Forgettable (w : ℕ) (counts : List ℕ) : Type 0 where
  pub pool : w / 2 ≤ length counts
  pub held : 0 < w / 2 → 0 < get_or counts (w / 2 - 1) 0

-- a slot with word w can be noted: its block is in the table, and no count grows too large
pub record Notable (w : ℕ) (counts : List ℕ) : Type 0 where
  pub pool : w / 2 ≤ length counts
  pub few : (b : ℕ) → b < length counts → get_or counts b 0 ≤ 65536

-- what is known of slots: that they hold blocks, or that there is room for holes to add nothing to
abbrev pub Known : Bool → Type 0 → Type 0 → Type 0
Known true held room = held
Known false held room = room

-- words noted one after the other: their blocks are in the table, and no count grows too large
pub record NotesFit (ws counts : List ℕ) : Type 0 where
  pub pool : InPool (length counts) ws
  pub few : (b : ℕ) → b < length counts → get_or counts b 0 + holders b ws ≤ 65536
  pub short : length ws ≤ 65536

-- the same of words that have each a number of the table
pub record NotesFitAs (held : Bool) (ws counts : List ℕ) : Type 0 where
  pub fits : NotesFit ws counts
  pub known : Known held ((i : ℕ) → i < length ws → 0 < get_or ws i 0 / 2) (length ws ≤ length counts)

-- each of the slots holds a block, if that is said of them
abbrev pub HoldAll : Bool → List ℕ → Type 0
HoldAll held ws = Known held ((i : ℕ) → i < length ws → 0 < get_or ws i 0 / 2) (Unit {0})

-- words that are noted in groups
pub record GroupsFit (held : Bool) (ws counts : List ℕ) : Type 0 where
  pub fits : NotesFit ws counts
  pub known : HoldAll held ws

-- the words from place i on are still to be noted, at least one
pub record NotesFitFrom (held : Bool) (ws counts : List ℕ) (i : ℕ) : Type 0 where
  pub known : HoldAll held ws
  pub pool : InPool (length counts) ws
  pub few : (b : ℕ) → b < length counts → get_or counts b 0 + holders b (drop i ws) ≤ 65536
  pub some : i < length ws

-- one holder more for each
pub record NotedAll (ws before after : List ℕ) : Type 0 where
  pub long : length after ≡ length before
  pub each : (b : ℕ) → b < length before → get_or after b 0 ≡ get_or before b 0 + holders b ws

-- the same for n slots from i on, at least one
pub record NotedFrom (ws : List ℕ) (i n : ℕ) (before after : List ℕ) : Type 0 where
  pub some : 0 < n
  pub inside : i + n ≤ length ws
  pub long : length after ≡ length before
  pub rest : (b : ℕ) → b < length before → get_or after b 0 + holders b (drop (i + n) ws) ≡ get_or before b 0 + holders b (drop i ws)

-- words that may name any block: those of the table do not grow too large
pub record Scannable (ws counts : List ℕ) : Type 0 where
  pub blocks : length counts ≤ 65536
  pub short : length ws ≤ 65536
  pub few : (b : ℕ) → b < length counts → get_or counts b 0 + holders b ws ≤ 65536

-- slots noted, and counted
pub record SlotsCounted (ws before : List ℕ) (held : ℕ) (reserved : Bool) (after : List ℕ) : Type 0 where
  pub noted : NotedAll ws before after
  pub slots : SlotCounts ws held reserved

-- ---- read off the table

-- slots that are looked up in it: their blocks are there, and they are few enough to count
pub record InTable (ws counts : List ℕ) : Type 0 where
  pub pool : InPool (length counts) ws
  pub some : 0 < length counts
  pub few : length ws ≤ 65536

-- a slot with word w is a hole or holds a shared block, by the counts
abbrev pub takes_by : List ℕ → ℕ → Bool
takes_by counts w = is_hole w || ltb 1 (get_or counts (pred (w / 2)) 0)

-- a slot with word w owes a block, by the counts (`owes` of Store)
abbrev pub owes_by : List ℕ → ℕ → Bool
owes_by counts w = takes_by counts w && is_reserved w

-- slots of which so many hold a block and one is reserved or none is, in a true table
pub record RoomKnown (held : ℕ) (reserved : Bool) (ws counts : List ℕ) : Type 0 where
  pub counted : TableTrue ws counts
  pub slots : SlotCounts ws held reserved

-- and so many blocks are used
pub record OwedKnown (held used : ℕ) (reserved : Bool) (ws counts : List ℕ) : Type 0 where
  pub room : RoomKnown held reserved ws counts
  pub used_is : used ≡ count (ltb 0) counts

-- of the n slots from i on, at least one, `owed` owe a block
pub record OwedFrom (ws counts : List ℕ) (i n owed : ℕ) : Type 0 where
  pub some : 0 < n
  pub inside : i + n ≤ length ws
  pub rest : owed + count (owes_by counts) (drop (i + n) ws) ≡ count (owes_by counts) (drop i ws)

-- the index of the first 0, or the length
unfoldable pub first_zero : List ℕ → ℕ
first_zero [] = 0
first_zero (zero ∷ xs) = 0
first_zero (suc x ∷ xs) = suc (first_zero xs)

-- the n blocks from b on have a holder; none where block b has none
pub record HeldFrom (counts : List ℕ) (b n : ℕ) : Type 0 where
  pub inside : b + n ≤ length counts
  pub held : (j : ℕ) → j < n → 0 < get_or counts (b + j) 0
  pub free : n ≡ 0 → get_or counts b 0 ≡ 0
