-- The steps of an edit, each of one slot, and the plans that are one run of them. EditForms shows that these are the plan and the bytes of the
-- rules.
use Prim.Native.Nat.{ℕ, ◌+◌, ◌*◌, ◌/◌, ◌%◌}
use mathlib.Core.Bool.{Bool, cond}
use mathlib.Core.List.{List}
use lib.ListN.{get_or, set}
use Rattle.rules.specs.Lists.{each, ceil_div}
use Rattle.rules.specs.Store.{Geometry, word}
use Rattle.rules.specs.Edit.{first_slot, slot_count, owned, store_slot}

-- ---- steps, each of one word. `at` is the index of the file's slot 0

unfoldable pub own : ℕ → List ℕ → ℕ → List ℕ
own at ws k = set ws (at + k) (owned ws (get_or ws (at + k) 0))

-- a slot that `skip` names stays, any other gets an unshared block
abbrev pub own_unless : (ℕ → Bool) → ℕ → List ℕ → ℕ → List ℕ
own_unless skip at ws k = cond (skip k) ws (own at ws k)

-- slot `to + k` takes the block, or the hole, of slot `from + k`, and keeps its own r
unfoldable pub share : ℕ → ℕ → List ℕ → ℕ → List ℕ
share from to ws k = set ws (to + k) (word (get_or ws (from + k) 0 / 2) (get_or ws (to + k) 0 % 2))

unfoldable pub reserve : ℕ → List ℕ → ℕ → List ℕ
reserve at ws k = set ws (at + k) (word (get_or ws (at + k) 0 / 2) 1)

-- the bytes of slot k, whose word goes from that of ws to that of ws'
unfoldable pub store_at : Geometry → ℕ → (ℕ → Bool) → (ℕ → ℕ) → List ℕ → List ℕ → List ℕ → ℕ → List ℕ
store_at g at region new ws ws' m k = store_slot g region new (get_or ws (at + k) 0) (get_or ws' (at + k) 0) m k

abbrev pub store_unless : (ℕ → Bool) → Geometry → ℕ → (ℕ → Bool) → (ℕ → ℕ) → List ℕ → List ℕ → List ℕ → ℕ → List ℕ
store_unless skip g at region new ws ws' m k = cond (skip k) m (store_at g at region new ws ws' m k)

-- ---- plans

unfoldable pub plan_write : Geometry → List ℕ → ℕ → ℕ → ℕ → List ℕ
plan_write g ws f off end = each (own (f * g.S)) ws (first_slot g off) (slot_count g off end)

unfoldable pub plan_allocate : Geometry → List ℕ → ℕ → ℕ → ℕ → List ℕ
plan_allocate g ws f off end = each (reserve (f * g.S)) ws (first_slot g off) (slot_count g off end)

unfoldable pub plan_clone : Geometry → List ℕ → ℕ → ℕ → ℕ → ℕ → ℕ → List ℕ
plan_clone g ws s f soff off n = each (share (s * g.S + soff / g.B) (f * g.S + off / g.B)) ws 0 (ceil_div n g.B)
