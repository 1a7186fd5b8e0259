-- What the calls that show a slot promise: the bytes, and where they lie.
use Rattle.std.specs.Prelude.{ℕ, ◌≡◌, Bool, true, cond, List, Result, Ok, Err}
use Rattle.xdr.specs.Part.{place_of}
use Rattle.rules.specs.Store.{Geometry, Store}
use Rattle.rules.specs.Calls.{slot_refusal, slot_view, slot_is_hole, slot_start}
use Rattle.tables.specs.Lent.{Slice}
use Rattle.tables.specs.declared.refusal.Refusal.{Refusal}
use Rattle.tables.specs.declared.view.Place.{Place}

-- the refusal, whether the part is of the page, and where it starts
pub record PlacePromise (g : Geometry) (st : Store) (page : List ℕ) (f k number : ℕ) (hole : Bool) (start : ℕ) : Type 0 where
  pub number_is : number ≡ slot_refusal g st page f k
  pub hole_is : hole ≡ slot_is_hole g st page f k
  pub start_is : start ≡ slot_start g st page f k

-- r is a part of the block memory, or of the zero page for a hole and on a refusal
pub record ViewPromise (g : Geometry) (st : Store) (mem page : Slice) (f k : ℕ) (r : Slice) : Type 0 where
  pub bytes_are : r.now ≡ slot_view g st page.now f k
  pub starts : r.ref_ptr ≡ place_of (cond (slot_is_hole g st page.now f k) page mem) (slot_start g st page.now f k)

-- what is told of a place: a refusal shows the page's start, as a hole does
abbrev pub hole_told : Result Place Refusal → Bool
hole_told (Ok p) = p.hole
hole_told (Err r) = true

abbrev pub start_told : Result Place Refusal → ℕ
start_told (Ok p) = p.start
start_told (Err r) = 0
