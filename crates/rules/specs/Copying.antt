-- What keeping holes comes to (request K7): the slots that a COPY leaves, and the room that it saves.
use Rattle.std.specs.Prelude.{ℕ, ◌+◌, ◌%◌, ◌<◌, ◌≡◌, true, false, ◌&&◌, not, List}
use Rattle.std.proofs.Math.Option.{some}
use Rattle.rules.specs.Lists.{count_to}
use Rattle.rules.specs.Store.{Geometry, Store, word, is_reserved, word_of, hole_or_shared, byte_at, need}
use Rattle.rules.specs.Edit.{Edit, copy, writing, first_slot, slot_count, source_place, clears, edited}
use Rattle.rules.specs.Claim.{Entry, SlotOf, edit_done, EveryEvent}

-- the WRITE of the bytes that a COPY stores, from file s at soff
abbrev pub as_write : Geometry → Store → Edit → ℕ → ℕ → Edit
as_write g st e s soff = writing e.file e.off e.end (λ p. byte_at g st s (source_place e soff p))

-- how many slots of its region become holes and are not reserved
unfoldable pub saved_slots : Geometry → Store → Edit → ℕ → ℕ → ℕ
saved_slots g st e s soff = count_to (slot_count g e.off e.end)
    (λ j. let k = first_slot g e.off + j in clears g st e s soff k && not (is_reserved (word_of g st.words e.file k)))

-- The words after a COPY e of store st, of at least one byte: a slot that it clears is a hole, any other of its region has a block that no
-- other slot holds; each keeps its r. used + owed is what a WRITE of the same bytes would leave, less one for each slot that was cleared and is
-- not reserved.
pub record KeepsHoles (g : Geometry) (st : Store) (e : Edit) (s soff : ℕ) (after : List ℕ) : Type 0 where
  pub hole : (k : ℕ) → clears g st e s soff k ≡ true → word_of g after e.file k ≡ word 0 (word_of g st.words e.file k % 2)
  pub block : (k : ℕ) → SlotOf g e.off e.end k → clears g st e s soff k ≡ false
      → (hole_or_shared after (word_of g after e.file k) ≡ false) × (word_of g after e.file k % 2 ≡ word_of g st.words e.file k % 2)
  pub room : need after + saved_slots g st e s soff ≡ need (edited g st (as_write g st e s soff)).words

-- of every COPY, answered OK, that a list of calls reaches, as in the claim
abbrev pub CopyingClaim : Entry → Type 0
CopyingClaim E = EveryEvent E (λ g z. (e : Edit) (s soff : ℕ) → edit_done g z ≡ some e → e.act ≡ copy s soff → e.off < e.end
    → KeepsHoles g z.before.store e s soff z.after.store.words)
