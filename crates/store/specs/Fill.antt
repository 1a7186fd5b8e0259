-- The bytes of an edit, after its plan. Contracts cite these.
use Rattle.std.specs.Prelude.{ℕ, ◌+◌, ◌*◌, ◌≤◌, ◌<◌, ◌≡◌, true, List, ◌≢◌, length, take, drop}
use Rattle.rules.specs.Store.{Geometry, Store, size_of, word_of, byte_at, sound}
use Rattle.rules.specs.Edit.{owns, first_slot, slot_count, kind_of, plan}
use Rattle.rules.proofs.PlanLaws.{InPool}
use Rattle.tables.specs.Tables.{Shaped}
use Rattle.store.specs.declared.edit.Edit as CodeEdit
use Rattle.store.specs.Edits.{edit_from, ActKnown}
use Rattle.store.specs.Planner.{EditSlots}

-- e was planned for the sound store st, where its file has that size: `words` are the words that it leaves, all in the pool
pub record PlannedEdit (g : Geometry) (st : Store) (e : CodeEdit.Edit) (size : ℕ) (words : List ℕ) : Type 0 where
  pub shaped : Shaped g st
  pub sound : sound g st ≡ true
  pub edit : EditSlots g e
  pub act : ActKnown g st e.file e.off e.end e.act
  pub size_is : size ≡ size_of st e.file
  pub words_are : words ≡ plan g st (edit_from e)
  pub pool : InPool g.N words

-- none of its bytes is stored; `old` are the words of its slots in st
pub record Fills (g : Geometry) (st : Store) (e : CodeEdit.Edit) (size : ℕ) (old words mem : List ℕ) : Type 0 where
  pub planned : PlannedEdit g st e size words
  pub old_are : old ≡ take (slot_count g e.off e.end) (drop (e.file * g.S + first_slot g e.off) st.words)
  pub mem_is : mem ≡ st.mem

-- some of its slots are stored: the other files have their bytes still
pub record Filling (g : Geometry) (st : Store) (e : CodeEdit.Edit) (size : ℕ) (words mem : List ℕ) : Type 0 where
  pub planned : PlannedEdit g st e size words
  pub long : length mem ≡ length st.mem
  pub others : (f i : ℕ) → f < g.F → f ≢ e.file → i < g.S * g.B
      → byte_at g (record { sizes = st.sizes; words = words; mem = mem }) f i ≡ byte_at g st f i

-- k is a slot of its region, with the word w in st
pub record SlotFills (g : Geometry) (st : Store) (e : CodeEdit.Edit) (size : ℕ) (words mem : List ℕ) (k w : ℕ) : Type 0 where
  pub filling : Filling g st e size words mem
  pub from : first_slot g e.off ≤ k
  pub to : k < first_slot g e.off + slot_count g e.off e.end
  pub word_is : w ≡ word_of g st.words e.file k

-- and is to have a block of its own
pub record SlotOwns (g : Geometry) (st : Store) (e : CodeEdit.Edit) (size : ℕ) (words mem : List ℕ) (k w : ℕ) : Type 0 where
  pub slot : SlotFills g st e size words mem k w
  pub kind : kind_of g st (edit_from e) k ≡ owns
