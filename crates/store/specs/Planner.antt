-- The plan of any edit in place: where it is made, and what its parts leave. Contracts cite these records.
use Rattle.std.specs.Prelude.{ℕ, ◌+◌, ◌*◌, ◌/◌, ◌≤◌, ◌<◌, ◌-◌, ◌≡◌, Bool, true, false, cond, not, List, ◌≢◌, length, get_or, take, drop, Result, is_ok, IfOk}
use Rattle.rules.specs.Store.{Geometry, good_geometry, Store, size_of, word_of, hole_or_shared, lowest_free, fits_pool}
use Rattle.rules.specs.Edit.{Edit, copying, first_slot, slot_count, Kind, owns, given, cleared, shares, reserved, stays, from_holes, goes_first, kind_of, become, pass, plan}
use Rattle.tables.specs.Tally.{first_zero}
use Rattle.tables.specs.Tables.{TableTrue}
use Rattle.store.specs.declared.edit.Source.{Source}
use Rattle.store.specs.declared.edit.Act as Code
use Rattle.store.specs.declared.edit.Edit as CodeEdit
use Rattle.store.specs.declared.edit.Pass as CodePass
use Rattle.store.specs.declared.edit.NoSpace.{NoSpace}
use Rattle.store.specs.Edits.{edit_from}
use Rattle.store.specs.Plan.{Planned, Outside}

-- ---- where a plan is made

-- the n places of a COPY's source lie in another file than f
pub record CopySource (g : Geometry) (s : Source) (f n : ℕ) : Type 0 where
  pub file : s.file < g.F
  pub other : s.file ≢ f
  pub fits : s.off + n ≤ g.S * g.B

-- where the source lies, for an act in file f from off up to end; the slots of a CLONE's lie in the table
abbrev pub SourceIn : Geometry → ℕ → ℕ → ℕ → Code.Act → Type 0
SourceIn g f off end (Code.Act.Write d) = Unit {0}
SourceIn g f off end (Code.Act.Copy s) = CopySource g s f (end - off)
SourceIn g f off end (Code.Act.Clone s) = s.file * g.S + s.off / g.B + slot_count g off end ≤ g.F * g.S
SourceIn g f off end Code.Act.Allocate = Unit {0}
SourceIn g f off end Code.Act.Deallocate = Unit {0}

-- an edit of at least one byte, inside its file
pub record EditSlots (g : Geometry) (e : CodeEdit.Edit) : Type 0 where
  pub geometry : good_geometry g ≡ true
  pub file : e.file < g.F
  pub some : e.off < e.end
  pub fits : e.end ≤ g.S * g.B
  pub source : SourceIn g e.file e.off e.end e.act

-- the words as they are now, and as many to save as e has slots
pub record Plannable (g : Geometry) (e : CodeEdit.Edit) (ws counts old : List ℕ) : Type 0 where
  pub edit : EditSlots g e
  pub counted : TableTrue ws counts
  pub slots : length ws ≡ g.F * g.S
  pub saves : length old ≡ slot_count g e.off e.end

-- one of its slots
pub record SlotOf (g : Geometry) (e : CodeEdit.Edit) (k : ℕ) : Type 0 where
  pub edit : EditSlots g e
  pub from : first_slot g e.off ≤ k
  pub to : k < first_slot g e.off + slot_count g e.off e.end

-- ---- a slot

-- a slot that is shared lies in a table of n
abbrev pub SharesIn : ℕ → Kind → Type 0
SharesIn n owns = Unit {0}
SharesIn n given = Unit {0}
SharesIn n cleared = Unit {0}
SharesIn n (shares p) = p < n
SharesIn n reserved = Unit {0}
SharesIn n stays = Unit {0}

-- the slots of every file but f have the same words
pub record Others (g : Geometry) (f : ℕ) (ws ws' : List ℕ) : Type 0 where
  pub same : (c q : ℕ) → c ≢ f → q < g.S → word_of g ws' c q ≡ word_of g ws c q

-- slot k of a COPY from s, with a word for each slot of the geometry
pub record CopySlot (g : Geometry) (e : CodeEdit.Edit) (s : Source) (ws : List ℕ) (k : ℕ) : Type 0 where
  pub slot : SlotOf g e k
  pub source : CopySource g s e.file (e.end - e.off)
  pub slots : length ws ≡ g.F * g.S

-- e as a COPY from s
abbrev pub copy_from : CodeEdit.Edit → Source → Edit
copy_from e s = copying e.file e.off e.end s.file s.off

-- whether slot k is matched by holes alone, in any store where the other files have those words
abbrev pub MatchedIs : Geometry → CodeEdit.Edit → Source → List ℕ → ℕ → Bool → Type 0
MatchedIs g e s ws k r = (st : Store) → Others g e.file ws st.words → r ≡ from_holes g st (copy_from e s) s.file s.off k

-- what becomes of slot k in a COPY from s, in any such store where e's file has that size
pub record CopyKindIs (g : Geometry) (e : CodeEdit.Edit) (s : Source) (size : ℕ) (ws : List ℕ) (k : ℕ) (c : Kind) : Type 0 where
  pub is : (st : Store) → size_of st e.file ≡ size → Others g e.file ws st.words → c ≡ kind_of g st (copy_from e s) k
  pub inside : SharesIn (g.F * g.S) c

-- a store where e's file has that size, its slot k that word, and the other files the words ws
pub record SlotSeen (g : Geometry) (e : CodeEdit.Edit) (size : ℕ) (ws : List ℕ) (k w : ℕ) (st : Store) : Type 0 where
  pub size_is : size_of st e.file ≡ size
  pub word_is : word_of g st.words e.file k ≡ w
  pub others : Others g e.file ws st.words

-- what becomes of slot k in any such store
pub record KindIs (g : Geometry) (e : CodeEdit.Edit) (size : ℕ) (ws : List ℕ) (k w : ℕ) (c : Kind) : Type 0 where
  pub is : (st : Store) → SlotSeen g e size ws k w st → c ≡ kind_of g st (edit_from e) k
  pub inside : SharesIn (g.F * g.S) c

-- slot i can be changed: its table is true, a slot that it shares lies in the table too, and no block below `from` is free
pub record Changeable (ws counts : List ℕ) (i : ℕ) (c : Kind) (from : ℕ) : Type 0 where
  pub counted : TableTrue ws counts
  pub slot : i < length ws
  pub source : SharesIn (length ws) c
  pub low : from ≤ first_zero counts

-- slot i is to own a block, takes one, and none of n is free
pub record NoBlock (c : Kind) (ws : List ℕ) (i n : ℕ) : Type 0 where
  pub asked : c ≡ owns
  pub wants : hole_or_shared ws (get_or ws i 0) ≡ true
  pub full : n ≤ lowest_free ws

-- slot i after its kind, and a number below which no block is free; an error, and nothing changed, where there is no block for the slot
pub record SlotChanged (c : Kind) (ws counts : List ℕ) (i : ℕ) (next : Result ℕ NoSpace) (after counts' : List ℕ) : Type 0 where
  pub words_are : after ≡ cond (is_ok next) (become c ws i) ws
  pub counted : TableTrue after counts'
  pub searched : IfOk next (λ b. b ≤ first_zero counts')
  pub stopped : is_ok next ≡ false → NoBlock c ws i (length counts)

-- ---- a pass

-- the kinds of a pass
abbrev pub in_pass : CodePass.Pass → Kind → Bool
in_pass CodePass.Pass.Holes c = goes_first c
in_pass CodePass.Pass.Others c = not (goes_first c)

-- in a pass that is not its own a slot stays
abbrev pub only : (Kind → Bool) → Kind → Kind
only p c = cond (p c) c stays

-- the index of e's first slot
abbrev pub index_of : Geometry → CodeEdit.Edit → ℕ
index_of g e = e.file * g.S + first_slot g e.off

-- the words of e's slots
abbrev pub words_of : Geometry → CodeEdit.Edit → List ℕ → List ℕ
words_of g e ws = take (slot_count g e.off e.end) (drop (index_of g e) ws)

-- a store where e's file has that size, its slots have the words `old`, and the other files have the words ws
pub record Seen (g : Geometry) (e : CodeEdit.Edit) (size : ℕ) (old ws : List ℕ) (st : Store) : Type 0 where
  pub size_is : size_of st e.file ≡ size
  pub words_are : old ≡ words_of g e st.words
  pub others : Others g e.file ws st.words

-- a pass over e's slots, of any such store; not done only where a slot takes a block, and then the words after the whole pass don't fit
pub record Passed (g : Geometry) (e : CodeEdit.Edit) (size : ℕ) (which : CodePass.Pass) (old ws : List ℕ) (done : Bool) (after counts : List ℕ) : Type 0 where
  pub counted : TableTrue after counts
  pub outside : Outside ws (index_of g e) (slot_count g e.off e.end) after
  pub words_are : done ≡ true → (st : Store) → Seen g e size old ws st → after ≡ pass g st (edit_from e) (in_pass which) ws
  pub stopped : done ≡ false → in_pass which owns ≡ true
  pub unfit : done ≡ false → (st : Store) → Seen g e size old ws st → fits_pool (length counts) (pass g st (edit_from e) (in_pass which) ws) ≡ false

-- ---- the plan

-- for every store with these words where e's file has that size; with the old words of e's slots
pub record EditPlanned (g : Geometry) (e : CodeEdit.Edit) (size : ℕ) (ws : List ℕ) (done : Bool) (after counts old : List ℕ) : Type 0 where
  pub planned : (sizes mem : List ℕ) → get_or sizes e.file 0 ≡ size
      → Planned ws (plan g (record { sizes = sizes; words = ws; mem = mem }) (edit_from e)) done after counts
  pub saved : old ≡ words_of g e ws
