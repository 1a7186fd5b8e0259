-- The code's edit as a value of the rules, and what is known where it is applied. Contracts cite these.
use Rattle.std.specs.Prelude.{ℕ, ◌+◌, ◌*◌, ◌%◌, ◌≤◌, ◌<◌, ◌-◌, ◌≡◌, List, ◌≢◌, length, get_or}
use Rattle.rules.specs.Store.{Geometry, Store, size_of}
use Rattle.rules.specs.Edit.{Act, write, copy, clone, allocate, deallocate, Edit, Kind, owns, given, cleared, shares, reserved, stays}
use Rattle.store.specs.declared.edit.Source.{Source}
use Rattle.store.specs.declared.edit.Act as Code
use Rattle.store.specs.declared.edit.Edit as CodeEdit
use Rattle.store.specs.declared.edit.Kind as CodeKind
use Rattle.store.specs.EditPromises.{EditKnown}

-- ---- values

-- a WRITE's bytes go to the places from off on
abbrev pub act_from : Code.Act → ℕ → Act
act_from (Code.Act.Write d) off = write (λ p. get_or d.now (p - off) 0)
act_from (Code.Act.Copy s) off = copy s.file s.off
act_from (Code.Act.Clone s) off = clone s.file s.off
act_from Code.Act.Allocate off = allocate
act_from Code.Act.Deallocate off = deallocate

abbrev pub edit_from : CodeEdit.Edit → Edit
edit_from e = record { file = e.file; off = e.off; end = e.end; act = act_from e.act e.off }

abbrev pub kind_from : CodeKind.Kind → Kind
kind_from CodeKind.Kind.Owns = owns
kind_from CodeKind.Kind.Given = given
kind_from CodeKind.Kind.Cleared = cleared
kind_from (CodeKind.Kind.Shares p) = shares p
kind_from CodeKind.Kind.Reserved = reserved
kind_from CodeKind.Kind.Stays = stays

-- ---- where an edit is applied

-- n bytes of a source lie inside its file
pub record SourceInside (g : Geometry) (st : Store) (s : Source) (n : ℕ) : Type 0 where
  pub file : s.file < g.F
  pub inside : s.off + n ≤ size_of st s.file

-- a COPY's source is another file
pub record Copies (g : Geometry) (st : Store) (s : Source) (f n : ℕ) : Type 0 where
  pub source : SourceInside g st s n
  pub other : s.file ≢ f

-- a CLONE's offsets are multiples of B
pub record Clones (g : Geometry) (st : Store) (s : Source) (off n : ℕ) : Type 0 where
  pub source : SourceInside g st s n
  pub source_even : s.off % g.B ≡ 0
  pub target_even : off % g.B ≡ 0

-- what no error says of an act in file f, from off up to end
abbrev pub ActKnown : Geometry → Store → ℕ → ℕ → ℕ → Code.Act → Type 0
ActKnown g st f off end (Code.Act.Write d) = end ≡ off + length d.now
ActKnown g st f off end (Code.Act.Copy s) = Copies g st s f (end - off)
ActKnown g st f off end (Code.Act.Clone s) = Clones g st s off (end - off)
ActKnown g st f off end Code.Act.Allocate = Unit {0}
ActKnown g st f off end Code.Act.Deallocate = end ≤ size_of st f

-- a surveyed sound store, and an edit that no error forbids; one of no bytes may lie anywhere
pub record Applies (g : Geometry) (st : Store) (counts : List ℕ) (e : CodeEdit.Edit) : Type 0 where
  pub known : EditKnown g st counts e.file
  pub fits : e.off < e.end → e.end ≤ g.S * g.B
  pub act : ActKnown g st e.file e.off e.end e.act
