-- What is found of an operation before it is run: its first error, or what it does.
use Rattle.std.specs.Prelude.{ℕ, ◌<◌, ◌≡◌, true, cond, ◌||◌, not, Some, Result, IfOk, IfErr}
use Rattle.xdr.specs.declared.bytes.Span.{Span}
use Rattle.xdr.specs.Bytes.{part_of}
use Rattle.rules.specs.Lists.{first}
use Rattle.rules.specs.Store.{Store}
use Rattle.rules.specs.Operation.{Op, NOFILEHANDLE, BAD_STATEID}
use Rattle.rules.specs.Run.{State, no_file, read_stateid, zero_stateid, Does, sets, shows, edits, does, errors}
use Rattle.tables.specs.Lent.{geometry_of}
use Rattle.store.specs.Whole.{whole}
use Rattle.store.specs.Edits.{edit_from, ActKnown}
use Rattle.wire.specs.declared.operation.CloneArgs.{CloneArgs}
use Rattle.wire.specs.declared.status.Status.{Status}
use Rattle.wire.specs.Status.{number_of}
use Rattle.compound.specs.declared.check.Context.{Context}
use Rattle.compound.specs.declared.does.Does as Code
use Rattle.compound.specs.Runner.{file_in, state_of, first_of}
use Rattle.compound.specs.Shown.{view_bytes, edit_bytes}

abbrev pub store_in : Context → Store
store_in c = whole c.store.now

abbrev pub state_in : Context → State
state_in c = state_of c.handles (store_in c)

abbrev pub does_of : Context → Code.Does → Does
does_of c (Code.Does.Sets h) = sets (file_in h.current) (file_in h.saved)
does_of c (Code.Does.Shows f v) = shows (view_bytes (geometry_of c.store.now.geometry) (store_in c) f v)
does_of c (Code.Does.Edits e) = edits (edit_from e) (edit_bytes e)

-- what no error says of its file, and of its act
abbrev pub AllowedIn : Context → Code.Does → Type 0
AllowedIn c (Code.Does.Sets h) = Unit {0}
AllowedIn c (Code.Does.Shows f v) = f < c.store.now.geometry.files
AllowedIn c (Code.Does.Edits e) = ActKnown (geometry_of c.store.now.geometry) (store_in c) e.file e.off e.end e.act

-- of READ, READ_PLUS and SEEK: the first error of what comes first, or else k
abbrev pub first_reads : Context → Span → ℕ → ℕ
first_reads c d k = cond (no_file (file_in c.handles.current)) NOFILEHANDLE (cond (not (read_stateid (part_of c.request.now d))) BAD_STATEID k)

-- of WRITE, ALLOCATE and DEALLOCATE: the same
abbrev pub first_edits : Context → Span → ℕ → ℕ
first_edits c d k = cond (no_file (file_in c.handles.current)) NOFILEHANDLE (cond (not (zero_stateid (part_of c.request.now d))) BAD_STATEID k)

-- of COPY and CLONE: the first error of what comes first, or else k
abbrev pub first_pair : Context → CloneArgs → ℕ → ℕ
first_pair c a k =
    cond (no_file (file_in c.handles.saved) || no_file (file_in c.handles.current)) NOFILEHANDLE
    (cond (not (read_stateid (part_of c.request.now a.source)) || not (zero_stateid (part_of c.request.now a.target))) BAD_STATEID k)

-- source and file are the saved and the current one, and both stateids pass
pub record Paired (c : Context) (a : CloneArgs) (source file : ℕ) : Type 0 where
  pub saved : c.handles.saved ≡ Some source
  pub current : c.handles.current ≡ Some file
  pub readable : read_stateid (part_of c.request.now a.source) ≡ true
  pub editable : zero_stateid (part_of c.request.now a.target) ≡ true

-- r is the first error of operation o, NOSPC aside, or what it does
pub record Checked (c : Context) (o : Op) (r : Result Code.Does Status) : Type 0 where
  pub error : first_of r ≡ first (errors (geometry_of c.store.now.geometry) (state_in c) o)
  pub failed : IfErr r (λ e. 0 < number_of e)
  pub does : IfOk r (λ d. does_of c d ≡ does (geometry_of c.store.now.geometry) (state_in c) o)
  pub allowed : IfOk r (λ d. AllowedIn c d)
