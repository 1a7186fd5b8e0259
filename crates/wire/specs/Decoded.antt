-- What the request's readers found: a span stands for its bytes.
use Rattle.std.specs.Prelude.{ℕ, Bool, List, Result, Ok, Err, eqb}
use Rattle.std.proofs.Math.Option.{Option, none, some}
use Rattle.xdr.specs.declared.bytes.Span.{Span}
use Rattle.xdr.specs.Bytes.{part_of}
use Rattle.xdr.specs.Decode.{Parsed, got, fault, numbers}
use Rattle.wire.specs.declared.operation.ReadArgs.{ReadArgs}
use Rattle.wire.specs.declared.operation.WriteArgs.{WriteArgs}
use Rattle.wire.specs.declared.operation.RegionArgs.{RegionArgs}
use Rattle.wire.specs.declared.operation.CloneArgs.{CloneArgs}
use Rattle.wire.specs.declared.operation.CopyArgs.{CopyArgs}
use Rattle.wire.specs.declared.operation.Operation.{Operation}
use Rattle.wire.specs.declared.operation.Ending.{Ending}
use Rattle.wire.specs.declared.operation.Header as read
use Rattle.wire.specs.declared.status.Status.{Status}
use Rattle.wire.specs.Status.{number_of}
use Rattle.rules.specs.Fault.{NOWHERE}
use Rattle.rules.specs.Operation.{Op, GETATTR, GETFH, RESTOREFH, SAVEFH, PUTFH, READ, READ_PLUS, WRITE, ALLOCATE, DEALLOCATE, SEEK, COPY, CLONE, Item, op, bad, Header}

-- ---- arguments, in the order of their layouts

abbrev pub handle_view : List ℕ → Span → List ℕ
handle_view s d = part_of s d

abbrev pub bitmap_view : List ℕ → Span → List ℕ
bitmap_view s d = numbers (part_of s d)

abbrev pub read_view : List ℕ → ReadArgs → List ℕ × (ℕ × ℕ)
read_view s a = (part_of s a.stateid, (a.offset, a.count))

abbrev pub write_view : List ℕ → WriteArgs → List ℕ × (ℕ × (ℕ × List ℕ))
write_view s a = (part_of s a.stateid, (a.offset, (a.stable, part_of s a.data)))

abbrev pub region_view : List ℕ → RegionArgs → List ℕ × (ℕ × ℕ)
region_view s a = (part_of s a.stateid, (a.offset, a.length))

abbrev pub clone_view : List ℕ → CloneArgs → List ℕ × (List ℕ × (ℕ × (ℕ × ℕ)))
clone_view s a = (part_of s a.source, (part_of s a.target, (a.from, (a.to, a.count))))

-- with the number of source servers
abbrev pub copy_view : List ℕ → CopyArgs × ℕ → (List ℕ × (List ℕ × (ℕ × (ℕ × ℕ)))) × (Bool × (Bool × ℕ))
copy_view s (a, n) = (clone_view s a.clone, (eqb a.consecutive 1, (eqb a.synchronous 1, n)))

-- ---- operations

-- the operation that the code's stands for in request s
abbrev pub meaning : List ℕ → Operation → Op
meaning s (Operation.GetAttr d) = GETATTR (numbers (part_of s d))
meaning s Operation.GetFh = GETFH
meaning s (Operation.PutFh h) = PUTFH (part_of s h)
meaning s (Operation.Read a) = READ (part_of s a.stateid) a.offset a.count
meaning s Operation.RestoreFh = RESTOREFH
meaning s Operation.SaveFh = SAVEFH
meaning s (Operation.Write a) = WRITE (part_of s a.stateid) a.offset a.stable (part_of s a.data)
meaning s (Operation.Allocate a) = ALLOCATE (part_of s a.stateid) a.offset a.length
meaning s (Operation.Copy a) =
    COPY (part_of s a.clone.source) (part_of s a.clone.target) a.clone.from a.clone.to a.clone.count (eqb a.consecutive 1) (eqb a.synchronous 1)
meaning s (Operation.Deallocate a) = DEALLOCATE (part_of s a.stateid) a.offset a.length
meaning s (Operation.ReadPlus a) = READ_PLUS (part_of s a.stateid) a.offset a.count
meaning s (Operation.Seek a) = SEEK (part_of s a.stateid) a.offset a.count
meaning s (Operation.Clone a) = CLONE (part_of s a.source) (part_of s a.target) a.from a.to a.count

-- what the arguments make, as the rules read them: an operation, none that we serve, or a fault
abbrev pub read_of : List ℕ → Result Operation Status → ℕ → Parsed (Option Op)
read_of s (Ok o) at = got (some (meaning s o)) at
read_of s (Err Status.BadXdr) at = fault at
read_of s (Err e) at = got none at

abbrev pub ending_of : Ending → Item
ending_of e = bad e.number (number_of e.status)

abbrev pub item_of : List ℕ → Result Operation Ending → ℕ → Item
item_of s (Ok o) at = op (meaning s o) at
item_of s (Err e) at = ending_of e

-- the place of the fault, if there is one
abbrev pub fault_place : Status → ℕ → ℕ
fault_place Status.BadXdr at = at
fault_place e at = NOWHERE

abbrev pub fault_in : Result Operation Ending → ℕ → ℕ
fault_in (Ok o) at = NOWHERE
fault_in (Err e) at = fault_place e.status at

-- ---- the header

abbrev pub header_of : List ℕ → read.Header → Header
header_of s h = record { tag = part_of s h.tag; minor = h.minor; ops = h.ops }
