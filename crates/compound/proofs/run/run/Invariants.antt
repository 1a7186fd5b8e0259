use Rattle.std.proofs.Common.{◌≡◌}
use Rattle.xdr.specs.Encode.{u64}
use Rattle.tables.specs.Lent.{geometry_of}
use Rattle.store.specs.Whole.{whole, KeepsWhole}
use Rattle.compound.specs.Runner.{state_of, Named}
use Rattle.compound.proofs.LoopLaws.{Held}
use Rattle.compound.proofs.run.run.Given as goal

abbrev pub invariant-loop-turn : goal.invariant-loop-turn
invariant-loop-turn l =
    KeepsWhole l.initial.store l.store
    × (l.reader.bytes ≡ l.initial.reader.bytes)
    × Named l.initial.store.geometry.files l.handles
    × Held (geometry_of l.initial.store.geometry) (u64 l.verifier) l.initial.reader.bytes.now (whole l.initial.store) l.operations l.initial.reader.at l.initial.w
    (state_of l.handles (whole l.store)) l.turn l.reader.at l.w
