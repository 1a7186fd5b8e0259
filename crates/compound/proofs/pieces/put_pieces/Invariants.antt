use Rattle.std.proofs.Common.{◌-◌, ◌≤◌}
use Rattle.tables.specs.Lent.{geometry_of}
use Rattle.store.specs.Whole.{whole}
use Rattle.compound.proofs.PieceLaws.{Left}
use Rattle.compound.proofs.pieces.put_pieces.Given as goal

abbrev pub invariant-loop-start : goal.invariant-loop-start
invariant-loop-start l = (l.count ≤ l.start)
    × Left (geometry_of l.store.geometry) (whole l.store) l.file l.from l.end l.fn.w l.start l.count l.w

abbrev pub decreases-loop-start : goal.decreases-loop-start
decreases-loop-start l = l.end - l.start
