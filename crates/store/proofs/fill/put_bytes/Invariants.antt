use Rattle.rules.specs.Store.{Store}
use Rattle.tables.specs.Lent.{geometry_of}
use Rattle.store.specs.Fill.{Fills}
use Rattle.store.proofs.FillLaws.{Putting}
use Rattle.store.proofs.fill.put_bytes.Given as goal

abbrev pub invariant-loop-i : goal.invariant-loop-i
invariant-loop-i l =
    (st : Store) → Fills (geometry_of l.g) st l.e l.size l.old l.words l.initial.mem → Putting (geometry_of l.g) st l.e l.size l.old l.words l.initial.mem l.mem l.i
