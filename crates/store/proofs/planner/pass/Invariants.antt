use Rattle.tables.specs.Lent.{geometry_of}
use Rattle.store.proofs.PassLaws.{Passing}
use Rattle.store.proofs.planner.pass.Given as goal

abbrev pub invariant-loop-j : goal.invariant-loop-j
invariant-loop-j l = Passing (geometry_of l.g) l.e l.size l.which l.old l.initial.words l.initial.counts l.words l.counts l.j l.from
