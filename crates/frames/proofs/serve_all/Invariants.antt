use Rattle.std.proofs.Common.{◌≤◌, take}
use Rattle.tables.specs.Loans.{lent_store}
use Rattle.frames.proofs.Answers.{Served}
use Rattle.frames.proofs.serve_all.Given as goal

abbrev pub invariant-loop : goal.invariant-loop
invariant-loop g l = record {
  few : l.kept ≤ 8193;
  served : Served (g.R.Read.remaining l.fn.from) (g.R.Read.remaining l.from) (g.W.Write.contents l.fn.to) (g.W.Write.contents l.to) (lent_store l.fn.lent)
      (lent_store l.lent) (take l.kept l.line) l.counter;
}
