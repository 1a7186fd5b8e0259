use Rattle.std.proofs.Common.{◌≡◌}
use Rattle.tables.specs.Loans.{lent_store}
use Rattle.replay.proofs.Read.{Read}
use Rattle.replay.proofs.judge_all.Given as goal

abbrev pub invariant-loop : goal.invariant-loop
invariant-loop g l = record {
  read : Read (g.R.Read.remaining l.fn.from) (g.R.Read.remaining l.from) l.judge l.line l.out (lent_store l.lent) l.counter;
  kept : g.W.Write.contents l.to ≡ g.W.Write.contents l.fn.to;
}
