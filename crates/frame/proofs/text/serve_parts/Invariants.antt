use Rattle.std.proofs.Common.{length}
use Rattle.tables.specs.Loans.{lent_store, KeepsLoan}
use Rattle.frame.proofs.ReadLaws.{ReadLeft}
use Rattle.frame.proofs.text.serve_parts.Given as goal

abbrev pub invariant-loop-out : goal.invariant-loop-out
invariant-loop-out l = record {
  left : ReadLeft (lent_store l.initial.lent) l.initial.line l.initial.out l.text l.kept (lent_store l.lent) l.line l.out l.p l.parts.rest.now;
  loan : KeepsLoan l.initial.lent l.lent;
}

abbrev pub decreases-loop-out : goal.decreases-loop-out
decreases-loop-out l = length l.parts.rest.now
