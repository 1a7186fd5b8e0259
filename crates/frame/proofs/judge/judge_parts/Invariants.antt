use Rattle.std.proofs.Common.{length}
use Rattle.tables.specs.Loans.{lent_store, KeepsLoan}
use Rattle.frame.proofs.JudgeLaws.{JudgeLeft}
use Rattle.frame.proofs.judge.judge_parts.Given as goal

abbrev pub invariant-loop-part : goal.invariant-loop-part
invariant-loop-part l = record {
  left : JudgeLeft l.initial.judge l.initial.line l.initial.out l.text (lent_store l.initial.lent) l.judge l.line l.out (lent_store l.lent) l.parts.rest.now;
  loan : KeepsLoan l.initial.lent l.lent;
}

abbrev pub decreases-loop-part : goal.decreases-loop-part
decreases-loop-part l = length l.parts.rest.now
