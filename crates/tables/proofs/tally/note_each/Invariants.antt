use Rattle.tables.proofs.TallyLaws.{Noting}
use Rattle.tables.proofs.tally.note_each.Given as goal

abbrev pub invariant-loop-i : goal.invariant-loop-i
invariant-loop-i g l = Noting l.words l.initial.counts l.counts l.i
