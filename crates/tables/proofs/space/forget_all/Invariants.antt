use Rattle.tables.proofs.SpaceLaws.{Forgetting}
use Rattle.tables.proofs.space.forget_all.Given as goal

abbrev pub invariant-loop-word : goal.invariant-loop-word
invariant-loop-word l = Forgetting l.words l.initial.counts l.counts l.alone l.word-index
