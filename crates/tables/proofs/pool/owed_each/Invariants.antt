use Rattle.std.proofs.Common.{◌≡◌, ◌+◌, ◌≤◌, drop}
use Rattle.rules.specs.Lists.{count}
use Rattle.tables.specs.Tally.{owes_by}
use Rattle.tables.proofs.pool.owed_each.Given as goal

abbrev pub invariant-loop-word : goal.invariant-loop-word
invariant-loop-word l = (l.sum + count (owes_by l.counts) (drop l.word-index l.words) ≡ count (owes_by l.counts) l.words) × (l.sum ≤ l.word-index)
