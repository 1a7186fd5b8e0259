use Rattle.std.proofs.Common.{◌≡◌, ◌+◌, ◌-◌, ◌≤◌, length, drop}
use Rattle.rules.specs.Lists.{count}
use Rattle.tables.specs.Tally.{owes_by}
use Rattle.tables.proofs.pool.owed_slots.Given as goal

abbrev pub invariant-loop-i : goal.invariant-loop-i
invariant-loop-i l = (l.i ≤ length l.words) × (l.sum + count (owes_by l.counts) (drop l.i l.words) ≡ count (owes_by l.counts) l.words)

abbrev pub decreases-loop-i : goal.decreases-loop-i
decreases-loop-i l = length l.words - l.i
