use native.Mathlib.Omega.{arith}
use Rattle.tables.specs.Tally.{owes_by}
use Rattle.rules.proofs.CountLaws.{count_most}
use Rattle.tables.proofs.pool.owed_slots.Goals as goal

pub overflow_add-sum : goal.overflow_add-sum
overflow_add-sum c = omega (arith, c.owed_from-slots.ensures.rest, count_most (owes_by c.args.counts.now) c.args.words.now)
