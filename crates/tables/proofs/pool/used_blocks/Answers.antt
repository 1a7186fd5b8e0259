use Rattle.std.proofs.Common.{rules}
use native.Mathlib.Omega.{arith}
use lib.Dec.{ltb, eqb}
use Rattle.tables.proofs.GroupLaws.{count-two, zero_sides}
use Rattle.tables.proofs.pool.used_blocks.Goals as goal

pub overflow_sub-result : goal.overflow_sub-result
overflow_sub-result c = omega (arith, c.count_where.ensures (λ n. eqb n 0) (λ n b h. search rules), count-two (ltb 0) (λ n. eqb n 0) zero_sides c.args.counts.now)

pub returns : goal.returns
returns c = omega (arith, c.count_where.ensures (λ n. eqb n 0) (λ n b h. search rules), count-two (ltb 0) (λ n. eqb n 0) zero_sides c.args.counts.now)
