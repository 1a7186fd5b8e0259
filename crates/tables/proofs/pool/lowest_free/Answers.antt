use native.Mathlib.Omega.{arith}
use Rattle.tables.proofs.PoolLaws.{first_here, first_behind}
use Rattle.tables.proofs.pool.lowest_free.Goals as goal

pub returns-then-n-eq0 : goal.returns-then-n-eq0
returns-then-n-eq0 c =
    first_here _ _ c.loop-block.invariant (λ k. c.held_from-n.ensures.free c.if-n-eq0.true)

pub loop-block-preserved : goal.loop-block-preserved
loop-block-preserved c =
    first_behind _ _ c.loop-block.invariant _ c.held_from-n.ensures

pub returns : goal.returns
returns c = first_here _ _ c.loop-block.invariant (λ k. absurd (omega (arith, k, c.loop-block-test.false)))
