use Rattle.std.proofs.Common.{◌≡◌, length}
use native.Mathlib.Omega.{arith}
use Rattle.tables.proofs.GroupLaws.{all_step}
use Rattle.tables.proofs.groups.all_where.Goals as goal

pub loop-number-preserved : goal.loop-number-preserved
loop-number-preserved g c = λ p h. all_step p c.args.numbers.now c.loop-number.number-index (c.loop-number.invariant p h) (h _ _ c.passes-all.ensures)

pub returns : goal.returns
returns g c = λ p h.
    let e : c.loop-number.number-index ≡ length c.args.numbers.now = omega (arith, c.loop-number.auto.number-index-end, c.loop-number-test.false) in
    rw e at c.loop-number.invariant p h
