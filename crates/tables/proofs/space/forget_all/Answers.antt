use Rattle.std.proofs.Common.{rules, ◌≡◌}
use native.Mathlib.Omega.{arith}
use Rattle.rules.specs.Lists.{bit}
use Rattle.tables.proofs.SpaceLaws.{forgetting_few, forgetting_more, forgetting_all}
use Rattle.tables.proofs.space.forget_all.Goals as goal

pub overflow_add-alone : goal.overflow_add-alone
overflow_add-alone c =
    let e : c.from-alone.result ≡ bit c.forget_last.result = search rules in
    omega (arith, forgetting_few c.requires (forgetting_more c.requires c.loop-word.invariant c.loop-word-test.true c.forget_last.ensures e))

pub loop-word-preserved : goal.loop-word-preserved
loop-word-preserved c =
    let e : c.from-alone.result ≡ bit c.forget_last.result = search rules in
    forgetting_more c.requires c.loop-word.invariant c.loop-word-test.true c.forget_last.ensures e

pub returns : goal.returns
returns c = forgetting_all c.requires c.loop-word.invariant c.loop-word-test.false
