use Rattle.std.proofs.Common.{arith, sym, ◌∙◌}
use Rattle.frame.proofs.AlikeLaws.{alike_start, alike_more, alike_stop, alike_end}
use Rattle.frame.proofs.judge.alike.Goals as goal

pub loop-i-init : goal.loop-i-init
loop-i-init c = alike_start _ _ (omega arith) (omega arith) c.same_blocks-i.ensures

pub returns-then-lower : goal.returns-then-lower
returns-then-lower c =
    alike_stop c.loop-i.invariant (omega arith) (omega arith) (λ e. c.if-lower.true (c.lower.ensures ∙ e ∙ sym c.lower-in-loop-i.ensures))

pub loop-i-preserved : goal.loop-i-preserved
loop-i-preserved c = alike_more c.loop-i.invariant (omega arith) (omega arith) (sym c.lower.ensures ∙ c.if-lower.false ∙ c.lower-in-loop-i.ensures)

pub returns : goal.returns
returns c = omega (arith, alike_end c.loop-i.invariant (omega arith), c.loop-i.auto.i-end, c.same_blocks-i.ensures.within)
