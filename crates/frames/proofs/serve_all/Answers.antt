use Rattle.std.proofs.Common.{arith}
use Rattle.frames.proofs.Answers.{served_none, served_more, served_all}
use Rattle.frames.proofs.serve_all.Goals as goal

pub loop-init : goal.loop-init
loop-init g c = record { few = omega arith; served = served_none _ _ _ }

pub returns-in_default : goal.returns-in_default
returns-in_default g c = served_all c.loop.invariant.served (rw c.in_default.is at c.in_ok-k.ensures.answered)

pub loop-preserved : goal.loop-preserved
loop-preserved g c = record {
  few = rw c.in-Some.is at c.in_ok-k.ensures.kept_bound;
  served = served_more c.loop.invariant.served (rw c.in-Some.is at c.in_ok-k.ensures.answered) _ (omega arith);
}
