use Rattle.std.proofs.Common.{arith, refl, ap}
use Rattle.frame.specs.Printing.{printed}
use Rattle.replay.proofs.Read.{read_none, read_more, read_all, told}
use Rattle.replay.proofs.judge_all.Goals as goal

pub loop-init : goal.loop-init
loop-init g c = record { read = rw c.new-judge.ensures (read_none _ c.requires.empty c.requires.line c.requires.out); kept = refl }

pub returns-in_default : goal.returns-in_default
returns-in_default g c =
    let all = rw c.in_default.is at c.in_ok-n.ensures.read in
    rw (← c.loop.invariant.kept)
    (told c.say.result _ _ _ c.say.ensures (ap printed c.judged.ensures) (read_all c.loop.invariant.read _ all.0 all.1))

pub loop-preserved : goal.loop-preserved
loop-preserved g c = record {
  read = read_more c.loop.invariant.read _ (rw c.in-Some.is at c.in_ok-n.ensures.read) c.judge_text-judge.ensures.judge_promise (omega arith) (omega arith) (rw c.in-Some.is at c.in_ok-n.ensures.some) _ (omega arith);
  kept = c.loop.invariant.kept;
}
