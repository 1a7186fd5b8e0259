use Rattle.std.proofs.Common.{rules}
use Rattle.frame.proofs.JudgeLaws.{judge_start, judge_fits, judge_more, judge_end}
use Rattle.frame.proofs.judge.judge_parts.Goals as goal

pub loop-part-init : goal.loop-part-init
loop-part-init c = record { left = judge_start _ _ _ _ _; loan = search rules }

pub judge_part-judge-requires : goal.judge_part-judge-requires
judge_part-judge-requires c = judge_fits c.loop-part.invariant.left c.requires

pub loop-part-preserved : goal.loop-part-preserved
loop-part-preserved c =
    let a = c.judge_part-judge.auto in
    record {
      left = judge_more c.loop-part.invariant.left c.in-Some.ensures.part (record { line_is = a.line; out_is = a.out }) c.judge_part-judge.ensures.judge_promise;
      loan = search rules;
    }

pub returns-clause-judge_promise : goal.returns-clause-judge_promise
returns-clause-judge_promise c = judge_end c.loop-part.invariant.left c.in_default.ensures.part
