use Rattle.std.proofs.Common.{rules}
use Rattle.frame.proofs.ReadLaws.{read_all, read_full, read_more}
use Rattle.frame.proofs.text.serve_parts.Goals as goal

pub returns-in_default-clause-read_promise : goal.returns-in_default-clause-read_promise
returns-in_default-clause-read_promise c = read_all c.loop-out.invariant.left c.requires.1 c.in_default.ensures.part

pub loop-out-preserved : goal.loop-out-preserved
loop-out-preserved c =
    let a = c.serve_part-p.auto in
    record {
      left = read_more c.loop-out.invariant.left _ c.serve_part-p.ensures.read_promise c.in-Some.ensures.part c.in-Some.ensures.size c.loop-out-test.true
          c.serve_part-p.ensures.kept_bound (record { line_is = a.line; out_is = a.out });
      loan = search rules;
    }

pub returns-clause-read_promise : goal.returns-clause-read_promise
returns-clause-read_promise c = read_full c.loop-out.invariant.left c.requires.1 c.loop-out-test.false
