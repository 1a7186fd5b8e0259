use Rattle.std.proofs.Common.{arith}
use Rattle.frame.proofs.ReadLaws.{part_goes_on, part-ends}
use Rattle.frame.proofs.text.serve_part.Goals as goal

pub returns-then-not-part-clause-read_promise : goal.returns-then-not-part-clause-read_promise
returns-then-not-part-clause-read_promise c = part_goes_on _ _ c.args.p c.args.line.now c.args.out.now _ c.keep-kept.ensures (omega arith) c.if-not-part.true (omega arith)

pub returns-clause-read_promise : goal.returns-clause-read_promise
returns-clause-read_promise c = part-ends _ _ c.args.p c.args.line.now c.args.out.now _ c.keep-kept.ensures (omega arith) c.if-not-part.false c.answer.ensures.answered
