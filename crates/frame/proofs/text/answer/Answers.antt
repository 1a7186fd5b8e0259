use Rattle.frame.proofs.ReadLaws.{answer-inside, answered}
use Rattle.frame.proofs.text.answer.Goals as goal

pub bounds-out-at : goal.bounds-out-at
bounds-out-at c = answer-inside _ _ c.args.out.now c.args.at c.requires c.serve_line-n.ensures.line

pub returns-clause-answered : goal.returns-clause-answered
returns-clause-answered c = answered _ _ c.args.out.now c.args.at c.requires c.serve_line-n.ensures.line
