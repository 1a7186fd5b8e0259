use Rattle.std.proofs.Common.{ℕ, arith, length-take}
use Rattle.frame.proofs.LineLaws.{line-fits}
use Rattle.frame.proofs.JudgeLaws.{answers_first}
use Rattle.frame.proofs.judge.answers.Goals as goal

pub replies-requires : goal.replies-requires
replies-requires c = (omega arith, omega (arith, length-take {A = ℕ}, line-fits _ _ c.requires c.serve_line-n.ensures.line))

pub returns-clause-answers : goal.returns-clause-answers
returns-clause-answers c = answers_first c.requires c.serve_line-n.ensures.line c.replies.ensures
