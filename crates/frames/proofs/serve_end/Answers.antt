use Rattle.std.proofs.Common.{arith}
use Rattle.frames.proofs.Answers.{last_answer}
use Rattle.frames.proofs.serve_end.Goals as goal

pub returns-clause-answered : goal.returns-clause-answered
returns-clause-answered g c =
    rw (← last_answer _ _ _ _ c.serve_end-p.ensures.read_promise (omega arith) (omega arith) (omega arith)) c.write_all.ensures.bytes
