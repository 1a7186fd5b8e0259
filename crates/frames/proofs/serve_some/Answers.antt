use Rattle.frames.specs.Stopped.{unanswered}
use Rattle.frames.proofs.PieceLaws.{on_err}
use Rattle.frames.proofs.serve_some.Goals as goal

pub returns-in_err-kept-clause-failed : goal.returns-in_err-kept-clause-failed
returns-in_err-kept-clause-failed g c =
    on_err c.from_residual-in_err-kept.result (unanswered c.in_ok-n.n c.in_ok-n.ensures.bound.0 c.in_err-kept.ensures.stopped)
