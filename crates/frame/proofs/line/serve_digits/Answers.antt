use Rattle.frame.proofs.LineLaws.{line_refused, line-served}
use Rattle.frame.proofs.line.serve_digits.Goals as goal

pub returns-in_default-clause-line : goal.returns-in_default-clause-line
returns-in_default-clause-line c = line_refused _ (rw c.in_default.is at c.request_bytes.ensures) c.put_refusal.ensures

pub returns-clause-line : goal.returns-clause-line
returns-clause-line c = line-served _ c.in-Some.ensures c.serve_request.ensures.line
