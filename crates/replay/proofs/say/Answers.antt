use Rattle.std.proofs.Common.{arith}
use Rattle.replay.proofs.Read.{line_alone}
use Rattle.replay.proofs.say.Goals as goal

pub returns : goal.returns
returns g c = rw (line_alone c.args.verdict _ (omega arith) c.put_verdict-n.ensures) at c.write_all.ensures.bytes
