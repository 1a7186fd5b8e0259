use Rattle.std.proofs.Common.{refl, rules}
use borrow.Author.Tests.{le-ltb}
use Rattle.frame.specs.Printing.{verdict_text}
use Rattle.frame.proofs.PrintLaws.{line_printed}
use Rattle.frame.proofs.verdict.put_verdict.Goals as goal

pub returns : goal.returns
unfolding verdict_text
returns c = rw (le-ltb _ _ c.if-out-lt-ROOM.false) (line_printed refl c.put_line.ensures (search rules))
