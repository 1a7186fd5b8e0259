use Rattle.frame.proofs.BlockLaws.{found, missing}
use Rattle.frame.proofs.blocks.line_end.Goals as goal

pub returns-in-Some : goal.returns-in-Some
returns-in-Some c = found c.plain_blocks-at.ensures c.in-Some.ensures

pub returns-in-None : goal.returns-in-None
returns-in-None c = missing c.plain_blocks-at.ensures c.in-None.ensures
