use Rattle.std.proofs.Common.{rules, arith}
use Rattle.frame.proofs.TextLaws.{copied, keep-more}
use Rattle.frame.proofs.text.keep.Goals as goal

pub returns : goal.returns
returns c =
    keep-more _ _ _ c.requires.0 c.requires.1 c.min-n.ensures (copied _ _ _ _ _ (omega (arith, c.min-n.ensures)) (search rules))
