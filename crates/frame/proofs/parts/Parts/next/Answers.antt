use Rattle.std.proofs.Common.{rules, sym, arith}
use lib.Seq.{length-take-le}
use Rattle.frame.proofs.BlockLaws.{index_le}
use Rattle.frame.proofs.TextLaws.{parts_rest}
use Rattle.frame.proofs.parts.Parts.next.Goals as goal

pub slice_bounds-result-end : goal.slice_bounds-result-end
slice_bounds-result-end c = sym (length-take-le _ _ (omega (arith, c.line_end-end.ensures, index_le c.args.self.now.rest.now)))

pub returns-clause-part : goal.returns-clause-part
returns-clause-part c = parts_rest _ _ _ (search rules) c.line_end-end.ensures c.from.ensures
