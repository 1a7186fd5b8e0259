use Rattle.std.proofs.Common.{rules}
use mathlib.Core.Path.{◌∙◌}
use lib.Dec.{eqb}
use Rattle.tables.specs.Lent.{geometry_of}
use Rattle.tables.proofs.FileTests.{slots-tail}
use Rattle.tables.proofs.files.slots_zero.Goals as goal

pub returns : goal.returns
returns c =
    c.all_where.ensures (λ n. eqb n 0) (λ n b h. search rules) ∙ slots-tail (geometry_of c.args.geometry) c.args.words.now c.args.file c.args.from c.requires.0 c.requires.1
