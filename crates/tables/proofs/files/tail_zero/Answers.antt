use Rattle.tables.specs.Lent.{geometry_of}
use mathlib.Core.Path.{◌∙◌}
use Rattle.tables.proofs.FileTests.{hole-tail, block-tail}
use Rattle.tables.proofs.files.tail_zero.Goals as goal

pub returns-then-block-eq0 : goal.returns-then-block-eq0
returns-then-block-eq0 c = hole-tail (geometry_of c.args.geometry) c.args.memory.now c.args.word c.args.from c.if-block-eq0.true

pub returns : goal.returns
returns c =
    c.zero_bytes.ensures ∙ block-tail (geometry_of c.args.geometry) c.args.memory.now c.args.word c.args.from c.if-block-eq0.false c.requires.1 c.requires.0
