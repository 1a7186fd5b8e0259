use Rattle.std.proofs.Common.{rules, ◌≡◌, true, sym, ◌∙◌}
use Rattle.std.proofs.lemmas.List.{take-replicate}
use Rattle.rules.specs.Store.{good_geometry}
use Rattle.rules.proofs.GeometryLaws.{lengths}
use Rattle.tables.specs.Lent.{geometry_of, tables}
use Rattle.xdr.proofs.EncodeLaws.{length-u64}
use Rattle.compound.proofs.ServeLaws.{refused-unsound}
use Rattle.compound.proofs.serving.serve_with.Goals as goal

pub invariant_of-view : goal.invariant_of-view
invariant_of-view g c =
    record { lengths = c.requires.lengths; fits = lengths (geometry_of c.args.geometry) (tables c.args.sizes.now c.args.words.now c.args.memory.now) c.requires.lengths }

pub judge_tables-requires : goal.judge_tables-requires
judge_tables-requires g c = take-replicate c.args.geometry.blocks g.row.N 0 c.requires.blocks

pub returns-then-not-judge_tables : goal.returns-then-not-judge_tables
returns-then-not-judge_tables g c =
    let good : good_geometry (geometry_of c.args.geometry) ≡ true = search rules in
    refused-unsound (geometry_of c.args.geometry) _ c.args.request.now c.args.reply.now (tables c.args.sizes.now c.args.words.now c.args.memory.now)
    good c.requires.lengths (length-u64 _) (sym c.judge_tables.ensures.judged ∙ c.if-not-judge_tables.true)
