use Rattle.std.proofs.Common.{rules, ◌≡◌, ltb}
use Rattle.rules.specs.Lists.{bit}
use Rattle.tables.proofs.TallyLaws.{noted_mixed}
use Rattle.tables.proofs.tally.note_mixed.Goals as goal

pub returns : goal.returns
returns c =
    let e : c.from.result ≡ bit (ltb 1 c.args.word) = search rules in
    rw (c.block_or-block.ensures, e) (noted_mixed _ _ _)
