use mathlib.Core.Path.{ap, ◌∙◌}
use Rattle.xdr.specs.Bytes.{splice}
use Rattle.xdr.proofs.BytesLaws.{put_zeroed}
use Rattle.tables.specs.Lent.{tables}
use Rattle.store.proofs.PlaceLaws.{read-hole, read-block}
use Rattle.store.proofs.copy_bytes.copy_part.Goals as goal

pub returns-then-k-eq0 : goal.returns-then-k-eq0
returns-then-k-eq0 c =
    λ sizes. put_zeroed _ _ _ _ c.requires.0.room (c.fill.ensures.after (λ y e. e))
    ∙ ap (splice c.args.mem.now c.args.to) (read-hole _ (tables sizes c.args.words.now c.args.mem.now) _ _ _ _ c.requires.0.readable c.requires.1 c.word_at.ensures c.if-k-eq0.true)

pub returns : goal.returns
returns c =
    λ sizes. c.copy_block.ensures
    ∙ ap (splice c.args.mem.now c.args.to) (read-block _ (tables sizes c.args.words.now c.args.mem.now) _ _ _ _ c.requires.0.readable c.requires.1 c.word_at.ensures c.if-k-eq0.false)
