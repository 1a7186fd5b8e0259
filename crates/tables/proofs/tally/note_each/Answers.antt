use Rattle.tables.proofs.TallyLaws.{noted_one, noting_more}
use Rattle.tables.proofs.tally.note_each.Goals as goal
use Rattle.tables.proofs.tally.note_each.Goals.{then-this-ne0, else-this-ne0}

pub loop-i-preserved : goal.loop-i-preserved
loop-i-preserved g c = elim c.if-this-ne0.branch [
  | then-this-ne0 w ↦ rw (w.counts-is, w.note_held.ensures) (noting_more c.loop-i.invariant (noted_one c.args.words.now c.loop-i.counts c.loop-i.i c.loop-i-test.true))
  | else-this-ne0 w ↦ rw (w.counts-is, w.note_mixed.ensures) (noting_more c.loop-i.invariant (noted_one c.args.words.now c.loop-i.counts c.loop-i.i c.loop-i-test.true))
]
