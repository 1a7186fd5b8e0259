use mathlib.Core.Path.{sym}
use Rattle.tables.proofs.TallyLaws.{noted_one, group_fits, noted_group}
use Rattle.tables.proofs.tally.note_from.Goals as goal

pub note_each-requires : goal.note_each-requires
note_each-requires g c = group_fits c.args.words.now c.args.counts.now c.args.i (sym c.if-group_at.ensures) c.requires c.if-counts-ge-SIZE.true

pub returns-then-counts-ge-SIZE : goal.returns-then-counts-ge-SIZE
returns-then-counts-ge-SIZE g c = noted_group c.args.words.now c.args.counts.now c.args.i (sym c.if-group_at.ensures) c.note_each.ensures

pub returns : goal.returns
returns g c = rw c.note.ensures (noted_one c.args.words.now c.args.counts.now c.args.i c.requires.some)
