use mathlib.Core.Path.{sym, ◌∙◌}
use Rattle.tables.proofs.TallyLaws.{all_held, all-holes}
use Rattle.tables.proofs.tally.note_counted.Goals as goal

pub returns-then-held-eq0 : goal.returns-then-held-eq0
returns-then-held-eq0 c = all-holes _ _ (sym c.requires.1 ∙ c.if-held-eq0.true)

pub note_groups-requires : goal.note_groups-requires
note_groups-requires c =
    record { fits = c.requires.0; known = all_held c.args.words.now (sym c.requires.1 ∙ c.if-held-words.true) }
