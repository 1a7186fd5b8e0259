use Rattle.tables.proofs.TallyLaws.{scan_fits}
use Rattle.tables.proofs.tally.scan_and_note.Goals as goal

pub note_counted-requires : goal.note_counted-requires
note_counted-requires c = (scan_fits c.requires c.in_ok-counted.ensures.formed, c.in_ok-counted.ensures.counted.held_is)
