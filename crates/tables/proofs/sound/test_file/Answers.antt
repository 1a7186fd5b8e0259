use mathlib.Core.Path.{ap, ◌∙◌}
use Rattle.std.proofs.Common.{is_some}
use Rattle.tables.proofs.HeadLaws.{size_fails, scannable, words_fail, file_known, file_passes_lem}
use Rattle.tables.proofs.SurveyLaws.{view_shaped}
use Rattle.tables.proofs.sound.test_file.Goals as goal

pub returns-then-geometry-size-clause-passes : goal.returns-then-geometry-size-clause-passes
returns-then-geometry-size-clause-passes c = size_fails _ _ c.args.counts.now _ (view_shaped c.args.view) c.requires c.if-geometry-size.true

pub scan_and_note-requires : goal.scan_and_note-requires
scan_and_note-requires c = rw c.slots_of-slots.ensures (scannable _ _ _ _ (view_shaped c.args.view) c.requires c.if-geometry-size.false)

pub returns-in_err-counted-clause-passes : goal.returns-in_err-counted-clause-passes
returns-in_err-counted-clause-passes c =
    ap is_some c.from_residual.ensures ∙ words_fail _ _ _ _ (view_shaped c.args.view) c.requires c.if-geometry-size.false (rw c.slots_of-slots.ensures at c.in_err-counted.ensures.formed)

pub file_sound-requires : goal.file_sound-requires
file_sound-requires c =
    file_known _ _ _ _ (view_shaped c.args.view) c.requires c.if-geometry-size.false (rw c.slots_of-slots.ensures at c.in_ok-counted.ensures.formed)

pub returns-clause-passes : goal.returns-clause-passes
returns-clause-passes c =
    (file_passes_lem _ _ _ _ (view_shaped c.args.view) c.requires c.if-geometry-size.false (rw c.slots_of-slots.ensures at c.in_ok-counted.ensures.formed) c.if-not-file_sound.ensures
    (rw c.slots_of-slots.ensures at c.in_ok-counted.ensures.counted)).0

pub returns-clause-counted : goal.returns-clause-counted
returns-clause-counted c =
    (file_passes_lem _ _ _ _ (view_shaped c.args.view) c.requires c.if-geometry-size.false (rw c.slots_of-slots.ensures at c.in_ok-counted.ensures.formed) c.if-not-file_sound.ensures
    (rw c.slots_of-slots.ensures at c.in_ok-counted.ensures.counted)).1
