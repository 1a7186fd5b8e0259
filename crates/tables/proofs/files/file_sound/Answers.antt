use native.Mathlib.Nat.{le_of_lt, mod-lt}
use mathlib.Core.Path.{ap}
use mathlib.Core.Bool.{not}
use Rattle.tables.proofs.FileTests.{file_room, cut_below, too_large, slots_fail, whole-slots, part-slot}
use Rattle.tables.proofs.SurveyLaws.{view_shaped}
use Rattle.tables.proofs.files.file_sound.Goals as goal

pub returns-then-geometry-size : goal.returns-then-geometry-size
returns-then-geometry-size c = too_large (file_room (view_shaped c.args.view) c.requires) c.if-geometry-size.true

pub returns-then-not-slots_zero : goal.returns-then-not-slots_zero
returns-then-not-slots_zero c =
    slots_fail (file_room (view_shaped c.args.view) c.requires) (rw c.slots_of-end.ensures at c.slots_zero.ensures) (ap not c.if-not-slots_zero.true)

pub returns-then-past-eq0 : goal.returns-then-past-eq0
returns-then-past-eq0 c =
    whole-slots (file_room (view_shaped c.args.view) c.requires) (rw c.slots_of-end.ensures at c.slots_zero.ensures) c.if-geometry-size.false (ap not c.if-not-slots_zero.false) c.if-past-eq0.true

pub tail_zero-requires : goal.tail_zero-requires
tail_zero-requires c =
    let r = file_room (view_shaped c.args.view) c.requires in
    (r.block _ (cut_below r.pos _ c.if-past-eq0.false), le_of_lt (mod-lt _ r.pos))

pub returns : goal.returns
returns c =
    part-slot (file_room (view_shaped c.args.view) c.requires) (rw c.slots_of-end.ensures at c.slots_zero.ensures) c.if-geometry-size.false (ap not c.if-not-slots_zero.false) c.if-past-eq0.false c.tail_zero.ensures
