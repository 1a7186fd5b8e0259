use mathlib.Core.Path.{◌∙◌}
use native.Mathlib.Omega.{arith}
use Rattle.tables.proofs.SurveyLaws.{ready_long, view_shaped, survey_fails, sum_small, survey_room, surveyed}
use Rattle.tables.proofs.sound.survey_in.Goals as goal

pub returns-in_default : goal.returns-in_default
returns-in_default c = survey_fails _ _ c.in_default.ensures.passes (view_shaped c.args.view)

pub overflow_add-used : goal.overflow_add-used
overflow_add-used c =
    omega (arith, sum_small _ _ c.in-Some.ensures.passes (c.test_tables.auto.counts ∙ ready_long _ _ c.requires) c.in-Some.ensures.counted c.used_blocks-used.ensures c.owed_of-owed.ensures)

pub returns-then-view-used : goal.returns-then-view-used
returns-then-view-used c =
    survey_room _ _ c.in-Some.ensures.passes (c.test_tables.auto.counts ∙ ready_long _ _ c.requires) c.in-Some.ensures.counted c.used_blocks-used.ensures c.owed_of-owed.ensures
    (view_shaped c.args.view) c.if-view-used.true

pub returns : goal.returns
returns c =
    surveyed _ _ c.in-Some.ensures.passes (c.test_tables.auto.counts ∙ ready_long _ _ c.requires) c.in-Some.ensures.counted c.used_blocks-used.ensures c.owed_of-owed.ensures
    (view_shaped c.args.view) c.if-view-used.false
