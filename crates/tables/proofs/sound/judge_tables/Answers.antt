use mathlib.Core.Path.{◌∙◌}
use Rattle.tables.proofs.SurveyLaws.{ready_long, judge_fails, judge_room}
use Rattle.tables.proofs.sound.judge_tables.Goals as goal

pub returns-in_default : goal.returns-in_default
returns-in_default c = judge_fails _ _ c.in_default.ensures.passes

pub returns : goal.returns
returns c = judge_room _ _ c.in-Some.ensures.passes (c.test_tables.auto.counts ∙ ready_long _ _ c.requires) c.in-Some.ensures.counted c.fits_of.ensures
