use mathlib.Core.Path.{ap, ◌∙◌}
use Rattle.std.proofs.Common.{is_some}
use native.Mathlib.Omega.{arith}
use Rattle.tables.proofs.SurveyLaws.{view_shaped, file_ready, testing_fails, held_small, more_small, testing_more, testing_all, testing_room}
use Rattle.tables.proofs.sound.test_tables.Goals as goal

pub test_file-requires : goal.test_file-requires
test_file-requires c = file_ready (view_shaped c.args.view) c.loop-file.invariant c.loop-file-test.true

pub returns-in_err-counted-clause-passes : goal.returns-in_err-counted-clause-passes
returns-in_err-counted-clause-passes c =
    ap is_some c.from_residual.ensures ∙ testing_fails (view_shaped c.args.view) c.loop-file.invariant c.loop-file-test.true c.in_err-counted.ensures.passes

pub overflow_add-held : goal.overflow_add-held
overflow_add-held c =
    let h = view_shaped c.args.view in
    omega (arith, held_small h c.loop-file.invariant, more_small h c.loop-file.invariant c.in_ok-counted.ensures.counted)

pub loop-file-preserved : goal.loop-file-preserved
loop-file-preserved c =
    testing_more (view_shaped c.args.view) c.loop-file.invariant c.in_ok-counted.ensures.counted c.loop-file-test.true c.in_ok-counted.ensures.passes

pub returns-clause-passes : goal.returns-clause-passes
returns-clause-passes c = testing_all (view_shaped c.args.view) c.loop-file.invariant c.loop-file-test.false

pub returns-clause-counted : goal.returns-clause-counted
returns-clause-counted c = testing_room (view_shaped c.args.view) c.loop-file.invariant c.loop-file-test.false
