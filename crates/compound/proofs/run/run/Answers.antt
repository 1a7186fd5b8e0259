use Rattle.std.proofs.Common.{rules, arith, refl, None, ◌∙◌}
use Rattle.xdr.proofs.EncodeLaws.{length-u64}
use Rattle.store.specs.Whole.{whole, KeepsWhole}
use Rattle.compound.specs.Runner.{Named}
use Rattle.compound.proofs.WholeLaws.{limits}
use Rattle.compound.proofs.RunLaws.{ready}
use Rattle.compound.proofs.LoopLaws.{held-start, held-end, held-stop, held-more, named-more}
use Rattle.compound.proofs.run.run.Goals as goal

pub loop-turn-init : goal.loop-turn-init
loop-turn-init c =
    let t = c.args.store.now in
    let named : Named t.geometry.files (record { current = None; saved = None }) = search rules in
    (search rules, refl, named, held-start _ _ _ _ _ _ _ (ready t _ named))

pub loop-turn-preserved : goal.loop-turn-preserved
loop-turn-preserved c =
    let i = c.loop-turn.invariant in
    let t = c.loop-turn.store in
    let keeps : KeepsWhole c.args.store.now c.step.new.store = search rules in
    let turned = rw (i.0.geometry, i.1) at c.in-Ok.ensures.turned in (
      keeps,
      c.step.ensures.bytes ∙ i.1,
      named-more _ _ _ _ _ _ _ c.loop-turn.handles (whole t) i.3 (limits c.args.store.now) (length-u64 _) c.loop-turn-test.true turned,
      held-more _ _ _ _ _ _ _ c.loop-turn.handles (whole t) i.3 (limits c.args.store.now) (length-u64 _) c.loop-turn-test.true turned,
    )

pub returns-in-Err-clause-ran : goal.returns-in-Err-clause-ran
returns-in-Err-clause-ran c =
    let i = c.loop-turn.invariant in
    let t = c.loop-turn.store in
    held-stop _ _ _ _ _ _ _ c.loop-turn.handles (whole t) i.3 (limits c.args.store.now) (length-u64 _) c.loop-turn-test.true
    (rw (i.0.geometry, i.1) at c.in-Err.ensures.turned)

pub returns-clause-ran : goal.returns-clause-ran
returns-clause-ran c =
    held-end _ _ _ _ _ _ _ c.loop-turn.handles (whole c.loop-turn.store) c.loop-turn.invariant.3 (omega (arith, c.loop-turn-test.false))
