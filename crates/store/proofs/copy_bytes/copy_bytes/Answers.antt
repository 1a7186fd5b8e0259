use mathlib.Core.Path.{◌≡◌}
use native.Mathlib.Omega.{arith}
use Rattle.store.proofs.CopyBytes.{copying_start, copying_turn}
use Rattle.store.proofs.copy_bytes.copy_bytes.Goals as goal

pub loop-at-init : goal.loop-at-init
loop-at-init c = record { within = omega arith; copied = copying_start _ _ _ _ _ _ _ c.requires }

pub loop-at-preserved : goal.loop-at-preserved
loop-at-preserved c =
    record {
      within = omega (arith, c.slot_share-share.ensures);
      copied = copying_turn _ _ _ _ _ _ _ c.requires _ _ c.loop-at-test.true c.slot_share-share.ensures _ c.loop-at.invariant.copied c.copy_part.ensures;
    }

pub returns : goal.returns
returns c =
    let e : c.loop-at.at ≡ c.args.n = omega arith in
    λ sizes. rw e at (c.loop-at.invariant.copied sizes)
