use mathlib.Core.Path.{◌≡◌, sym, ap, ◌∙◌}
use native.Mathlib.Omega.{arith}
use lib.ListN.{length}
use lib.Seq.{take_all}
use Rattle.rules.specs.Store.{bytes_from}
use Rattle.store.proofs.PlaceLaws.{read-on}
use Rattle.store.proofs.read.read_bytes.Goals as goal

pub loop-at-preserved : goal.loop-at-preserved
loop-at-preserved c =
    record {
      within = omega (arith, c.slot_share.ensures);
      read = λ sizes. read-on _ c.loop-at.out _ _ c.loop-at.at c.slot_share.result (omega (arith, c.slot_share.ensures)) (c.loop-at.invariant.read sizes) (c.read_slot.ensures sizes);
    }

pub returns : goal.returns
returns c =
    let e : c.loop-at.at ≡ length c.args.out.now = omega arith in
    λ sizes. sym (take_all c.loop-at.at c.loop-at.out (omega (arith, c.loop-at.auto.out))) ∙ c.loop-at.invariant.read sizes ∙ ap (bytes_from _ _ _ _) e
