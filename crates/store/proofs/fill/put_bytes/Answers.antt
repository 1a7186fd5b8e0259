use native.Mathlib.Omega.{arith}
use Rattle.store.proofs.FillLaws.{putting_start, putting_slot, putting_turn, putting_end}
use Rattle.store.proofs.fill.put_bytes.Goals as goal

pub loop-i-init : goal.loop-i-init
loop-i-init c = λ st h. putting_start h

pub put_slot-requires : goal.put_slot-requires
put_slot-requires c =
    (c.requires.0, putting_slot c.requires.1 (c.loop-i.invariant _ c.requires.1) (omega arith))

pub loop-i-preserved : goal.loop-i-preserved
loop-i-preserved c =
    λ st h.
    let r = c.loop-i.invariant st h in
    putting_turn h r (omega arith) (c.put_slot.ensures st (putting_slot h r (omega arith))) c.put_slot.auto.mem

pub returns : goal.returns
returns c = λ st h. putting_end h (c.loop-i.invariant st h) c.loop-i-test.false
