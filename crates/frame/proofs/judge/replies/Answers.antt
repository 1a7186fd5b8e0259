use Rattle.std.proofs.Common.{arith}
use Rattle.frame.proofs.JudgeLaws.{alike_within, replies_parted, replies_on, replies_short, replies_same}
use Rattle.frame.proofs.judge.replies.Goals as goal

pub returns-then-k-part : goal.returns-then-k-part
returns-then-k-part c = rw c.place_in.ensures (replies_parted _ _ c.requires c.alike-k.ensures c.if-k-part.true)

pub overflow_add-step : goal.overflow_add-step
overflow_add-step c = omega (arith, alike_within _ _ c.requires c.alike-k.ensures)

pub returns-then-not-part : goal.returns-then-not-part
returns-then-not-part c = replies_on _ _ c.requires c.alike-k.ensures c.if-k-part.false c.if-not-part.true

pub overflow_add-at-2 : goal.overflow_add-at-2
overflow_add-at-2 c = omega (arith, alike_within _ _ c.requires c.alike-k.ensures)

pub returns-then-at-k : goal.returns-then-at-k
returns-then-at-k c =
    rw c.place_in-then-at-k.ensures (replies_short _ _ c.requires c.alike-k.ensures c.if-k-part.false c.if-not-part.false c.if-at-k.true)

pub returns : goal.returns
returns c =
    rw c.next.ensures (replies_same _ _ c.requires c.alike-k.ensures c.if-k-part.false c.if-not-part.false c.if-at-k.false)
