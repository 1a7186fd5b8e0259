use Rattle.std.proofs.Common.{arith, length-append, sym}
use Rattle.xdr.proofs.EncodeLaws.{length-u32}
use Rattle.store.specs.Whole.{whole}
use Rattle.wire.specs.Decoded.{meaning}
use Rattle.xdr.proofs.WritingLaws.{wrote_then}
use Rattle.compound.specs.Runner.{config_of}
use Rattle.compound.proofs.WholeLaws.{limits, facts}
use Rattle.compound.proofs.RunLaws.{checked-error, checked-clear, checked-does, ready, edit-lawful, region-small, has_room, answers-failed, answers-sets, answers-shows, answers-done, answers-full}
use Rattle.compound.proofs.run.perform.Goals as goal

pub apply-requires-clause-lawful : goal.apply-requires-clause-lawful
apply-requires-clause-lawful c =
    let t = c.args.store.now in
    let k = checked-does c.check.ensures c.in-Ok-Edits.is c.in-Ok-Edits.field-0-is in
    edit-lawful t (ready t c.args.handles c.requires.named) (meaning c.args.request.now c.args.operation) (checked-clear c.check.ensures c.in-Ok-Edits.is) k.0

pub put_edit-requires-clause-small : goal.put_edit-requires-clause-small
put_edit-requires-clause-small c =
    let t = c.args.store.now in
    let k = checked-does c.check.ensures c.in-Ok-Edits.is c.in-Ok-Edits.field-0-is in
    region-small (limits t) (facts t) (edit-lawful t (ready t c.args.handles c.requires.named) (meaning c.args.request.now c.args.operation) (checked-clear c.check.ensures c.in-Ok-Edits.is) k.0)

pub returns-in-Err-clause-answered : goal.returns-in-Err-clause-answered
returns-in-Err-clause-answered c =
    let t = c.args.store.now in
    let k = checked-error c.check.ensures c.in-Err.is in
    λ next. answers-failed (config_of t.geometry c.args.verifier) c.args.handles (whole t) (meaning c.args.request.now c.args.operation) next (c.number-number.ensures c.args.request.now) k.0 k.1 c.put_head.ensures

pub returns-in-Ok-Sets-clause-answered : goal.returns-in-Ok-Sets-clause-answered
returns-in-Ok-Sets-clause-answered c =
    let t = c.args.store.now in
    let k = checked-does c.check.ensures c.in-Ok-Sets.is c.in-Ok-Sets.field-0-is in
    λ next. answers-sets (config_of t.geometry c.args.verifier) c.args.handles (whole t) (meaning c.args.request.now c.args.operation) next (c.number-number.ensures c.args.request.now)
    (checked-clear c.check.ensures c.in-Ok-Sets.is) (has_room t) c.in-Ok-Sets.after c.put_head-in-Ok-Sets.ensures k.0

pub returns-in-Ok-Shows-clause-answered : goal.returns-in-Ok-Shows-clause-answered
returns-in-Ok-Shows-clause-answered c =
    let t = c.args.store.now in
    let k = checked-does c.check.ensures c.in-Ok-Shows.is c.in-Ok-Shows.field-0-is in
    λ next. rw c.show.ensures.same (answers-shows (config_of t.geometry c.args.verifier) c.args.handles (whole t) (meaning c.args.request.now c.args.operation) next (c.number-number.ensures c.args.request.now)
    (checked-clear c.check.ensures c.in-Ok-Shows.is) (has_room t) (wrote_then c.put_head-in-Ok-Shows.ensures c.show.ensures.wrote) k.0)

pub returns-in-Err-apply-clause-answered : goal.returns-in-Err-apply-clause-answered
returns-in-Err-apply-clause-answered c =
    let t = c.args.store.now in
    let k = checked-does c.check.ensures c.in-Ok-Edits.is c.in-Ok-Edits.field-0-is in
    λ next. answers-full (config_of t.geometry c.args.verifier) c.args.handles (whole t) (meaning c.args.request.now c.args.operation) next (c.number-number.ensures c.args.request.now)
    (checked-clear c.check.ensures c.in-Ok-Edits.is) k.0 (sym c.in-Err-apply.ensures.answer) c.in-Err-apply.ensures.store c.put_head-in-Err-apply.ensures

pub returns-in-Ok-clause-answered : goal.returns-in-Ok-clause-answered
returns-in-Ok-clause-answered c =
    let t = c.args.store.now in
    let k = checked-does c.check.ensures c.in-Ok-Edits.is c.in-Ok-Edits.field-0-is in
    λ next. answers-done (config_of t.geometry c.args.verifier) c.args.handles (whole t) (meaning c.args.request.now c.args.operation) next (c.number-number.ensures c.args.request.now)
    (checked-clear c.check.ensures c.in-Ok-Edits.is) k.0 (sym c.in-Ok.ensures.answer) c.in-Ok.ensures.store (wrote_then c.put_head-in-Ok.ensures c.put_edit.ensures)

pub show-requires-clause-room : goal.show-requires-clause-room
show-requires-clause-room c =
    let w = c.put_head-in-Ok-Shows.ensures in
    omega (arith, c.requires.room, simp (length-append, length-u32) at w.place, w.size)

pub put_edit-requires-clause-room : goal.put_edit-requires-clause-room
put_edit-requires-clause-room c =
    let w = c.put_head-in-Ok.ensures in
    omega (arith, c.requires.room, simp (length-append, length-u32) at w.place, w.size)
