use Rattle.std.proofs.Common.{rules, ◌≡◌, Err, None, ◌∙◌}
use Rattle.wire.specs.Decoded.{meaning, fault_place}
use Rattle.store.specs.Whole.{whole}
use Rattle.compound.specs.Runner.{config_of, place_told}
use Rattle.compound.proofs.RunLaws.{turned-done, turned-failed, turned-bad}
use Rattle.compound.proofs.run.step.Goals as goal

pub returns-in_ok-perform-in-Ok-clause-turned : goal.returns-in_ok-perform-in-Ok-clause-turned
returns-in_ok-perform-in-Ok-clause-turned c =
    let t = c.args.store.now in
    turned-done (config_of t.geometry c.args.verifier) c.args.handles (whole t) c.args.reader.now.bytes.now c.args.reader.now.at
    (meaning c.args.reader.now.bytes.now c.in-Ok.operation) c.item.new.r.at c.in-Ok.ensures.value c.in-Ok.ensures.fault
    (rw c.item.ensures.bytes at (c.in_ok-perform-in-Ok.ensures.answered c.item.new.r.at))

pub returns-in_err-perform-in-Ok-clause-turned : goal.returns-in_err-perform-in-Ok-clause-turned
returns-in_err-perform-in-Ok-clause-turned c =
    let t = c.args.store.now in
    let stop : c.from_residual.result ≡ Err (record { status = c.in_err-perform-in-Ok.field-0.0; place = None }) = search rules in
    rw stop (turned-failed (config_of t.geometry c.args.verifier) c.args.handles (whole t) c.args.reader.now.bytes.now c.args.reader.now.at
    (meaning c.args.reader.now.bytes.now c.in-Ok.operation) c.item.new.r.at c.in-Ok.ensures.value c.in-Ok.ensures.fault
    (rw c.item.ensures.bytes at (c.in_err-perform-in-Ok.ensures.answered c.item.new.r.at)))

pub returns-in-Err-clause-turned : goal.returns-in-Err-clause-turned
returns-in-Err-clause-turned c =
    let t = c.args.store.now in
    let place : place_told c.then_some-place.result ≡ fault_place c.in-Err.ending.status c.item.new.r.at = search rules in
    turned-bad (config_of t.geometry c.args.verifier) c.args.handles (whole t) c.args.reader.now.bytes.now c.args.reader.now.at
    c.in-Err.ending.number c.in-Err.ending.status c.in-Err.ensures.value (place ∙ c.in-Err.ensures.fault) c.put_head.ensures
