use Rattle.store.specs.Whole.{whole}
use Rattle.wire.specs.Decoded.{header_of}
use Rattle.compound.specs.Runner.{config_of}
use Rattle.compound.proofs.ServeLaws.{ran-none, ran-some}
use Rattle.compound.proofs.serving.answer.Goals as goal

pub returns-in-Err-clause-ran : goal.returns-in-Err-clause-ran
returns-in-Err-clause-ran c =
    let s = c.args.reader.now.bytes.now in
    ran-none (config_of c.args.store.now.geometry c.args.verifier) (whole c.args.store.now) s (header_of s c.args.header) c.args.reader.now.at c.in-Err.status
    c.in-Err.ensures.error c.in-Err.ensures.failed c.args.w.now

pub returns-in-Ok-clause-ran : goal.returns-in-Ok-clause-ran
returns-in-Ok-clause-ran c =
    let s = c.args.reader.now.bytes.now in
    ran-some (config_of c.args.store.now.geometry c.args.verifier) (whole c.args.store.now) s (header_of s c.args.header) c.args.reader.now.at
    c.in-Ok.ensures.error c.run.ensures.ran
