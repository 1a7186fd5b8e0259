use Rattle.std.proofs.Common.{arith}
use Rattle.compound.proofs.ServeLaws.{verifier-read}
use Rattle.compound.proofs.serving.verifier_of.Goals as goal

pub returns : goal.returns
returns c =
    let e = rw (c.new.ensures.bytes, c.new.ensures.place) at c.u64.ensures.value in
    let k = verifier-read c.u64.result c.u64.new.self.at c.args.bytes.now c.if-bytes-ne-VERIFIER.false (λ i. omega (arith, c.type_inv.bytes i)) e in
    record { fits = k.0; number = k.1 }
