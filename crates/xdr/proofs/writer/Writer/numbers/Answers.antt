use Rattle.std.proofs.Common.{take, arith}
use Rattle.std.proofs.lemmas.List.{length-take-le}
use Rattle.xdr.proofs.EncodeLaws.{numbers-length}
use Rattle.xdr.proofs.ArrayLaws.{wrote_numbers}
use Rattle.xdr.proofs.writer.Writer.numbers.Goals as goal

pub u32-requires : goal.u32-requires
u32-requires c =
    let ns = c.args.ns.now in
    let i = c.loop-n.n-index in
    omega (arith, c.requires, c.loop-n-test.true, c.loop-n.invariant.place, c.loop-n.invariant.size, numbers-length (take i ns), length-take-le i ns (omega (arith, c.loop-n-test.true)))

pub loop-n-preserved : goal.loop-n-preserved
loop-n-preserved c = wrote_numbers c.args.ns.now c.loop-n.n-index c.loop-n-test.true c.loop-n.invariant c.u32.ensures
