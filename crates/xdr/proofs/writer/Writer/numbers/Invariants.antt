use Rattle.std.proofs.Common.{take}
use Rattle.xdr.specs.Encode.{u32, concat_map}
use Rattle.xdr.specs.Writing.{Wrote}
use Rattle.xdr.proofs.writer.Writer.numbers.Given as goal

abbrev pub invariant-loop-n : goal.invariant-loop-n
invariant-loop-n l = Wrote (concat_map u32 (take l.n-index l.ns)) l.fn.self l.self
