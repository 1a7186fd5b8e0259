use Rattle.std.proofs.Common.{refl}
use Rattle.std.proofs.lemmas.List.{length-replicate}
use Rattle.xdr.proofs.WritingLaws.{stored}
use Rattle.xdr.proofs.writer.Writer.zeros.Goals as goal

pub returns : goal.returns
returns c = stored (length-replicate c.args.n 0) c.requires c.clear.ensures refl refl
