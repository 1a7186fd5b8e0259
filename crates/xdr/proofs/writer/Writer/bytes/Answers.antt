use Rattle.std.proofs.Common.{refl}
use Rattle.xdr.proofs.WritingLaws.{stored}
use Rattle.xdr.proofs.writer.Writer.bytes.Goals as goal

pub returns : goal.returns
returns c = stored refl c.requires c.store.ensures refl refl
