use Rattle.std.proofs.Common.{refl}
use Rattle.xdr.proofs.WritingLaws.{stored}
use Rattle.rules.proofs.SlotByteLaws.{length_tab}
use Rattle.compound.proofs.pieces.put_bytes.Goals as goal

pub returns : goal.returns
returns c = stored (length_tab _ c.args.n c.args.from) c.requires.room c.read_part.ensures refl refl
