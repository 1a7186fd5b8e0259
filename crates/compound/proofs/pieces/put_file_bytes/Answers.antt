use Rattle.xdr.specs.Encode.{opaque}
use Rattle.xdr.proofs.WritingLaws.{wrote_then}
use Rattle.rules.proofs.SlotByteLaws.{length_tab}
use Rattle.compound.proofs.pieces.put_file_bytes.Goals as goal

pub returns : goal.returns
unfolding opaque
returns c =
    rw (length_tab _ c.args.n c.args.from) (wrote_then c.u32.ensures (wrote_then c.put_bytes.ensures (rw c.padding.ensures at c.zeros.ensures)))
