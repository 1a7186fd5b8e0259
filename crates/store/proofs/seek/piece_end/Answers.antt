use Rattle.store.proofs.ScanLaws.{piece-ends}
use Rattle.store.proofs.seek.piece_end.Goals as goal

pub returns : goal.returns
returns c =
    piece-ends _ _ _ _ _ _ c.requires.0 c.requires.1 (rw c.hole_at-hole.ensures at c.seek_file.ensures)
