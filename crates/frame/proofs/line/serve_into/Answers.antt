use Rattle.std.proofs.Common.{arith, refl, sym}
use lib.Seq.{length-take-le}
use Rattle.frame.proofs.LineLaws.{frame_called, number_small, written_fits, digits-fit, request-refused, request-served, refused_some}
use Rattle.frame.proofs.line.serve_into.Goals as goal

pub slice_bounds-put_hex-end : goal.slice_bounds-put_hex-end
slice_bounds-put_hex-end c = written_fits _ _ (frame_called _ _ c.frame_geometry.ensures c.requires.0 c.in-Ok.ensures.contract)

pub slice_bounds-put_hex-end-in-Ok : goal.slice_bounds-put_hex-end-in-Ok
slice_bounds-put_hex-end-in-Ok c = sym (length-take-le _ _ (written_fits _ _ (frame_called _ _ c.frame_geometry.ensures c.requires.0 c.in-Ok.ensures.contract)))

pub put_hex-requires : goal.put_hex-requires
put_hex-requires c = digits-fit _ _ (frame_called _ _ c.frame_geometry.ensures c.requires.0 c.in-Ok.ensures.contract) c.requires.1

pub put_refusal-requires : goal.put_refusal-requires
put_refusal-requires c = (omega (arith, c.number.ensures, number_small _ _ (frame_called _ _ c.frame_geometry.ensures c.requires.0 c.in-Err.ensures.contract)), omega arith)

pub returns-in-Ok-clause-line : goal.returns-in-Ok-clause-line
returns-in-Ok-clause-line c = request-served _ _ (frame_called _ _ c.frame_geometry.ensures c.requires.0 c.in-Ok.ensures.contract) refl c.put_hex.ensures.printed

pub returns-in-Err-clause-line : goal.returns-in-Err-clause-line
returns-in-Err-clause-line c =
    request-refused _ _ (frame_called _ _ c.frame_geometry.ensures c.requires.0 c.in-Err.ensures.contract) (refused_some _) (rw c.number.ensures at c.put_refusal.ensures)
