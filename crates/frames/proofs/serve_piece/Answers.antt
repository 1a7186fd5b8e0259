use Rattle.std.proofs.Common.{arith, true}
use Rattle.frames.proofs.PieceLaws.{on_err, piece-start, piece-within, piece_moves, piece-more, piece-end, piece-stopped}
use Rattle.frames.proofs.Answers.{answered_start, answered_more, answered_all}
use Rattle.frames.proofs.serve_piece.Goals as goal

pub loop-at-init : goal.loop-at-init
loop-at-init g c = record { left = piece-start _ _ _ _ _ c.requires.1.1.0; answered = answered_start _ _ _ _ }

pub overflow_add-at : goal.overflow_add-at
overflow_add-at g c = omega (arith, piece-within c.loop-at.invariant.left c.requires.0 c.serve_text-p.ensures.read_promise, c.requires.1.1.1)

pub loop-at-smaller : goal.loop-at-smaller
loop-at-smaller g c =
    let w = c.serve_text-p.ensures.read_promise in
    omega (arith, piece-within c.loop-at.invariant.left c.requires.0 w, piece_moves c.loop-at.invariant.left c.requires.0 w c.requires.1.0 c.loop-at-test.true, c.loop-at-test.true)

pub loop-at-preserved : goal.loop-at-preserved
loop-at-preserved g c =
    let q = c.serve_text-p.auto in
    let w = c.serve_text-p.ensures.read_promise in
    let left = c.loop-at.invariant.left in
    record {
      left = piece-more left c.requires.0 w (record { line_is = q.line; out_is = q.out });
      answered = answered_more _ _ _ _ c.loop-at.invariant.answered w (omega (arith, c.requires.0, left.long.line_is)) left.few c.in_ok-write_all.ensures.bytes;
    }

pub returns-clause-answered : goal.returns-clause-answered
returns-clause-answered g c = answered_all _ c.loop-at-test.false c.loop-at.invariant.answered

pub returns-clause-taken : goal.returns-clause-taken
returns-clause-taken g c = (piece-end c.loop-at.invariant.left true c.loop-at-test.false).1

pub returns-in_err-write_all-clause-stopped : goal.returns-in_err-write_all-clause-stopped
returns-in_err-write_all-clause-stopped g c =
    let q = c.serve_text-p.auto in
    on_err c.from_residual.result
    (piece-stopped
    (piece-more c.loop-at.invariant.left c.requires.0 c.serve_text-p.ensures.read_promise
    (record { line_is = q.line; out_is = q.out })))
