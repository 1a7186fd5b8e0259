use Rattle.std.proofs.Common.{◌-◌, length, take, drop}
use Rattle.tables.specs.Loans.{lent_store}
use Rattle.frames.specs.Answering.{Answered}
use Rattle.frames.proofs.PieceLaws.{PieceLeft}
use Rattle.frames.proofs.serve_piece.Given as goal

abbrev pub invariant-loop-at : goal.invariant-loop-at
invariant-loop-at g l = record {
  left : PieceLeft (lent_store l.initial.lent) l.initial.line l.initial.out l.piece l.initial.kept (lent_store l.lent) l.line l.out l.kept l.at;
  answered : Answered (g.W.Write.contents l.initial.to) (g.W.Write.contents l.to) (lent_store l.initial.lent) (take l.initial.kept l.initial.line) l.piece
      (lent_store l.lent) (take l.kept l.line) (drop l.at l.piece);
}

abbrev pub decreases-loop-at : goal.decreases-loop-at
decreases-loop-at g l = length l.piece - l.at
