use Rattle.frame.proofs.AlikeLaws.{AlikeLeft}
use Rattle.frame.proofs.judge.alike.Given as goal

abbrev pub invariant-loop-i : goal.invariant-loop-i
invariant-loop-i l = AlikeLeft l.a l.b l.i
