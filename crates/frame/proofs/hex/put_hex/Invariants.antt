use Rattle.frame.proofs.HexLaws.{HexLeft}
use Rattle.frame.proofs.hex.put_hex.Given as goal

abbrev pub invariant-loop-i : goal.invariant-loop-i
invariant-loop-i l = HexLeft l.bytes l.initial.out l.out l.i
