use Rattle.std.proofs.Common.{◌≡◌, length, take}
use Rattle.xdr.proofs.writer.copy.Given as goal

abbrev pub invariant-loop-i : goal.invariant-loop-i
invariant-loop-i l = record {
  size : length l.to ≡ length l.initial.to;
  front : take l.i l.to ≡ take l.i l.from;
}
