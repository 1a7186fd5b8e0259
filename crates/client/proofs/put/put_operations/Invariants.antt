use Rattle.std.proofs.Common.{◌≡◌, take, drop, length, true}
use Rattle.xdr.specs.Layout.{every}
use Rattle.xdr.specs.Writing.{Wrote, HasRoom}
use Rattle.client.specs.Given.{writable, ops_bytes}
use Rattle.client.proofs.put.put_operations.Given as goal

abbrev pub invariant-loop-o : goal.invariant-loop-o
invariant-loop-o l = record {
  written : Wrote (ops_bytes l.lent (take l.o-index l.ops)) l.fn.w l.w;
  all : every (writable l.lent) (drop l.o-index l.ops) ≡ true;
  room : HasRoom (length (ops_bytes l.lent (drop l.o-index l.ops))) l.w;
}
