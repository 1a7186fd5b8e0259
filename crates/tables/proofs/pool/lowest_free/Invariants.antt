use Prim.Native.Nat.{◌-◌, ◌≤◌}
use lib.ListN.{length}
use Rattle.tables.specs.Tally.{first_zero}
use Rattle.tables.proofs.pool.lowest_free.Given as goal

abbrev pub invariant-loop-block : goal.invariant-loop-block
invariant-loop-block l = l.block ≤ first_zero l.counts

abbrev pub decreases-loop-block : goal.decreases-loop-block
decreases-loop-block l = length l.counts - l.block
