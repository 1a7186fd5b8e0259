use Rattle.std.proofs.Common.{◌≡◌, get_or, eqb}
use Rattle.rules.specs.Lists.{all_to}
use Rattle.tables.proofs.files.zero_bytes.Given as goal

abbrev pub invariant-loop-byte : goal.invariant-loop-byte
invariant-loop-byte l = l.all ≡ all_to l.byte-index (λ j. eqb (get_or l.bytes j 0) 0)
