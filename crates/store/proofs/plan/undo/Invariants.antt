use Rattle.std.proofs.Common.{◌≡◌, ◌+◌, length, drop}
use lib.Seq.{sets}
use Rattle.tables.specs.Tables.{TableTrue}
use Rattle.store.proofs.plan.undo.Given as goal

-- storing the words of old that are left is all that is left
abbrev pub invariant-loop-k : goal.invariant-loop-k
invariant-loop-k l = record {
  words_long : length l.words ≡ length l.initial.words;
  counts_long : length l.counts ≡ length l.initial.counts;
  same : sets l.words (l.i + l.k) (drop l.k l.old) ≡ sets l.initial.words l.i l.old;
  counted : TableTrue l.words l.counts;
}
