use Rattle.std.proofs.Common.{◌≡◌, ◌+◌, ◌≤◌, ◌||◌, drop}
use Rattle.rules.specs.Lists.{count}
use Rattle.tables.specs.Tally.{holds_one, some_reserved}
use Rattle.tables.proofs.tally.scan_words.Given as goal

abbrev pub invariant-loop-word : goal.invariant-loop-word
invariant-loop-word l =
    (l.sum + count (holds_one l.blocks) (drop l.word-index l.words) ≡ count (holds_one l.blocks) l.words)
    × ((l.sum ≤ l.word-index)
    × ((l.reserved || some_reserved (drop l.word-index l.words)) ≡ some_reserved l.words))
