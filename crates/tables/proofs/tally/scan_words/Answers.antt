use Rattle.std.proofs.Common.{◌≡◌, ◌+◌, ◌≤◌, ◌||◌, ℕ, List, length, drop, ltb}
use mathlib.Core.Path.{sym, ap, ◌∙◌}
use native.Mathlib.Omega.{arith}
use Rattle.rules.specs.Lists.{count}
use Rattle.rules.specs.Store.{is_reserved}
use Rattle.tables.specs.Tally.{holds_one}
use Rattle.rules.proofs.CountLaws.{count-end}
use Rattle.tables.proofs.TallyLaws.{scan-rest, scan_formed, scan-held, some-none}
use Rattle.tables.proofs.tally.scan_words.Goals as goal

-- all words looked at
held : (n : ℕ) (ws : List ℕ) {i sum : ℕ} → sum + count (holds_one n) (drop i ws) ≡ count (holds_one n) ws → length ws ≤ i → sum ≡ count (holds_one n) ws
held n ws {i} e end = omega (arith, e, count-end (holds_one n) ws i end)

pub rest_holes-requires : goal.rest_holes-requires
rest_holes-requires c = (c.requires.1, omega (arith, c.loop-word.invariant.0, scan-rest c.args.blocks c.args.words.now))

pub returns-then-not-rest_holes-clause-formed : goal.returns-then-not-rest_holes-clause-formed
returns-then-not-rest_holes-clause-formed c =
    rw (held c.args.blocks c.args.words.now c.loop-word.invariant.0 c.loop-word-test.false) at c.if-not-rest_holes.ensures ∙ scan_formed c.args.blocks c.args.words.now

pub returns-clause-formed : goal.returns-clause-formed
returns-clause-formed c =
    rw (held c.args.blocks c.args.words.now c.loop-word.invariant.0 c.loop-word-test.false) at c.if-not-rest_holes.ensures ∙ scan_formed c.args.blocks c.args.words.now

pub returns-clause-counted : goal.returns-clause-counted
returns-clause-counted c =
    let ws = c.args.words.now in
    let all = held c.args.blocks ws c.loop-word.invariant.0 c.loop-word-test.false in
    record {
      held_is = all ∙ scan-held c.args.blocks ws (sym (rw all at c.if-not-rest_holes.ensures));
      reserved_is = some-none c.loop-word.reserved ∙ ap (λ (n : ℕ). c.loop-word.reserved || ltb 0 n) (sym (count-end is_reserved ws c.loop-word.word-index c.loop-word-test.false)) ∙ c.loop-word.invariant.1.1;
    }
