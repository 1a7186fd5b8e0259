use Rattle.std.proofs.Common.{rules}
use mathlib.Core.Path.{sym, ◌∙◌}
use lib.Dec.{eqb}
use borrow.Author.Tests.{not-true}
use Rattle.tables.proofs.PoolLaws.{unreserved, none-owed, alone-owed}
use Rattle.tables.proofs.pool.owed_of.Goals as goal

pub returns-then-not-counted : goal.returns-then-not-counted
returns-then-not-counted c =
    sym (none-owed c.args.counts.now c.args.words.now (unreserved c.args.words.now (sym c.requires.room.slots.reserved_is ∙ not-true _ c.if-not-counted.true)))

pub returns-then-counted-used : goal.returns-then-counted-used
returns-then-counted-used c =
    c.count_where.ensures (λ w. eqb w 1) (λ n b h. search rules) ∙ alone-owed c.requires.room.counted (sym c.requires.room.slots.held_is ∙ c.if-counted-used.true ∙ c.requires.used_is)
