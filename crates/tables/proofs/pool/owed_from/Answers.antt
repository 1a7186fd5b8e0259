use Rattle.std.proofs.Common.{rules}
use mathlib.Core.Path.{sym, ◌∙◌}
use Rattle.rules.specs.Store.{is_reserved}
use Rattle.tables.proofs.PoolLaws.{owed_group, none-owed}
use Rattle.tables.proofs.pool.owed_from.Goals as goal

pub returns-then-count_where-eq0 : goal.returns-then-count_where-eq0
returns-then-count_where-eq0 c =
    rw (none-owed c.args.counts.now _ (sym (c.count_where.ensures is_reserved (λ n b h. search rules)) ∙ c.if-count_where-eq0.true)) at
    (owed_group c.args.words.now c.args.counts.now c.args.i (sym c.group_at.ensures ∙ c.if-not-group_at.false))

pub returns : goal.returns
returns c =
    rw c.owed_each.ensures (owed_group c.args.words.now c.args.counts.now c.args.i (sym c.group_at.ensures ∙ c.if-not-group_at.false))
