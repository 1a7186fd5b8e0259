use Rattle.std.proofs.Common.{rules}
use mathlib.Core.Path.{sym, ◌∙◌}
use lib.Dec.{ltb}
use Rattle.tables.proofs.PoolLaws.{held_group}
use Rattle.tables.proofs.pool.held_from.Goals as goal

pub returns-then-group_where : goal.returns-then-group_where
returns-then-group_where c =
    held_group _ _ c.requires (sym (c.group_where.ensures (ltb 0) (λ n b h. search rules)) ∙ c.if-group_where.true)
