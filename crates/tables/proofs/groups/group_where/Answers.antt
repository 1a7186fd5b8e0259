use mathlib.Core.Path.{sym, ◌∙◌}
use Rattle.tables.proofs.GroupLaws.{group_room, group_part}
use Rattle.tables.proofs.groups.group_where.Goals as goal

pub returns-then-group_at : goal.returns-then-group_at
returns-then-group_at g c = λ p h.
    rw (sym c.if-group_at.ensures)
    (c.all_where.ensures p h ∙ group_part p c.args.numbers.now c.args.i (group_room _ _ (sym c.if-group_at.ensures)))
