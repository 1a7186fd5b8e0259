use Rattle.std.proofs.Common.{rules, ltb}
use native.Mathlib.Omega.{arith}
use Rattle.rules.proofs.CountLaws.{count_most}
use Rattle.tables.proofs.SpaceLaws.{alone-few, slots_are}
use Rattle.tables.specs.Tally.{owes_by}
use Rattle.tables.proofs.space.slots_space.Goals as goal

pub overflow_add-result : goal.overflow_add-result
overflow_add-result c =
    omega (arith, alone-few c.requires c.forget_all-alone.ensures, c.owed_slots-owed.ensures, count_most (owes_by c.args.counts.now) c.args.words.now)

pub returns : goal.returns
returns c =
    slots_are c.requires c.forget_all-alone.ensures c.note_all.ensures (c.count_where-used.ensures (ltb 0) (λ n b h. search rules)) c.owed_slots-owed.ensures
