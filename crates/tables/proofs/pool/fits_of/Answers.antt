use Rattle.std.proofs.Common.{rules}
use mathlib.Core.Path.{sym, ◌∙◌}
use native.Mathlib.Omega.{arith}
use lib.Dec.{ltb}
use Rattle.rules.specs.Store.{is_reserved}
use borrow.Author.Tests.{not-true}
use Rattle.tables.specs.Tally.{owes_by}
use Rattle.rules.proofs.CountLaws.{count_most}
use Rattle.tables.proofs.PoolLaws.{unreserved, fits-unreserved, fits_bound, fits-counted}
use Rattle.tables.proofs.pool.fits_of.Goals as goal

pub returns-then-not-counted : goal.returns-then-not-counted
returns-then-not-counted c =
    fits-unreserved c.requires.counted (unreserved c.args.words.now (sym c.requires.slots.reserved_is ∙ not-true _ c.if-not-counted.true))

pub overflow_add-counted : goal.overflow_add-counted
overflow_add-counted c =
    let ws = c.args.words.now in
    omega (arith, c.requires.counted.few, c.requires.slots.held_is, c.count_where.ensures is_reserved (λ n b h. search rules), count_most (ltb 1) ws, count_most is_reserved ws)

pub returns-then-counted-count_where : goal.returns-then-counted-count_where
returns-then-counted-count_where c =
    fits_bound c.requires.counted (omega (arith, c.requires.slots.held_is, c.count_where.ensures is_reserved (λ n b h. search rules), c.if-counted-count_where.true))

pub overflow_add-result : goal.overflow_add-result
overflow_add-result c =
    let k = c.requires.counted in
    let cs = c.args.counts.now in
    omega (arith, k.few, k.most, c.used_blocks-used.ensures, c.owed_of.ensures, count_most (ltb 0) cs, count_most (owes_by cs) c.args.words.now)

pub returns : goal.returns
returns c = fits-counted c.requires.counted _ _ c.used_blocks-used.ensures c.owed_of.ensures
