use Rattle.std.proofs.Common.{rules}
use mathlib.Core.Path.{sym, ap, ◌∙◌}
use mathlib.Core.Bool.{not}
use lib.Dec.{ltb}
use Rattle.rules.specs.Store.{is_reserved}
use Rattle.tables.proofs.PoolLaws.{some_is, unreserved, fits-unreserved}
use Rattle.tables.proofs.pool.fits_pool.Goals as goal

pub returns-then-all_where : goal.returns-then-all_where
returns-then-all_where c =
    let ws = c.args.words.now in
    fits-unreserved c.requires (unreserved ws (some_is ws ∙ ap not (sym (c.all_where.ensures (λ w. not (is_reserved w)) (λ n b h. search rules)) ∙ c.if-all_where.true)))

pub fits_of-requires : goal.fits_of-requires
fits_of-requires c =
    record {
      counted = c.requires;
      slots = record {
        held_is = c.count_where.ensures (ltb 1) (λ n b h. search rules);
        reserved_is = sym (some_is c.args.words.now ∙ ap not (sym (c.all_where.ensures (λ w. not (is_reserved w)) (λ n b h. search rules)) ∙ c.if-all_where.false));
      };
    }
