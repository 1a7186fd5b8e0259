use mathlib.Core.Path.{◌∙◌}
use native.Mathlib.Omega.{arith}
use Rattle.store.proofs.OwnLaws.{undo_more, undo_all}
use Rattle.store.proofs.plan.undo.Goals as goal

pub loop-k-preserved : goal.loop-k-preserved
loop-k-preserved c =
    record {
      words_long = c.set_word.auto.words ∙ c.loop-k.invariant.words_long;
      counts_long = c.set_word.auto.counts ∙ c.loop-k.invariant.counts_long;
      same = undo_more c.args.old.now _ _ c.loop-k.k _ _ (omega arith) c.set_word.ensures ∙ c.loop-k.invariant.same;
      counted = c.set_word.ensures.counted;
    }

pub returns : goal.returns
returns c =
    record { words_are = undo_all _ _ _ _ _ c.requires.inside c.loop-k-test.false c.loop-k.invariant.same; counted = c.loop-k.invariant.counted }
