use mathlib.Core.Path.{sym, ◌∙◌}
use Rattle.std.specs.Cmp.Lexicographic.{same_text}
use Rattle.store.proofs.SettleLaws.{planned-kept, planned-same, planned-back}
use Rattle.store.proofs.plan.settle.Goals as goal

pub returns-then-fits_pool : goal.returns-then-fits_pool
returns-then-fits_pool c =
    planned-kept c.requires.undoable.counted (sym c.fits_pool.ensures ∙ c.if-fits_pool.true)

pub returns : goal.returns
returns c =
    planned-back (sym c.fits_pool.ensures ∙ c.if-fits_pool.false) c.undo.auto.counts c.undo.ensures.words_are c.undo.ensures.counted

pub returns-then-eq : goal.returns-then-eq
returns-then-eq c =
    planned-same c.args.words.now c.args.old.now c.args.i c.requires.undoable.inside (same_text _ _ (sym c.if-eq.true ∙ c.eq.ensures)) _ c.requires.undoable.counted c.requires.fitted
