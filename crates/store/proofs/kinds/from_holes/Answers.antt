use mathlib.Core.Path.{sym, ◌∙◌}
use Rattle.store.proofs.MatchLaws.{matched-no, matched-last}
use Rattle.store.proofs.kinds.from_holes.Goals as goal

pub returns-then-hole_at : goal.returns-then-hole_at
returns-then-hole_at c =
    rw (c.hole_at-then-hole_at.ensures, c.min-end.ensures) (matched-last c.requires.0 c.requires.1 (sym c.hole_at.ensures ∙ c.if-hole_at.true))

pub returns-else-hole_at : goal.returns-else-hole_at
returns-else-hole_at c =
    rw c.if-hole_at.false (matched-no c.requires.0 c.requires.1 (sym c.hole_at.ensures ∙ c.if-hole_at.false))
