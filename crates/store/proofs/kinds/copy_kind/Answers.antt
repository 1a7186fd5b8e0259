use mathlib.Core.Path.{sym, ◌∙◌}
use Rattle.store.proofs.MatchLaws.{copy-starts, copy_uncovered, copy_data, copy-cleared}
use Rattle.store.proofs.kinds.copy_kind.Goals as goal
use Rattle.store.proofs.kinds.copy_kind.Goals.{else-covered-via-then-covered+else-from_holes, else-covered-via-else-covered}

pub from_holes-requires : goal.from_holes-requires
from_holes-requires c =
    (c.requires, copy-starts c.requires _ (sym c.covered.ensures ∙ c.if-covered.true))

pub returns-then-from_holes : goal.returns-then-from_holes
returns-then-from_holes c =
    copy-cleared c.requires (rw c.max.ensures at (sym c.covered.ensures ∙ c.if-covered.true)) _ c.if-from_holes.true c.from_holes.ensures

pub returns : goal.returns
returns c = elim c.else-covered.branch [
  | else-covered-via-then-covered+else-from_holes w ↦ copy_data c.requires _ w.if-from_holes.false w.from_holes.ensures
  | else-covered-via-else-covered w ↦ copy_uncovered c.requires (rw c.max.ensures at (sym c.covered.ensures ∙ w.if-covered.false))
]
