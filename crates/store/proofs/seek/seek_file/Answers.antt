use mathlib.Core.Path.{sym, ◌∙◌}
use Rattle.store.proofs.ScanLaws.{seek_here, seek_on, seek_past}
use Rattle.store.proofs.seek.seek_file.Goals as goal

pub returns-then-hole-hole_at : goal.returns-then-hole-hole_at
returns-then-hole-hole_at c =
    λ sizes m e. sym (sym (c.loop-i.invariant sizes m e) ∙ seek_here _ _ _ _ c.requires e _ _ c.loop-i-test.true (rw c.hole_at.ensures at c.if-hole-hole_at.true))

pub loop-i-preserved : goal.loop-i-preserved
loop-i-preserved c =
    λ sizes m e. sym (seek_on _ _ _ _ c.requires e _ _ c.loop-i-test.true (rw c.hole_at.ensures at c.if-hole-hole_at.false)) ∙ c.loop-i.invariant sizes m e

pub returns : goal.returns
returns c =
    λ sizes m e. sym (sym (c.loop-i.invariant sizes m e) ∙ seek_past _ _ _ _ c.requires e _ _ c.loop-i-test.false)
