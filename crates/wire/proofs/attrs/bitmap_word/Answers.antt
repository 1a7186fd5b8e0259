use Rattle.std.proofs.Common.{◌≡◌, ℕ, refl, ap, ◌∙◌}
use Rattle.std.specs.Prelude.{Option, Some, None}
use Rattle.std.specs.Option.{unwrap_or}
use Rattle.xdr.specs.Reading.{parsed, itself}
use Rattle.xdr.proofs.ArrayLaws.{or_zero, numbers-at}
use Rattle.wire.proofs.attrs.bitmap_word.Goals as goal

found : (o : Option ℕ) (at : ℕ) → unwrap_or o 0 ≡ or_zero (parsed itself o at)
found (Some n) at = refl
found None at = refl

pub returns : goal.returns
returns c =
    c.unwrap_or.ensures ∙ found c.u32.result c.u32.new.self.at ∙ ap or_zero (rw c.part.ensures.bytes_are at c.u32.ensures.value) ∙ numbers-at _ _
