-- What the program writes. Contracts cite these.
use Rattle.std.specs.Prelude.{ℕ, List}
use Rattle.std.proofs.Math.Option.{some}
use Rattle.frame.specs.Text.{lines_of}
use Rattle.frame.specs.Recording.{verdict}
use Rattle.frame.specs.Printing.{printed}

-- the line that says the verdict on a recording
abbrev pub told_of : List ℕ → List ℕ
told_of text = printed (some (verdict (lines_of text)))
