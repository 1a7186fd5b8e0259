-- A part of a text's line, as the code has it. Contracts cite these.
use Rattle.std.specs.Prelude.{ℕ, ◌+◌, cond, length}
use Rattle.frame.specs.declared.parts.Part as Code
use Rattle.frame.specs.Text.{Part, part}

abbrev pub part_of : Code.Part → Part
part_of p = part p.text.now p.ended

-- its characters and its newline
abbrev pub size_of : Code.Part → ℕ
size_of p = length p.text.now + cond p.ended 1 0
