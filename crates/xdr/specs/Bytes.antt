-- Parts of a list of bytes: one that is taken, and one that is stored over.
use Rattle.std.specs.Prelude.{ℕ, ◌+◌, List, ◌++◌, length, take, drop}
use Rattle.xdr.specs.declared.bytes.Span.{Span}

-- the bytes of a span, as far as they are there
unfoldable pub part_of : List ℕ → Span → List ℕ
part_of s d = take d.len (drop d.start s)

-- m with the bytes bs from place `at` on
unfoldable pub splice : List ℕ → ℕ → List ℕ → List ℕ
splice m at bs = take at m ++ (bs ++ drop (at + length bs) m)
