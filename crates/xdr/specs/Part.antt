-- A part of a lent slice of bytes: its bytes, and where they lie.
use Rattle.std.specs.Prelude.{ℕ, ◌+◌, ◌≡◌, cond, List, length, ltb}
use Rattle.std.specs.Borrow.{Bor}
use Rattle.xdr.specs.declared.bytes.Span.{Span}
use Rattle.xdr.specs.Bytes.{part_of}

-- the place of byte n of a lent slice
abbrev pub place_of : Bor (List ℕ) → ℕ → ℕ × ℕ
place_of s n = (s.ref_ptr.0, n + s.ref_ptr.1)

-- where the part of a span starts: with the span, or with the slice where that ends before it
abbrev pub part_start : List ℕ → Span → ℕ
part_start s d = cond (ltb (length s) d.start) 0 d.start

pub record PartPromise (s : Bor (List ℕ)) (d : Span) (r : Bor (List ℕ)) : Type 0 where
  pub bytes_are : r.now ≡ part_of s.now d
  pub starts : r.ref_ptr ≡ place_of s (part_start s.now d)
