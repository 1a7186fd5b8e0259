-- Decoding (RFC 4506). A reader takes a list of bytes and a place in it. It gives a value and the place after it, or
-- the place of the first fault met in reading order: the first missing byte, a pad byte that is not zero, or the
-- first byte of a number that is out of range. A place past the end is itself the first missing byte.
use Rattle.std.specs.Prelude.{ℕ, zero, suc, ◌+◌, ◌*◌, ◌/◌, ◌^◌, max, cond, List, [], ◌∷◌, length, get_or, take, drop, leb, ltb, eqb}
use Rattle.xdr.specs.declared.bytes.Span.{Span}
use Rattle.xdr.specs.Bytes.{part_of}
use Rattle.xdr.specs.Encode.{pad_bytes}

pub data Parsed (A : Type 0) : Type 0 where
  got : A → ℕ → Parsed A
  fault : ℕ → Parsed A

abbrev pub Reader : Type 0 → Type 0
Reader A = List ℕ → ℕ → Parsed A

-- where the reading stopped: after the value, or at the fault
abbrev pub stop : {A : Type 0} → Parsed A → ℕ
stop (got a next) = next
stop (fault p) = p

-- ---- one reader after another

abbrev pub and_then : {A B : Type 0} → Parsed A → (A → ℕ → Parsed B) → Parsed B
and_then (got a next) f = f a next
and_then (fault p) f = fault p

abbrev pub ret : {A : Type 0} → A → Reader A
ret a s at = got a at

abbrev pub ◌>>=◌ : {A B : Type 0} → Reader A → (A → Reader B) → Reader B
◌>>=◌ m f = λ s at. and_then (m s at) (λ a next. f a s next)

abbrev pub ◌>>◌ : {A B : Type 0} → Reader A → Reader B → Reader B
◌>>◌ m f = ◌>>=◌ m (λ a. f)

-- ---- bytes as they stand

-- where n bytes stand
unfoldable pub fixed_at : ℕ → Reader Span
fixed_at n s at = cond (leb (at + n) (length s)) (got (record { start = at; len = n }) (at + n)) (fault (max at (length s)))

-- a span's bytes for the span
abbrev pub bytes_of : Reader Span → Reader (List ℕ)
bytes_of r s at = and_then (r s at) (λ d next. got (part_of s d) next)

unfoldable pub fixed : ℕ → Reader (List ℕ)
fixed n = bytes_of (fixed_at n)

-- ---- numbers

-- the number that bytes spell, the highest first
abbrev pub value : List ℕ → ℕ
value [] = 0
value (x ∷ xs) = x * 256 ^ length xs + value xs

-- a number of k bytes
unfoldable pub number : ℕ → Reader ℕ
number k = do
  bs ← fixed k
  ret (value bs)

-- a number of four bytes that is at most `limit`
unfoldable pub up_to : ℕ → Reader ℕ
up_to limit s at = and_then (number 4 s at) (λ n next. cond (leb n limit) (got n next) (fault at))

-- ---- opaque data

-- a value, behind which n zero bytes stand
unfoldable pub padded : {A : Type 0} → ℕ → A → Reader A
padded zero a s at = got a at
padded (suc n) a s at = cond (ltb at (length s)) (cond (eqb (get_or s at 0) 0) (padded n a s (at + 1)) (fault at)) (fault at)

-- where opaque data of at most `limit` bytes stand: a length, so many bytes, and the pad
unfoldable pub opaque_at : ℕ → Reader Span
opaque_at limit = do
  n ← up_to limit
  d ← fixed_at n
  padded (pad_bytes n) d

unfoldable pub opaque_up_to : ℕ → Reader (List ℕ)
opaque_up_to limit = bytes_of (opaque_at limit)

-- ---- arrays of numbers of four bytes

-- the first n numbers that bytes spell
abbrev pub fours : ℕ → List ℕ → List ℕ
fours zero bs = []
fours (suc n) bs = value (take 4 bs) ∷ fours n (drop 4 bs)

abbrev pub numbers : List ℕ → List ℕ
numbers bs = fours (length bs / 4) bs

-- where an array of at most `limit` numbers stands, behind its length
unfoldable pub array_at : ℕ → Reader Span
array_at limit = do
  n ← up_to limit
  fixed_at (4 * n)

unfoldable pub array_up_to : ℕ → Reader (List ℕ)
array_up_to limit = do
  bs ← bytes_of (array_at limit)
  ret (numbers bs)

-- ---- lists

-- n values, one after the other
unfoldable pub times : {A : Type 0} → ℕ → Reader A → Reader (List A)
times zero r s at = got [] at
times (suc n) r s at = and_then (r s at) (λ a next. and_then (times n r s next) (λ rest end. got (a ∷ rest) end))
