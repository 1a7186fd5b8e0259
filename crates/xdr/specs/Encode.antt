-- Encodings (RFC 4506): numbers are big-endian (4.2, 4.5), a boolean is a number (4.4), opaque data has its length
-- in front and is padded with zeros to a multiple of four bytes (4.10), an array has its length in front (4.13).
use Rattle.std.specs.Prelude.{ℕ, zero, suc, ◌+◌, ◌-◌, ◌/◌, ◌%◌, ◌^◌, Bool, cond, List, [], ◌∷◌, ◌++◌, length, replicate}

-- n in k bytes, the highest first
unfoldable pub be : ℕ → ℕ → List ℕ
be zero n = []
be (suc k) n = (n / 256 ^ k % 256) ∷ be k n

unfoldable pub u32 : ℕ → List ℕ
u32 n = be 4 n

unfoldable pub u64 : ℕ → List ℕ
u64 n = be 8 n

unfoldable pub bool : Bool → List ℕ
bool b = u32 (cond b 1 0)

-- how many zero bytes follow n bytes of opaque data
abbrev pub pad_bytes : ℕ → ℕ
pad_bytes n = (4 - n % 4) % 4

-- how long n bytes of opaque data are as encoded
abbrev pub opaque_size : ℕ → ℕ
opaque_size n = 4 + (n + pad_bytes n)

unfoldable pub opaque : List ℕ → List ℕ
opaque d = u32 (length d) ++ (d ++ replicate (pad_bytes (length d)) 0)

-- the encodings of a list's elements, one after the other
abbrev pub concat_map : {A : Type 0} → (A → List ℕ) → List A → List ℕ
concat_map f [] = []
concat_map f (x ∷ xs) = f x ++ concat_map f xs

-- an array of numbers of four bytes: how many they are, then one after the other
unfoldable pub array : List ℕ → List ℕ
array ns = u32 (length ns) ++ concat_map u32 ns
