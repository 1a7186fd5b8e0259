-- A layout says how a value is written, how it is read, and which values it has. A record's layout is stated once, by the layouts of its
-- fields, and serves both directions.
use Rattle.std.specs.Prelude.{ℕ, ◌-◌, ◌^◌, Bool, true, ◌&&◌, List, [], ◌∷◌, ◌++◌, length, eqb, leb, ltb}
use Rattle.xdr.specs.Encode.{u32, u64, bool, opaque, array}
use Rattle.xdr.specs.Decode.{Reader, ret, ◌>>=◌, number, up_to, fixed, opaque_up_to, array_up_to}

-- `fits` is true of the values that it has; another one can't be written
pub record Layout (A : Type 0) : Type 0 where
  pub write : A → List ℕ
  pub read : Reader A
  pub fits : A → Bool

-- every element of the list passes the test
abbrev pub every : {A : Type 0} → (A → Bool) → List A → Bool
every p [] = true
every p (x ∷ xs) = p x && every p xs

-- n is a number of 32 bits
abbrev pub is_word : ℕ → Bool
is_word n = ltb n (2 ^ 32)

-- numbers of 32 and 64 bits
abbrev pub uint : Layout ℕ
uint = record { write = u32; read = number 4; fits = is_word }

abbrev pub hyper : Layout ℕ
hyper = record { write = u64; read = number 8; fits = λ n. ltb n (2 ^ 64) }

-- an enumeration with the numbers 0 to `limit`
abbrev pub up_to_limit : ℕ → Layout ℕ
up_to_limit limit = record { write = u32; read = up_to limit; fits = λ n. leb n limit && is_word n }

abbrev pub boolean : Layout Bool
boolean = record { write = bool; read = ◌>>=◌ (up_to 1) (λ n. ret (eqb n 1)); fits = λ b. true }

-- n bytes as they stand, n a multiple of four
abbrev pub bytes : ℕ → Layout (List ℕ)
bytes n = record { write = λ d. d; read = fixed n; fits = λ d. eqb (length d) n }

-- opaque data of at most `limit` bytes
abbrev pub opaque_data : ℕ → Layout (List ℕ)
opaque_data limit = record { write = opaque; read = opaque_up_to limit; fits = λ d. leb (length d) limit && is_word (length d) }

-- XDR's own bound on opaque data (RFC 4506, 4.10)
abbrev pub any_length : ℕ
any_length = 2 ^ 32 - 1

-- an array of at most `limit` numbers of 32 bits
abbrev pub uints : ℕ → Layout (List ℕ)
uints limit = record { write = array; read = array_up_to limit; fits = λ ns. leb (length ns) limit && is_word (length ns) && every is_word ns }

infixr 40 ◌then◌
-- one field after another
abbrev pub ◌then◌ : {A B : Type 0} → Layout A → Layout B → Layout (A × B)
◌then◌ a b = record {
  write = λ x. a.write x.0 ++ b.write x.1;
  read = ◌>>=◌ a.read (λ x. ◌>>=◌ b.read (λ y. ret (x, y)));
  fits = λ x. a.fits x.0 && b.fits x.1;
}
