-- What a writer did.
use Rattle.std.specs.Prelude.{◌≡◌, ℕ, ◌+◌, ◌≤◌, List, ◌++◌, length, take, drop}
use Rattle.xdr.specs.declared.writer.Writer.{Writer}
use Rattle.xdr.specs.Bytes.{splice}

abbrev pub HasRoom : ℕ → Writer → Type 0
HasRoom n w = w.at + n ≤ length w.out.now

-- what is written, and what lies behind it
abbrev pub done : Writer → List ℕ
done w = take w.at w.out.now

abbrev pub rest : Writer → List ℕ
rest w = drop w.at w.out.now

-- these bytes were written, and nothing else
pub record Wrote (bs : List ℕ) (old new : Writer) : Type 0 where
  pub written : done new ≡ done old ++ bs
  pub behind : rest new ≡ drop (length bs) (rest old)
  pub place : new.at ≡ old.at + length bs
  pub size : length new.out.now ≡ length old.out.now
  pub lent : new.out.ghost_name ≡ old.out.ghost_name

-- these bytes were put over those at another place, and nothing else
pub record WroteOver (at : ℕ) (bs : List ℕ) (old new : Writer) : Type 0 where
  pub bytes : new.out.now ≡ splice old.out.now at bs
  pub place : new.at ≡ old.at
  pub size : length new.out.now ≡ length old.out.now
  pub lent : new.out.ghost_name ≡ old.out.ghost_name
