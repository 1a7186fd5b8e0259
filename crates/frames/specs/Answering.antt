-- What the program has written of the answers to what it read. Contracts cite these.
use Rattle.std.specs.Prelude.{ℕ, ◌≡◌, ◌<◌, List, [], ◌++◌, length, Option}
use Rattle.std.specs.Io.KnownBytes.{Appends, Consumes, Keeps, IsAtEnd}
use Rattle.rules.specs.Store.{Store}
use Rattle.frame.specs.Reading.{answers}

-- The text t followed the beginning l of a line. Some of its answers are written, and those to what is left of it, and to any text that follows, are the
-- answers from what the calls left: the store and the beginning of a line.
pub record Answered (old new : Option (List ℕ)) (st : Store) (l t : List ℕ) (left : Store) (line rest : List ℕ) : Type 0 where
  pub written : List ℕ
  pub appended : Appends old new written
  pub same : (u : List ℕ) → written ++ answers left line (rest ++ u) ≡ answers st l (t ++ u)

-- the input is at its end, and the line that was begun is answered
pub record Finished (from from' to to' : Option (List ℕ)) (st : Store) (l : List ℕ) : Type 0 where
  pub kept : Keeps from from'
  pub end : IsAtEnd from'
  pub appended : Appends to to' (answers st l [])

-- a piece of at least one byte is read and answered
pub record Went (from from' to to' : Option (List ℕ)) (st : Store) (l : List ℕ) (left : Store) (line : List ℕ) : Type 0 where
  pub piece : List ℕ
  pub some : 0 < length piece
  pub consumed : Consumes from from' piece
  pub answered : Answered to to' st l piece left line []
