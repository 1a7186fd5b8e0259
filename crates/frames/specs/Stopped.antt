-- What a read or a write that failed leaves of the store and of the line that was begun. Contracts cite these.
use Rattle.std.specs.Prelude.{ℕ, ◌≤◌, ◌≡◌, List, length, take, drop}
use Rattle.rules.specs.Store.{Store}
use Rattle.frame.specs.Text.{parts_of, each_part}
use Rattle.frame.specs.Reading.{reading, read_part, read_end}

-- The text t followed the beginning l of a line. It is served up to a place, and what follows that place leads to the same end from what is left: the store and
-- some characters of `line`.
pub record Stopped (st : Store) (l t : List ℕ) (left : Store) (line : List ℕ) : Type 0 where
  pub at : ℕ
  pub kept : ℕ
  pub within : at ≤ length t
  pub few : kept ≤ 8193
  pub store_is : (each_part read_part (reading left (take kept line)) (parts_of (drop at t))).store ≡ (each_part read_part (reading st l) (parts_of t)).store
  pub line_is : (each_part read_part (reading left (take kept line)) (parts_of (drop at t))).line ≡ (each_part read_part (reading st l) (parts_of t)).line

-- the read failed; or a write did, of the answers to what was read, or of the last one
pub data Failed (st : Store) (line : List ℕ) (kept : ℕ) (out input : List ℕ) (left : Store) (after : List ℕ) : Type 0 where
  unread : left ≡ st → after ≡ line → Failed st line kept out input left after
  unanswered : (n : ℕ) → n ≤ length input → Stopped st (take kept line) (take n input) left after → Failed st line kept out input left after
  unended : left ≡ (read_end line kept out st).store → Failed st line kept out input left after
