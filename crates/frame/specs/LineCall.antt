-- The call on a line. Contracts cite these.
use Rattle.std.specs.Prelude.{ℕ, ◌≡◌, cond, List, [], ◌++◌, length, drop, ltb}
use Rattle.rules.specs.Store.{Store}
use Rattle.rules.specs.Line.{Line, answer_line}

-- an `out` of fewer than 65,536 bytes takes no line and serves nothing (house)
unfoldable pub line_into : List ℕ → Store → List ℕ → Line
line_into out st l = cond (ltb (length out) 65536) (record { line = []; store = st }) (answer_line st l)

-- The line wanted stands at the start of `out`, bytes past it unchanged; its length is answered, and the tables are the store wanted.
pub record LinePromise (want : Line) (out : List ℕ) (answer : ℕ) (after : List ℕ) (left : Store) : Type 0 where
  pub length_is : answer ≡ length want.line
  pub out_is : after ≡ want.line ++ drop (length want.line) out
  pub sizes_are : left.sizes ≡ want.store.sizes
  pub words_are : left.words ≡ want.store.words
  pub mem_is : left.mem ≡ want.store.mem
