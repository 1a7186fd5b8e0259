-- Laws on a piece of the input that is served in several calls.
use Prim.Native.Nat.{ℕ, ◌+◌, ◌-◌, ◌≤◌, ◌<◌}
use mathlib.Core.Path.{◌≡◌}
use mathlib.Core.Bool.{Bool}
use mathlib.Core.List.{List}
use native.Mathlib.Omega.{arith}
use lib.ListN.{length, take, drop}
use borrow.Rule.Slice.PartMut.{mid_len}
use Rattle.std.specs.Prelude.{Result, Ok, Err, OnErr}
use Rattle.rules.specs.Store.{Store}
use Rattle.frame.specs.declared.text.Progress.{Progress}
use Rattle.frame.specs.Reading.{read_text, ReadPromise, Taken}
use Rattle.frames.specs.Stopped.{Stopped}
use Rattle.frame.proofs.TextLaws.{Lengths, lengths-start, lengths-on}
use Rattle.frame.proofs.TextProof.{call-within, call_moves, TakenTo, taken_start, taken_more, taken-all}

-- what holds, holds where there is an error
pub on_err : {T E P : Type 0} (r : Result T E) → P → OnErr r P
on_err (Ok x) p = tt
on_err (Err e) p = p

-- the piece is taken to place i
pub record PieceLeft (st₀ : Store) (line₀ out₀ piece : List ℕ) (kept₀ : ℕ) (st : Store) (line out : List ℕ) (kept i : ℕ) : Type 0 where
  pub long : Lengths line₀ out₀ line out
  pub few : kept ≤ 8193
  pub reached : i ≤ length piece
  pub taken : TakenTo st₀ (take kept₀ line₀) piece st (take kept line) i

pub piece-start : (st : Store) (line out piece : List ℕ) (kept : ℕ) → kept ≤ 8193 → PieceLeft st line out piece kept st line out kept 0
piece-start st line out piece kept h = record {
  long = lengths-start line out;
  few = h;
  reached = omega arith;
  taken = taken_start st (take kept line) piece;
}

module _ {st₀ : Store} {line₀ out₀ piece : List ℕ} {kept₀ : ℕ} {st : Store} {line out : List ℕ} {kept i : ℕ}
    (left : PieceLeft st₀ line₀ out₀ piece kept₀ st line out kept i) where
  -- one call more
  module _ {r : Progress} {line' out' : List ℕ} {st' : Store} (h : length line₀ ≡ 8193)
      (w : ReadPromise (read_text line kept out st (take (length piece - i) (drop i piece))) r line' out out' st') where
    rest : length (take (length piece - i) (drop i piece)) ≡ length piece - i
    rest = mid_len i (length piece) piece (omega arith)

    pub piece-within : i + r.taken ≤ length piece
    piece-within = omega (arith, call-within _ _ _ _ _ w (omega (arith, h, left.long.line_is)) left.few, rest, left.reached)

    pub piece_moves : 65537 ≤ length out₀ → i < length piece → 0 < r.taken
    piece_moves room less =
        call_moves _ _ _ _ _ w (omega (arith, h, left.long.line_is)) left.few (omega (arith, room, left.long.out_is)) (omega (arith, rest))

    pub piece-more : Lengths line out line' out' → PieceLeft st₀ line₀ out₀ piece kept₀ st' line' out' r.kept (i + r.taken)
    piece-more l = record {
      long = lengths-on left.long l;
      few = omega (arith, w.kept_fits, l.line_is, left.long.line_is, h);
      reached = piece-within;
      taken = taken_more st₀ (take kept₀ line₀) piece line kept out st i w (omega (arith, h, left.long.line_is)) left.few left.taken;
    }

  -- the piece is at its end
  pub piece-end : (well : Bool) → length piece ≤ i → (kept ≤ 8193) × Taken well st₀ (take kept₀ line₀) piece st (take kept line)
  piece-end well e = (left.few, taken-all piece well e left.taken)

  -- the answers can't be written
  pub piece-stopped : Stopped st₀ (take kept₀ line₀) piece st line
  piece-stopped = record { at = i; kept = kept; within = left.reached; few = left.few; store_is = left.taken.0; line_is = left.taken.1 }
