-- A file's bytes and its pieces as they are answered.
use Prim.Native.Nat.{ℕ, suc, ◌+◌, ◌-◌, ◌*◌, ◌≤◌, ◌<◌}
use mathlib.Core.Path.{◌≡◌, refl, sym, ◌∙◌}
use mathlib.Core.Bool.{Bool, true, false, cond}
use mathlib.Core.List.{List, [], ◌∷◌}
use native.Mathlib.Nat.{add-zero}
use native.Mathlib.Omega.{arith}
use lib.ListN.{length, length-append}
use Rattle.xdr.specs.Encode.{opaque_size, concat_map}
use Rattle.xdr.specs.Writing.{HasRoom, Wrote}
use Rattle.xdr.specs.declared.writer.Writer.{Writer}
use Rattle.xdr.proofs.EncodeLaws.{length-u32, length-u64, length-opaque}
use Rattle.xdr.proofs.WritingLaws.{wrote_none, wrote_then}
use Rattle.rules.specs.Store.{Geometry, Store, bytes_from}
use Rattle.rules.specs.Read.{Piece}
use Rattle.rules.specs.Operation.{hole_piece, data_piece, piece_bytes}
use Rattle.rules.proofs.SlotByteLaws.{length_tab}
use Rattle.rules.proofs.ReadLaws.{pieces_none, reaches_all}
use Rattle.store.specs.Readable.{PieceEnds, piece_at}
use Rattle.store.proofs.ScanLaws.{pieces-next}
use Rattle.compound.specs.Pieces.{pieces_to, piece_size, pieces_size}

pub length_bytes : (g : Geometry) (st : Store) (f i n : ℕ) → length (bytes_from g st f i n) ≡ n
length_bytes g st f i n = length_tab _ n i

length-piece : (g : Geometry) (st : Store) (f : ℕ) (p : Piece) → length (piece_bytes g st f p) ≡ piece_size p
length-piece g st f p = go p.hole
  where
    go : (t : Bool) → length (cond t (hole_piece.write (1, (p.start, p.size))) (data_piece.write (0, (p.start, bytes_from g st f p.start p.size))))
        ≡ cond t (4 + (8 + 8)) (4 + (8 + opaque_size p.size))
    go true = simp (length-append, length-u32, length-u64)
    go false = simp (length-append, length-u32, length-u64, length-opaque, length_tab)

pub length-pieces : (g : Geometry) (st : Store) (f : ℕ) (ps : List Piece) → length (concat_map (piece_bytes g st f) ps) ≡ pieces_size ps
length-pieces g st f [] = refl
length-pieces g st f (p ∷ ps) = length-append (piece_bytes g st f p) (concat_map (piece_bytes g st f) ps) ∙ rw (length-piece g st f p, length-pieces g st f ps)

-- The pieces from off up to end are written up to place i: `count` of them, by the writer w. Whoever writes those that are left has
-- written all of them.
pub record Left (g : Geometry) (st : Store) (f off end : ℕ) (w₀ : Writer) (i count : ℕ) (w : Writer) : Type 0 where
  pub number : count + length (pieces_to g st f i end) ≡ length (pieces_to g st f off end)
  pub room : HasRoom (pieces_size (pieces_to g st f i end)) w
  pub all : (z : Writer) → Wrote (concat_map (piece_bytes g st f) (pieces_to g st f i end)) w z
      → Wrote (concat_map (piece_bytes g st f) (pieces_to g st f off end)) w₀ z

module _ (g : Geometry) (st : Store) (f off end : ℕ) (w₀ : Writer) where
  pub left-all : HasRoom (pieces_size (pieces_to g st f off end)) w₀ → Left g st f off end w₀ off 0 w₀
  left-all h = record { number = omega arith; room = h; all = λ z v. v }

  module _ {i count : ℕ} {w : Writer} (left : Left g st f off end w₀ i count w) where
    pub left-none : end ≤ i → (count ≡ length (pieces_to g st f off end)) × Wrote (concat_map (piece_bytes g st f) (pieces_to g st f off end)) w₀ w
    left-none l =
        let e : pieces_to g st f i end ≡ [] = pieces_none g st f end (suc g.S) i l in (
          sym (add-zero count) ∙ rw e at left.number,
          left.all w (rw e (wrote_none w)),
        )

    module _ (pos : 0 < g.B) (fits : end ≤ g.S * g.B) {p : ℕ} (ends : PieceEnds g st.words f i end p) where
      rest : pieces_to g st f i end ≡ piece_at g st.words f i (p - i) ∷ pieces_to g st f p end
      rest = pieces-next g pos st f end g.S (suc g.S) i p (reaches_all g.B g.S end i fits) (reaches_all g.B g.S end p fits) ends

      pub left-room : HasRoom (piece_size (piece_at g st.words f i (p - i))) w
      left-room = omega (arith, rw rest at left.room)

      pub left-on : {w' : Writer} → Wrote (piece_bytes g st f (piece_at g st.words f i (p - i))) w w' → Left g st f off end w₀ p (count + 1) w'
      left-on {w'} v = record {
        number = omega (arith, rw rest at left.number);
        room = omega (arith, rw rest at left.room, v.place, v.size, length-piece g st f (piece_at g st.words f i (p - i)));
        all = λ z u. left.all z (rw rest (wrote_then v u));
      }
