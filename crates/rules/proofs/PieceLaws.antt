-- The pieces of READ_PLUS: laid end to end they are the bytes of READ; each is of one kind, and neighbours differ in kind.
use Prim.Native.Nat.{ℕ, zero, suc, ◌+◌, ◌-◌, ◌*◌, ◌/◌, ◌≤◌, ◌<◌, min}
use mathlib.Core.Path.{◌≡◌, refl, sym, ap, ◌∙◌, subst}
use mathlib.Core.Bool.{Bool, true, false, beq}
use mathlib.Core.List.Memᴰ
use mathlib.Core.List.{List, [], ◌∷◌, Memᴰ}
use mathlib.Core.Logic.{◌⊎◌, inl, inr}
use native.Mathlib.Decide.{dec_lt}
use native.Mathlib.Omega.{arith}
use borrow.Author.Tests.{ltb-true}
use lib.Dec.{ltb}
use Rattle.rules.specs.Store.{Geometry, Store, size_of, bytes_from}
use Rattle.rules.specs.Read.{Piece, is_hole_at, join, pieces, granted, read_count, read_pieces}
use Rattle.rules.specs.Claim.{Follow, Alternate, Unlike, PiecesRight}
use Rattle.rules.proofs.ReadLaws.{beq-true, beq-false, same_kind, slot_end_lem, read-plus-laid}

module _ (g : Geometry) (pos : 0 < g.B) (st : Store) (f end : ℕ) where
  record PieceRight (p : Piece) : Type 0 where
    some_byte : 1 ≤ p.size
    inside : p.start + p.size ≤ end
    kind : (i : ℕ) → p.start ≤ i → i < p.start + p.size → is_hole_at g st f i ≡ p.hole

  -- pieces from place i on
  record PiecesFrom (i : ℕ) (ps : List Piece) : Type 0 where
    each : (p : Piece) → Memᴰ p ps → PieceRight p
    starts : Follow i ps
    alternate : Alternate ps

  each-cons : {p : Piece} {ps : List Piece} → PieceRight p → ((q : Piece) → Memᴰ q ps → PieceRight q) → (q : Piece) → Memᴰ q (p ∷ ps) → PieceRight q
  each-cons {p} {ps} h hs q m = go (Memᴰ.cases_cons m)
    where
      go : (q ≡ p) ⊎ Memᴰ q ps → PieceRight q
      go (inl e) = subst PieceRight (sym e) h
      go (inr k) = hs q k

  -- a piece in front of one of its kind
  joined : (p q : Piece) → PieceRight p → PieceRight q → q.start ≡ p.start + p.size → q.hole ≡ p.hole
      → PieceRight (record { hole = p.hole; start = p.start; size = p.size + q.size })
  joined p q h k e d = record {
    some_byte = omega (arith, h.some_byte);
    inside = omega (arith, k.inside);
    kind = λ i l u. go i l u (dec_lt i (p.start + p.size));
  }
    where
      go : (i : ℕ) → p.start ≤ i → i < p.start + (p.size + q.size) → Dec (i < p.start + p.size) → is_hole_at g st f i ≡ p.hole
      go i l u (yes b) = h.kind i l b
      go i l u (no b) = k.kind i (omega (arith, b)) (omega arith) ∙ d

  join-from : (p : Piece) → PieceRight p → (qs : List Piece) → PiecesFrom (p.start + p.size) qs → PiecesFrom p.start (join p qs)
  unfolding join
  join-from p h [] r = record { each = each-cons h r.each; starts = (refl, tt); alternate = (tt, tt) }
  join-from p h (q ∷ qs) r = go (beq p.hole q.hole) refl
    where
      rest : (y : Piece) → Memᴰ y qs → PieceRight y
      rest y m = r.each y (Memᴰ.tail m)

      go : (t : Bool) → beq p.hole q.hole ≡ t
          → PiecesFrom p.start (elim t [ true ↦ record { hole = p.hole; start = p.start; size = p.size + q.size } ∷ qs | false ↦ p ∷ q ∷ qs ])
      go true e =
          let d : q.hole ≡ p.hole = beq-true p.hole q.hole e in
          let ends : q.start + q.size ≡ p.start + (p.size + q.size) = omega (arith, r.starts.0) in
          record {
            each = each-cons (joined p q h (r.each q (Memᴰ.head refl)) r.starts.0 d) rest;
            starts = (refl, subst (λ i. Follow i qs) ends r.starts.1);
            alternate = (subst (λ t. Unlike t qs) d r.alternate.0, r.alternate.1);
          }
      go false e = record { each = each-cons h r.each; starts = (refl, r.starts); alternate = (beq-false p.hole q.hole e, r.alternate) }

  -- the places from i to the end of its slot, or to `end`
  slot-piece : (i : ℕ) → i < end → PieceRight (record { hole = is_hole_at g st f i; start = i; size = min end ((i / g.B + 1) * g.B) - i })
  slot-piece i l = record {
    some_byte = omega (arith, slot_end_lem pos i);
    inside = omega (arith, slot_end_lem pos i);
    kind = λ j a b. same_kind g pos st f i j a (omega (arith, slot_end_lem pos i));
  }

  pieces_from_lem : (k i : ℕ) → PiecesFrom i (pieces g st f end k i)
  unfolding pieces
  pieces_from_lem zero i = record { each = λ p m. absurd (Memᴰ.not-nil m); starts = tt; alternate = tt }
  pieces_from_lem (suc k) i = go (ltb i end) refl (pieces_from_lem k (min end ((i / g.B + 1) * g.B)))
    where
      next : ℕ
      next = min end ((i / g.B + 1) * g.B)

      go : (t : Bool) → ltb i end ≡ t → PiecesFrom next (pieces g st f end k next) → PiecesFrom i (elim t [
        | true ↦ join (record { hole = is_hole_at g st f i; start = i; size = next - i }) (pieces g st f end k next)
        | false ↦ []
      ])
      go false e r = record { each = λ p m. absurd (Memᴰ.not-nil m); starts = tt; alternate = tt }
      go true e r =
          let l : i < end = ltb-true i end e in
          let ends : next ≡ i + (next - i) = omega (arith, slot_end_lem pos i) in
          join-from _ (slot-piece i l) (pieces g st f end k next) (subst (λ j. PiecesFrom j (pieces g st f end k next)) ends r)

-- for any file that fits its slots, any place and any count
pub pieces_right : (g : Geometry) → 0 < g.B → (st : Store) (f : ℕ) → size_of st f ≤ g.S * g.B → (off n : ℕ) → PiecesRight g st f off n
pieces_right g pos st f fits off n = record {
  laid = read-plus-laid g pos st f off end (omega arith) ∙ ap (bytes_from g st f off) count;
  starts = all.starts;
  none_empty = λ p m. (all.each p m).some_byte;
  alternate = all.alternate;
  inside = λ p m. (all.each p m).inside;
  kinds = λ p m. (all.each p m).kind;
}
  where
    end : ℕ
    end = min (off + granted n) (size_of st f)

    all : PiecesFrom g pos st f end off (read_pieces g st f off n)
    all = pieces_from_lem g pos st f end (suc g.S) off

    count : end - off ≡ read_count st f off n
    count = omega arith
