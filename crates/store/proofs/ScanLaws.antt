-- For the code that scans: SEEK slot by slot, the end of a piece, the pieces one after the other.
use Prim.Native.Nat.{ℕ, zero, suc, ◌+◌, ◌-◌, ◌*◌, ◌/◌, ◌≤◌, ◌<◌, min}
use mathlib.Core.Path.{◌≡◌, refl, sym, ap, ◌∙◌}
use mathlib.Core.Bool.{Bool, true, false, not, beq, not-not, not-eq-not}
use mathlib.Core.List.{List, [], ◌∷◌}
use mathlib.Core.Logic.{◌≢◌}
use native.Mathlib.Nat.{le_refl}
use native.Mathlib.Decide.{dec_lt}
use native.Mathlib.Omega.{arith}
use borrow.Author.Tests.{lt-ltb, le-ltb}
use lib.ListN.{get_or, replicate, get_or-replicate}
use Rattle.rules.specs.Store.{Geometry, Store, size_of}
use Rattle.rules.specs.Read.{Piece, is_hole_at, join, pieces, seek_from, seek_place}
use Rattle.store.specs.Readable.{Placed, hole_in, PieceEnds, piece_at}
use Rattle.rules.proofs.ReadLaws.{pieces_none, slot_end_lem, same_kind, Reaches, reached, reaches-slot, reaches-next, reaches_all, First, seek_first}
use Rattle.rules.specs.Claim.{Unlike}
use Rattle.store.proofs.PlaceLaws.{placed-pos}

-- ---- SEEK

module _ (g : Geometry) (pos : 0 < g.B) (st : Store) (f : ℕ) (hole : Bool) where
  seek_end : (k i : ℕ) → size_of st f ≤ i → seek_from g st f hole k i ≡ size_of st f
  unfolding seek_from
  seek_end zero i h = refl
  seek_end (suc k) i h = rw (le-ltb i (size_of st f) h, seek_from)

  seek_slot : (k i : ℕ) → i < size_of st f
      → seek_from g st f hole (suc k) i ≡ elim (beq hole (is_hole_at g st f i)) [ true ↦ i | false ↦ seek_from g st f hole k ((i / g.B + 1) * g.B) ]
  unfolding seek_from
  seek_slot k i h = rw (lt-ltb i (size_of st f) h, seek_from)

  -- any number of slots that reaches the size finds the same place
  seek_bound : (k l i : ℕ) → Reaches g.B (size_of st f) k i → Reaches g.B (size_of st f) l i → seek_from g st f hole k i ≡ seek_from g st f hole l i
  seek_bound zero l i a b = let h = reached g.B (size_of st f) i a in seek_end zero i h ∙ sym (seek_end l i h)
  seek_bound (suc k) zero i a b = let h = reached g.B (size_of st f) i b in seek_end (suc k) i h ∙ sym (seek_end zero i h)
  seek_bound (suc k) (suc l) i a b = go (dec_lt i (size_of st f)) (seek_bound k l ((i / g.B + 1) * g.B))
    where
      next : ℕ
      next = (i / g.B + 1) * g.B

      go : Dec (i < size_of st f)
          → (Reaches g.B (size_of st f) k next → Reaches g.B (size_of st f) l next → seek_from g st f hole k next ≡ seek_from g st f hole l next)
          → seek_from g st f hole (suc k) i ≡ seek_from g st f hole (suc l) i
      go (no d) ih = seek_end (suc k) i (omega (arith, d)) ∙ sym (seek_end (suc l) i (omega (arith, d)))
      go (yes h) ih =
          seek_slot k i h
          ∙ ap (λ p. elim (beq hole (is_hole_at g st f i)) [ true ↦ i | false ↦ p ]) (ih (reaches-slot pos (size_of st f) k i h a) (reaches-slot pos (size_of st f) l i h b))
          ∙ sym (seek_slot l i h)

-- SEEK in a file of n bytes, as the code goes
module _ (g : Geometry) (st : Store) (n f : ℕ) (h : Placed g st.words f n) (is : size_of st f ≡ n) (hole : Bool) (i : ℕ) where
  pub seek_here : i < n → beq hole (is_hole_at g st f i) ≡ true → seek_place g st f hole i ≡ i
  seek_here l e = seek_slot g (placed-pos h) st f hole g.S i (rw is l) ∙ rw e

  -- the slot of i is of the other kind: on to the next
  pub seek_on : i < n → beq hole (is_hole_at g st f i) ≡ false → seek_place g st f hole i ≡ seek_place g st f hole ((i / g.B + 1) * g.B)
  seek_on l e =
      seek_slot g (placed-pos h) st f hole g.S i (rw is l) ∙ rw e
      (seek_bound g (placed-pos h) st f hole g.S (suc g.S) ((i / g.B + 1) * g.B)
      (reaches-slot (placed-pos h) (size_of st f) g.S i (rw is l) (reaches_all g.B g.S (size_of st f) i (rw is h.fits)))
      (reaches_all g.B g.S (size_of st f) ((i / g.B + 1) * g.B) (rw is h.fits)))

  pub seek_past : n ≤ i → seek_place g st f hole i ≡ n
  seek_past l = seek_end g (placed-pos h) st f hole (suc g.S) i (rw is l) ∙ is

-- ---- the end of a piece

-- it is where SEEK of the other kind stops
pub piece-ends : (g : Geometry) (ws : List ℕ) (f i end p : ℕ) → Placed g ws f end → i < end
    → ((sizes m : List ℕ) → get_or sizes f 0 ≡ end → p ≡ seek_place g (record { sizes = sizes; words = ws; mem = m }) f (not (hole_in g ws f i)) i)
    → PieceEnds g ws f i end p
piece-ends g ws f i end p h l e = record {
  more = omega (arith, is, first.from, moved);
  most = rw is at first.to;
  same = λ j a b. first.before j a b ∙ not-not (hole_in g ws f i);
  other = λ u. first.here (rw is u);
}
  where
    sizes : List ℕ
    sizes = replicate (suc f) end

    st : Store
    st = record { sizes = sizes; words = ws; mem = [] }

    is : size_of st f ≡ end
    is = get_or-replicate (suc f) f end 0 (le_refl (suc f))

    first : First g (placed-pos h) st f (not (hole_in g ws f i)) i p
    first = rw (← e sizes [] is) at (seek_first g (placed-pos h) st f (not (hole_in g ws f i)) (suc g.S) i (reaches_all g.B g.S (size_of st f) i (rw is h.fits)))

    moved : p ≢ i
    moved q = (not-eq-not {a = hole_in g ws f i} {b = hole_in g ws f i}).1 refl (rw q at (first.here (omega (arith, is))))

-- ---- the pieces

join-like : (p q : Piece) (qs : List Piece) → q.hole ≡ p.hole → join p (q ∷ qs) ≡ record { hole = p.hole; start = p.start; size = p.size + q.size } ∷ qs
unfolding join
join-like p q qs e = go p.hole q.hole e
  where
    go : (a b : Bool) → b ≡ a
        → elim (beq a b) [ true ↦ record { hole = p.hole; start = p.start; size = p.size + q.size } ∷ qs | false ↦ p ∷ q ∷ qs ]
        ≡ record { hole = p.hole; start = p.start; size = p.size + q.size } ∷ qs
    go true b e = rw e
    go false b e = rw e

join-unlike : (p : Piece) (qs : List Piece) → Unlike p.hole qs → join p qs ≡ p ∷ qs
unfolding join
join-unlike p [] u = refl
join-unlike p (q ∷ qs) u = go p.hole q.hole u
  where
    go : (a b : Bool) → b ≡ not a
        → elim (beq a b) [ true ↦ record { hole = p.hole; start = p.start; size = p.size + q.size } ∷ qs | false ↦ p ∷ q ∷ qs ] ≡ p ∷ q ∷ qs
    go true b e = rw e
    go false b e = rw e

join_first : (p : Piece) (qs : List Piece) (t : Bool) → p.hole ≡ not t → Unlike t (join p qs)
unfolding join
join_first p [] t e = e
join_first p (q ∷ qs) t e = go (beq p.hole q.hole)
  where
    go : (b : Bool) → Unlike t (elim b [ true ↦ record { hole = p.hole; start = p.start; size = p.size + q.size } ∷ qs | false ↦ p ∷ q ∷ qs ])
    go true = e
    go false = e

module _ (g : Geometry) (pos : 0 < g.B) (st : Store) (f end : ℕ) where
  -- where the slot of place i ends, or `end`
  abbrev next : ℕ → ℕ
  next i = min end ((i / g.B + 1) * g.B)

  abbrev piece : ℕ → ℕ → Piece
  piece i n = piece_at g st.words f i n

  pieces-slot : (k i : ℕ) → i < end → pieces g st f end (suc k) i ≡ join (piece i (next i - i)) (pieces g st f end k (next i))
  unfolding pieces
  pieces-slot k i h = rw (lt-ltb i end h, pieces)

  -- any number of slots that reaches the end gives the same pieces
  pub pieces-bound : (k l i : ℕ) → Reaches g.B end k i → Reaches g.B end l i → pieces g st f end k i ≡ pieces g st f end l i
  pieces-bound zero l i a b = let h = reached g.B end i a in pieces_none g st f end zero i h ∙ sym (pieces_none g st f end l i h)
  pieces-bound (suc k) zero i a b = let h = reached g.B end i b in pieces_none g st f end (suc k) i h ∙ sym (pieces_none g st f end zero i h)
  pieces-bound (suc k) (suc l) i a b = go (dec_lt i end) (pieces-bound k l (next i))
    where
      go : Dec (i < end) → (Reaches g.B end k (next i) → Reaches g.B end l (next i) → pieces g st f end k (next i) ≡ pieces g st f end l (next i))
          → pieces g st f end (suc k) i ≡ pieces g st f end (suc l) i
      go (no d) ih = pieces_none g st f end (suc k) i (omega (arith, d)) ∙ sym (pieces_none g st f end (suc l) i (omega (arith, d)))
      go (yes h) ih = pieces-slot k i h ∙ ap (join _) (ih (reaches-next pos end k i h a) (reaches-next pos end l i h b)) ∙ sym (pieces-slot l i h)

  -- the first piece is of the kind of its place
  pieces-first : (k i : ℕ) (t : Bool) → (i < end → is_hole_at g st f i ≡ not t) → Unlike t (pieces g st f end k i)
  unfolding pieces
  pieces-first zero i t e = tt
  pieces-first (suc k) i t e = go (dec_lt i end)
    where
      go : Dec (i < end) → Unlike t (pieces g st f end (suc k) i)
      go (no d) = rw (pieces_none g st f end (suc k) i (omega (arith, d))) tt
      go (yes h) = rw (pieces-slot k i h) (join_first _ _ t (e h))

  -- the piece from i on ends at p
  module _ (i p : ℕ) (h : PieceEnds g st.words f i end p) where
    inside : i < end
    inside = omega (arith, h.more, h.most)

    after : i < next i
    after = omega (arith, inside, slot_end_lem pos i)

    -- with its slot, or later
    slot_in : next i ≤ p
    slot_in = go (dec_lt p (next i))
      where
        go : Dec (p < next i) → next i ≤ p
        go (no d) = omega (arith, d)
        go (yes u) = absurd (not-eq-not.1 (same_kind g pos st f i p (omega (arith, h.more)) (omega arith)) (h.other (omega arith)))

    ends-here : next i ≡ p → (k l : ℕ) → Reaches g.B end k (next i) → Reaches g.B end l p
        → join (piece i (next i - i)) (pieces g st f end k (next i)) ≡ piece i (p - i) ∷ pieces g st f end l p
    ends-here e k l a b =
        ap (λ q. join (piece i (q - i)) (pieces g st f end k q)) e ∙ ap (join _) (pieces-bound k l p (rw e at a) b)
        ∙ join-unlike _ _ (pieces-first l p (is_hole_at g st f i) h.other)

    goes_on : next i < p → PieceEnds g st.words f (next i) end p
    goes_on u =
        let e : is_hole_at g st f (next i) ≡ is_hole_at g st f i = h.same (next i) (omega (arith, after)) u in
        record { more = u; most = h.most; same = λ j l v. h.same j (omega (arith, after)) v ∙ sym e; other = λ v. h.other v ∙ ap not (sym e) }

    joined : next i < p → (rest ps : List Piece) → rest ≡ piece (next i) (p - next i) ∷ ps → join (piece i (next i - i)) rest ≡ piece i (p - i) ∷ ps
    joined u rest ps e =
        let n : next i - i + (p - next i) ≡ p - i = omega (arith, after) in
        ap (join _) e ∙ join-like _ _ ps (h.same (next i) (omega (arith, after)) u) ∙ ap (λ q. piece i q ∷ ps) n

  pub pieces-next : (k l i p : ℕ) → Reaches g.B end (suc k) i → Reaches g.B end l p → PieceEnds g st.words f i end p
      → pieces g st f end (suc k) i ≡ piece_at g st.words f i (p - i) ∷ pieces g st f end l p
  pieces-next zero l i p a b h =
      let r = reaches-next pos end zero i (inside i p h) a in
      pieces-slot zero i (inside i p h) ∙ ends-here i p h (omega (arith, slot_in i p h, h.most, reached g.B end (next i) r)) zero l r b
  pieces-next (suc k) l i p a b h = pieces-slot (suc k) i (inside i p h) ∙ go (dec_lt (next i) p) (pieces-next k l (next i) p)
    where
      r : Reaches g.B end (suc k) (next i)
      r = reaches-next pos end (suc k) i (inside i p h) a

      go : Dec (next i < p)
          → (Reaches g.B end (suc k) (next i) → Reaches g.B end l p → PieceEnds g st.words f (next i) end p
          → pieces g st f end (suc k) (next i) ≡ piece (next i) (p - next i) ∷ pieces g st f end l p)
          → join (piece i (next i - i)) (pieces g st f end (suc k) (next i)) ≡ piece i (p - i) ∷ pieces g st f end l p
      go (no d) ih = ends-here i p h (omega (arith, d, slot_in i p h)) (suc k) l r b
      go (yes u) ih = joined i p h u _ _ (ih r b (goes_on i p h u))
