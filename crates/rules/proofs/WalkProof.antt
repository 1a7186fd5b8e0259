-- A client's walk over a file by SEEK reaches the size, and its ranges are the file's data and holes in order.
use Prim.Native.Nat.{ℕ, zero, suc, ◌+◌, ◌*◌, ◌/◌, ◌≤◌, ◌<◌}
use mathlib.Core.Path.{◌≡◌, refl, sym, ap, ◌∙◌}
use mathlib.Core.Bool.{Bool, true, false, cond, not, not-eq-not, not-not}
use mathlib.Core.Option.{none, some}
use mathlib.Core.List.{List, [], ◌∷◌}
use mathlib.Core.Logic.{inl, inr}
use native.Mathlib.Decide.{dec_lt}
use native.Mathlib.Omega.{arith}
use borrow.Author.Tests.{ne_eqb}
use lib.Dec.{eqb}
use Rattle.rules.specs.Store.{Geometry, Store, size_of}
use Rattle.rules.specs.Read.{is_hole_at, seek_place}
use Rattle.rules.specs.Run.{Config}
use Rattle.rules.specs.Calls.{answer}
use Rattle.rules.specs.Claim.{Unlike}
use Rattle.rules.specs.Seek.{Finds, seek_call, walk, ranges, EndsAt, DataAndHoles, WalkRight, WalkGiven, WalkClaim}
use Rattle.rules.proofs.GeometryLaws.{block-pos}
use Rattle.rules.proofs.ReadLaws.{Reaches, reached, reaches-slot, reaches-later, reaches-slots, same_kind}
use Rattle.rules.proofs.SeekLaws.{seek_finds}
use Rattle.rules.proofs.SeekCall.{bd, facts, sought-is, store-stays}
use Rattle.rules.proofs.WalkLaws.{ranges-order, ranges-first, order-laid, content-from}

module _ (c : Config) (buffer : List ℕ) (st : Store) (f : ℕ) (h : WalkGiven c buffer st f) where
  abbrev g : Geometry
  g = c.geometry

  pos : 0 < g.B
  pos = block-pos (bd c buffer st f h)

  -- the file's size, and what a SEEK answers
  abbrev n : ℕ
  n = size_of st f

  fits : n ≤ g.S * g.B
  fits = (facts c buffer st f h).fits f h.file

  abbrev place : Bool → ℕ → ℕ
  place hole i = seek_place g st f hole i

  abbrev eof : Bool → ℕ → Bool
  eof hole i = eqb (place hole i) n

  abbrev answers : ℕ → Bool → ℕ → List (Bool × ℕ)
  answers k hole i = walk c buffer f k st hole i

  -- ---- one SEEK, and the rest

  -- the ranges of answers to SEEKs from place i on, the first of the kind that is not asked for
  record Ranges (hole : Bool) (i : ℕ) (xs : List (Bool × ℕ)) : Type 0 where
    order : DataAndHoles g st f i (ranges hole i xs)
    first : Unlike hole (ranges hole i xs)

  module _ (hole : Bool) (i : ℕ) (l : i ≤ n) where
    finds : Finds g st f i hole (eof hole i) (place hole i)
    finds = seek_finds g pos st f fits hole i l

    -- the answers behind the first of k + 1
    abbrev rest : ℕ → List (Bool × ℕ)
    rest k = cond (eof hole i) [] (answers k (not hole) (place hole i))

    walk_step : (k : ℕ) → answers (suc k) hole i ≡ (eof hole i, place hole i) ∷ rest k
    unfolding walk
    walk_step k =
        ap (λ u. elim u [ none ↦ [] | some a ↦ a ∷ cond a.0 [] (walk c buffer f k (answer (seek_call c buffer f hole i) st).store (not hole) a.1) ])
        (sought-is c buffer st f h hole i l)
        ∙ ap (λ y. (eof hole i, place hole i) ∷ cond (eof hole i) [] (walk c buffer f k y (not hole) (place hole i))) (store-stays c buffer st f h hole i l)

    -- where the walk goes on, k answers that are right
    abbrev GoesOn : ℕ → Type 0
    GoesOn k = place hole i < n → EndsAt n (answers k (not hole) (place hole i)) × Ranges (not hole) (place hole i) (answers k (not hole) (place hole i))

    -- the first answer is TRUE and the walk ends, or the others are right
    rest_right : (k : ℕ) → GoesOn k → EndsAt n ((eof hole i, place hole i) ∷ rest k) × Ranges (not hole) (place hole i) (rest k)
    rest_right k next = go (dec_lt (place hole i) n)
      where
        go : Dec (place hole i < n) → EndsAt n ((eof hole i, place hole i) ∷ rest k) × Ranges (not hole) (place hole i) (rest k)
        go (yes u) = let more : eof hole i ≡ false = ne_eqb (place hole i) n (λ e. omega (arith, u, e)) in rw more (inr (refl, (next u).0), (next u).1)
        go (no d) =
            let e : place hole i ≡ n = omega (arith, d, finds.to) in
            rw (finds.at_end.1 e) (inl (ap (λ m. (true, m)) e, refl), record { order = e; first = tt })

    walk_ends : (k : ℕ) → GoesOn k → EndsAt n (answers (suc k) hole i)
    walk_ends k next = rw (walk_step k) (rest_right k next).0

    walk-order : (k : ℕ) → GoesOn k → DataAndHoles g st f i (ranges hole i (answers (suc k) hole i))
    walk-order k next =
        let r = (rest_right k next).1 in
        rw (walk_step k) (ranges-order g pos st f hole i (place hole i) finds.between (eof hole i) (rest k) finds.from r.first r.order)

  -- ---- from a place of the kind that is not asked for it moves on, by a slot at least

  module _ (hole : Bool) (i : ℕ) (l : i < n) (kind : is_hole_at g st f i ≡ not hole) where
    low : i ≤ n
    low = omega (arith, l)

    moved : i < place hole i
    moved = go (dec_lt i (place hole i))
      where
        go : Dec (i < place hole i) → i < place hole i
        go (yes m) = m
        go (no d) =
            let e : place hole i ≡ i = omega (arith, d, (finds hole i low).from) in
            absurd (not-eq-not.1 (rw e at ((finds hole i low).found (omega (arith, l, e)))) kind)

    abbrev slot_end : ℕ
    slot_end = (i / g.B + 1) * g.B

    slot-past : place hole i < n → slot_end ≤ place hole i
    slot-past u = go (dec_lt (place hole i) slot_end)
      where
        go : Dec (place hole i < slot_end) → slot_end ≤ place hole i
        go (no d) = omega (arith, d)
        go (yes m) = absurd (not-eq-not.1 ((finds hole i low).found u) (same_kind g pos st f i (place hole i) (omega (arith, moved)) m ∙ kind))

    reach : (k : ℕ) → Reaches g.B n (suc k) i → place hole i < n → Reaches g.B n k (place hole i)
    reach k r u = reaches-later pos n k slot_end (place hole i) (slot-past u) (reaches-slot pos n k i l r)

    walk_right : (k : ℕ) → GoesOn hole i low k → EndsAt n (answers (suc k) hole i) × Ranges hole i (answers (suc k) hole i)
    walk_right k next = (
      walk_ends hole i low k next,
      record {
        order = walk-order hole i low k next;
        first = rw (walk_step hole i low k) (ranges-first g pos st f hole i (place hole i) (finds hole i low).between (eof hole i) (rest hole i low k) moved);
      },
    )

  -- the place answered is of the kind asked for, and the next SEEK asks for the other
  turn : (hole : Bool) (i : ℕ) → i ≤ n → place hole i < n → is_hole_at g st f (place hole i) ≡ not (not hole)
  turn hole i l u = (finds hole i l).found u ∙ sym (not-not hole)

  -- k + 1 slots reach the size from i on, and so do k + 1 SEEKs
  walk_from : (k : ℕ) (hole : Bool) (i : ℕ) → i < n → is_hole_at g st f i ≡ not hole → Reaches g.B n (suc k) i
      → EndsAt n (answers (suc k) hole i) × Ranges hole i (answers (suc k) hole i)
  walk_from zero hole i l kind r = walk_right hole i l kind zero (λ u. absurd (omega (arith, u, reached g.B n _ (reach hole i l kind zero r u))))
  walk_from (suc k) hole i l kind r =
      walk_right hole i l kind (suc k) (λ u. walk_from k (not hole) (place hole i) u (turn hole i (low hole i l kind) u) (reach hole i l kind (suc k) r u))

  -- ---- the whole walk

  module _ (hole : Bool) (off : ℕ) (l : off ≤ n) where
    goes_on : (s : ℕ) → n ≤ s * g.B → GoesOn hole off l s
    goes_on zero most u = absurd (omega (arith, most, u))
    goes_on (suc k) most u = walk_from k (not hole) (place hole off) u (turn hole off l u) (reaches-slots g.B (suc k) n (place hole off) most)

    at_once : off ≡ n → answers (suc g.S) hole off ≡ (true, off) ∷ []
    at_once e =
        let here : place hole off ≡ off = omega (arith, (finds hole off l).from, (finds hole off l).to, e) in
        let over : eof hole off ≡ true = (finds hole off l).at_end.1 (here ∙ e) in
        walk_step hole off l g.S ∙ rw over (ap (λ m. (true, m) ∷ []) here)

    in_order : DataAndHoles g st f off (ranges hole off (answers (suc g.S) hole off))
    in_order = walk-order hole off l g.S (goes_on g.S fits)

    whole-walk : WalkRight g st f hole off (answers (suc g.S) hole off)
    whole-walk = record {
      ends = walk_ends hole off l g.S (goes_on g.S fits);
      at_size = at_once;
      in_order = in_order;
      laid = order-laid g pos st f (ranges hole off (answers (suc g.S) hole off)) off in_order ∙ content-from g pos st f off l;
    }

pub walks : WalkClaim
walks = whole-walk
