-- Reading: the pieces of READ_PLUS, laid end to end, are the bytes of READ; SEEK finds the first place of the kind asked for.
use Prim.Native.Nat.{ℕ, zero, suc, ◌+◌, ◌-◌, ◌*◌, ◌/◌, ◌≤◌, ◌<◌, min}
use mathlib.Core.Path.{◌≡◌, refl, sym, ap, ap₂, ◌∙◌}
use mathlib.Core.Bool.{Bool, true, false, cond, not, beq, true≢false}
use mathlib.Core.List.{List, [], ◌∷◌, ◌++◌, append_assoc}
use mathlib.Core.Logic.{◌⊎◌, inl, inr}
use native.Mathlib.Nat.{le_refl, le_trans, add-zero, zero-add, add-suc, suc-add, mul-le-mul_right, div-add-mod', le-div_iff_mul-le}
use native.Mathlib.Decide.{dec_le, dec_lt}
use native.Mathlib.Omega.{arith}
use borrow.Author.Tests.{ltb-true, ltb-false, le-ltb}
use lib.ListN.{replicate, replicate-append-replicate}
use lib.Dec.{ltb}
use Rattle.xdr.specs.Encode.{concat_map}
use Rattle.rules.specs.Lists.{tabulate}
use Rattle.rules.specs.Store.{Geometry, Store, is_hole, size_of, word_of, byte_at, bytes_from}
use Rattle.rules.specs.Read.{Piece, is_hole_at, join, pieces, seek_from}
use Rattle.rules.specs.Claim.{laid}
use Rattle.rules.proofs.SoundStore.{div_le, div_ge}

pub tab_append : (f : ℕ → ℕ) (a b i : ℕ) → tabulate f i (a + b) ≡ tabulate f i a ++ tabulate f (i + a) b
tab_append f zero b i = rw (zero-add b, add-zero i)
tab_append f (suc a) b i = rw (suc-add a b) (ap (λ t. f i ∷ t) (tab_append f a b (suc i) ∙ rw (suc-add i a, add-suc i a)))

pub tab_ext : (f h : ℕ → ℕ) (n i : ℕ) → ((j : ℕ) → i ≤ j → j < i + n → f j ≡ h j) → tabulate f i n ≡ tabulate h i n
tab_ext f h zero i e = refl
tab_ext f h (suc n) i e = ap₂ (λ a t. a ∷ t) (e i (omega arith) (omega arith)) (tab_ext f h n (suc i) (λ j l u. e j (omega arith) (omega arith)))

pub beq-true : (a b : Bool) → beq a b ≡ true → b ≡ a
beq-true true true e = refl
beq-true true false e = absurd (true≢false (sym e))
beq-true false true e = absurd (true≢false (sym e))
beq-true false false e = refl

pub beq-false : (a b : Bool) → beq a b ≡ false → b ≡ not a
beq-false true true e = absurd (true≢false e)
beq-false true false e = refl
beq-false false true e = refl
beq-false false false e = absurd (true≢false e)

pub tab_zeros : (n i : ℕ) → tabulate (λ i. 0) i n ≡ replicate n 0
tab_zeros zero i = refl
tab_zeros (suc n) i = ap (λ t. 0 ∷ t) (tab_zeros n (suc i))

-- ---- slots of b bytes: the slot of place i ends at (i / b + 1) * b

-- k more slots reach the end
abbrev pub Reaches : ℕ → ℕ → ℕ → ℕ → Type 0
Reaches b end k i = (end ≤ i) ⊎ (end ≤ (i / b + k) * b)

pub reached : (b end i : ℕ) → Reaches b end zero i → end ≤ i
reached b end i (inl h) = h
reached b end i (inr h) = omega (arith, div-add-mod' i b)

-- s slots reach every place of a file of s slots, and so do s + 1
pub reaches-slots : (b s end i : ℕ) → end ≤ s * b → Reaches b end s i
reaches-slots b s end i h = inr (le_trans h (mul-le-mul_right b more))
  where
    more : s ≤ i / b + s
    more = omega arith

pub reaches_all : (b s end i : ℕ) → end ≤ s * b → Reaches b end (suc s) i
reaches_all b s end i h = reaches-slots b (suc s) end i (le_trans h (mul-le-mul_right b more))
  where
    more : s ≤ suc s
    more = omega arith

module _ {b : ℕ} (pos : 0 < b) where
  pub slot_end_lem : (i : ℕ) → i < (i / b + 1) * b
  slot_end_lem i = omega (arith, div_ge pos i (i / b) (le_refl _))

  pub same-slot : (i j : ℕ) → i ≤ j → j < (i / b + 1) * b → j / b ≡ i / b
  same-slot i j l u = omega (arith, div_le pos j (i / b) (omega arith), div_le pos i (j / b) (omega (arith, div_ge pos j (j / b) (le_refl _))))

  -- from a later place on, too
  pub reaches-later : (end k i j : ℕ) → i ≤ j → Reaches b end k i → Reaches b end k j
  reaches-later end k i j l (inl h) = inl (omega arith)
  reaches-later end k i j l (inr h) = inr (le_trans h (mul-le-mul_right b (far (div_le pos i (j / b) (omega (arith, div_ge pos j (j / b) (le_refl _)))))))
    where
      far : i / b ≤ j / b → i / b + k ≤ j / b + k
      far h = omega arith

  pub reaches-slot : (end k i : ℕ) → i < end → Reaches b end (suc k) i → Reaches b end k ((i / b + 1) * b)
  reaches-slot end k i l (inl h) = absurd (omega arith)
  reaches-slot end k i l (inr h) =
      inr (le_trans h (mul-le-mul_right b (far ((le-div_iff_mul-le {k = b} {x = i / b + 1} {y = (i / b + 1) * b} pos).1 (le_refl _)))))
    where
      far : i / b + 1 ≤ (i / b + 1) * b / b → i / b + suc k ≤ (i / b + 1) * b / b + k
      far h = omega arith

  pub reaches-next : (end k i : ℕ) → i < end → Reaches b end (suc k) i → Reaches b end k (min end ((i / b + 1) * b))
  reaches-next end k i l h = go (dec_le end ((i / b + 1) * b))
    where
      go : Dec (end ≤ (i / b + 1) * b) → Reaches b end k (min end ((i / b + 1) * b))
      go (yes u) = inl (omega arith)
      go (no d) = let e : min end ((i / b + 1) * b) ≡ (i / b + 1) * b = omega (arith, d) in rw e (reaches-slot end k i l h)

pub pieces_none : (g : Geometry) (st : Store) (f end k i : ℕ) → end ≤ i → pieces g st f end k i ≡ []
unfolding pieces
pieces_none g st f end zero i h = refl
pieces_none g st f end (suc k) i h = rw (le-ltb i end h, pieces)

module _ (g : Geometry) (pos : 0 < g.B) (st : Store) (f : ℕ) where
  -- the first of the pieces starts at i
  abbrev StartsAt : ℕ → List Piece → Type 0
  StartsAt i [] = Unit {0}
  StartsAt i (q ∷ qs) = q.start ≡ i

  -- joining pieces that follow one another changes no byte
  both-holes : (n m : ℕ) (c : List ℕ) → replicate (n + m) 0 ++ c ≡ replicate n 0 ++ (replicate m 0 ++ c)
  both-holes n m c = rw (← replicate-append-replicate {A = ℕ} n m 0) (append_assoc (replicate n 0) (replicate m 0) c)

  both_data : (a n m : ℕ) (c : List ℕ) → bytes_from g st f a (n + m) ++ c ≡ bytes_from g st f a n ++ (bytes_from g st f (a + n) m ++ c)
  both_data a n m c = rw (tab_append (byte_at g st f) n m a) (append_assoc (bytes_from g st f a n) (bytes_from g st f (a + n) m) c)

  laid-join : (p : Piece) (qs : List Piece) → StartsAt (p.start + p.size) qs → concat_map (laid g st f) (join p qs) ≡ laid g st f p ++ concat_map (laid g st f) qs
  unfolding join
  laid-join p [] s = refl
  laid-join p (q ∷ qs) s = go p.hole refl q.hole refl
    where
      go : (a : Bool) → p.hole ≡ a → (b : Bool) → q.hole ≡ b
          → concat_map (laid g st f) (elim (beq a b) [ true ↦ record { hole = a; start = p.start; size = p.size + q.size } ∷ qs | false ↦ p ∷ q ∷ qs ])
          ≡ laid g st f p ++ (laid g st f q ++ concat_map (laid g st f) qs)
      go true e true d = rw (e, d) (both-holes p.size q.size (concat_map (laid g st f) qs))
      go true e false d = refl
      go false e true d = refl
      go false e false d = rw (e, d, s) (both_data p.start p.size q.size (concat_map (laid g st f) qs))

  join-starts : (p : Piece) (qs : List Piece) → StartsAt p.start (join p qs)
  unfolding join
  join-starts p [] = refl
  join-starts p (q ∷ qs) = go (beq p.hole q.hole)
    where
      go : (t : Bool) → StartsAt p.start (elim t [ true ↦ record { hole = p.hole; start = p.start; size = p.size + q.size } ∷ qs | false ↦ p ∷ q ∷ qs ])
      go true = refl
      go false = refl

  -- places of one slot are of one kind
  pub same_kind : (i j : ℕ) → i ≤ j → j < (i / g.B + 1) * g.B → is_hole_at g st f j ≡ is_hole_at g st f i
  same_kind i j l u = ap (λ k. is_hole (word_of g st.words f k)) (same-slot pos i j l u)

  hole-byte : (i : ℕ) → is_hole_at g st f i ≡ true → byte_at g st f i ≡ 0
  unfolding byte_at
  hole-byte i e = rw e

  -- a piece of one kind is the file's bytes
  pub laid-piece : (p : Piece) → ((i : ℕ) → p.start ≤ i → i < p.start + p.size → is_hole_at g st f i ≡ p.hole) → laid g st f p ≡ bytes_from g st f p.start p.size
  laid-piece p same = go p.hole refl
    where
      go : (t : Bool) → p.hole ≡ t → cond t (replicate p.size 0) (bytes_from g st f p.start p.size) ≡ bytes_from g st f p.start p.size
      go true e =
          sym (tab_zeros p.size p.start) ∙ tab_ext (λ j. 0) (byte_at g st f) p.size p.start (λ j l u. sym (hole-byte j (same j l u ∙ e)))
      go false e = refl

  pub laid-slot : (i n : ℕ) → i + n ≤ (i / g.B + 1) * g.B → laid g st f (record { hole = is_hole_at g st f i; start = i; size = n }) ≡ bytes_from g st f i n
  laid-slot i n h = laid-piece (record { hole = is_hole_at g st f i; start = i; size = n }) (λ j l u. same_kind i j l (omega arith))

  pieces-start : (end k i : ℕ) → StartsAt i (pieces g st f end k i)
  unfolding pieces
  pieces-start end zero i = tt
  pieces-start end (suc k) i = go (ltb i end)
    where
      next : ℕ
      next = min end ((i / g.B + 1) * g.B)

      go : (t : Bool) → StartsAt i (elim t [
        | true ↦ join (record { hole = is_hole_at g st f i; start = i; size = next - i }) (pieces g st f end k next)
        | false ↦ []
      ])
      go true = join-starts (record { hole = is_hole_at g st f i; start = i; size = next - i }) (pieces g st f end k next)
      go false = tt

  nothing : (i end : ℕ) → end ≤ i → bytes_from g st f i (end - i) ≡ []
  nothing i end h = ap (tabulate (byte_at g st f) i) (zero_of h)
    where
      zero_of : end ≤ i → end - i ≡ 0
      zero_of h = omega arith

  -- the pieces laid end to end are the file's bytes
  pub pieces-laid : (end k i : ℕ) → Reaches g.B end k i → concat_map (laid g st f) (pieces g st f end k i) ≡ bytes_from g st f i (end - i)
  unfolding pieces
  pieces-laid end zero i h = sym (nothing i end (reached g.B end i h))
  pieces-laid end (suc k) i h = go (ltb i end) refl (pieces-laid end k (min end ((i / g.B + 1) * g.B)))
    where
      next : ℕ
      next = min end ((i / g.B + 1) * g.B)

      go : (t : Bool) → ltb i end ≡ t → (Reaches g.B end k next → concat_map (laid g st f) (pieces g st f end k next) ≡ bytes_from g st f next (end - next))
          → concat_map (laid g st f) (elim t [
            | true ↦ join (record { hole = is_hole_at g st f i; start = i; size = next - i }) (pieces g st f end k next)
            | false ↦ []
          ]) ≡ bytes_from g st f i (end - i)
      go false e ih = sym (nothing i end (ltb-false i end e))
      go true e ih =
          let l : i < end = ltb-true i end e in
          let m : i ≤ next = omega (arith, slot_end_lem pos i) in
          let n : i + (next - i) ≡ next = omega arith in
          let parts : end - i ≡ (next - i) + (end - next) = omega arith in
          laid-join (record { hole = is_hole_at g st f i; start = i; size = next - i }) (pieces g st f end k next) (rw n (pieces-start end k next))
          ∙ ap₂ (λ a b. a ++ b) (laid-slot i (next - i) (omega arith)) (ih (reaches-next pos end k i l h))
          ∙ sym (ap (tabulate (byte_at g st f) i) parts ∙ tab_append (byte_at g st f) (next - i) (end - next) i ∙ rw n)

  -- READ_PLUS gives what READ gives: S + 1 slots are enough
  pub read-plus-laid : (off end : ℕ) → end ≤ g.S * g.B → concat_map (laid g st f) (pieces g st f end (suc g.S) off) ≡ bytes_from g st f off (end - off)
  read-plus-laid off end h = pieces-laid end (suc g.S) off (reaches_all g.B g.S end off h)

  -- ---- SEEK

  -- p is the first place from i on that is a hole (or data, as asked), or the size
  pub record First (hole : Bool) (i p : ℕ) : Type 0 where
    pub from : min i (size_of st f) ≤ p
    pub to : p ≤ size_of st f
    pub before : (j : ℕ) → i ≤ j → j < p → is_hole_at g st f j ≡ not hole
    pub here : p < size_of st f → is_hole_at g st f p ≡ hole

  ended : (hole : Bool) (i : ℕ) → size_of st f ≤ i → First hole i (size_of st f)
  ended hole i h = record { from = omega arith; to = le_refl _; before = λ j l u. absurd (omega arith); here = λ l. absurd (omega arith) }

  pub seek_first : (hole : Bool) (k i : ℕ) → Reaches g.B (size_of st f) k i → First hole i (seek_from g st f hole k i)
  unfolding seek_from
  seek_first hole zero i h = ended hole i (reached g.B (size_of st f) i h)
  seek_first hole (suc k) i h = inside (ltb i (size_of st f)) refl (seek_first hole k ((i / g.B + 1) * g.B))
    where
      next : ℕ
      next = (i / g.B + 1) * g.B

      inside : (t : Bool) → ltb i (size_of st f) ≡ t → (Reaches g.B (size_of st f) k next → First hole next (seek_from g st f hole k next))
          → First hole i (elim t [
            | true ↦ elim (beq hole (is_hole_at g st f i)) [ true ↦ i | false ↦ seek_from g st f hole k next ]
            | false ↦ size_of st f
          ])
      inside false e ih = ended hole i (ltb-false i (size_of st f) e)
      inside true e ih = kind (beq hole (is_hole_at g st f i)) refl
        where
          l : i < size_of st f
          l = ltb-true i (size_of st f) e

          kind : (t : Bool) → beq hole (is_hole_at g st f i) ≡ t → First hole i (elim t [ true ↦ i | false ↦ seek_from g st f hole k next ])
          kind true q = record { from = omega arith; to = omega (arith, l); before = λ j a b. absurd (omega arith); here = λ u. beq-true hole (is_hole_at g st f i) q }
          kind false q =
              let r = ih (reaches-slot pos (size_of st f) k i l h) in
              record {
                from = omega (arith, l, r.from, slot_end_lem pos i);
                to = r.to;
                before = λ j a b. pick j a b (dec_lt j next);
                here = r.here;
              }
            where
              pick : (j : ℕ) → i ≤ j → j < seek_from g st f hole k next → Dec (j < next) → is_hole_at g st f j ≡ not hole
              pick j a b (yes u) = same_kind i j a u ∙ beq-false hole (is_hole_at g st f i) q
              pick j a b (no d) = (ih (reaches-slot pos (size_of st f) k i l h)).before j (omega (arith, d)) b
