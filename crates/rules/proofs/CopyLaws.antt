-- COPY keeps holes: a slot that the region covers and that is matched by holes alone becomes a hole, and its bytes are zeros all the same.
use Prim.Native.Nat.{ℕ, ◌+◌, ◌-◌, ◌*◌, ◌/◌, ◌%◌, ◌≤◌, ◌<◌}
use mathlib.Core.Path.{◌≡◌, refl, sym, ap}
use mathlib.Core.Bool.{Bool, true, false, cond, ◌||◌, not, true≢false}
use mathlib.Core.Logic.{inl, inr}
use native.Mathlib.Nat.{div-add-mod', mod-lt}
use native.Mathlib.Decide.{dec_le, dec_lt}
use native.Mathlib.Omega.{arith}
use Rattle.rules.specs.Store.{Geometry, Store, word_of, byte_at}
use Rattle.rules.specs.Edit.{Edit, owns, cleared, stays, within, covers, size_after, source_place, from_holes, clears, kind_of, goes_first, is_owned, copying}
use Rattle.rules.specs.Read.{is_hole_at}
use Rattle.rules.proofs.EditForms.{plain}
use Rattle.rules.proofs.SoundLaws.{all_to_at, all_to_all}
use Rattle.rules.proofs.WriteLaws.{inside, outside, covered-is, Stores, hole-zero}
use Rattle.xdr.proofs.BoolLaws.{and_left, and_right}

-- a place in a hole shows 0
pub byte-hole : (g : Geometry) (st : Store) (f i : ℕ) → is_hole_at g st f i ≡ true → byte_at g st f i ≡ 0
unfolding byte_at
byte-hole g st f i h = hole-zero g st.mem (word_of g st.words f (i / g.B)) (i % g.B) h

-- ---- slot k is matched by holes alone

module _ (g : Geometry) (st : Store) (e : Edit) (s soff k : ℕ) where
  -- where each of its places in the region is
  pub from_all : ((p : ℕ) → e.off ≤ p → p < e.end → k * g.B ≤ p → p < k * g.B + g.B → is_hole_at g st s (source_place e soff p) ≡ true) → from_holes g st e s soff k ≡ true
  unfolding from_holes
  from_all h = all_to_all g.B _ (λ j l. go j l (dec_le e.off (k * g.B + j)) (dec_lt (k * g.B + j) e.end))
    where
      go : (j : ℕ) → j < g.B → Dec (e.off ≤ k * g.B + j) → Dec (k * g.B + j < e.end)
          → not (within e.off e.end (k * g.B + j)) || is_hole_at g st s (source_place e soff (k * g.B + j)) ≡ true
      go j l (yes a) (yes b) = rw (inside e.off e.end (k * g.B + j) a b) (h (k * g.B + j) a b (omega arith) (omega arith))
      go j l (no n) v = rw (outside e.off e.end (k * g.B + j) (inl (omega (arith, n))))
      go j l (yes a) (no n) = rw (outside e.off e.end (k * g.B + j) (inr (omega (arith, n))))

  -- and not where one of them is not
  pub from_one : from_holes g st e s soff k ≡ true → (p : ℕ) → e.off ≤ p → p < e.end → k * g.B ≤ p → p < k * g.B + g.B → is_hole_at g st s (source_place e soff p) ≡ true
  unfolding from_holes
  from_one h p a b l u =
      let whole : k * g.B + (p - k * g.B) ≡ p = omega arith in
      rw (whole, inside e.off e.end p a b) at (all_to_at g.B _ h (p - k * g.B) (omega arith))

-- ---- COPY stores the source's bytes

module _ (g : Geometry) (pos : 0 < g.B) (st : Store) (f off end s soff : ℕ) where
  abbrev e : Edit
  e = copying f off end s soff

  pub copy_stores : Stores g st e
  unfolding kind_of clears
  copy_stores = record {
    kinds = λ k. by_kind (clears g st e s soff k);
    covered = λ k t. covered-is g (size_after st e) off end k (and_left (covers g (size_after st e) off end k) (from_holes g st e s soff k) (first (clears g st e s soff k) t));
    hole = λ k t. absurd (no-stays (clears g st e s soff k) t);
    zeros = λ i l u t. byte-hole g st s (soff + (i - off))
        (from_one g st e s soff (i / g.B) (and_right (covers g (size_after st e) off end (i / g.B)) (from_holes g st e s soff (i / g.B)) (blockless (clears g st e s soff (i / g.B)) t)) i l u
        (omega (arith, div-add-mod' i g.B)) (omega (arith, div-add-mod' i g.B, mod-lt i pos)));
  }
    where
      by_kind : (a : Bool) → plain (cond a cleared owns) ≡ true
      by_kind true = refl
      by_kind false = refl

      first : (a : Bool) → goes_first (cond a cleared owns) ≡ true → a ≡ true
      first true t = refl
      first false t = absurd (true≢false (sym t))

      no-stays : (a : Bool) → cond a cleared owns ≡ stays → ⊥
      no-stays true t = true≢false (ap goes_first t)
      no-stays false t = true≢false (ap is_owned t)

      blockless : (a : Bool) → is_owned (cond a cleared owns) ≡ false → a ≡ true
      blockless true t = refl
      blockless false t = absurd (true≢false t)
