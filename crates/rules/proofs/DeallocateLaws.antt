-- DEALLOCATE stores zeros: slots that the region covers are given back, and holes stay.
use Prim.Native.Nat.{ℕ, ◌≤◌, max}
use mathlib.Core.Path.{◌≡◌, refl, sym, ap}
use mathlib.Core.Bool.{Bool, true, false, cond, true≢false}
use native.Mathlib.Omega.{arith}
use Rattle.rules.specs.Store.{Geometry, Store, is_hole, size_of, word_of}
use Rattle.rules.specs.Edit.{owns, given, stays, covers, kind_of, goes_first, is_owned, deallocating}
use Rattle.rules.proofs.EditForms.{plain}
use Rattle.rules.proofs.WriteLaws.{covered-is, Stores}

module _ (g : Geometry) (st : Store) (f off end : ℕ) (cut : end ≤ size_of st f) where
  -- a region that is cut at the size leaves it
  pub size-stays : max (size_of st f) end ≡ size_of st f
  size-stays = omega (arith, cut)

  pub deallocate_stores : Stores g st (deallocating f off end)
  unfolding kind_of
  deallocate_stores = record {
    kinds = λ k. by_kind (covers g (size_of st f) off end k) (is_hole (word_of g st.words f k));
    covered = λ k t. rw size-stays (covered-is g (size_of st f) off end k (back (covers g (size_of st f) off end k) (is_hole (word_of g st.words f k)) t));
    hole = λ k t. stays-is (covers g (size_of st f) off end k) (is_hole (word_of g st.words f k)) t;
    zeros = λ i l u t. refl;
  }
    where
      by_kind : (a b : Bool) → plain (cond a given (cond b stays owns)) ≡ true
      by_kind true b = refl
      by_kind false true = refl
      by_kind false false = refl

      back : (a b : Bool) → goes_first (cond a given (cond b stays owns)) ≡ true → a ≡ true
      back true b t = refl
      back false true t = absurd (true≢false (sym t))
      back false false t = absurd (true≢false (sym t))

      stays-is : (a b : Bool) → cond a given (cond b stays owns) ≡ stays → b ≡ true
      stays-is true b t = absurd (true≢false (ap goes_first t))
      stays-is false true t = refl
      stays-is false false t = absurd (true≢false (ap is_owned t))
