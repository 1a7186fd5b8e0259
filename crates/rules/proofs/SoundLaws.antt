-- The test `sound` and the facts `Sound` say the same.
use Prim.Native.Nat.{ℕ, zero, suc, ◌+◌, ◌-◌, ◌*◌, ◌/◌, ◌≤◌, ◌<◌}
use mathlib.Core.Path.{◌≡◌, refl, ◌∙◌}
use mathlib.Core.Bool.{Bool, true, ◌&&◌, ◌||◌}
use mathlib.Core.Logic.{◌⊎◌, inl, inr}
use native.Mathlib.Nat.{le_refl, le_of_suc-le-suc, eq-or-lt_of_le, not-suc-le-zero, add-sub_of_le, le-div_iff_mul-le, le_step, mul-le-mul_right}
use native.Mathlib.Decide.{dec_lt}
use native.Mathlib.Omega.{arith}
use borrow.Author.Tests.{leb-true, eqb-true, lt-ltb, le-ltb, le-leb, eq-eqb}
use lib.ListN.{get_or, get_or-eq_default}
use lib.Dec.{leb, ltb, eqb}
use Rattle.rules.specs.Lists.{all_to, ceil_div}
use Rattle.rules.specs.Store.{Geometry, Store, size_of, word_of, good_lengths, used, owed, byte_at, sound_file, sound}
use Rattle.rules.proofs.GeometryLaws.{Lengths, lengths}
use Rattle.rules.proofs.SoundStore.{div_lt, ceil_le, le_ceil, Sound}
use Rattle.xdr.proofs.BoolLaws.{and_left, and_right, and_both, or_inl, or_inr, or_second}

pub all_to_at : (n : ℕ) (p : ℕ → Bool) → all_to n p ≡ true → (i : ℕ) → i < n → p i ≡ true
all_to_at zero p h i l = absurd (not-suc-le-zero l)
all_to_at (suc n) p h i l = go (all_to_at n p (and_right (p n) (all_to n p) h) i) (eq-or-lt_of_le (le_of_suc-le-suc l))
  where
    go : (i < n → p i ≡ true) → (i ≡ n) ⊎ (i < n) → p i ≡ true
    go ih (inl e) = rw e (and_left (p n) (all_to n p) h)
    go ih (inr l) = ih l

pub all_to_all : (n : ℕ) (p : ℕ → Bool) → ((i : ℕ) → i < n → p i ≡ true) → all_to n p ≡ true
all_to_all zero p h = refl
all_to_all (suc n) p h = and_both (p n) (all_to n p) (h n (le_refl (suc n))) (all_to_all n p (λ i l. h i (le_step l)))

module _ (g : Geometry) (pos : 0 < g.B) (st : Store) where
  -- the tests of a file's size, slots and last bytes
  file_test₁ : ℕ → Bool
  file_test₁ f = leb (size_of st f) (g.S * g.B)

  file_test₂ : ℕ → Bool
  file_test₂ f = all_to g.S (λ k. ltb k (ceil_div (size_of st f) g.B) || eqb (word_of g st.words f k) 0)

  file_test₃ : ℕ → Bool
  file_test₃ f = all_to (ceil_div (size_of st f) g.B * g.B - size_of st f) (λ j. eqb (byte_at g st f (size_of st f + j)) 0)

  file-tests : (f : ℕ) → sound_file g st f ≡ (file_test₁ f && file_test₂ f && file_test₃ f)
  unfolding sound_file file_test₁ file_test₂ file_test₃
  file-tests f = refl

  hole-byte : (f i : ℕ) → word_of g st.words f (i / g.B) ≡ 0 → byte_at g st f i ≡ 0
  unfolding byte_at
  hole-byte f i e = rw e

  module _ (good : good_lengths g st ≡ true) (snd : sound g st ≡ true) where
    long : Lengths g st
    long = lengths g st good

    s₁ : Bool
    s₁ = all_to (g.F * g.S) (λ i. leb (get_or st.words i 0 / 2) g.N)

    s₂ : Bool
    s₂ = all_to g.F (sound_file g st)

    s₃ : Bool
    s₃ = leb (used st.words + owed st.words) g.N

    pool_in : (p : ℕ) → Dec (p < g.F * g.S) → get_or st.words p 0 / 2 ≤ g.N
    unfolding sound s₁ s₂ s₃
    pool_in p (yes l) = leb-true _ _ (all_to_at (g.F * g.S) _ (and_left s₁ s₂ (and_left (s₁ && s₂) s₃ snd)) p l)
    pool_in p (no d) = rw (get_or-eq_default st.words 0 {n = p} (omega (arith, long.slots, d))) (omega arith)

    per_file : (f : ℕ) → f < g.F → file_test₁ f && file_test₂ f && file_test₃ f ≡ true
    unfolding sound s₁ s₂ s₃
    per_file f h = rw file-tests at (all_to_at g.F (sound_file g st) (and_right s₁ s₂ (and_left (s₁ && s₂) s₃ snd)) f h)

    beyond_in : (f k : ℕ) → f < g.F → k < g.S → size_of st f ≤ k * g.B → word_of g st.words f k ≡ 0
    unfolding file_test₂
    beyond_in f k hf hk l =
        eqb-true _ 0 (or_second (ltb k (ceil_div (size_of st f) g.B)) (eqb (word_of g st.words f k) 0)
        (all_to_at g.S _ (and_right (file_test₁ f) (file_test₂ f) (and_left (file_test₁ f && file_test₂ f) (file_test₃ f) (per_file f hf))) k hk)
        (le-ltb k (ceil_div (size_of st f) g.B) (ceil_le pos (size_of st f) k l)))

    tail_in : (f i : ℕ) → f < g.F → size_of st f ≤ i → i < g.S * g.B → byte_at g st f i ≡ 0
    unfolding file_test₃
    tail_in f i hf l h = go (dec_lt i (ceil_div (size_of st f) g.B * g.B))
      where
        go : Dec (i < ceil_div (size_of st f) g.B * g.B) → byte_at g st f i ≡ 0
        go (yes u) = rw (add-sub_of_le l) at
            (eqb-true (byte_at g st f (size_of st f + (i - size_of st f))) 0 (all_to_at (ceil_div (size_of st f) g.B * g.B - size_of st f) (λ j. eqb (byte_at g st f (size_of st f + j)) 0)
            (and_right (file_test₁ f && file_test₂ f) (file_test₃ f) (per_file f hf)) (i - size_of st f) (omega arith)))
        go (no d) = hole-byte f i (beyond_in f (i / g.B) hf (div_lt pos i g.S h)
            (le_ceil pos (size_of st f) (i / g.B) ((le-div_iff_mul-le {k = g.B} {x = ceil_div (size_of st f) g.B} {y = i} pos).1 (omega (arith, d)))))

    pub sound-facts : Sound g st
    unfolding sound s₁ s₂ s₃ file_test₁
    sound-facts = record {
      files = long.files;
      slots = long.slots;
      bytes = long.bytes;
      pool = λ p. pool_in p (dec_lt p (g.F * g.S));
      fits = λ f h. leb-true _ _ (and_left (file_test₁ f) (file_test₂ f) (and_left (file_test₁ f && file_test₂ f) (file_test₃ f) (per_file f h)));
      beyond = beyond_in;
      tail = tail_in;
      room = leb-true _ _ (and_right (s₁ && s₂) s₃ snd);
    }

  module _ (s : Sound g st) where
    pub lengths_test : good_lengths g st ≡ true
    unfolding good_lengths
    lengths_test = and_both _ _ (and_both _ _ (eq-eqb _ _ s.files) (eq-eqb _ _ s.slots)) (eq-eqb _ _ s.bytes)

    file_test : (f : ℕ) → f < g.F → sound_file g st f ≡ true
    unfolding file_test₁ file_test₂ file_test₃
    file_test f h = file-tests f ∙ and_both (file_test₁ f && file_test₂ f) (file_test₃ f)
        (and_both (file_test₁ f) (file_test₂ f) (le-leb _ _ (s.fits f h))
        (all_to_all g.S _ (λ k hk. slot k hk (dec_lt k (ceil_div (size_of st f) g.B)))))
        (all_to_all _ _ (λ j hj. eq-eqb _ 0 (s.tail f (size_of st f + j) h (omega arith) (last j hj))))
      where
        slot : (k : ℕ) → k < g.S → Dec (k < ceil_div (size_of st f) g.B) → ltb k (ceil_div (size_of st f) g.B) || eqb (word_of g st.words f k) 0 ≡ true
        slot k hk (yes l) = or_inl (ltb k (ceil_div (size_of st f) g.B)) (eqb (word_of g st.words f k) 0) (lt-ltb k (ceil_div (size_of st f) g.B) l)
        slot k hk (no d) = or_inr (ltb k (ceil_div (size_of st f) g.B)) (eqb (word_of g st.words f k) 0) (eq-eqb (word_of g st.words f k) 0 (s.beyond f k h hk (le_ceil pos (size_of st f) k (omega (arith, d)))))

        last : (j : ℕ) → j < ceil_div (size_of st f) g.B * g.B - size_of st f → size_of st f + j < g.S * g.B
        last j hj = omega (arith, hj, mul-le-mul_right g.B (ceil_le pos (size_of st f) g.S (s.fits f h)))

    pub sound_test : sound g st ≡ true
    unfolding sound
    sound_test =
        and_both _ _ (and_both _ _ (all_to_all (g.F * g.S) (λ i. leb (get_or st.words i 0 / 2) g.N) (λ i h. le-leb _ _ (s.pool i))) (all_to_all g.F (sound_file g st) file_test)) (le-leb _ _ s.room)
