-- CLONE: the target's slots get the source's blocks, the block memory stays, and every r stays.
use Prim.Native.Nat.{ℕ, zero, suc, ◌+◌, ◌-◌, ◌*◌, ◌/◌, ◌%◌, ◌≤◌, ◌<◌, max}
use mathlib.Core.Path.{◌≡◌, refl, sym, ap, ◌∙◌}
use mathlib.Core.Bool.{cond}
use mathlib.Core.List.{List}
use mathlib.Core.Logic.{◌≢◌, ◌⊎◌, inl, inr}
use native.Mathlib.Nat.{le_refl, mul-le-mul_right, le_dest, div-add-mod', mod-lt, mul-add-div_right, mul-add-mod_self_right, div-eq_of_lt, mod-eq_of_lt, le-div_iff_mul-le}
use native.Mathlib.Decide.{ℕ_discrete, dec_le, dec_lt}
use native.Mathlib.Omega.{arith}
use lib.ListN.{length, get_or, set, length-set}
use lib.Seq.{get_or-set_same, get_or-set_other}
use Rattle.rules.specs.Lists.{ceil_div, each}
use Rattle.rules.specs.Store.{Geometry, Store, word, size_of, word_of, slot_byte, byte_at}
use Rattle.rules.specs.Edit.{within, edited, cloning}
use Rattle.rules.proofs.EditSteps.{share, plan_clone}
use Rattle.rules.proofs.EditForms.{clone-is}
use Rattle.rules.proofs.WriteLaws.{inside, outside}
use Rattle.rules.proofs.PlanLaws.{InPool, each_keeps, SameR, each_same_r, share_same_r, in_pool_set}
use Rattle.rules.proofs.SlotByteLaws.{Local, plan-before, plan_after}
use Rattle.rules.proofs.SoundStore.{div_lt, le_ceil, ceil-behind, Sound, Edited, apart}
use Rattle.rules.proofs.AllocateLaws.{same_block}

pub share_local : (from to : ℕ) → Local to (share from to)
unfolding share
share_local from to ws k p d = get_or-set_other ws (to + k) p _ 0 d

share-now : (from to : ℕ) (ws : List ℕ) (k : ℕ) → to + k < length ws → get_or (share from to ws k) (to + k) 0 / 2 ≡ get_or ws (from + k) 0 / 2
unfolding share
share-now from to ws k h = rw (get_or-set_same ws (to + k) (word (get_or ws (from + k) 0 / 2) (get_or ws (to + k) 0 % 2)) 0 h) (omega arith)

share-pool : (b from to : ℕ) (ws : List ℕ) (k : ℕ) → InPool b ws → InPool b (share from to ws k)
unfolding share
share-pool b from to ws k h = in_pool_set b ws (to + k) _ h (omega (arith, h (from + k)))

-- target slots get the source's blocks, if the two ranges have no slot in common
pub plan-shared : (from to n k : ℕ) (ws : List ℕ) → to + (k + n) ≤ length ws → ((q r : ℕ) → q < k + n → r < k + n → from + q ≢ to + r)
    → (q : ℕ) → k ≤ q → q < k + n → get_or (each (share from to) ws k n) (to + q) 0 / 2 ≡ get_or ws (from + q) 0 / 2
plan-shared from to zero k ws h d q l u = absurd (omega arith)
plan-shared from to (suc n) k ws h d q l u =
    go (plan-shared from to n (suc k) (share from to ws k) (omega (arith, (share_same_r from to ws k).slots)) (λ x y hx hy. d x y (omega arith) (omega arith))) (ℕ_discrete q k)
  where
    ws₁ : List ℕ
    ws₁ = share from to ws k

    go : ((q : ℕ) → suc k ≤ q → q < suc k + n → get_or (each (share from to) ws₁ (suc k) n) (to + q) 0 / 2 ≡ get_or ws₁ (from + q) 0 / 2)
        → Dec (q ≡ k) → get_or (each (share from to) ws₁ (suc k) n) (to + q) 0 / 2 ≡ get_or ws (from + q) 0 / 2
    go ih (yes e) = rw (e, plan-before to (share from to) (share_local from to) n (suc k) (to + k) ws₁ (omega arith)) (share-now from to ws k (omega arith))
    go ih (no z) = ih q (omega (arith, z)) (omega arith) ∙ ap (λ w. w / 2) (share_local from to ws k (from + q) (d q k u (omega arith)))

module _ (g : Geometry) (pos : 0 < g.B) (st : Store) (snd : Sound g st) (s f soff off c : ℕ) (hs : s < g.F) (hf : f < g.F)
    (se : soff % g.B ≡ 0) (de : off % g.B ≡ 0) (some : 0 < c) (source : soff + c ≤ size_of st s) (fits : off + c ≤ g.S * g.B)
    (even : (c % g.B ≡ 0) ⊎ (soff + c ≡ size_of st s)) (clear : (s ≢ f) ⊎ ((soff + c ≤ off) ⊎ (off + c ≤ soff))) where
  a : ℕ
  a = soff / g.B

  b : ℕ
  b = off / g.B

  n : ℕ
  n = ceil_div c g.B

  a-is : a * g.B ≡ soff
  unfolding a
  a-is = omega (arith, div-add-mod' soff g.B)

  b-is : b * g.B ≡ off
  unfolding b
  b-is = omega (arith, div-add-mod' off g.B)

  c≤ : c ≤ n * g.B
  unfolding n
  c≤ = le_ceil pos c (ceil_div c g.B) (le_refl _)

  -- x blocks and then c bytes fit below y blocks: so do x + n blocks
  fits-slots : (x y : ℕ) → x * g.B + c ≤ y * g.B → x + n ≤ y
  unfolding n
  fits-slots x y h = ceil-behind pos x c y h

  a-fits : a + n ≤ g.S
  a-fits = fits-slots a g.S (omega (arith, a-is, source, snd.fits s hs))

  b-fits : b + n ≤ g.S
  b-fits = fits-slots b g.S (omega (arith, b-is, fits))

  ws' : List ℕ
  ws' = plan_clone g st.words s f soff off c

  is : edited g st (cloning f off (off + c) s soff) ≡ record { sizes = set st.sizes f (max (size_of st f) (off + c)); words = ws'; mem = st.mem }
  unfolding ws'
  is = clone-is g pos st s f soff off c de some

  in_table : f * g.S + b + (0 + n) ≤ length st.words
  in_table = omega (arith, b-fits, snd.slots, mul-le-mul_right g.S hf)

  plan-is : ws' ≡ each (share (s * g.S + a) (f * g.S + b)) st.words 0 n
  unfolding ws' a b n plan_clone
  plan-is = refl

  plan-r : SameR st.words ws'
  plan-r = rw plan-is (each_same_r (share (s * g.S + a) (f * g.S + b)) (share_same_r (s * g.S + a) (f * g.S + b)) n 0 st.words)

  plan_in : InPool g.N ws'
  plan_in = rw plan-is (each_keeps (InPool g.N) (share (s * g.S + a) (f * g.S + b)) n 0 st.words (λ x j l u p. share-pool g.N (s * g.S + a) (f * g.S + b) x j p) snd.pool)

  disjoint : (q r : ℕ) → q < 0 + n → r < 0 + n → s * g.S + a + q ≢ f * g.S + b + r
  disjoint q r hq hr e = go (ℕ_discrete s f) clear
    where
      files : (s * g.S + (a + q) < f * g.S) ⊎ (f * g.S + g.S ≤ s * g.S + (a + q)) → ⊥
      files (inl l) = omega (arith, e, l)
      files (inr l) = omega (arith, e, l, b-fits)

      go : Dec (s ≡ f) → (s ≢ f) ⊎ ((soff + c ≤ off) ⊎ (off + c ≤ soff)) → ⊥
      go (no d) o = files (apart g.S s f (a + q) d (omega (arith, a-fits)))
      go (yes z) (inl d) = d z
      go (yes z) (inr (inl l)) = omega (arith, e, ap (λ y. y * g.S) z, fits-slots a b (omega (arith, a-is, b-is, l)))
      go (yes z) (inr (inr l)) = omega (arith, e, ap (λ y. y * g.S) z, fits-slots b a (omega (arith, a-is, b-is, l)))

  step : List ℕ → ℕ → List ℕ
  step = share (s * g.S + a) (f * g.S + b)

  -- a slot of another file, or of this one outside the target, keeps its word
  plan-outside : (p : ℕ) → (p < f * g.S + b) ⊎ (f * g.S + b + n ≤ p) → get_or ws' p 0 ≡ get_or st.words p 0
  plan-outside p (inl l) = rw plan-is (plan-before (f * g.S + b) (share (s * g.S + a) (f * g.S + b)) (share_local (s * g.S + a) (f * g.S + b)) n 0 p st.words (omega arith))
  plan-outside p (inr l) = rw plan-is (plan_after (f * g.S + b) (share (s * g.S + a) (f * g.S + b)) (share_local (s * g.S + a) (f * g.S + b)) n 0 p st.words (omega arith))

  plan-target : (q : ℕ) → q < n → get_or ws' (f * g.S + b + q) 0 / 2 ≡ get_or st.words (s * g.S + a + q) 0 / 2
  plan-target q h = rw plan-is (plan-shared (s * g.S + a) (f * g.S + b) n 0 st.words in_table disjoint q (omega arith) (omega arith))

  plan-other : (e k : ℕ) → e ≢ f → k < g.S → word_of g ws' e k ≡ word_of g st.words e k
  plan-other e k d hk = go (apart g.S e f k d hk)
    where
      go : (e * g.S + k < f * g.S) ⊎ (f * g.S + g.S ≤ e * g.S + k) → word_of g ws' e k ≡ word_of g st.words e k
      go (inl l) = plan-outside (e * g.S + k) (inl (omega arith))
      go (inr l) = plan-outside (e * g.S + k) (inr (omega (arith, b-fits)))

  after : Store
  after = record { sizes = set st.sizes f (max (size_of st f) (off + c)); words = ws'; mem = st.mem }

  -- other files, and places of this one before and after the target slots
  other-bytes : (e i : ℕ) → e ≢ f → i < g.S * g.B → byte_at g after e i ≡ byte_at g st e i
  unfolding byte_at after
  other-bytes e i d h = ap (λ w. slot_byte g st.mem w (i % g.B)) (plan-other e (i / g.B) d (div_lt pos i g.S h))

  -- place i of the target has the byte of the source at the same distance
  target-bytes : (i : ℕ) → off ≤ i → i < off + n * g.B → byte_at g after f i ≡ byte_at g st s (soff + (i - off))
  unfolding byte_at after
  target-bytes i l u =
      let q : ℕ = i / g.B in
      let whole : q * g.B + i % g.B ≡ i = div-add-mod' i g.B in
      let small : i % g.B < g.B = mod-lt i pos in
      let low : b ≤ q = (le-div_iff_mul-le {k = g.B} {x = b} {y = i} pos).1 (omega (arith, b-is)) in
      let high : q < b + n = div_lt pos i (b + n) (omega (arith, b-is)) in
      let t = le_dest low in
      let q-is : q * g.B ≡ b * g.B + t.0 * g.B = ap (λ z. z * g.B) (sym t.1) ∙ omega arith in
      let place : soff + (i - off) ≡ (a + t.0) * g.B + i % g.B = omega (arith, a-is, b-is, whole, q-is) in
      let slot : ((a + t.0) * g.B + i % g.B) / g.B ≡ a + t.0 = mul-add-div_right {m = g.B} pos (a + t.0) (i % g.B) ∙ omega (arith, div-eq_of_lt small) in
      let rest : ((a + t.0) * g.B + i % g.B) % g.B ≡ i % g.B = mul-add-mod_self_right (a + t.0) g.B (i % g.B) ∙ mod-eq_of_lt small in
      let here : f * g.S + q ≡ f * g.S + b + t.0 = omega (arith, t.1) in
      let there : s * g.S + (a + t.0) ≡ s * g.S + a + t.0 = omega arith in
      rw (place, slot, rest, here, there) (same_block g st.mem _ _ (i % g.B) (plan-target t.0 (omega (arith, t.1))))

  outside-bytes : (i : ℕ) → (i < off) ⊎ (off + n * g.B ≤ i) → byte_at g after f i ≡ byte_at g st f i
  unfolding byte_at after
  outside-bytes i (inl l) =
      ap (λ w. slot_byte g st.mem w (i % g.B)) (plan-outside (f * g.S + i / g.B) (inl (omega (arith, div_lt pos i b (omega (arith, b-is))))))
  outside-bytes i (inr l) =
      ap (λ w. slot_byte g st.mem w (i % g.B))
      (plan-outside (f * g.S + i / g.B) (inr (omega (arith, (le-div_iff_mul-le {k = g.B} {x = b + n} {y = i} pos).1 (omega (arith, b-is))))))

  plan-beyond : (k : ℕ) → k < g.S → max (size_of st f) (off + c) ≤ k * g.B → word_of g ws' f k ≡ 0
  plan-beyond k hk l =
      plan-outside (f * g.S + k) (inr (omega (arith, fits-slots b k (omega (arith, b-is))))) ∙ snd.beyond f k hf hk (omega arith)

  -- past an uneven end the source's bytes are zero
  past_source_lem : (i : ℕ) → off + c ≤ i → i < off + n * g.B → size_of st s ≤ soff + (i - off)
  past_source_lem i l u = go even
    where
      go : (c % g.B ≡ 0) ⊎ (soff + c ≡ size_of st s) → size_of st s ≤ soff + (i - off)
      go (inl z) = absurd (omega (arith, whole-slots, mul-le-mul_right g.B few))
        where
          whole-slots : c / g.B * g.B ≡ c
          whole-slots = omega (arith, div-add-mod' c g.B)

          few : n ≤ c / g.B
          few = omega (arith, fits-slots 0 (c / g.B) (omega (arith, whole-slots)))
      go (inr e) = omega arith

  plan-tail : (i : ℕ) → max (size_of st f) (off + c) ≤ i → i < g.S * g.B → byte_at g after f i ≡ 0
  plan-tail i l h = go (dec_lt i (off + n * g.B))
    where
      go : Dec (i < off + n * g.B) → byte_at g after f i ≡ 0
      go (yes u) =
          target-bytes i (omega arith) u
          ∙ snd.tail s (soff + (i - off)) hs (past_source_lem i (omega arith) u) (omega (arith, a-is, mul-le-mul_right g.B a-fits))
      go (no d) = outside-bytes i (inr (omega (arith, d))) ∙ snd.tail f i hf (omega arith) h

  pub clone-edited : Edited g st (edited g st (cloning f off (off + c) s soff)) f (max (size_of st f) (off + c))
  unfolding after
  clone-edited = rw is record {
    files = length-set st.sizes f _;
    slots = plan-r.slots;
    bytes = refl;
    pool = plan_in;
    size = get_or-set_same st.sizes f _ 0 (rw snd.files hf);
    size_other = λ e d. get_or-set_other st.sizes f e _ 0 d;
    word_other = plan-other;
    byte_other = λ e i he d h. other-bytes e i d h;
    beyond = plan-beyond;
    tail = plan-tail;
  }

  pub clone-r : SameR st.words (edited g st (cloning f off (off + c) s soff)).words
  clone-r = rw is plan-r

  -- the bytes of the target: the source's, to the end of the last slot, and else as before
  pub clone-bytes : (i : ℕ) → byte_at g (edited g st (cloning f off (off + c) s soff)) f i ≡ cond (within off (off + ceil_div c g.B * g.B) i) (byte_at g st s (soff + (i - off))) (byte_at g st f i)
  unfolding after n
  clone-bytes i = rw is (go (dec_le off i) (dec_lt i (off + ceil_div c g.B * g.B)))
    where
      go : Dec (off ≤ i) → Dec (i < off + ceil_div c g.B * g.B)
          → byte_at g after f i ≡ cond (within off (off + ceil_div c g.B * g.B) i) (byte_at g st s (soff + (i - off))) (byte_at g st f i)
      go (yes l) (yes u) = rw (inside off (off + ceil_div c g.B * g.B) i l u) (target-bytes i l u)
      go (no d) u = rw (outside off (off + ceil_div c g.B * g.B) i (inl (omega (arith, d)))) (outside-bytes i (inl (omega (arith, d))))
      go (yes l) (no d) = rw (outside off (off + ceil_div c g.B * g.B) i (inr (omega (arith, d)))) (outside-bytes i (inr (omega (arith, d))))
