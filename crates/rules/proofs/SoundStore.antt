-- A sound store as facts, and what an edit of one file has to show so that the store stays sound and the other files stay as they were.
use Prim.Native.Nat.{ℕ, suc, ◌+◌, ◌-◌, ◌*◌, ◌/◌, ◌≤◌, ◌<◌}
use mathlib.Core.Path.{◌≡◌, ◌∙◌}
use mathlib.Core.List.{List}
use mathlib.Core.Logic.{◌≢◌, ◌⊎◌, inl, inr}
use native.Mathlib.Nat.{le_refl, le_of_suc-le-suc, mul-le-mul_right, mul-add-div_right, div-lt_iff_lt-mul}
use native.Mathlib.Decide.{ℕ_discrete, dec_le}
use native.Mathlib.Omega.{arith}
use lib.ListN.{length}
use Rattle.rules.specs.Lists.{ceil_div, each}
use Rattle.rules.specs.Store.{Geometry, Store, size_of, word_of, used, owed, byte_at}
use Rattle.rules.specs.Edit.{first_slot, slot_count}
use Rattle.rules.proofs.PlanLaws.{InPool}
use Rattle.rules.proofs.SlotByteLaws.{Local, plan-before, plan_after}

-- ---- places and slots

module _ {b : ℕ} (pos : 0 < b) where
  -- the slot of place i is at most q
  pub div_le : (i q : ℕ) → i < q * b + b → i / b ≤ q
  div_le i q h = le_of_suc-le-suc ((div-lt_iff_lt-mul {k = b} {x = i} {y = suc q} pos).1 (omega arith))

  pub div_ge : (i q : ℕ) → i / b ≤ q → i < q * b + b
  div_ge i q h = omega (arith, (div-lt_iff_lt-mul {k = b} {x = i} {y = suc q} pos).0 (omega arith))

  pub ceil_le : (e q : ℕ) → e ≤ q * b → ceil_div e b ≤ q
  ceil_le e q h = div_le (e + (b - 1)) q (omega arith)

  pub le_ceil : (e q : ℕ) → ceil_div e b ≤ q → e ≤ q * b
  le_ceil e q h = omega (arith, div_ge (e + (b - 1)) q h)

  pub div_lt : (i q : ℕ) → i < q * b → i / b < q
  div_lt i q h = (div-lt_iff_lt-mul {k = b} {x = i} {y = q} pos).1 h

  -- n bytes behind k slots
  pub ceil-behind : (k n q : ℕ) → k * b + n ≤ q * b → k + ceil_div n b ≤ q
  ceil-behind k n q h =
      let e : k * b + n + (b - 1) ≡ k * b + (n + (b - 1)) = omega arith in
      rw (e, mul-add-div_right {m = b} pos k (n + (b - 1))) at (ceil_le (k * b + n) q h)

-- ---- a sound store

pub record Sound (g : Geometry) (st : Store) : Type 0 where
  pub files : length st.sizes ≡ g.F
  pub slots : length st.words ≡ g.F * g.S
  pub bytes : length st.mem ≡ g.N * g.B
  pub pool : InPool g.N st.words
  pub fits : (f : ℕ) → f < g.F → size_of st f ≤ g.S * g.B
  pub beyond : (f k : ℕ) → f < g.F → k < g.S → size_of st f ≤ k * g.B → word_of g st.words f k ≡ 0
  pub tail : (f i : ℕ) → f < g.F → size_of st f ≤ i → i < g.S * g.B → byte_at g st f i ≡ 0
  pub room : used st.words + owed st.words ≤ g.N

-- an edit of file f that leaves it the size s
pub record Edited (g : Geometry) (st st' : Store) (f s : ℕ) : Type 0 where
  pub files : length st'.sizes ≡ length st.sizes
  pub slots : length st'.words ≡ length st.words
  pub bytes : length st'.mem ≡ length st.mem
  pub pool : InPool g.N st'.words
  pub size : size_of st' f ≡ s
  pub size_other : (e : ℕ) → e ≢ f → size_of st' e ≡ size_of st e
  pub word_other : (e k : ℕ) → e ≢ f → k < g.S → word_of g st'.words e k ≡ word_of g st.words e k
  pub byte_other : (e i : ℕ) → e < g.F → e ≢ f → i < g.S * g.B → byte_at g st' e i ≡ byte_at g st e i
  pub beyond : (k : ℕ) → k < g.S → s ≤ k * g.B → word_of g st'.words f k ≡ 0
  pub tail : (i : ℕ) → s ≤ i → i < g.S * g.B → byte_at g st' f i ≡ 0

pub still_sound : (g : Geometry) (st st' : Store) (f s : ℕ) → Sound g st → Edited g st st' f s → s ≤ g.S * g.B
    → used st'.words + owed st'.words ≤ g.N → Sound g st'
still_sound g st st' f s old e fits room = record {
  files = e.files ∙ old.files;
  slots = e.slots ∙ old.slots;
  bytes = e.bytes ∙ old.bytes;
  pool = e.pool;
  fits = λ c h. fits_in c h (ℕ_discrete c f);
  beyond = λ c k hc hk l. beyond_in c k hc hk l (ℕ_discrete c f);
  tail = λ c i hc l h. tail_in c i hc l h (ℕ_discrete c f);
  room = room;
}
  where
    fits_in : (c : ℕ) → c < g.F → Dec (c ≡ f) → size_of st' c ≤ g.S * g.B
    fits_in c h (yes q) = rw (q, e.size) fits
    fits_in c h (no d) = rw (e.size_other c d) (old.fits c h)

    beyond_in : (c k : ℕ) → c < g.F → k < g.S → size_of st' c ≤ k * g.B → Dec (c ≡ f) → word_of g st'.words c k ≡ 0
    beyond_in c k hc hk l (yes q) = rw q (e.beyond k hk (rw (q, e.size) at l))
    beyond_in c k hc hk l (no d) = e.word_other c k d hk ∙ old.beyond c k hc hk (rw (e.size_other c d) at l)

    tail_in : (c i : ℕ) → c < g.F → size_of st' c ≤ i → i < g.S * g.B → Dec (c ≡ f) → byte_at g st' c i ≡ 0
    tail_in c i hc l h (yes q) = rw q (e.tail i (rw (q, e.size) at l) h)
    tail_in c i hc l h (no d) = e.byte_other c i hc d h ∙ old.tail c i hc (rw (e.size_other c d) at l) h

-- ---- slots of other files

-- a slot of another file lies before or after the slots of file f
pub apart : (s e f k : ℕ) → e ≢ f → k < s → (e * s + k < f * s) ⊎ (f * s + s ≤ e * s + k)
apart s e f k d h = go (dec_le e f)
  where
    go : Dec (e ≤ f) → (e * s + k < f * s) ⊎ (f * s + s ≤ e * s + k)
    go (yes l) = inl (omega (arith, mul-le-mul_right s (below l)))
      where
        below : e ≤ f → suc e ≤ f
        below l = omega (arith, d)
    go (no n) = inr (omega (arith, mul-le-mul_right s above))
      where
        above : suc f ≤ e
        above = omega (arith, n)

pub in_file : (g : Geometry) (f k : ℕ) → f < g.F → k < g.S → f * g.S + k < g.F * g.S
in_file g f k hf hk = omega (arith, mul-le-mul_right g.S hf)

pub other-words : (g : Geometry) (f : ℕ) (step : List ℕ → ℕ → List ℕ) → Local (f * g.S) step → (n k : ℕ) (ws : List ℕ) → k + n ≤ g.S
    → (e q : ℕ) → e ≢ f → q < g.S → word_of g (each step ws k n) e q ≡ word_of g ws e q
other-words g f step local n k ws h e q d hq = go (apart g.S e f q d hq)
  where
    go : (e * g.S + q < f * g.S) ⊎ (f * g.S + g.S ≤ e * g.S + q) → word_of g (each step ws k n) e q ≡ word_of g ws e q
    go (inl l) = plan-before (f * g.S) step local n k (e * g.S + q) ws (omega arith)
    go (inr l) = plan_after (f * g.S) step local n k (e * g.S + q) ws (omega arith)

-- ---- a region's slots

module _ (g : Geometry) (pos : 0 < g.B) (off end : ℕ) (some : off < end) (fits : end ≤ g.S * g.B) where
  pub first-before : first_slot g off ≤ ceil_div end g.B
  first-before = div_le pos off (ceil_div end g.B) (omega (arith, le_ceil pos end (ceil_div end g.B) (le_refl _)))

  pub slots-fit : first_slot g off + slot_count g off end ≤ g.S
  slots-fit = omega (arith, ceil_le pos end g.S fits, first-before)

  -- they lie in the table of a sound store
  pub in_table : (st : Store) → Sound g st → (f : ℕ) → f < g.F → f * g.S + (first_slot g off + slot_count g off end) ≤ length st.words
  in_table st snd f hf = omega (arith, slots-fit, snd.slots, mul-le-mul_right g.S hf)

  -- a plan of them changes no word of its file behind the region
  pub plan-past : (f : ℕ) (step : List ℕ → ℕ → List ℕ) → Local (f * g.S) step → (ws : List ℕ) (k : ℕ) → end ≤ k * g.B
      → word_of g (each step ws (first_slot g off) (slot_count g off end)) f k ≡ word_of g ws f k
  plan-past f step local ws k h =
      plan_after (f * g.S) step local (slot_count g off end) (first_slot g off) (f * g.S + k) ws (omega (arith, ceil_le pos end k h, first-before))

  -- a slot of the region, by its bytes
  pub slot_in : (q : ℕ) → off < q * g.B + g.B → q * g.B < end → (first_slot g off ≤ q) × (q < first_slot g off + slot_count g off end)
  slot_in q l u = (div_le pos off q l, omega (arith, div_le pos off q l, not-ceil))
    where
      not-ceil : q < ceil_div end g.B
      not-ceil = omega (arith, lt_of (dec_le (ceil_div end g.B) q))
        where
          lt_of : Dec (ceil_div end g.B ≤ q) → q < ceil_div end g.B
          lt_of (yes h) = absurd (omega (arith, le_ceil pos end q h))
          lt_of (no n) = omega (arith, n)

  -- and the other way
  pub slot_bytes_lem : (q : ℕ) → first_slot g off ≤ q → q < first_slot g off + slot_count g off end → (off < q * g.B + g.B) × (q * g.B < end)
  slot_bytes_lem q l u = (div_ge pos off q l, lt_of (dec_le end (q * g.B)))
    where
      lt_of : Dec (end ≤ q * g.B) → q * g.B < end
      lt_of (yes h) = absurd (omega (arith, ceil_le pos end q h))
      lt_of (no n) = omega (arith, n)
