-- ALLOCATE: no block changes hands, so no byte changes; every touched slot is reserved afterwards.
use Prim.Native.Nat.{ℕ, ◌+◌, ◌*◌, ◌/◌, ◌%◌, ◌≤◌, ◌<◌, max}
use mathlib.Core.Path.{◌≡◌, refl, ◌∙◌}
use mathlib.Core.List.{List}
use mathlib.Core.Logic.{◌≢◌}
use native.Mathlib.Omega.{arith}
use lib.ListN.{length, get_or, length-set}
use lib.Seq.{get_or-set_same, get_or-set_other}
use Rattle.rules.specs.Lists.{each}
use Rattle.rules.specs.Store.{Geometry, Store, word, size_of, word_of, slot_byte, byte_at}
use Rattle.rules.specs.Edit.{first_slot, slot_count, edited, allocating}
use Rattle.rules.proofs.EditSteps.{reserve, plan_allocate}
use Rattle.rules.proofs.EditForms.{allocate-is}
use Rattle.rules.proofs.PlanLaws.{each_keeps, set_keeps}
use Rattle.rules.proofs.SlotByteLaws.{Local}
use Rattle.rules.proofs.KindLaws.{slot-now}
use Rattle.rules.proofs.SoundStore.{Sound, Edited, other-words, slots-fit, in_table, plan-past}

-- slots of two words that hold the same block show the same bytes
pub same_block : (g : Geometry) (m : List ℕ) (w x j : ℕ) → w / 2 ≡ x / 2 → slot_byte g m w j ≡ slot_byte g m x j
same_block g m w x j e = rw e

-- the same blocks
pub record SameBlocks (ws ws' : List ℕ) : Type 0 where
  pub slots : length ws' ≡ length ws
  pub block : (p : ℕ) → get_or ws' p 0 / 2 ≡ get_or ws p 0 / 2

pub reserve_local : (at : ℕ) → Local at (reserve at)
unfolding reserve
reserve_local at ws k p d = get_or-set_other ws (at + k) p _ 0 d

reserve-long : (at : ℕ) (ws : List ℕ) (k : ℕ) → length (reserve at ws k) ≡ length ws
unfolding reserve
reserve-long at ws k = length-set ws (at + k) _

reserve-block : (at : ℕ) (ws : List ℕ) (k p : ℕ) → get_or (reserve at ws k) p 0 / 2 ≡ get_or ws p 0 / 2
unfolding reserve
reserve-block at ws k p = set_keeps (λ w. w / 2) ws (at + k) _ (omega arith) p

reserve-now : (at : ℕ) (ws : List ℕ) (k : ℕ) → at + k < length ws → get_or (reserve at ws k) (at + k) 0 % 2 ≡ 1
unfolding reserve
reserve-now at ws k h = rw (get_or-set_same ws (at + k) (word (get_or ws (at + k) 0 / 2) 1) 0 h) (omega arith)

plan-blocks : (at n k : ℕ) (ws : List ℕ) → SameBlocks ws (each (reserve at) ws k n)
plan-blocks at n k ws =
    each_keeps (SameBlocks ws) (reserve at) n k ws
    (λ x j l u p. record { slots = reserve-long at x j ∙ p.slots; block = λ i. reserve-block at x j i ∙ p.block i }) (record { slots = refl; block = λ p. refl })

module _ (g : Geometry) (pos : 0 < g.B) (st : Store) (snd : Sound g st) (f off end : ℕ) (hf : f < g.F) (some : off < end) (fits : end ≤ g.S * g.B) where
  blocks : SameBlocks st.words (plan_allocate g st.words f off end)
  unfolding plan_allocate
  blocks = plan-blocks (f * g.S) (slot_count g off end) (first_slot g off) st.words

  plan-other : (e k : ℕ) → e ≢ f → k < g.S → word_of g (plan_allocate g st.words f off end) e k ≡ word_of g st.words e k
  unfolding plan_allocate
  plan-other e k d hk =
      other-words g f (reserve (f * g.S)) (reserve_local (f * g.S)) (slot_count g off end) (first_slot g off) st.words (slots-fit g pos off end some fits) e k d hk

  plan-beyond : (k : ℕ) → k < g.S → max (size_of st f) end ≤ k * g.B → word_of g (plan_allocate g st.words f off end) f k ≡ 0
  unfolding plan_allocate
  plan-beyond k hk l =
      plan-past g pos off end some fits f (reserve (f * g.S)) (reserve_local (f * g.S)) st.words k (omega arith) ∙ snd.beyond f k hf hk (omega arith)

  -- no byte of any file changes
  pub allocate-bytes : (e i : ℕ) → byte_at g (edited g st (allocating f off end)) e i ≡ byte_at g st e i
  unfolding byte_at
  allocate-bytes e i = rw (allocate-is g st f off end some) (same_block g st.mem _ _ (i % g.B) (blocks.block (e * g.S + i / g.B)))

  pub allocate-edited : Edited g st (edited g st (allocating f off end)) f (max (size_of st f) end)
  allocate-edited = rw (allocate-is g st f off end some) record {
    files = length-set st.sizes f _;
    slots = blocks.slots;
    bytes = refl;
    pool = λ p. rw (blocks.block p) (snd.pool p);
    size = get_or-set_same st.sizes f _ 0 (rw snd.files hf);
    size_other = λ e d. get_or-set_other st.sizes f e _ 0 d;
    word_other = plan-other;
    byte_other = λ e i he d h. rw (allocate-is g st f off end some) at (allocate-bytes e i);
    beyond = plan-beyond;
    tail = λ i l h. (rw (allocate-is g st f off end some) at (allocate-bytes f i)) ∙ snd.tail f i hf (omega arith) h;
  }

  pub allocate-reserved : (q : ℕ) → first_slot g off ≤ q → q < first_slot g off + slot_count g off end → word_of g (edited g st (allocating f off end)).words f q % 2 ≡ 1
  unfolding plan_allocate
  allocate-reserved q l u =
      rw (allocate-is g st f off end some)
      (slot-now (f * g.S) (reserve (f * g.S)) (reserve_local (f * g.S)) (reserve-long (f * g.S)) (λ w. w % 2 ≡ 1) q st.words
      (λ x n w. reserve-now (f * g.S) x q (omega (arith, n, in_table g pos off end some fits st snd f hf))) (slot_count g off end) (first_slot g off) l u)
