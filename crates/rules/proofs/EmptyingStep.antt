-- A DEALLOCATE of a whole file, answered OK: it sets every slot of the file to 0 and leaves the others, and so gives back room.
use Prim.Native.Nat.{ℕ, ◌+◌, ◌*◌, ◌≤◌, ◌<◌, min}
use mathlib.Core.Path.{◌≡◌, refl, ◌∙◌}
use mathlib.Core.Bool.{true}
use mathlib.Core.Option.{some}
use mathlib.Core.List.{List}
use mathlib.Core.Logic.{inl, inr}
use native.Mathlib.Nat.{mul-le-mul_right}
use native.Mathlib.Decide.{dec_le, dec_lt}
use native.Mathlib.Omega.{arith}
use borrow.Author.Tests.{lt-ltb, le-leb}
use lib.ListN.{length}
use Rattle.rules.specs.Store.{Geometry, Store, size_of, word_of}
use Rattle.rules.specs.Edit.{Edit, first_slot, slot_count, covers, kind_of, plan, edited, deallocating}
use Rattle.rules.specs.Operation.{DEALLOCATE}
use Rattle.rules.specs.Run.{State, config, does, effect, Event}
use Rattle.rules.specs.Claim.{OK}
use Rattle.rules.specs.Emptying.{Empties, GivesBackRoom}
use Rattle.rules.proofs.GeometryLaws.{Good, block-pos}
use Rattle.rules.proofs.EditForms.{edited-none, edited-some}
use Rattle.rules.proofs.KindLaws.{plan-long, plan-outside, plan-given}
use Rattle.rules.proofs.SoundStore.{Sound, ceil_le, first-before, slots-fit, in_table, slot_in}
use Rattle.rules.proofs.OperationLaws.{Ready, Performed, refused, nospc, done}
use Rattle.rules.proofs.ChainLaws.{Step, as-op}
use Rattle.rules.proofs.EmptyingLaws.{Emptied, gives_back}

-- ---- a DEALLOCATE of the whole file

-- it gives back every slot with a byte below the size
gives_all : (g : Geometry) (size k : ℕ) → k * g.B < size → covers g size 0 size k ≡ true
unfolding covers
gives_all g size k h = rw (le-leb 0 (k * g.B) (omega arith), lt-ltb (k * g.B) size h, le-leb (min (k * g.B + g.B) size) size (omega arith))

module _ (g : Geometry) (pos : 0 < g.B) (st : Store) (snd : Sound g st) (f : ℕ) (hf : f < g.F) where
  abbrev size : ℕ
  size = size_of st f

  abbrev emptying : Edit
  emptying = deallocating f 0 size

  module _ (some_byte : 0 < size) where
    inside : f * g.S + (first_slot g 0 + slot_count g 0 size) ≤ length st.words
    inside = in_table g pos 0 size some_byte (snd.fits f hf) st snd f hf

    -- a slot at or past the size was 0, any other is given back
    own_back : (k : ℕ) → k < g.S → word_of g (plan g st emptying) f k ≡ 0
    unfolding kind_of
    own_back k hk = go (dec_le size (k * g.B))
      where
        go : Dec (size ≤ k * g.B) → word_of g (plan g st emptying) f k ≡ 0
        go (yes l) =
            plan-outside g st emptying (f * g.S + k) (inr (omega (arith, ceil_le pos size k l, first-before g pos 0 size some_byte (snd.fits f hf)))) ∙ snd.beyond f k hf hk l
        go (no d) =
            let h : k * g.B < size = omega (arith, d) in
            let q = slot_in g pos 0 size some_byte (snd.fits f hf) k (omega arith) h in
            plan-given g st emptying inside k q.0 q.1 (rw (gives_all g size k h))

    -- the plan of a file with at least one byte
    emptied-some : Emptied g f st.words (plan g st emptying)
    emptied-some = record {
      slots = plan-long g st emptying;
      own = own_back;
      before = λ p h. plan-outside g st emptying p (inl (omega arith));
      behind = λ p h. plan-outside g st emptying p (inr (omega (arith, slots-fit g pos 0 size some_byte (snd.fits f hf))));
    }

  -- and the edit of any file: one of size 0 has only zeros already
  edit_empties : Emptied g f st.words (edited g st (deallocating f 0 size)).words
  edit_empties = go (dec_lt 0 size)
    where
      go : Dec (0 < size) → Emptied g f st.words (edited g st (deallocating f 0 size)).words
      go (yes l) = rw (edited-some g st emptying l) (emptied-some l)
      go (no d) = rw (edited-none g st (deallocating f 0 size) (omega (arith, d)))
          record { slots = refl; own = λ k hk. snd.beyond f k hf hk (omega (arith, d)); before = λ p h. refl; behind = λ p h. refl }

-- ---- the operation

-- from offset 0, with a length that reaches the size
module _ (g : Geometry) (id : List ℕ) (n f : ℕ) where
  -- its edit
  effect_empties : (x : State) → x.current ≡ some f → size_of x.store f ≤ n
      → (effect g x (DEALLOCATE id 0 n)).store ≡ edited g x.store (deallocating f 0 (size_of x.store f))
  unfolding effect does
  effect_empties x c h = let cut : min (0 + n) (size_of x.store f) ≡ size_of x.store f = omega arith in rw (c, cut)

  -- answered OK, it gives back the room
  performed_empties : {v : List ℕ} {x : State} {next : ℕ} {z : Event} → 0 < g.B → Ready g x → x.current ≡ some f → size_of x.store f ≤ n
      → Performed (config g v) x (DEALLOCATE id 0 n) next z → OK z → GivesBackRoom g x.store.words z.after.store.words f
  performed_empties pos r c h (refused e k) ok = absurd (omega (arith, ok))
  performed_empties pos r c h (nospc k l) ok = absurd (omega (arith, ok))
  performed_empties {x = x} pos r c h (done k l) ok =
      let hf = r.current f c in
      rw (effect_empties x c h)
      (gives_back g f x.store.words _ (omega (arith, r.sound.slots, mul-le-mul_right g.S hf)) (edit_empties g pos x.store r.sound f hf) pos)

-- of an operation reached
pub step_empties : (g : Geometry) → Good g → {z : Event} → Step g z → (f : ℕ) → Empties z f → GivesBackRoom g z.before.store.words z.after.store.words f
step_empties g bd s f e =
    let a = as-op g bd s e.deallocate.0.1 in
    performed_empties g e.id e.n f (block-pos bd) a.ready e.deallocate.1 e.whole a.how e.done
