-- An edit's two ways out, and the numbers that the code computes.
use Prim.Native.Nat.{ℕ, ◌+◌, ◌/◌, ◌%◌, ◌<◌, min}
use mathlib.Core.Path.{◌≡◌, refl, sym, ◌∙◌}
use mathlib.Core.Bool.{Bool, true, false}
use mathlib.Core.List.{List}
use native.Mathlib.Nat.{le_refl, mul-le-mul_right}
use native.Mathlib.Decide.{dec_lt}
use native.Mathlib.Omega.{arith}
use borrow.Author.Tests.{le-leb}
use lib.ListN.{length}
use Rattle.rules.specs.Lists.{ceil_div}
use Rattle.rules.specs.Store.{Geometry, Store, need, fits_pool}
use Rattle.rules.proofs.GeometryLaws.{Good, good, block-pos}
use Rattle.std.proofs.lemmas.Grind.{div_ceil_times}
use Rattle.rules.proofs.SoundStore.{ceil_le, le_ceil, Sound}
use Rattle.rules.proofs.SoundLaws.{sound-facts}
use Rattle.tables.specs.Tables.{TableTrue}
use Rattle.store.specs.Plan.{Planned}
use Rattle.store.specs.EditPromises.{EditKnown, EditPromise}

-- ---- any edit: its two ways out

pub edit-refused : (g : Geometry) (st planned after : Store) (cs : List ℕ) → fits_pool g.N planned.words ≡ false
    → after.sizes ≡ st.sizes → after.words ≡ st.words → after.mem ≡ st.mem → TableTrue after.words cs → EditPromise g st planned false after cs
edit-refused g st planned after cs e s w m k = record { answer = sym e; sizes_are = rw e s; words_are = rw e w; mem_is = rw e m; counted = k }

pub edit_done_lem : (g : Geometry) (st planned after : Store) (cs : List ℕ) → fits_pool g.N planned.words ≡ true
    → after.sizes ≡ planned.sizes → after.words ≡ planned.words → after.mem ≡ planned.mem → TableTrue after.words cs → EditPromise g st planned true after cs
edit_done_lem g st planned after cs e s w m k = record { answer = sym e; sizes_are = rw e s; words_are = rw e w; mem_is = rw e m; counted = k }

-- ---- what is known where an edit is called

module _ {g : Geometry} {st : Store} {cs : List ℕ} {f : ℕ} (k : EditKnown g st cs f) where
  pub good_geometry_lem : Good g
  good_geometry_lem = good g k.shaped.geometry

  pub sound-store : Sound g st
  sound-store = sound-facts g (block-pos good_geometry_lem) st k.shaped.lengths k.sound

  pub words-fit : fits_pool (length cs) st.words ≡ true
  words-fit = le-leb (need st.words) (length cs) (rw k.blocks sound-store.room)

  -- an edit that plans no change
  pub edit-none : (planned : Store) → planned ≡ st → EditPromise g st planned true st cs
  edit-none planned e = rw e (edit_done_lem g st st st cs (rw k.blocks at words-fit) refl refl refl k.counted)

  -- after the plan of an edit that would leave `sizes`, `planned` and `mem`
  module _ {edit : Store} {sizes planned mem : List ℕ} (is : edit ≡ record { sizes = sizes; words = planned; mem = mem })
      {done : Bool} {after cs' : List ℕ} (same : length cs' ≡ length cs) (p : Planned st.words planned done after cs') where
    judged-is : fits_pool g.N edit.words ≡ done
    judged-is = rw (is, ← k.blocks, ← same) (sym p.answer)

    pub plan-refused : done ≡ false → EditPromise g st edit false (record { sizes = st.sizes; words = after; mem = st.mem }) cs'
    plan-refused unfit =
        edit-refused g st edit _ cs' (judged-is ∙ unfit) refl (rw (← p.answer, unfit) at p.words_are) refl p.counted

    pub plan-done : done ≡ true → {sizes' mem' : List ℕ} → sizes' ≡ sizes → mem' ≡ mem
        → EditPromise g st edit true (record { sizes = sizes'; words = after; mem = mem' }) cs'
    plan-done fits s m =
        edit_done_lem g st edit _ cs' (judged-is ∙ fits) (rw is s) (rw is (rw (← p.answer, fits) at p.words_are)) (rw is m) p.counted

-- ---- std's division that rounds up is the rules'

pub ceil_is : (a b : ℕ) → 0 < b → a / b + min 1 (a % b) ≡ ceil_div a b
ceil_is a b p = go (dec_lt (ceil_div a b) (a / b + min 1 (a % b)))
  where
    go : Dec (ceil_div a b < a / b + min 1 (a % b)) → a / b + min 1 (a % b) ≡ ceil_div a b
    go (yes l) = absurd (omega (arith, div_ceil_times a b p, mul-le-mul_right b l, le_ceil p a (ceil_div a b) (le_refl _)))
    go (no d) = omega (arith, d, ceil_le p a (a / b + min 1 (a % b)) (div_ceil_times a b p).0)
