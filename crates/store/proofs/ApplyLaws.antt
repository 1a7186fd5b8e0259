-- An edit applied: what its parts ask, and its ways out.
use Prim.Native.Nat.{ℕ, ◌≤◌, ◌<◌, max}
use mathlib.Core.Path.{◌≡◌, sym, ◌∙◌}
use mathlib.Core.Bool.{Bool, true, false}
use mathlib.Core.List.{List}
use native.Mathlib.Omega.{arith}
use lib.ListN.{length, set, take}
use lib.Seq.{length-take-le}
use Rattle.rules.specs.Store.{Geometry, Store, size_of, fits_pool}
use Rattle.rules.specs.Edit.{slot_count, plan, edited, edit_bytes}
use Rattle.rules.proofs.EditForms.{edited-none, edited-some}
use Rattle.rules.proofs.GeometryLaws.{good, block-pos}
use Rattle.rules.proofs.SoundStore.{slots-fit}
use Rattle.store.specs.declared.edit.Edit as CodeEdit
use Rattle.store.specs.EditPromises.{EditPromise}
use Rattle.store.specs.Edits.{Applies, edit_from}
use Rattle.store.specs.Fill.{Fills}
use Rattle.store.specs.Planner.{Plannable, EditPlanned}
use Rattle.store.proofs.EditEnds.{edit-none, words-fit, sound-store, plan-refused, plan-done}
use Rattle.store.proofs.KindLaws.{applies_plannable}
use Rattle.store.proofs.FillLaws.{fills_known}

module _ {g : Geometry} {st : Store} {cs : List ℕ} {e : CodeEdit.Edit} (a : Applies g st cs e) where
  pub apply_none : e.end ≤ e.off → EditPromise g st (edited g st (edit_from e)) true st cs
  apply_none h = edit-none a.known _ (edited-none g st (edit_from e) h)

  pub file-inside : e.file < length st.sizes
  file-inside = omega (arith, (sound-store a.known).files, a.known.file)

  module _ (some : e.off < e.end) where
    -- the words to save: of 1,024 the code lends n, as many as e has slots
    module _ {n : ℕ} (is : n ≡ slot_count g e.off e.end) where
      pub saved-room : n ≤ 1024
      saved-room =
          let o = good g a.known.shaped.geometry in
          omega (arith, is, o.slots_most, slots-fit g (block-pos o) e.off e.end some (a.fits some))

      module _ (saved : List ℕ) (h : length saved ≡ 1024) where
        pub saved-long : length (take n saved) ≡ n
        saved-long = length-take-le n saved (rw h saved-room)

        -- what `plan` asks
        pub saved_plannable : Plannable g e st.words cs (take n saved) × (fits_pool (length cs) st.words ≡ true)
        saved_plannable = (applies_plannable a some (saved-long ∙ is), words-fit a.known)

    -- after the plan
    module _ {done : Bool} {after cs' old : List ℕ} (same : length cs' ≡ length cs) {size : ℕ} (size_is : size ≡ size_of st e.file)
        (p : EditPlanned g e size st.words done after cs' old) where
      edit-is : edited g st (edit_from e)
          ≡ record { sizes = set st.sizes e.file (max (size_of st e.file) e.end); words = plan g st (edit_from e); mem = edit_bytes g st (edit_from e) }
      edit-is = edited-some g st (edit_from e) some

      pub apply_refused : done ≡ false → EditPromise g st (edited g st (edit_from e)) false (record { sizes = st.sizes; words = after; mem = st.mem }) cs'
      apply_refused = plan-refused a.known edit-is same (p.planned st.sizes st.mem (sym size_is))

      module _ (e₁ : done ≡ true) where
        after_is : after ≡ plan g st (edit_from e)
        after_is =
            let q = p.planned st.sizes st.mem (sym size_is) in
            rw (← q.answer, e₁) at q.words_are

        pub apply_fills : Fills g st e size old after st.mem
        apply_fills =
            fills_known a some size_is p.saved after_is (rw (sym (same ∙ a.known.blocks)) (p.planned st.sizes st.mem (sym size_is)).counted.pool)

        pub apply_done : {sizes' mem' : List ℕ} → sizes' ≡ set st.sizes e.file (max (size_of st e.file) e.end) → mem' ≡ edit_bytes g st (edit_from e)
            → EditPromise g st (edited g st (edit_from e)) true (record { sizes = sizes'; words = after; mem = mem' }) cs'
        apply_done = plan-done a.known edit-is same (p.planned st.sizes st.mem (sym size_is)) e₁
