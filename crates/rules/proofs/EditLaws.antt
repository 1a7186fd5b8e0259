-- Any edit that no error forbids: the store stays sound and every other file as it was; a reserved slot stays reserved unless it is given
-- back; and each file's content is its array, edited.
use Prim.Native.Nat.{ℕ, ◌+◌, ◌*◌, ◌%◌, ◌≤◌, ◌<◌}
use mathlib.Core.Path.{◌≡◌, refl, sym, ap, ◌∙◌}
use mathlib.Core.Bool.{true}
use mathlib.Core.Logic.{◌≢◌, ◌⊎◌, inl, inr}
use native.Mathlib.Nat.{le_trans, add-sub_cancel_left, lt_of_mul-lt-mul_right}
use native.Mathlib.Decide.{ℕ_discrete, dec_lt}
use native.Mathlib.Omega.{arith}
use lib.ListN.{get_or}
use Rattle.rules.specs.Lists.{tabulate}
use Rattle.rules.specs.Store.{Geometry, Store, size_of, byte_at, content, need}
use Rattle.rules.specs.Edit.{Edit, deallocate, given, covers, kind_of, edited, writing, copying, cloning, allocating, deallocating}
use Rattle.rules.specs.Claim.{array_act, array_edit}
use Rattle.rules.proofs.SlotByteLaws.{length_tab, get_or_tab}
use Rattle.rules.proofs.SoundStore.{Sound, Edited, still_sound, apart}
use Rattle.rules.proofs.EditForms.{edited-none, edited-some}
use Rattle.rules.proofs.KindLaws.{plan-reserved, given_is}
use Rattle.rules.proofs.WriteLaws.{Covered, covered-is, Stores, stored-edited, write_stores}
use Rattle.rules.proofs.CopyLaws.{copy_stores}
use Rattle.rules.proofs.AllocateLaws.{allocate-edited}
use Rattle.rules.proofs.CloneLaws.{clone-edited}
use Rattle.rules.proofs.DeallocateLaws.{deallocate_stores}
use Rattle.rules.proofs.ArrayLaws.{stored-content, allocate-content, deallocate-content, copy-content, array_clone, clone-content}

-- ---- what no error says of an edit

-- a CLONE of n bytes of file s at soff to file f at off
pub record Clonable (g : Geometry) (st : Store) (f off n s soff : ℕ) : Type 0 where
  pub target_file : f < g.F
  pub source_file : s < g.F
  pub inside : soff + n ≤ size_of st s
  pub fits : 0 < n → off + n ≤ g.S * g.B
  pub source_even : soff % g.B ≡ 0
  pub target_even : off % g.B ≡ 0
  pub even : (n % g.B ≡ 0) ⊎ (soff + n ≡ size_of st s)
  pub clear : (s ≢ f) ⊎ ((soff + n ≤ off) ⊎ (off + n ≤ soff))

-- an edit of no bytes may lie anywhere; DEALLOCATE's region is cut at the size
pub data Lawful (g : Geometry) (st : Store) : Edit → Type 0 where
  writes : (f off n : ℕ) (new : ℕ → ℕ) → f < g.F → (0 < n → off + n ≤ g.S * g.B) → Lawful g st (writing f off (off + n) new)
  copies : (f off n s soff : ℕ) → f < g.F → s < g.F → soff + n ≤ size_of st s → (0 < n → off + n ≤ g.S * g.B) → Lawful g st (copying f off (off + n) s soff)
  clones : (f off n s soff : ℕ) → Clonable g st f off n s soff → Lawful g st (cloning f off (off + n) s soff)
  allocates : (f off n : ℕ) → f < g.F → 0 < n → off + n ≤ g.S * g.B → Lawful g st (allocating f off (off + n))
  deallocates : (f off end : ℕ) → f < g.F → end ≤ size_of st f → Lawful g st (deallocating f off end)

pub lawful-file : {g : Geometry} {st : Store} {e : Edit} → Lawful g st e → e.file < g.F
lawful-file (writes f off n new hf fits) = hf
lawful-file (copies f off n s soff hf hs source fits) = hf
lawful-file (clones f off n s soff t) = t.target_file
lawful-file (allocates f off n hf some fits) = hf
lawful-file (deallocates f off end hf cut) = hf

-- an edit of some bytes lies inside its file
pub lawful-fits : {g : Geometry} {st : Store} {e : Edit} → Sound g st → Lawful g st e → e.off < e.end → e.end ≤ g.S * g.B
lawful-fits snd (writes f off n new hf fits) l = fits (omega arith)
lawful-fits snd (copies f off n s soff hf hs source fits) l = fits (omega arith)
lawful-fits snd (clones f off n s soff t) l = t.fits (omega arith)
lawful-fits snd (allocates f off n hf some fits) l = fits
lawful-fits snd (deallocates f off end hf cut) l = le_trans cut (snd.fits f hf)

-- e gives back slot k of file c
abbrev pub Back : Geometry → Store → Edit → ℕ → ℕ → Type 0
Back g st e c k = (e.file ≡ c) × (e.act ≡ deallocate) × (covers g (size_of st c) e.off e.end k ≡ true)

-- ---- the store stays sound, other files as they were

-- a change of the store at file f
pub record Change (g : Geometry) (st st' : Store) (f : ℕ) : Type 0 where
  pub sound : Sound g st'
  pub byte : (e i : ℕ) → e < g.F → e ≢ f → i < g.S * g.B → byte_at g st' e i ≡ byte_at g st e i
  pub size : (e : ℕ) → e ≢ f → size_of st' e ≡ size_of st e

module _ (g : Geometry) (pos : 0 < g.B) (st : Store) (snd : Sound g st) where
  no_change : (f : ℕ) → Change g st st f
  no_change f = record { sound = snd; byte = λ e i he d h. refl; size = λ e d. refl }

  from-edited : {st' : Store} (f s : ℕ) → Edited g st st' f s → s ≤ g.S * g.B → need st'.words ≤ g.N → Change g st st' f
  from-edited {st'} f s ed fits room = record { sound = still_sound g st st' f s snd ed fits room; byte = ed.byte_other; size = ed.size_other }

  stored_change : {e : Edit} → Stores g st e → e.file < g.F → (e.off < e.end → e.end ≤ g.S * g.B) → need (edited g st e).words ≤ g.N
      → Change g st (edited g st e) e.file
  stored_change {e} s hf fits room = go (dec_lt e.off e.end)
    where
      go : Dec (e.off < e.end) → Change g st (edited g st e) e.file
      go (no d) = rw (edited-none g st e (omega (arith, d))) (no_change e.file)
      go (yes l) = from-edited e.file _ (stored-edited g pos st snd e s hf l (fits l) room) (omega (arith, fits l, snd.fits e.file hf)) room

  pub edit_change : {e : Edit} → Lawful g st e → need (edited g st e).words ≤ g.N → Change g st (edited g st e) e.file
  edit_change (writes f off n new hf fits) room = stored_change (write_stores g st f off (off + n) new) hf (λ l. fits (omega arith)) room
  edit_change (copies f off n s soff hf hs source fits) room = stored_change (copy_stores g pos st f off (off + n) s soff) hf (λ l. fits (omega arith)) room
  edit_change (clones f off n s soff t) room = go (dec_lt 0 n)
    where
      go : Dec (0 < n) → Change g st (edited g st (cloning f off (off + n) s soff)) f
      go (no d) = rw (edited-none g st (cloning f off (off + n) s soff) (omega (arith, d))) (no_change f)
      go (yes l) =
          from-edited f _ (clone-edited g pos st snd s f soff off n t.source_file t.target_file t.source_even t.target_even l t.inside (t.fits l) t.even t.clear)
          (omega (arith, t.fits l, snd.fits f t.target_file)) room
  edit_change (allocates f off n hf some fits) room =
      from-edited f _ (allocate-edited g pos st snd f off (off + n) hf (omega arith) fits) (omega (arith, snd.fits f hf)) room
  edit_change (deallocates f off end hf cut) room = stored_change (deallocate_stores g st f off end cut) hf (λ l. le_trans cut (snd.fits f hf)) room

  -- ---- a reserved slot stays reserved, unless it is given back

  abbrev Reserved : Store → ℕ → Type 0
  Reserved st p = get_or st.words p 0 % 2 ≡ 1

  -- a slot's file and number are determined by its index
  same-slot : (e f k q : ℕ) → k < g.S → q < g.S → e * g.S + k ≡ f * g.S + q → (e ≡ f) × (k ≡ q)
  same-slot e f k q hk hq p = go (ℕ_discrete e f)
    where
      go : Dec (e ≡ f) → (e ≡ f) × (k ≡ q)
      go (yes z) = (z, omega (arith, p, ap (λ y. y * g.S) z))
      go (no d) = absurd (sides (apart g.S e f k d hk))
        where
          sides : (e * g.S + k < f * g.S) ⊎ (f * g.S + g.S ≤ e * g.S + k) → ⊥
          sides (inl l) = omega (arith, p)
          sides (inr l) = omega (arith, p)

  pub edit-r : {e : Edit} → Lawful g st e → (c k : ℕ) → k < g.S → Reserved st (c * g.S + k) → (Back g st e c k → ⊥) → Reserved (edited g st e) (c * g.S + k)
  edit-r {e} h c k hk r d = go (dec_lt e.off e.end)
    where
      not-given : (q : ℕ) → c * g.S + k ≡ e.file * g.S + q → kind_of g st e q ≢ given
      not-given q p z =
          let b = given_is g st e.file e.off e.end e.act q z in
          let t : Covered g (size_of st e.file) e.off e.end q = covered-is g (size_of st e.file) e.off e.end q b.1 in
          let hq : q < g.S = lt_of_mul-lt-mul_right g.B (omega (arith, t.some_byte, snd.fits e.file (lawful-file h))) in
          let same = same-slot c e.file k q hk hq p in
          d (sym same.0, b.0, rw (same.0, same.1) b.1)

      go : Dec (e.off < e.end) → Reserved (edited g st e) (c * g.S + k)
      go (no z) = rw (edited-none g st e (omega (arith, z))) r
      go (yes l) = rw (edited-some g st e l) (plan-reserved g st e (c * g.S + k) r not-given)

  -- ---- the contents are the arrays, edited

  pub edit-content : {e : Edit} → Lawful g st e → need (edited g st e).words ≤ g.N → (f : ℕ) → f < g.F → content g (edited g st e) f ≡ array_edit g st e f
  unfolding array_edit array_act array_clone
  edit-content (writes f off n new hf fits) room =
      rw (add-sub_cancel_left off n)
      (stored-content g pos st snd (writing f off (off + n) new) (write_stores g st f off (off + n) new) hf (tabulate new off n) (length_tab new n off ∙ sym (add-sub_cancel_left off n))
      (λ j h. sym (get_or_tab new n off j (rw (length_tab new n off) at h))) (λ l. fits (omega arith)) room)
  edit-content (copies f off n s soff hf hs source fits) room =
      rw (add-sub_cancel_left off n) (copy-content g pos st snd f hf s soff n hs source off fits room)
  edit-content (clones f off n s soff t) room =
      rw (add-sub_cancel_left off n)
      (clone-content g pos st snd f t.target_file s soff n t.source_file t.inside off t.source_even t.target_even t.even t.clear t.fits)
  edit-content (allocates f off n hf some fits) room = allocate-content g pos st snd f hf off n some fits
  edit-content (deallocates f off end hf cut) room = deallocate-content g pos st snd f hf off end cut room
