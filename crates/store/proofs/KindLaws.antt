-- What becomes of a slot: its kind, by the edit's act, and what a kind does to the slot words.
use Prim.Native.Nat.{ℕ, suc, ◌+◌, ◌*◌, ◌/◌, ◌%◌, ◌≤◌, ◌<◌, ◌-◌}
use mathlib.Core.Path.{◌≡◌, refl, sym, ap, ◌∙◌}
use mathlib.Core.Bool.{Bool, true, false, cond, true≢false}
use mathlib.Core.List.{List}
use Rattle.std.specs.Prelude.{Ok}
use native.Mathlib.Nat.{le_refl, mul-le-mul_right, div-add-mod'}
use native.Mathlib.Omega.{arith}
use lib.ListN.{length, get_or}
use Rattle.rules.specs.Lists.{ceil_div}
use Rattle.rules.specs.Store.{Geometry, Store, word, is_hole, lowest_free, used}
use Rattle.rules.specs.Edit.{first_slot, slot_count, Kind, owns, given, cleared, shares, reserved, stays, kind_of, become, owned, covers}
use Rattle.rules.proofs.GeometryLaws.{Good, good, block-pos, slots-all}
use Rattle.rules.proofs.EditForms.{slots-behind}
use Rattle.rules.proofs.SoundStore.{slots-fit, ceil-behind, Sound}
use Rattle.rules.proofs.SoundLaws.{sound-facts}
use Rattle.rules.proofs.PlanLaws.{own-slot, InPool}
use Rattle.std.specs.Borrow.{Bor}
use Rattle.tables.specs.Tables.{TableTrue, Stored}
use Rattle.tables.specs.Tally.{first_zero}
use Rattle.store.specs.declared.edit.Source.{Source}
use Rattle.store.specs.declared.edit.Act as Code
use Rattle.store.specs.declared.edit.Edit as CodeEdit
use Rattle.store.specs.Edits.{edit_from, ActKnown, Applies}
use Rattle.store.specs.Planner.{SourceIn, EditSlots, Plannable, SlotOf, SharesIn, SlotSeen, KindIs, index_of, NoBlock, SlotChanged}

-- ---- where the slots lie

-- numbers that the code computes
pub record EditRoom (g : Geometry) (e : CodeEdit.Edit) : Type 0 where
  pub pos : 0 < g.B
  pub slots : first_slot g e.off + slot_count g e.off e.end ≤ g.S
  pub inside : e.file * g.S + g.S ≤ g.F * g.S
  pub most : g.F * g.S ≤ 65536

pub edit-room : {g : Geometry} {e : CodeEdit.Edit} → EditSlots g e → EditRoom g e
edit-room {g} {e} s =
    let o = good g s.geometry in
    record {
      pos = block-pos o;
      slots = slots-fit g (block-pos o) e.off e.end s.some s.fits;
      inside = omega (arith, mul-le-mul_right g.S s.file);
      most = slots-all g o;
    }

pub edit-inside : {g : Geometry} {e : CodeEdit.Edit} {ws cs old : List ℕ} → Plannable g e ws cs old → index_of g e + slot_count g e.off e.end ≤ length ws
edit-inside k = omega (arith, edit-room k.edit, k.slots)

-- where no error forbids an edit of some bytes, it can be planned
module _ {g : Geometry} {st : Store} {cs : List ℕ} {e : CodeEdit.Edit} (a : Applies g st cs e) (some : e.off < e.end) where
  good_geometry_lem : Good g
  good_geometry_lem = good g a.known.shaped.geometry

  sound-store : Sound g st
  sound-store = sound-facts g (block-pos good_geometry_lem) st a.known.shaped.lengths a.known.sound

  -- a COPY's source lies inside its file; a CLONE's lies as its target does
  source_in : (act : Code.Act) → ActKnown g st e.file e.off e.end act → SourceIn g e.file e.off e.end act
  source_in (Code.Act.Write d) k = tt
  source_in (Code.Act.Copy s) k = record {
    file = k.source.file;
    other = k.other;
    fits = omega (arith, k.source.inside, sound-store.fits s.file k.source.file);
  }
  source_in (Code.Act.Clone s) k =
      let n : ℕ = e.end - e.off in
      let end : e.off + n ≡ e.end = omega arith in
      let count : slot_count g e.off e.end ≡ ceil_div n g.B = rw end at (slots-behind (block-pos good_geometry_lem) e.off n k.target_even) in
      let even : s.off / g.B * g.B ≡ s.off = omega (arith, div-add-mod' s.off g.B, k.source_even) in
      let room : s.off / g.B + ceil_div n g.B ≤ g.S
      = ceil-behind (block-pos good_geometry_lem) (s.off / g.B) n g.S (omega (arith, k.source.inside, sound-store.fits s.file k.source.file)) in
      omega (arith, mul-le-mul_right g.S k.source.file)
  source_in Code.Act.Allocate k = tt
  source_in Code.Act.Deallocate k = tt

  pub applies-slots : EditSlots g e
  applies-slots = record { geometry = a.known.shaped.geometry; file = a.known.file; some = some; fits = a.fits some; source = source_in e.act a.act }

  pub applies_plannable : {old : List ℕ} → length old ≡ slot_count g e.off e.end → Plannable g e st.words cs old
  applies_plannable long = record {
    edit = applies-slots;
    counted = a.known.counted;
    slots = sound-store.slots;
    saves = long;
  }

-- a CLONE's source slot
module _ {g : Geometry} {e : CodeEdit.Edit} {k : ℕ} (s : SlotOf g e k) {from : Source} (q : e.act ≡ Code.Act.Clone from) where
  pub clone-room : from.file * g.S + from.off / g.B + (k - first_slot g e.off) < g.F * g.S
  clone-room = omega (arith, rw q at s.edit.source, s.from, s.to)

-- ---- a slot's kind

module _ {g : Geometry} {e : CodeEdit.Edit} {size : ℕ} {ws : List ℕ} {k w : ℕ} where
  by-act : {c : Kind} (a : Code.Act) → e.act ≡ a → SharesIn (g.F * g.S) c
      → ((st : Store) → SlotSeen g e size ws k w st → c ≡ kind_of g st (edit_from (record { file = e.file; off = e.off; end = e.end; act = a })) k)
      → KindIs g e size ws k w c
  by-act a q i h = record {
    is = λ st s. h st s ∙ ap (λ (x : Code.Act). kind_of g st (edit_from (record { file = e.file; off = e.off; end = e.end; act = x })) k) (sym q);
    inside = i;
  }

  pub kind-write : {d : Bor (List ℕ)} → e.act ≡ Code.Act.Write d → KindIs g e size ws k w owns
  unfolding kind_of
  kind-write q = by-act _ q tt (λ st s. refl)

  pub kind-clone : SlotOf g e k → {s : Source} → e.act ≡ Code.Act.Clone s
      → KindIs g e size ws k w (shares (s.file * g.S + s.off / g.B + (k - first_slot g e.off)))
  unfolding kind_of
  kind-clone h q = by-act _ q (clone-room h q) (λ st s. refl)

  pub kind-allocate : e.act ≡ Code.Act.Allocate → KindIs g e size ws k w reserved
  unfolding kind_of
  kind-allocate q = by-act _ q tt (λ st s. refl)

  pub kind-cut : {c : Kind} → e.act ≡ Code.Act.Deallocate → c ≡ cond (covers g size e.off e.end k) given (cond (is_hole w) stays owns) → KindIs g e size ws k w c
  unfolding kind_of
  kind-cut q h = rw h (by-act _ q (none (covers g size e.off e.end k) (is_hole w)) (λ st s. rw (s.size_is, s.word_is)))
    where
      none : (a b : Bool) → SharesIn (g.F * g.S) (cond a given (cond b stays owns))
      none true b = tt
      none false true = tt
      none false false = tt

-- ---- a slot changed

module _ {ws cs : List ℕ} {i : ℕ} where
  pub changed-done : {c : Kind} {b : ℕ} {after cs' : List ℕ} → after ≡ become c ws i → TableTrue after cs' → b ≤ first_zero cs'
      → SlotChanged c ws cs i (Ok b) after cs'
  changed-done e k l = record { words_are = e; counted = k; searched = l; stopped = λ d. absurd (true≢false d) }

  pub changed-stays : {from : ℕ} → TableTrue ws cs → from ≤ first_zero cs → SlotChanged stays ws cs i (Ok from) ws cs
  unfolding become
  changed-stays k low = changed-done refl k low

  -- a stored word may free a block, and the search begins at 0
  module _ {after cs' : List ℕ} where
    pub changed-given : Stored ws i 0 after cs' → SlotChanged given ws cs i (Ok 0) after cs'
    unfolding become
    changed-given s = changed-done s.words_are s.counted (omega arith)

    pub changed-cleared : Stored ws i (get_or ws i 0 % 2) after cs' → SlotChanged cleared ws cs i (Ok 0) after cs'
    unfolding become
    changed-cleared s = let e : get_or ws i 0 % 2 ≡ word 0 (get_or ws i 0 % 2) = omega arith in changed-done (rw e at s.words_are) s.counted (omega arith)

    pub changed-shares : {p : ℕ} → Stored ws i (word (get_or ws p 0 / 2) (get_or ws i 0 % 2)) after cs' → SlotChanged (shares p) ws cs i (Ok 0) after cs'
    unfolding become
    changed-shares s = changed-done s.words_are s.counted (omega arith)

    pub changed-reserved : Stored ws i (word (get_or ws i 0 / 2) 1) after cs' → SlotChanged reserved ws cs i (Ok 0) after cs'
    unfolding become
    changed-reserved s = changed-done s.words_are s.counted (omega arith)

-- ---- what a kind does to the words

-- the kinds of a pass in which a slot may take a block; none of them loses one
abbrev pub keeps : Kind → Bool
keeps owns = true
keeps given = false
keeps cleared = false
keeps (shares p) = false
keeps reserved = false
keeps stays = true

pub keeps-used : (c : Kind) → keeps c ≡ true → (ws : List ℕ) (i : ℕ) → i < length ws → used ws ≤ used (become c ws i)
unfolding become
keeps-used owns e ws i h = (own-slot ws i h).used_grows
keeps-used given e ws i h = absurd (true≢false (sym e))
keeps-used cleared e ws i h = absurd (true≢false (sym e))
keeps-used (shares p) e ws i h = absurd (true≢false (sym e))
keeps-used reserved e ws i h = absurd (true≢false (sym e))
keeps-used stays e ws i h = le_refl _

-- a slot that finds no block: every block is used, and it takes one more
pub stop-used : (n : ℕ) (c : Kind) (ws : List ℕ) (i : ℕ) → i < length ws → InPool n ws → NoBlock c ws i n → n < used (become c ws i)
unfolding become owned
stop-used n c ws i h pool none =
    let w : ℕ = get_or ws i 0 in
    let e : owned ws w ≡ word (suc (lowest_free ws)) (w % 2) = rw none.wants in
    rw none.asked (omega (arith, (own-slot ws i h).in_pool, ap (λ x. x / 2) e, pool i, none.full))
