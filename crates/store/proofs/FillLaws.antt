-- The bytes of an edit: what each act asks of its leaf, and the loop over the slots.
use Prim.Native.Nat.{ℕ, ◌+◌, ◌*◌, ◌/◌, ◌%◌, ◌≤◌, ◌<◌, ◌-◌}
use mathlib.Core.Path.{◌≡◌, refl, sym, ap, subst, ◌∙◌}
use mathlib.Core.Bool.{Bool, true, false, cond, true≢false}
use mathlib.Core.List.{List}
use mathlib.Core.Logic.{◌≢◌, ◌⊎◌, inl, inr}
use native.Mathlib.Nat.{add-zero, mod-lt}
use native.Mathlib.Omega.{arith}
use lib.ListN.{length, get_or, take, drop, length-drop}
use lib.Seq.{length-take-le}
use Rattle.std.specs.Borrow.{Bor}
use Rattle.rules.specs.Lists.{each}
use Rattle.rules.specs.Store.{Geometry, Store, size_of, word_of, slot_byte, byte_at}
use Rattle.rules.specs.Edit.{Edit, Kind, owns, given, cleared, shares, reserved, stays, within, first_slot, slot_count, kind_of, plan, store_slot, new_byte, is_owned, fill_slot, edit_bytes}
use Rattle.rules.proofs.KindLaws.{plan-long, plan-other}
use Rattle.rules.proofs.PlanLaws.{InPool}
use Rattle.rules.proofs.GeometryLaws.{Good, good, block-pos}
use Rattle.rules.proofs.SoundStore.{Sound, div_lt, apart, in_file, slots-fit, in_table}
use Rattle.rules.proofs.SoundLaws.{sound-facts}
use Rattle.store.specs.declared.edit.Act as Code
use Rattle.store.specs.declared.edit.Source.{Source}
use Rattle.store.specs.declared.edit.Edit as CodeEdit
use Rattle.store.specs.declared.edit.Kind as CodeKind
use Rattle.store.specs.Edits.{act_from, edit_from, ActKnown, Applies, kind_from}
use Rattle.store.specs.Planner.{SlotOf, KindIs}
use Rattle.store.specs.SlotBytes.{Touched, SlotCopy}
use Rattle.store.specs.Fill.{PlannedEdit, Fills, Filling, SlotFills, SlotOwns}
use Rattle.store.proofs.StoreLaws.{slot-touched, Storing, storing_start, storing_turn, storing_end, each_from, word_cut}
use Rattle.store.proofs.CopyBytes.{slot_same, other_block}
use Rattle.store.proofs.KindLaws.{applies-slots}
use Rattle.rules.proofs.AloneLaws.{Alone, plan-alone}

-- ---- the rules' bytes

owned-is : (c : Kind) → is_owned c ≡ true → c ≡ owns
owned-is owns e = refl
owned-is given e = let z : ◌≡◌ {A = ℕ} 0 1 = cc in absurd (omega arith)
owned-is cleared e = let z : ◌≡◌ {A = ℕ} 0 1 = cc in absurd (omega arith)
owned-is (shares p) e = let z : ◌≡◌ {A = ℕ} 0 1 = cc in absurd (omega arith)
owned-is reserved e = let z : ◌≡◌ {A = ℕ} 0 1 = cc in absurd (omega arith)
owned-is stays e = let z : ◌≡◌ {A = ℕ} 0 1 = cc in absurd (omega arith)

bytes_are : (g : Geometry) (st : Store) (e : Edit) → edit_bytes g st e ≡ each (fill_slot g st e) st.mem (first_slot g e.off) (slot_count g e.off e.end)
unfolding edit_bytes
bytes_are g st e = refl

-- ---- what is known of a planned edit

-- a kind of the code that is another than Owns
pub not_owned : (k : CodeKind.Kind) → (k ≡ CodeKind.Kind.Owns → ⊥) → is_owned (kind_from k) ≡ false
not_owned CodeKind.Kind.Owns h = absurd (h refl)
not_owned CodeKind.Kind.Given h = refl
not_owned CodeKind.Kind.Cleared h = refl
not_owned (CodeKind.Kind.Shares p) h = refl
not_owned CodeKind.Kind.Reserved h = refl
not_owned CodeKind.Kind.Stays h = refl

-- where it is applied
pub fills_known : {g : Geometry} {st : Store} {counts : List ℕ} {e : CodeEdit.Edit} → Applies g st counts e → e.off < e.end
    → {size : ℕ} {old words : List ℕ} → size ≡ size_of st e.file → old ≡ take (slot_count g e.off e.end) (drop (e.file * g.S + first_slot g e.off) st.words)
    → words ≡ plan g st (edit_from e) → InPool g.N words → Fills g st e size old words st.mem
fills_known a some s o p pool = record {
  planned = record {
    shaped = a.known.shaped;
    sound = a.known.sound;
    edit = applies-slots a some;
    act = a.act;
    size_is = s;
    words_are = p;
    pool = pool;
  };
  old_are = o;
  mem_is = refl;
}

module _ {g : Geometry} {st : Store} {e : CodeEdit.Edit} {size : ℕ} {words : List ℕ} (h : PlannedEdit g st e size words) where
  pub good-plan : Good g
  good-plan = good g h.shaped.geometry

  snd : Sound g st
  snd = sound-facts g (block-pos good-plan) st h.shaped.lengths h.sound

  slots_in : first_slot g e.off + slot_count g e.off e.end ≤ g.S
  slots_in = slots-fit g (block-pos good-plan) e.off e.end h.edit.some h.edit.fits

  inside : e.file * g.S + (first_slot g e.off + slot_count g e.off e.end) ≤ length st.words
  inside = in_table g (block-pos good-plan) e.off e.end h.edit.some h.edit.fits st snd e.file h.edit.file

  words_long : length words ≡ g.F * g.S
  words_long = ap length h.words_are ∙ plan-long g st (edit_from e) ∙ snd.slots

  others_kept : (f q : ℕ) → f ≢ e.file → q < g.S → word_of g words f q ≡ word_of g st.words f q
  others_kept f q n l = rw h.words_are (plan-other g st (edit_from e) slots_in f q n l)

  others_same : (f i : ℕ) → f ≢ e.file → i < g.S * g.B → byte_at g (record { sizes = st.sizes; words = words; mem = st.mem }) f i ≡ byte_at g st f i
  unfolding byte_at
  others_same f i n l = ap (λ w. slot_byte g st.mem w (i % g.B)) (others_kept f (i / g.B) n (div_lt (block-pos good-plan) i g.S l))

-- a slot of its region, with the memory between two slots
module _ {g : Geometry} {st : Store} {e : CodeEdit.Edit} {size : ℕ} {words mem : List ℕ} {k w : ℕ} (h : SlotFills g st e size words mem k w) where
  known : PlannedEdit g st e size words
  known = h.filling.planned

  pub slot-below : k < g.S
  slot-below = omega (arith, slots_in known, h.to)

  pub slot_index : e.file * g.S + k < length words
  slot_index = omega (arith, words_long known, in_file g e.file k known.edit.file slot-below)

  bytes-long : length mem ≡ g.N * g.B
  bytes-long = h.filling.long ∙ (snd known).bytes

  -- it owns a block
  module _ (o : kind_of g st (edit_from e) k ≡ owns) where
    alone : Alone words (e.file * g.S + k)
    alone = rw known.words_are (plan-alone g st (edit_from e) (inside known) k h.from h.to o)

    -- no slot of another file has its block
    other_word : (f q : ℕ) → f < g.F → f ≢ e.file → q < g.S → word_of g words e.file k / 2 ≢ word_of g words f q / 2
    other_word f q hf n l =
        alone.apart (f * g.S + q) (omega (arith, words_long known, in_file g f q hf l)) (go (apart g.S f e.file q n l))
      where
        go : (f * g.S + q < e.file * g.S) ⊎ (e.file * g.S + g.S ≤ f * g.S + q) → f * g.S + q ≡ e.file * g.S + k → ⊥
        go (inl a) z = omega arith
        go (inr a) z = omega (arith, slot-below)

    owns-touched : Touched g (length mem) w (word_of g words e.file k) k e.off e.end
    owns-touched =
        slot-touched g (length mem) w (word_of g words e.file k) k e.off e.end (good-plan known) (omega (arith, bytes-long)) known.edit.some known.edit.fits h.from h.to
        (rw h.word_is ((snd known).pool (e.file * g.S + k))) (known.pool (e.file * g.S + k)) alone.block

    -- bytes that are the edit's in its region
    fill-owned : (byte : ℕ → ℕ) → ((p : ℕ) → e.off ≤ p → p < e.end → byte p ≡ new_byte g st (edit_from e) p)
        → {m : List ℕ} → m ≡ store_slot g (within e.off e.end) byte w (word_of g words e.file k) mem k → m ≡ fill_slot g st (edit_from e) mem k
    unfolding fill_slot
    fill-owned byte same is =
        is ∙ slot_same e.off e.end byte (new_byte g st (edit_from e)) same g w (word_of g words e.file k) k mem
        ∙ rw (o, ← h.word_is, ← known.words_are)

    -- the other files' bytes
    owned-others : (byte : ℕ → ℕ) (f i : ℕ) → f < g.F → f ≢ e.file → i < g.S * g.B
        → byte_at g (record { sizes = st.sizes; words = words; mem = store_slot g (within e.off e.end) byte w (word_of g words e.file k) mem k }) f i ≡ byte_at g st f i
    unfolding byte_at
    owned-others byte f i hf n l =
        let pos = block-pos (good-plan known) in
        let q : i / g.B < g.S = div_lt pos i g.S l in
        other_block g mem (within e.off e.end) byte w (word_of g words e.file k) k bytes-long owns-touched.backed (word_of g words f (i / g.B)) (i % g.B)
        (other_word f (i / g.B) hf n q) (mod-lt i pos)
        ∙ h.filling.others f i hf n l

  fill_none : is_owned (kind_of g st (edit_from e) k) ≡ false → mem ≡ fill_slot g st (edit_from e) mem k
  unfolding fill_slot
  fill_none o = rw o

  -- ---- the acts

  module _ {a : Code.Act} (is : e.act ≡ a) where
    edit-is : edit_from e ≡ record { file = e.file; off = e.off; end = e.end; act = act_from a e.off }
    edit-is = ap (λ x. record { file = e.file; off = e.off; end = e.end; act = act_from x e.off }) is

    kind-is : {c : Kind} → kind_of g st (record { file = e.file; off = e.off; end = e.end; act = act_from a e.off }) k ≡ c → kind_of g st (edit_from e) k ≡ c
    kind-is p = ap (λ x. kind_of g st x k) edit-is ∙ p

    byte-is : (p : ℕ) → new_byte g st (record { file = e.file; off = e.off; end = e.end; act = act_from a e.off }) p ≡ new_byte g st (edit_from e) p
    byte-is p = sym (ap (λ x. new_byte g st x p) edit-is)

    act-known : ActKnown g st e.file e.off e.end a
    act-known = subst (ActKnown g st e.file e.off e.end) is known.act

  module _ {d : Bor (List ℕ)} (is : e.act ≡ Code.Act.Write d) where
    write-owns : kind_of g st (edit_from e) k ≡ owns
    unfolding kind_of
    write-owns = kind-is is refl

    pub write-asks : Touched g (length mem) w (word_of g words e.file k) k e.off (e.off + length d.now)
    write-asks = rw (act-known is) at (owns-touched write-owns)

    pub write_fills : {m : List ℕ}
        → m ≡ store_slot g (within e.off (e.off + length d.now)) (λ p. get_or d.now (p - e.off) 0) w (word_of g words e.file k) mem k → m ≡ fill_slot g st (edit_from e) mem k
    write_fills s = fill-owned write-owns (λ p. get_or d.now (p - e.off) 0) (λ p l u. byte-is is p) (rw (act-known is) s)

  module _ {s : Source} (is : e.act ≡ Code.Act.Copy s) (o : kind_of g st (edit_from e) k ≡ owns) where
    source_fits : s.off + (e.end - e.off) ≤ g.S * g.B
    source_fits = omega (arith, (act-known is).source.inside, (snd known).fits s.file (act-known is).source.file)

    pub copy-asks : SlotCopy g words mem s.file s.off w (word_of g words e.file k) k e.off e.end
    copy-asks = record {
      touched = owns-touched o;
      readable = record {
        geometry = known.shaped.geometry;
        slots = words_long known;
        bytes = bytes-long;
        pool = known.pool;
        file = (act-known is).source.file;
        fits = source_fits;
      };
      other = λ q l z. other_word o s.file q (act-known is).source.file (act-known is).other l (sym z);
    }

    pub copy_fills : {m : List ℕ}
        → ((sizes : List ℕ) → m ≡ store_slot g (within e.off e.end) (λ p. byte_at g (record { sizes = sizes; words = words; mem = mem }) s.file (s.off + (p - e.off)))
        w (word_of g words e.file k) mem k) → m ≡ fill_slot g st (edit_from e) mem k
    copy_fills t = fill-owned o _ same (t st.sizes)
      where
        same : (p : ℕ) → e.off ≤ p → p < e.end
            → byte_at g (record { sizes = st.sizes; words = words; mem = mem }) s.file (s.off + (p - e.off)) ≡ new_byte g st (edit_from e) p
        same p l u = h.filling.others s.file (s.off + (p - e.off)) (act-known is).source.file (act-known is).other (omega (arith, source_fits)) ∙ byte-is is p

  module _ (is : e.act ≡ Code.Act.Deallocate) (o : kind_of g st (edit_from e) k ≡ owns) where
    pub cut-asks : Touched g (length mem) w (word_of g words e.file k) k e.off e.end
    cut-asks = owns-touched o

    pub cut_fills : {m : List ℕ} → m ≡ store_slot g (within e.off e.end) (λ i. 0) w (word_of g words e.file k) mem k → m ≡ fill_slot g st (edit_from e) mem k
    cut_fills = fill-owned o (λ i. 0) (λ i l u. byte-is is i)

  -- CLONE and ALLOCATE give no slot a block of its own
  clone-owns : {s : Source} → e.act ≡ Code.Act.Clone s → kind_of g st (edit_from e) k ≡ owns → ⊥
  unfolding kind_of
  clone-owns is o = true≢false (sym (ap is_owned o) ∙ ap is_owned (kind-is is refl))

  allocate-owns : e.act ≡ Code.Act.Allocate → kind_of g st (edit_from e) k ≡ owns → ⊥
  unfolding kind_of
  allocate-owns is o = true≢false (sym (ap is_owned o) ∙ ap is_owned (kind-is is refl))

  pub none-owns : ((s : Source) × (e.act ≡ Code.Act.Clone s)) ⊎ (e.act ≡ Code.Act.Allocate) → kind_of g st (edit_from e) k ≡ owns → ⊥
  none-owns (inl a) o = clone-owns a.1 o
  none-owns (inr b) o = allocate-owns b o

  -- ---- by the kind

  pub slot_of : SlotOf g e k × (length words ≡ g.F * g.S)
  slot_of = (record { edit = known.edit; from = h.from; to = h.to }, words_long known)

  module _ {c : Kind} (n : KindIs g e size words k w c) where
    is-kind : c ≡ kind_of g st (edit_from e) k
    is-kind = n.is st (record { size_is = sym known.size_is; word_is = sym h.word_is; others = record { same = λ f q m l. sym (others_kept known f q m l) } })

    pub left_fills : is_owned c ≡ false → mem ≡ fill_slot g st (edit_from e) mem k
    left_fills o = fill_none (ap is_owned (sym is-kind) ∙ o)

    pub owns-slot : is_owned c ≡ true → SlotOwns g st e size words mem k w
    owns-slot o = record { slot = h; kind = owned-is (kind_of g st (edit_from e) k) (ap is_owned (sym is-kind) ∙ o) }

  -- the other files' bytes, after its share
  filled-others : {m : List ℕ} → m ≡ fill_slot g st (edit_from e) mem k → (f i : ℕ) → f < g.F → f ≢ e.file → i < g.S * g.B
      → byte_at g (record { sizes = st.sizes; words = words; mem = m }) f i ≡ byte_at g st f i
  unfolding fill_slot
  filled-others {m} s f i hf n l = go (is_owned (kind_of g st (edit_from e) k)) refl s
    where
      go : (t : Bool) → is_owned (kind_of g st (edit_from e) k) ≡ t
          → m ≡ cond t (store_slot g (within e.off e.end) (new_byte g st (edit_from e)) (word_of g st.words e.file k) (word_of g (plan g st (edit_from e)) e.file k) mem k) mem
          → byte_at g (record { sizes = st.sizes; words = words; mem = m }) f i ≡ byte_at g st f i
      go true o s =
          rw (s, ← h.word_is, ← known.words_are) (owned-others (owned-is (kind_of g st (edit_from e) k) o) (new_byte g st (edit_from e)) f i hf n l)
      go false o s = rw s (h.filling.others f i hf n l)

-- ---- the loop over the slots

-- i of them stored
pub record Putting (g : Geometry) (st : Store) (e : CodeEdit.Edit) (size : ℕ) (old words mem₀ mem : List ℕ) (i : ℕ) : Type 0 where
  pub filling : Filling g st e size words mem
  pub stored : Storing (λ x j. fill_slot g st (edit_from e) x (first_slot g e.off + j)) (length old) mem₀ mem i

module _ {g : Geometry} {st : Store} {e : CodeEdit.Edit} {size : ℕ} {old words mem₀ : List ℕ} (h : Fills g st e size old words mem₀) where
  pub old-long : length old ≡ slot_count g e.off e.end
  old-long =
      let at : ℕ = e.file * g.S + first_slot g e.off in
      ap length h.old_are ∙ length-take-le (slot_count g e.off e.end) (drop at st.words) (rw (length-drop at st.words) (omega (arith, inside h.planned)))

  pub putting_start : Putting g st e size old words mem₀ mem₀ 0
  putting_start = record {
    filling = record { planned = h.planned; long = ap length h.mem_is; others = λ f i hf n l. rw h.mem_is (others_same h.planned f i n l) };
    stored = storing_start _ (length old) mem₀;
  }

  module _ {mem : List ℕ} {i : ℕ} (r : Putting g st e size old words mem₀ mem i) where
    pub putting_slot : i < length old → SlotFills g st e size words mem (first_slot g e.off + i) (get_or old i 0)
    putting_slot l = record {
      filling = r.filling;
      from = omega arith;
      to = omega (arith, old-long);
      word_is = rw h.old_are (sym (word_cut st.words (e.file * g.S) (first_slot g e.off) (slot_count g e.off e.end) i (rw old-long at l)));
    }

    pub putting_turn : {m : List ℕ} → i < length old → m ≡ fill_slot g st (edit_from e) mem (first_slot g e.off + i) → length m ≡ length mem
        → Putting g st e size old words mem₀ m (i + 1)
    putting_turn l s long = record {
      filling = record { planned = h.planned; long = long ∙ r.filling.long; others = filled-others (putting_slot l) s };
      stored = storing_turn _ r.stored l s long;
    }

    pub putting_end : length old ≤ i → mem ≡ edit_bytes g st (edit_from e)
    putting_end l =
        let k : ℕ = first_slot g e.off in
        let n : ℕ = slot_count g e.off e.end in
        let run : each (fill_slot g st (edit_from e)) st.mem k n ≡ each (λ x j. fill_slot g st (edit_from e) x (k + j)) st.mem 0 n
        = rw (add-zero k) at (each_from (fill_slot g st (edit_from e)) (λ x j. fill_slot g st (edit_from e) x (k + j)) k n 0 st.mem (λ x j u. refl)) in
        storing_end _ r.stored l ∙ rw (old-long, h.mem_is) (sym run) ∙ sym (bytes_are g st (edit_from e))
