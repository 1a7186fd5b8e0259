-- A pass over the slots of an edit: it changes no other slot, and one that stops for want of a block does not fit the pool.
use Prim.Native.Nat.{ℕ, zero, suc, ◌+◌, ◌*◌, ◌≤◌, ◌<◌, ◌-◌}
use mathlib.Core.Path.{◌≡◌, refl, sym, ap, ◌∙◌}
use mathlib.Core.Bool.{Bool, true, false, cond, true≢false}
use mathlib.Core.List.{List}
use mathlib.Core.Logic.{◌≢◌, ◌⊎◌, inl, inr}
use native.Mathlib.Nat.{le_refl, le_trans, add-zero}
use native.Mathlib.Omega.{arith}
use borrow.Author.Tests.{lt-leb}
use lib.ListN.{length, get_or, take, drop}
use lib.Seq.{get_or-take, get_or-drop}
use Rattle.xdr.specs.Bytes.{splice}
use Rattle.rules.specs.Lists.{each}
use Rattle.rules.specs.Store.{Geometry, Store, size_of, word_of, is_hole, used, owed, fits_pool}
use Rattle.rules.specs.Edit.{Act, write, copy, clone, allocate, deallocate, Edit, copying, first_slot, slot_count, Kind, owns, given, cleared, stays, kind_of, become, covers, clears, pass, plan}
use Rattle.rules.proofs.PlanLaws.{each_ext, InPool}
use Rattle.rules.proofs.KindLaws.{become_local, become-length}
use Rattle.rules.proofs.SoundStore.{apart}
use Rattle.tables.specs.Tables.{TableTrue}
use Rattle.tables.specs.Tally.{first_zero}
use Rattle.store.specs.declared.edit.Edit as CodeEdit
use Rattle.std.specs.Prelude.{Result, Ok, Err, is_ok, IsErr}
use Rattle.store.specs.declared.edit.NoSpace.{NoSpace}
use Rattle.store.specs.declared.edit.Pass.{Pass}
use Rattle.store.specs.Edits.{edit_from}
use Rattle.store.specs.Plan.{Planned, Outside, Undoable, Undone, Settleable}
use Rattle.store.specs.Planner.{NoBlock, Others, SlotSeen, KindIs, SlotChanged, in_pass, only, Plannable, index_of, words_of, Seen, Passed, EditPlanned}
use Rattle.store.proofs.KindLaws.{edit-room, edit-inside, keeps, keeps-used, stop-used}
use Rattle.store.proofs.SettleLaws.{outside_refl, outside_trans, saved_is, saved-pool, saved-back, planned_undone, planned_settled}

-- ---- slots one after the other

-- slot k becomes what its kind says; `at` is the index of the file's slot 0
unfoldable pub run : ℕ → (ℕ → Kind) → List ℕ → ℕ → List ℕ
run at kinds ws k = become (kinds k) ws (at + k)

module _ (at : ℕ) (kinds : ℕ → Kind) where
  run_length : (ws : List ℕ) (k : ℕ) → length (run at kinds ws k) ≡ length ws
  unfolding run
  run_length ws k = become-length (kinds k) ws (at + k)

  run-used : ((j : ℕ) → keeps (kinds j) ≡ true) → (n k : ℕ) (ws : List ℕ) → at + (k + n) ≤ length ws → used ws ≤ used (each (run at kinds) ws k n)
  unfolding run
  run-used e zero k ws h = le_refl _
  run-used e (suc n) k ws h =
      le_trans (keeps-used (kinds k) (e k) ws (at + k) (omega arith))
      (run-used e n (suc k) (run at kinds ws k) (omega (arith, run_length ws k)))

  -- at a stop the words after all the steps don't fit
  run-stop : ((j : ℕ) → keeps (kinds j) ≡ true) → (n : ℕ) (ws : List ℕ) (k m : ℕ) → at + (k + suc m) ≤ length ws → InPool n ws
      → NoBlock (kinds k) ws (at + k) n → fits_pool n (each (run at kinds) ws k (suc m)) ≡ false
  unfolding run
  run-stop e n ws k m h pool none =
      let next : List ℕ = run at kinds ws k in
      let more : n < used next = stop-used n (kinds k) ws (at + k) (omega arith) pool none in
      let grows : used next ≤ used (each (run at kinds) next (suc k) m) = run-used e m (suc k) next (omega (arith, run_length ws k)) in
      lt-leb (used (each (run at kinds) next (suc k) m) + owed (each (run at kinds) next (suc k) m)) n (omega arith)

-- ---- the rules' pass

-- the kinds of a pass
abbrev kinds_in : (Kind → Bool) → Geometry → Store → Edit → ℕ → Kind
kinds_in p g st e k = only p (kind_of g st e k)

pass_is : (p : Kind → Bool) (g : Geometry) (st : Store) (e : Edit) (ws : List ℕ)
    → pass g st e p ws ≡ each (run (e.file * g.S) (kinds_in p g st e)) ws (first_slot g e.off) (slot_count g e.off e.end)
unfolding pass run become
pass_is p g st e ws = each_ext _ _ (slot_count g e.off e.end) (first_slot g e.off) ws (λ x k l u. by (p (kind_of g st e k)) (kind_of g st e k) x (e.file * g.S + k))
  where
    by : (t : Bool) (c : Kind) (x : List ℕ) (i : ℕ) → cond t (become c x i) x ≡ become (cond t c stays) x i
    by true c x i = refl
    by false c x i = refl

-- a kind that takes a block is one of the pass
only-owns : (p : Kind → Bool) (c : Kind) → only p c ≡ owns → p owns ≡ true
only-owns p c h = go (p c) refl h
  where
    go : (t : Bool) → p c ≡ t → cond t c stays ≡ owns → p owns ≡ true
    go true e q = rw q at e
    go false e q = let z : ◌≡◌ {A = ℕ} 0 1 = cc in absurd (omega arith)

-- where one slot takes a block, every slot of that pass is of such a kind
owns-keeps : (which : Pass) (g : Geometry) (st : Store) (e : Edit) (k : ℕ) → kinds_in (in_pass which) g st e k ≡ owns
    → (j : ℕ) → keeps (kinds_in (in_pass which) g st e j) ≡ true
unfolding kind_of
owns-keeps Pass.Holes g st e k h j = absurd (true≢false (sym (only-owns (in_pass Pass.Holes) (kind_of g st e k) h)))
owns-keeps Pass.Others g st e k h j = go e.act h
  where
    copied : (a : Bool) → keeps (only (in_pass Pass.Others) (cond a cleared owns)) ≡ true
    copied true = refl
    copied false = refl

    cut : (a b : Bool) → keeps (only (in_pass Pass.Others) (cond a given (cond b stays owns))) ≡ true
    cut true b = refl
    cut false true = refl
    cut false false = refl

    go : (a : Act) → kinds_in (in_pass Pass.Others) g st (record { file = e.file; off = e.off; end = e.end; act = a }) k ≡ owns
        → keeps (kinds_in (in_pass Pass.Others) g st (record { file = e.file; off = e.off; end = e.end; act = a }) j) ≡ true
    go (write new) q = refl
    go (copy s soff) q = copied (clears g st (copying e.file e.off e.end s soff) s soff j)
    go (clone s soff) q = let z : ◌≡◌ {A = ℕ} 0 1 = cc in absurd (omega arith)
    go allocate q = let z : ◌≡◌ {A = ℕ} 0 1 = cc in absurd (omega arith)
    go deallocate q = cut (covers g (size_of st e.file) e.off e.end j) (is_hole (word_of g st.words e.file j))

-- ---- the loop: the slots that are left give the pass

-- the other files' words stay where only the region's slots change
others-on : {g : Geometry} (e : CodeEdit.Edit) {ws ws₁ ws' : List ℕ} → first_slot g e.off + slot_count g e.off e.end ≤ g.S
    → Outside ws (index_of g e) (slot_count g e.off e.end) ws₁ → Others g e.file ws ws' → Others g e.file ws₁ ws'
others-on {g} e fit o h = record { same = λ c q d l. h.same c q d l ∙ sym (o.same (c * g.S + q) (go c q (apart g.S c e.file q d l))) }
  where
    go : (c q : ℕ) → (c * g.S + q < e.file * g.S) ⊎ (e.file * g.S + g.S ≤ c * g.S + q)
        → (c * g.S + q < index_of g e) ⊎ (index_of g e + slot_count g e.off e.end ≤ c * g.S + q)
    go c q (inl a) = inl (omega arith)
    go c q (inr a) = inr (omega (arith, fit))

module _ {g : Geometry} {e : CodeEdit.Edit} {size : ℕ} {old ws₀ : List ℕ} {st : Store} (s : Seen g e size old ws₀ st) where
  -- the word of a slot before the edit
  seen-word : (j : ℕ) → j < slot_count g e.off e.end → word_of g st.words e.file (first_slot g e.off + j) ≡ get_or old j 0
  seen-word j h =
      let n : ℕ = slot_count g e.off e.end in
      let i : ℕ = index_of g e in
      let same : i + j ≡ e.file * g.S + (first_slot g e.off + j) = omega arith in
      sym (rw (s.words_are, get_or-take n (drop i st.words) j 0 h, get_or-drop i st.words j 0, same))

  -- what a slot's kind looks at, while the region's words change
  seen-slot : {ws : List ℕ} → first_slot g e.off + slot_count g e.off e.end ≤ g.S → Outside ws₀ (index_of g e) (slot_count g e.off e.end) ws
      → (j : ℕ) → j < slot_count g e.off e.end → SlotSeen g e size ws (first_slot g e.off + j) (get_or old j 0) st
  seen-slot fit o j h = record {
    size_is = s.size_is;
    word_is = seen-word j h;
    others = others-on e fit o s.others;
  }

pub record Passing (g : Geometry) (e : CodeEdit.Edit) (size : ℕ) (which : Pass) (old ws₀ cs₀ ws cs : List ℕ) (j from : ℕ) : Type 0 where
  pub within : j ≤ slot_count g e.off e.end
  pub blocks : length cs ≡ length cs₀
  pub counted : TableTrue ws cs
  pub low : from ≤ first_zero cs
  pub outside : Outside ws₀ (index_of g e) (slot_count g e.off e.end) ws
  pub left : (st : Store) → Seen g e size old ws₀ st
      → each (run (e.file * g.S) (kinds_in (in_pass which) g st (edit_from e))) ws (first_slot g e.off + j) (slot_count g e.off e.end - j)
      ≡ pass g st (edit_from e) (in_pass which) ws₀

pub pass-start : {g : Geometry} {e : CodeEdit.Edit} {size : ℕ} {ws cs old : List ℕ} {which : Pass} → Plannable g e ws cs old → Passing g e size which old ws cs ws cs 0 0
pass-start {g} {e} {ws = ws} {which = which} k =
    let none : slot_count g e.off e.end - 0 ≡ slot_count g e.off e.end = omega arith in
    record {
      within = omega arith;
      blocks = refl;
      counted = k.counted;
      low = omega arith;
      outside = outside_refl ws _ _;
      left = λ st s. rw (add-zero (first_slot g e.off), none) (sym (pass_is (in_pass which) g st (edit_from e) ws));
    }

module _ {g : Geometry} {e : CodeEdit.Edit} {size : ℕ} {which : Pass} {old ws₀ cs₀ ws cs : List ℕ} {j from : ℕ} (l : Passing g e size which old ws₀ cs₀ ws cs j from) where
  module _ (fit : first_slot g e.off + slot_count g e.off e.end ≤ g.S) (h : j < slot_count g e.off e.end) {kind : Kind}
      (is : KindIs g e size ws (first_slot g e.off + j) (get_or old j 0) kind)
      {next : Result ℕ NoSpace} {after cs' : List ℕ} (same : length cs' ≡ length cs)
      (t : SlotChanged (only (in_pass which) kind) ws cs (index_of g e + j) next after cs') where
    changed-at : SlotChanged (only (in_pass which) kind) ws cs (e.file * g.S + (first_slot g e.off + j)) next after cs'
    changed-at =
        let q : index_of g e + j ≡ e.file * g.S + (first_slot g e.off + j) = omega arith in
        rw q at t

    kinds_are : (st : Store) → Seen g e size old ws₀ st
        → kinds_in (in_pass which) g st (edit_from e) (first_slot g e.off + j) ≡ only (in_pass which) kind
    kinds_are st s = ap (only (in_pass which)) (sym (is.is st (seen-slot s fit l.outside j h)))

    one_more : slot_count g e.off e.end - j ≡ suc (slot_count g e.off e.end - (j + 1))
    one_more = omega arith

    -- a slot that is done
    pub pass-turn : {from : ℕ} → next ≡ Ok from → Passing g e size which old ws₀ cs₀ after cs' (j + 1) from
    unfolding run
    pass-turn ok =
        let k : ℕ = first_slot g e.off + j in
        let i : ℕ = e.file * g.S + k in
        let c : Kind = only (in_pass which) kind in
        let to : after ≡ become c ws i = rw ok at changed-at.words_are in
        let more : first_slot g e.off + (j + 1) ≡ suc k = omega arith in
        record {
          within = omega arith;
          blocks = same ∙ l.blocks;
          counted = t.counted;
          low = rw ok at t.searched;
          outside = outside_trans l.outside (record {
            slots = ap length to ∙ become-length c ws i;
            same = λ p w. rw to (become_local c ws i p (apart p w));
          });
          left = λ st s. rw more
              (ap (λ x. each (run (e.file * g.S) (kinds_in (in_pass which) g st (edit_from e))) x (suc k) (slot_count g e.off e.end - (j + 1)))
              (to ∙ ap (λ a. become a ws i) (sym (kinds_are st s)))
              ∙ (rw one_more at (l.left st s)));
        }
      where
        apart : (p : ℕ) → (p < index_of g e) ⊎ (index_of g e + slot_count g e.off e.end ≤ p) → p ≢ e.file * g.S + (first_slot g e.off + j)
        apart p (inl w) q = omega arith
        apart p (inr w) q = omega arith

    -- the slot that stops the loop
    pub pass-stop : index_of g e + slot_count g e.off e.end ≤ length ws₀ → is_ok next ≡ false → Passed g e size which old ws₀ false after cs'
    pass-stop room ends =
        let none = changed-at.stopped ends in
        let to : after ≡ ws = rw ends at t.words_are in
        let k : ℕ = first_slot g e.off + j in
        record {
          counted = t.counted;
          outside = rw to l.outside;
          words_are = λ q. absurd (true≢false (sym q));
          stopped = λ q. only-owns (in_pass which) kind none.asked;
          unfit = λ q st s. rw (same, ← l.left st s, one_more)
              (run-stop (e.file * g.S) (kinds_in (in_pass which) g st (edit_from e))
              (owns-keeps which g st (edit_from e) k (kinds_are st s ∙ none.asked))
              (length cs) ws k (slot_count g e.off e.end - (j + 1)) (omega (arith, l.outside.slots)) l.counted.pool
              (rw (kinds_are st s) none));
        }

-- ---- the plan: the two passes, kept or undone

-- the first pass takes no block
first_done : {g : Geometry} {e : CodeEdit.Edit} {size : ℕ} {old ws after cs : List ℕ} (done : Bool) → Passed g e size Pass.Holes old ws done after cs → done ≡ true
first_done true p = refl
first_done false p = absurd (true≢false (sym (p.stopped refl)))

-- the words are saved, and a pass may follow
pub saved-ready : {g : Geometry} {e : CodeEdit.Edit} {ws cs old₀ : List ℕ} → Plannable g e ws cs old₀ → (old : List ℕ) → length old ≡ length old₀ → Plannable g e ws cs old
saved-ready k old long = record { edit = k.edit; counted = k.counted; slots = k.slots; saves = long ∙ k.saves }

pub passed-ready : {g : Geometry} {e : CodeEdit.Edit} {size : ℕ} {which : Pass} {done : Bool} {ws cs old after cs' : List ℕ} → Plannable g e ws cs old
    → Passed g e size which old ws done after cs' → Plannable g e after cs' old
passed-ready k p = record { edit = k.edit; counted = p.counted; slots = p.outside.slots ∙ k.slots; saves = k.saves }

module _ {g : Geometry} {e : CodeEdit.Edit} {n : ℕ} {ws cs old : List ℕ} (k : Plannable g e ws cs old) (all : n ≡ slot_count g e.off e.end)
    (saved : old ≡ take (index_of g e + n - index_of g e) (drop (index_of g e) ws)) where
  saved-words : old ≡ words_of g e ws
  saved-words = rw all at (saved_is ws (index_of g e) n old saved)

  module _ {size : ℕ} {d₁ d₂ : Bool} {mid cs₁ last cs₂ : List ℕ} (a : Passed g e size Pass.Holes old ws d₁ mid cs₁) (b : Passed g e size Pass.Others old mid d₂ last cs₂) where
    changed : Outside ws (index_of g e) n last
    changed = rw all (outside_trans a.outside b.outside)

    -- what `undo` asks, and `settle`
    pub undo_ready : length cs₁ ≡ length cs → length cs₂ ≡ length cs₁ → Undoable last cs₂ (index_of g e) old
    undo_ready p q = record {
      counted = b.counted;
      inside = omega (arith, edit-inside k, k.saves, changed.slots);
      pool = saved-pool ws (index_of g e) n old saved (length cs₂) (rw (q, p) k.counted.pool);
    }

    pub settle_ready : fits_pool (length cs) ws ≡ true → length cs₁ ≡ length cs → length cs₂ ≡ length cs₁ → Settleable last cs₂ (index_of g e) old
    settle_ready fits p q = record {
      undoable = undo_ready p q;
      fitted = rw (q, p, saved-back ws (index_of g e) n old saved (rw all (edit-inside k)) changed) fits;
    }

    module _ (sizes mem : List ℕ) (is : get_or sizes e.file 0 ≡ size) where
      before : Store
      before = record { sizes = sizes; words = ws; mem = mem }

      seen : Seen g e size old ws before
      unfolding before
      seen = record { size_is = is; words_are = saved-words; others = record { same = λ c q n l. refl } }

      -- behind the first pass
      seen-mid : Seen g e size old mid before
      seen-mid = record { size_is = seen.size_is; words_are = seen.words_are; others = others-on e (edit-room k.edit).slots a.outside seen.others }

      plan-is : pass g before (edit_from e) (in_pass Pass.Others) mid ≡ plan g before (edit_from e)
      unfolding plan before
      plan-is = ap (pass g before (edit_from e) (in_pass Pass.Others)) (a.words_are (first_done d₁ a) before seen)

    module _ {after cs₃ : List ℕ} where
      pub plan-stopped : d₂ ≡ false → length cs₃ ≡ length cs₂ → Undone last (index_of g e) old after cs₃ → EditPlanned g e size ws false after cs₃ old
      unfolding before
      plan-stopped ends same u = record {
        planned = λ sizes mem is. planned_undone ws (index_of g e) n old saved (rw all (edit-inside k)) changed
            (rw (plan-is sizes mem is) at (b.unfit ends (before sizes mem is) (seen-mid sizes mem is))) same u;
        saved = saved-words;
      }

      pub plan_settled : d₂ ≡ true → {done : Bool} → Planned (splice last (index_of g e) old) last done after cs₃ → EditPlanned g e size ws done after cs₃ old
      unfolding before
      plan_settled ok p = record {
        planned = λ sizes mem is. planned_settled ws (index_of g e) n old saved (rw all (edit-inside k)) changed
            (b.words_are ok (before sizes mem is) (seen-mid sizes mem is) ∙ plan-is sizes mem is) p;
        saved = saved-words;
      }

-- the answer of a `?` that ends
pub err-not_ok : {T E : Type 0} (r : Result T E) → IsErr r → is_ok r ≡ false
err-not_ok (Ok x) h = sym h
err-not_ok (Err e) h = refl
