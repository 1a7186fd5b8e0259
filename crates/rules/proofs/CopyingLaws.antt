-- What a COPY leaves, and what keeping holes saves: the words after a COPY and after a WRITE of the same bytes are the same once the slots of
-- the region let their blocks go, and each slot that has a block of its own gives back one, unless it is reserved.
use Prim.Native.Nat.{ℕ, zero, suc, pred, ◌+◌, ◌-◌, ◌*◌, ◌/◌, ◌%◌, ◌≤◌, ◌<◌, suc-le-suc}
use mathlib.Core.Path.{◌≡◌, refl, sym, ap, ◌∙◌, subst}
use mathlib.Core.Bool.{Bool, true, false, cond, ◌&&◌, not}
use mathlib.Core.Option.{some}
use mathlib.Core.List.{List, [], ◌∷◌}
use mathlib.Core.Logic.{◌≢◌, ◌⊎◌, inl, inr}
use native.Mathlib.Nat.{le_refl, add-zero, add-suc, suc-add}
use native.Mathlib.Decide.{ℕ_discrete, dec_le, dec_lt}
use native.Mathlib.Omega.{arith}
use borrow.Author.Tests.{eq-eqb, ne_eqb}
use lib.ListN.{length, get_or, set, length-set}
use lib.Seq.{get_or-set_same, get_or-set_other, set-get_or, ext_get_or}
use Rattle.rules.specs.Lists.{bit, sum_to, each}
use Rattle.rules.specs.Store.{Geometry, Store, word, is_hole, is_reserved, word_of, holders, block_bound, hole_or_shared, need}
use Rattle.rules.specs.Edit.{Edit, copy, copying, owns, given, cleared, reserved, first_slot, slot_count, covers, from_holes, size_after, clears, kind_of, plan, edited}
use Rattle.rules.specs.Run.{Event}
use Rattle.rules.specs.Claim.{edit_done}
use Rattle.rules.specs.Copying.{as_write, saved_slots, KeepsHoles}
use Rattle.rules.proofs.CountLaws.{sum_to_ext, sum_to_add}
use Rattle.rules.proofs.NeedLaws.{holders-lost, bit-reserved, need_to_lem, top_set, le_top, clear}
use Rattle.rules.proofs.PlanLaws.{each_keeps, SameR}
use Rattle.rules.proofs.SlotByteLaws.{Local, plan-before, plan_after}
use Rattle.rules.proofs.SoundStore.{Sound, in_table, slot_in}
use Rattle.rules.proofs.KindLaws.{slot-now, plan-long, plan-outside, plan-cleared, plan_same_r}
use Rattle.rules.proofs.AloneLaws.{Alone, set-alone, plan-alone}
use Rattle.rules.proofs.EditForms.{edited-some}
use Rattle.rules.proofs.EditLaws.{lawful-file, lawful-fits}
use Rattle.rules.proofs.GeometryLaws.{Good, block-pos}
use Rattle.rules.proofs.ChainLaws.{Step, step-done}
use Rattle.rules.proofs.WriteLaws.{covered-is}
use Rattle.xdr.proofs.BoolLaws.{and_left}

-- ---- a slot that holds its block alone

none-holds : (ws : List ℕ) (b : ℕ) → ((p : ℕ) → p < length ws → get_or ws p 0 / 2 ≢ suc b) → holders b ws ≡ 0
none-holds [] b h = refl
none-holds (w ∷ ws) b h = rw (ne_eqb (w / 2) (suc b) (h 0 (omega arith))) (omega (arith, none-holds ws b (λ p l. h (suc p) (suc-le-suc l))))

module _ (ws : List ℕ) (i : ℕ) (inside : i < length ws) (a : Alone ws i) where
  abbrev w : ℕ
  w = get_or ws i 0

  block : w / 2 ≡ suc (pred (w / 2))
  block = omega (arith, a.block)

  -- without it nobody holds the block
  let_go : holders (pred (w / 2)) (set ws i (w % 2)) ≡ 0
  let_go = none-holds (set ws i (w % 2)) (pred (w / 2)) (λ p l. go p (rw (length-set ws i (w % 2)) at l) (ℕ_discrete p i))
    where
      go : (p : ℕ) → p < length ws → Dec (p ≡ i) → get_or (set ws i (w % 2)) p 0 / 2 ≢ suc (pred (w / 2))
      go p l (yes e) q = let z : w % 2 / 2 ≡ suc (pred (w / 2)) = (rw (e, get_or-set_same ws i (w % 2) 0 inside) at q) in omega (arith, z)
      go p l (no d) q = a.apart p l d (block ∙ sym (rw (get_or-set_other ws i p (w % 2) 0 d) at q))

  alone-holders : holders (pred (w / 2)) ws ≡ 1
  alone-holders = sym (holders-lost ws i (w % 2) inside (pred (w / 2)) block (λ (q : w % 2 / 2 ≡ suc (pred (w / 2))). omega arith)) ∙ ap suc let_go

  pub alone_unshared : hole_or_shared ws w ≡ false
  alone_unshared = rw (ne_eqb (w / 2) 0 (λ (q : w / 2 ≡ 0). omega (arith, a.block)), alone-holders)

  -- a hole with the same r in its place: one block less is used, and a reserved slot owes one more
  alone-need : need (set ws i (w % 2)) + 1 ≡ need ws + w % 2
  alone-need =
      let x : ℕ = w % 2 in
      let o : ℕ = pred (w / 2) in
      let n : ℕ = block_bound ws in
      let c = clear ws i x inside n o (omega (arith, le_top ws i, a.block)) block (omega arith) (omega arith) in
      omega (arith, need_to_lem n ws (le_refl n), need_to_lem n (set ws i x) (omega (arith, top_set ws i x)), rw (alone-holders, let_go) at c)

-- ---- slots let their blocks go

-- slot k becomes a hole with its r; `at` is the index of the file's slot 0
unfoldable emptied : ℕ → List ℕ → ℕ → List ℕ
emptied at ws k = set ws (at + k) (get_or ws (at + k) 0 % 2)

emptied_local : (at : ℕ) → Local at (emptied at)
unfolding emptied
emptied_local at ws k p d = get_or-set_other ws (at + k) p _ 0 d

emptied-long : (at : ℕ) (ws : List ℕ) (k : ℕ) → length (emptied at ws k) ≡ length ws
unfolding emptied
emptied-long at ws k = length-set ws (at + k) _

-- a slot that holds its block alone, or a hole
abbrev Settled : List ℕ → ℕ → Type 0
Settled ws i = Alone ws i ⊎ (get_or ws i 0 / 2 ≡ 0)

-- what a slot with word w gives back: a block, unless it is reserved
abbrev gain : ℕ → ℕ
gain w = bit (not (is_hole w) && not (is_reserved w))

not-bit : (t : Bool) → bit (not t) + bit t ≡ 1
not-bit true = refl
not-bit false = refl

one-gain : (ws : List ℕ) (i : ℕ) → i < length ws → Settled ws i → need ws ≡ need (set ws i (get_or ws i 0 % 2)) + gain (get_or ws i 0)
one-gain ws i inside (inl a) =
    let w : ℕ = get_or ws i 0 in
    rw (ne_eqb (w / 2) 0 (λ (q : w / 2 ≡ 0). omega (arith, a.block))) (omega (arith, alone-need ws i inside a, bit-reserved w, not-bit (is_reserved w)))
one-gain ws i inside (inr e) =
    let w : ℕ = get_or ws i 0 in
    let same : w % 2 ≡ w = omega arith in
    rw (eq-eqb (w / 2) 0 e, same, set-get_or ws i 0) (omega arith)

each_last {ℓ} : {A : Type ℓ} (f : A → ℕ → A) (n k : ℕ) (a : A) → each f a k (suc n) ≡ f (each f a k n) (k + n)
each_last f zero k a = ap (f a) (sym (add-zero k))
each_last f (suc n) k a = each_last f n (suc k) (f a k) ∙ ap (f (each f (f a k) (suc k) n)) (suc-add k n ∙ sym (add-suc k n))

module _ (at : ℕ) where
  -- a later slot is settled still
  settled_on : (n k q : ℕ) (ws : List ℕ) → at + (k + n) ≤ at + q → at + q < length ws → Settled ws (at + q) → Settled (each (emptied at) ws k n) (at + q)
  unfolding emptied
  settled_on n k q ws l inside (inr e) = inr (rw (plan_after at (emptied at) (emptied_local at) n k (at + q) ws l) e)
  settled_on n k q ws l inside (inl a) =
      inl (each_keeps (λ x. (length x ≡ length ws) × Alone x (at + q)) (emptied at) n k ws
      (λ x j lo hi p. (
        emptied-long at x j ∙ p.0,
        set-alone x (at + q) (at + j) _ (omega (arith, p.0)) (λ (e : at + q ≡ at + j). omega arith)
            (λ (e : get_or x (at + q) 0 / 2 ≡ get_or x (at + j) 0 % 2 / 2). omega (arith, p.1.block)) p.1,
      )) (refl, a)).1

  need-last : (n k : ℕ) (ws : List ℕ)
      → need (each (emptied at) ws k (suc n)) ≡ need (set (each (emptied at) ws k n) (at + (k + n)) (get_or (each (emptied at) ws k n) (at + (k + n)) 0 % 2))
  unfolding emptied
  need-last n k ws = ap need (each_last (emptied at) n k ws)

  run-gain : (n k : ℕ) (ws : List ℕ) → at + (k + n) ≤ length ws → ((q : ℕ) → k ≤ q → q < k + n → Settled ws (at + q))
      → need ws ≡ need (each (emptied at) ws k n) + sum_to n (λ j. gain (get_or ws (at + (k + j)) 0))
  run-gain zero k ws h s = omega arith
  run-gain (suc n) k ws h s =
      let x : List ℕ = each (emptied at) ws k n in
      let long : length x ≡ length ws = each_keeps (λ y. length y ≡ length ws) (emptied at) n k ws (λ y j l u e. emptied-long at y j ∙ e) refl in
      let same : get_or x (at + (k + n)) 0 ≡ get_or ws (at + (k + n)) 0 = plan_after at (emptied at) (emptied_local at) n k (at + (k + n)) ws (omega arith) in
      let one : need x ≡ need (set x (at + (k + n)) (get_or x (at + (k + n)) 0 % 2)) + gain (get_or x (at + (k + n)) 0)
      = one-gain x (at + (k + n)) (omega (arith, long)) (settled_on n k (k + n) ws (omega arith) (omega arith) (s (k + n) (omega arith) (omega arith))) in
      let step : need (each (emptied at) ws k (suc n)) ≡ need (set x (at + (k + n)) (get_or x (at + (k + n)) 0 % 2)) = need-last n k ws in
      omega (arith, run-gain n k ws (omega arith) (λ q l u. s q l (omega arith)), rw same at one, rw same at step)

  -- tables that agree outside the slots, and in r, agree when the slots have let go
  run-same : (n k : ℕ) (xs ys : List ℕ) → at + (k + n) ≤ length xs → SameR xs ys → ((p : ℕ) → (p < at + k) ⊎ (at + (k + n) ≤ p) → get_or ys p 0 ≡ get_or xs p 0)
      → each (emptied at) ys k n ≡ each (emptied at) xs k n
  unfolding emptied
  run-same n k xs ys h r out = ext_get_or 0 _ _ (long ys ∙ r.slots ∙ sym (long xs)) (λ p l. go p (dec_lt p (at + k)) (dec_le (at + (k + n)) p))
    where
      long : (ws : List ℕ) → length (each (emptied at) ws k n) ≡ length ws
      long ws = each_keeps (λ y. length y ≡ length ws) (emptied at) n k ws (λ y j l u e. emptied-long at y j ∙ e) refl

      now : (ws : List ℕ) → at + (k + n) ≤ length ws → (q : ℕ) → k ≤ q → q < k + n → get_or (each (emptied at) ws k n) (at + q) 0 ≡ get_or ws (at + q) 0 % 2
      now ws h q l u =
          slot-now at (emptied at) (emptied_local at) (emptied-long at) (λ w. w ≡ get_or ws (at + q) 0 % 2) q ws
          (λ x m e. get_or-set_same x (at + q) _ 0 (omega (arith, m)) ∙ ap (λ w. w % 2) e) n k l u

      go : (p : ℕ) → Dec (p < at + k) → Dec (at + (k + n) ≤ p) → get_or (each (emptied at) ys k n) p 0 ≡ get_or (each (emptied at) xs k n) p 0
      go p (yes l) v =
          plan-before at (emptied at) (emptied_local at) n k p ys l ∙ out p (inl l) ∙ sym (plan-before at (emptied at) (emptied_local at) n k p xs l)
      go p (no d) (yes l) =
          plan_after at (emptied at) (emptied_local at) n k p ys l ∙ out p (inr l) ∙ sym (plan_after at (emptied at) (emptied_local at) n k p xs l)
      go p (no d) (no e) = rw (← here) (now ys (omega (arith, r.slots)) (p - at) (omega (arith, d)) (omega (arith, e, d)) ∙ r.r (at + (p - at)) ∙ sym (now xs h (p - at) (omega (arith, d)) (omega (arith, e, d))))
        where
          here : at + (p - at) ≡ p
          here = omega (arith, d)

-- ---- COPY, beside the WRITE of the same bytes

gain-block : (w v : ℕ) → 1 ≤ w / 2 → w % 2 ≡ v % 2 → gain w ≡ bit (not (is_reserved v))
gain-block w v h r = rw (ne_eqb (w / 2) 0 (λ (q : w / 2 ≡ 0). omega arith), r)

gain-hole : (w : ℕ) → w / 2 ≡ 0 → gain w ≡ 0
gain-hole w h = rw (eq-eqb (w / 2) 0 h)

module _ (g : Geometry) (pos : 0 < g.B) (st : Store) (snd : Sound g st) (f off end s soff : ℕ) (hf : f < g.F) (some_byte : off < end) (fits : end ≤ g.S * g.B) where
  abbrev e : Edit
  e = copying f off end s soff

  abbrev v : Edit
  v = as_write g st e s soff

  abbrev first : ℕ
  first = first_slot g off

  abbrev count : ℕ
  count = slot_count g off end

  table : f * g.S + (first_slot g off + slot_count g off end) ≤ length st.words
  table = in_table g pos off end some_byte fits st snd f hf

  kind-cleared : (k : ℕ) → clears g st e s soff k ≡ true → kind_of g st e k ≡ cleared
  unfolding kind_of
  kind-cleared k h = rw h

  kind-owned : (k : ℕ) → clears g st e s soff k ≡ false → kind_of g st e k ≡ owns
  unfolding kind_of
  kind-owned k h = rw h

  copy_same_r : SameR st.words (plan g st e)
  unfolding kind_of
  copy_same_r = plan_same_r g st e (λ k. no-given (clears g st e s soff k)) (λ k. no-reserved (clears g st e s soff k))
    where
      no-given : (a : Bool) → cond a cleared owns ≢ given
      no-given true q = let z : ◌≡◌ {A = ℕ} 0 1 = cc in omega arith
      no-given false q = let z : ◌≡◌ {A = ℕ} 0 1 = cc in omega arith

      no-reserved : (a : Bool) → cond a cleared owns ≢ reserved
      no-reserved true q = let z : ◌≡◌ {A = ℕ} 0 1 = cc in omega arith
      no-reserved false q = let z : ◌≡◌ {A = ℕ} 0 1 = cc in omega arith

  write_same_r : SameR st.words (plan g st v)
  unfolding kind_of
  write_same_r = plan_same_r g st v (λ k q. let z : ◌≡◌ {A = ℕ} 0 1 = cc in omega arith) (λ k q. let z : ◌≡◌ {A = ℕ} 0 1 = cc in omega arith)

  -- a slot that is cleared is one of the region, and a hole afterwards
  hole_is : (k : ℕ) → clears g st e s soff k ≡ true → word_of g (plan g st e) f k ≡ word 0 (word_of g st.words f k % 2)
  unfolding clears
  hole_is k h =
      let c = covered-is g (size_after st e) off end k (and_left (covers g (size_after st e) off end k) (from_holes g st e s soff k) h) in
      let q = slot_in g pos off end some_byte fits k (omega (arith, c.starts, pos)) (omega (arith, c.some_byte, c.ends, pos)) in
      plan-cleared g st e table k q.0 q.1 (kind-cleared k h)

  module _ (k : ℕ) (l : first_slot g off ≤ k) (u : k < first_slot g off + slot_count g off end) where
    copy-alone : clears g st e s soff k ≡ false → Alone (plan g st e) (f * g.S + k)
    copy-alone h = plan-alone g st e table k l u (kind-owned k h)

    write_alone : Alone (plan g st v) (f * g.S + k)
    unfolding kind_of
    write_alone = plan-alone g st v table k l u refl

    copy_settled : Settled (plan g st e) (f * g.S + k)
    copy_settled = go (clears g st e s soff k) refl
      where
        go : (t : Bool) → clears g st e s soff k ≡ t → Settled (plan g st e) (f * g.S + k)
        go true h = inr (rw (hole_is k h) (omega arith))
        go false h = inl (copy-alone h)

    saved : gain (word_of g (plan g st v) f k) ≡ gain (word_of g (plan g st e) f k) + bit (clears g st e s soff k && not (is_reserved (word_of g st.words f k)))
    saved = go (clears g st e s soff k) refl
      where
        written : gain (word_of g (plan g st v) f k) ≡ bit (not (is_reserved (word_of g st.words f k)))
        written = gain-block (word_of g (plan g st v) f k) (word_of g st.words f k) write_alone.block (write_same_r.r (f * g.S + k))

        go : (t : Bool) → clears g st e s soff k ≡ t
            → gain (word_of g (plan g st v) f k) ≡ gain (word_of g (plan g st e) f k) + bit (t && not (is_reserved (word_of g st.words f k)))
        go true h = omega (arith, written, gain-hole (word_of g (plan g st e) f k) (rw (hole_is k h) (omega arith)))
        go false h = omega (arith, written, gain-block (word_of g (plan g st e) f k) (word_of g st.words f k) (copy-alone h).block (copy_same_r.r (f * g.S + k)))

  copy-room : need (plan g st e) + saved_slots g st e s soff ≡ need (plan g st v)
  unfolding saved_slots
  copy-room =
      let at : ℕ = f * g.S in
      let copied = run-gain at count first (plan g st e) (omega (arith, plan-long g st e, table)) copy_settled in
      let wrote = run-gain at count first (plan g st v) (omega (arith, plan-long g st v, table)) (λ q l u. inl (write_alone q l u)) in
      let base : each (emptied at) (plan g st v) first count ≡ each (emptied at) (plan g st e) first count
      = run-same at count first st.words (plan g st v) table write_same_r (plan-outside g st v)
      ∙ sym (run-same at count first st.words (plan g st e) table copy_same_r (plan-outside g st e)) in
      let sums : sum_to count (λ j. gain (get_or (plan g st v) (at + (first + j)) 0))
      ≡ sum_to count (λ j. gain (get_or (plan g st e) (at + (first + j)) 0)) + sum_to count (λ j. bit (clears g st e s soff (first + j) && not (is_reserved (word_of g st.words f (first + j)))))
      = sum_to_ext count _ _ (λ j h. saved (first + j) (omega arith) (omega arith)) ∙ sum_to_add count _ _ in
      omega (arith, copied, rw base at wrote, sums)

  pub copy-keeps : KeepsHoles g st e s soff (edited g st e).words
  copy-keeps = rw (edited-some g st e some_byte) record {
    hole = hole_is;
    block = λ k t h.
        let q = slot_in g pos off end some_byte fits k t.1 t.0 in
        (alone_unshared (plan g st e) (f * g.S + k) (omega (arith, plan-long g st e, table, q)) (copy-alone k q.0 q.1 h), copy_same_r.r (f * g.S + k));
    room = rw (edited-some g st v some_byte) copy-room;
  }

-- ---- of an operation reached

pub step-copies : (g : Geometry) → Good g → {z : Event} → Step g z → (e : Edit) (s soff : ℕ) → edit_done g z ≡ some e → e.act ≡ copy s soff → e.off < e.end
    → KeepsHoles g z.before.store e s soff z.after.store.words
step-copies g bd {z} t e s soff q a l =
    let d = step-done g bd t e q in
    let is : e ≡ copying e.file e.off e.end s soff = ap (λ x. record { file = e.file; off = e.off; end = e.end; act = x }) a in
    rw d.after (subst (λ x. KeepsHoles g z.before.store x s soff (edited g z.before.store x).words) (sym is)
    (copy-keeps g (block-pos bd) z.before.store d.sound e.file e.off e.end s soff (lawful-file d.lawful) l (lawful-fits d.sound d.lawful l)))
