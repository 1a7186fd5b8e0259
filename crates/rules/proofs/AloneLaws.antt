-- The plan of an edit, by the kinds of its slots: a slot that owns a block has one that no other slot holds.
use Prim.Native.Nat.{ℕ, zero, suc, pred, ◌+◌, ◌*◌, ◌/◌, ◌%◌, ◌≤◌, ◌<◌}
use mathlib.Core.Path.{◌≡◌, refl, sym, ◌∙◌}
use mathlib.Core.Bool.{Bool, true, false, cond, not}
use mathlib.Core.List.{List}
use mathlib.Core.Logic.{◌≢◌}
use native.Mathlib.Decide.{ℕ_discrete}
use native.Mathlib.Omega.{arith}
use lib.ListN.{length, get_or, set, length-set}
use lib.Seq.{get_or-set_same, get_or-set_other}
use Rattle.rules.specs.Lists.{each}
use Rattle.rules.specs.Store.{Geometry, Store, word, is_hole, size_of, word_of}
use Rattle.rules.specs.Edit.{Act, write, copy, clone, allocate, deallocate, Edit, copying, Kind, owns, given, cleared, shares, reserved, stays, first_slot, slot_count, covers, clears, kind_of, owned, become, goes_first, pass, plan}
use Rattle.rules.proofs.PlanLaws.{each_keeps, own-slot, two-holders}
use Rattle.rules.proofs.KindLaws.{step, step-long, first_pass, first-long}

-- slot i has a block that no other slot holds
pub record Alone (ws : List ℕ) (i : ℕ) : Type 0 where
  pub block : 1 ≤ get_or ws i 0 / 2
  pub apart : (p : ℕ) → p < length ws → p ≢ i → get_or ws i 0 / 2 ≢ get_or ws p 0 / 2

own_alone : (ws : List ℕ) (i : ℕ) → i < length ws → Alone (set ws i (owned ws (get_or ws i 0))) i
own_alone ws i inside =
    let x : ℕ = owned ws (get_or ws i 0) in
    let o = own-slot ws i inside in
    let mine : get_or (set ws i x) i 0 ≡ x = get_or-set_same ws i x 0 inside in
    let block : get_or (set ws i x) i 0 / 2 ≡ suc (pred (x / 2)) = rw mine (omega (arith, o.block)) in
    record {
      block = rw mine o.block;
      apart = λ p hp d e. omega (arith, o.alone, two-holders (set ws i x) i p (pred (x / 2)) (rw (length-set ws i x) inside) hp d block (sym e ∙ block));
    }

-- it stays so where another slot gets another block
pub set-alone : (ws : List ℕ) (i j x : ℕ) → j < length ws → i ≢ j → get_or ws i 0 / 2 ≢ x / 2 → Alone ws i → Alone (set ws j x) i
set-alone ws i j x inside d far a = record {
  block = rw (get_or-set_other ws j i x 0 d) a.block;
  apart = λ p hp n. rw (get_or-set_other ws j i x 0 d) (at p (rw (length-set ws j x) at hp) n (ℕ_discrete p j));
}
  where
    at : (p : ℕ) → p < length ws → p ≢ i → Dec (p ≡ j) → get_or ws i 0 / 2 ≢ get_or (set ws j x) p 0 / 2
    at p hp n (yes e) = rw (e, get_or-set_same ws j x 0 inside) far
    at p hp n (no q) = rw (get_or-set_other ws j p x 0 q) (a.apart p hp n)

become-alone : (c : Kind) → ((p : ℕ) → c ≢ shares p) → (ws : List ℕ) (i j : ℕ) → i < length ws → j < length ws → i ≢ j → Alone ws i → Alone (become c ws j) i
unfolding become
become-alone owns n ws i j hi hj d a =
    let x : ℕ = owned ws (get_or ws j 0) in
    let far : get_or (set ws j x) j 0 / 2 ≢ get_or (set ws j x) i 0 / 2 = (own_alone ws j hj).apart i (rw (length-set ws j x) hi) d in
    set-alone ws i j x hj d (λ e. (rw (get_or-set_same ws j x 0 hj, get_or-set_other ws j i x 0 d) at far) (sym e)) a
become-alone given n ws i j hi hj d a = set-alone ws i j 0 hj d (λ (e : get_or ws i 0 / 2 ≡ 0 / 2). omega (arith, a.block)) a
become-alone cleared n ws i j hi hj d a =
    set-alone ws i j (word 0 (get_or ws j 0 % 2)) hj d (λ (e : get_or ws i 0 / 2 ≡ word 0 (get_or ws j 0 % 2) / 2). omega (arith, a.block)) a
become-alone (shares p) n ws i j hi hj d a = absurd (n p refl)
become-alone reserved n ws i j hi hj d a =
    set-alone ws i j (word (get_or ws j 0 / 2) 1) hj d (λ (e : get_or ws i 0 / 2 ≡ word (get_or ws j 0 / 2) 1 / 2). a.apart j hj (λ q. d (sym q)) (omega arith)) a
become-alone stays n ws i j hi hj d a = a

-- a pass over slots of these kinds; `at` is the index of the file's slot 0
module _ (at : ℕ) (kind : ℕ → Kind) (test : Kind → Bool) where
  module _ (none : (k p : ℕ) → kind k ≢ shares p) where
    step-alone : (ws : List ℕ) (i k : ℕ) → i < length ws → at + k < length ws → i ≢ at + k → Alone ws i → Alone (step at kind test ws k) i
    step-alone ws i k hi hk d a = go (test (kind k))
      where
        go : (t : Bool) → Alone (cond t (become (kind k) ws (at + k)) ws) i
        go true = become-alone (kind k) (none k) ws i (at + k) hi hk d a
        go false = a

    steps-alone : (n k : ℕ) (ws : List ℕ) → at + (k + n) ≤ length ws → (i : ℕ) → i < at + k → Alone ws i → Alone (each (step at kind test) ws k n) i
    steps-alone n k ws h i l a =
        (each_keeps (λ x. (length x ≡ length ws) × Alone x i) (step at kind test) n k ws
        (λ x j l' u p. (step-long at kind test x j ∙ p.0, step-alone x i j (omega (arith, p.0)) (omega (arith, p.0)) (λ (e : i ≡ at + j). omega arith) p.1))
        (refl, a)).1

    -- a slot that owns a block, in a pass over its kind
    run_alone : test owns ≡ true → (n k : ℕ) (ws : List ℕ) → at + (k + n) ≤ length ws → (q : ℕ) → k ≤ q → q < k + n → kind q ≡ owns → Alone (each (step at kind test) ws k n) (at + q)
    unfolding become
    run_alone t zero k ws h q l u e = absurd (omega arith)
    run_alone t (suc n) k ws h q l u e = go (run_alone t n (suc k) (step at kind test ws k) (omega (arith, step-long at kind test ws k)) q) (ℕ_discrete q k)
      where
        now : kind k ≡ owns → Alone (step at kind test ws k) (at + k)
        now o = rw (o, t) (own_alone ws (at + k) (omega arith))

        go : (suc k ≤ q → q < suc k + n → kind q ≡ owns → Alone (each (step at kind test) (step at kind test ws k) (suc k) n) (at + q)) → Dec (q ≡ k)
            → Alone (each (step at kind test) (step at kind test ws k) (suc k) n) (at + q)
        go later (yes z) = rw z (steps-alone n (suc k) (step at kind test ws k) (omega (arith, step-long at kind test ws k)) (at + k) (omega arith) (now (rw z at e)))
        go later (no d) = later (omega (arith, d)) (omega arith) e

-- ---- the rules' plan

-- where a slot owns a block, none shares another's
no-shares : (g : Geometry) (st : Store) (f off end : ℕ) (a : Act) (k : ℕ) → kind_of g st (record { file = f; off = off; end = end; act = a }) k ≡ owns
    → (q p : ℕ) → kind_of g st (record { file = f; off = off; end = end; act = a }) q ≢ shares p
unfolding kind_of
no-shares g st f off end (write new) k o q p e = let z : ◌≡◌ {A = ℕ} 0 1 = cc in omega arith
no-shares g st f off end (copy s soff) k o q p e = go (clears g st (copying f off end s soff) s soff q) e
  where
    go : (a : Bool) → cond a cleared owns ≢ shares p
    go true e = let z : ◌≡◌ {A = ℕ} 0 1 = cc in omega arith
    go false e = let z : ◌≡◌ {A = ℕ} 0 1 = cc in omega arith
no-shares g st f off end (clone s soff) k o q p e = let z : ◌≡◌ {A = ℕ} 0 1 = cc in omega arith
no-shares g st f off end allocate k o q p e = let z : ◌≡◌ {A = ℕ} 0 1 = cc in omega arith
no-shares g st f off end deallocate k o q p e = go (covers g (size_of st f) off end q) (is_hole (word_of g st.words f q)) e
  where
    go : (a b : Bool) → cond a given (cond b stays owns) ≢ shares p
    go true b e = let z : ◌≡◌ {A = ℕ} 0 1 = cc in omega arith
    go false true e = let z : ◌≡◌ {A = ℕ} 0 1 = cc in omega arith
    go false false e = let z : ◌≡◌ {A = ℕ} 0 1 = cc in omega arith

-- a slot that owns a block has one that no other slot holds
pub plan-alone : (g : Geometry) (st : Store) (e : Edit) → e.file * g.S + (first_slot g e.off + slot_count g e.off e.end) ≤ length st.words
    → (k : ℕ) → first_slot g e.off ≤ k → k < first_slot g e.off + slot_count g e.off e.end → kind_of g st e k ≡ owns → Alone (plan g st e) (e.file * g.S + k)
unfolding plan first_pass pass
plan-alone g st e inside k l u o =
    run_alone (e.file * g.S) (kind_of g st e) (λ c. not (goes_first c)) (no-shares g st e.file e.off e.end e.act k o) refl
    (slot_count g e.off e.end) (first_slot g e.off) (first_pass g st e) (omega (arith, first-long g st e)) k l u o
