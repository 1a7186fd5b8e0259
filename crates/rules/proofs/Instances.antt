-- The hypotheses of the reservation and of the read-back are met: on P1 and P3, and on P5 and P6 with the CLONE of the region between, each
-- followed by a READ; and with a COPY between that makes the reserved slot a hole. So are those of the law on emptying: after P5 either of the two files
-- is emptied; and of the law on COPY.
use Prim.Native.Nat.{ℕ, zero, suc, ◌/◌}
use mathlib.Core.Path.{◌≡◌, refl, sym, ap, ◌∙◌}
use mathlib.Core.Bool.{Bool, true, false, ◌&&◌, not, true≢false}
use mathlib.Core.Option.{Option, none, some}
use mathlib.Core.List.Memᴰ
use mathlib.Core.List.{List, [], ◌∷◌, ◌++◌, map, Memᴰ}
use mathlib.Core.Logic.{◌⊎◌, inl, inr}
use native.Mathlib.Omega.{arith}
use borrow.Author.Tests.{eq-eqb}
use lib.ListN.{take, drop}
use lib.Dec.{eqb}
use Rattle.rules.specs.Store.{Geometry, need}
use Rattle.rules.specs.Attributes.{space_freed}
use Rattle.rules.specs.Edit.{Edit, Act, write, copy, clone, allocate, deallocate, copying, edited}
use Rattle.rules.specs.Operation.{Op, SAVEFH, READ, WRITE, ALLOCATE, COPY, DEALLOCATE, bad}
use Rattle.rules.specs.Run.{zero_id, Event, failed}
use Rattle.rules.specs.Calls.{fresh}
use Rattle.rules.specs.Claim.{serving, history, OK, edit_done, GivesBack, RightAfter, Allocated, ReadAfter, ReadsBack}
use Rattle.rules.specs.Emptying.{owed_for_file, Empties}
use Rattle.rules.specs.Copying.{as_write, saved_slots}
use Rattle.xdr.proofs.BoolLaws.{and_left, and_right}
use Rattle.rules.proofs.Script as S

-- ---- operations between that touch no allocated slot, or not the file: by a test

abbrev is_deallocate : Act → Bool
is_deallocate (write new) = false
is_deallocate (copy s soff) = false
is_deallocate (clone s soff) = false
is_deallocate allocate = false
is_deallocate deallocate = true

-- no event passes a test on the edit that it made
abbrev no_edit : Geometry → (Edit → Bool) → List Event → Bool
no_edit g p [] = true
no_edit g p (z ∷ zs) = elim (edit_done g z) [ none ↦ true | some e ↦ not (p e) ] && no_edit g p zs

none_passes : (g : Geometry) (p : Edit → Bool) (zs : List Event) → no_edit g p zs ≡ true → (z : Event) → Memᴰ z zs → (e : Edit) → edit_done g z ≡ some e → p e ≡ true → ⊥
none_passes g p [] t z m e d h = Memᴰ.not-nil m
none_passes g p (y ∷ ys) t z m e d h = go (Memᴰ.cases_cons m) (none_passes g p ys (and_right here (no_edit g p ys) t) z)
  where
    here : Bool
    here = elim (edit_done g y) [ none ↦ true | some e ↦ not (p e) ]

    clash : (u : Option Edit) → u ≡ some e → elim u [ none ↦ true | some e ↦ not (p e) ] ≡ true → ⊥
    clash u q k = true≢false (sym k ∙ ap (λ u. elim u [ none ↦ true | some e ↦ not (p e) ]) q ∙ ap not h)

    go : (z ≡ y) ⊎ Memᴰ z ys → (Memᴰ z ys → (e : Edit) → edit_done g z ≡ some e → p e ≡ true → ⊥) → ⊥
    go (inl q) ih = clash (edit_done g y) (ap (edit_done g) (sym q) ∙ d) (and_left here (no_edit g p ys) t)
    go (inr k) ih = ih k e d h

kept_by : (g : Geometry) (zs : List Event) → no_edit g (λ e. is_deallocate e.act) zs ≡ true → (z : Event) → Memᴰ z zs → (f k : ℕ) → GivesBack g f k z → ⊥
kept_by g zs t z m f k b = none_passes g (λ e. is_deallocate e.act) zs t z m b.0 b.1.0 (ap is_deallocate b.2)

right_after_by : (g : Geometry) (f : ℕ) (zs : List Event) → no_edit g (λ e. eqb e.file f) zs ≡ true → RightAfter g f zs
right_after_by g f zs t z m e d = none_passes g (λ e. eqb e.file f) zs t z m e d.0 (eq-eqb e.file f d.1)

-- ---- the lists

abbrev events : ℕ → List (List Op) → List Event
events n os = history serving (S.empty n) (map (S.call n) os)

-- the event with number k, of as many
abbrev event : ℕ → List Event → Event
event k [] = failed (bad 0 1) (fresh (S.empty 0)) 1
event zero (z ∷ zs) = z
event (suc k) (z ∷ zs) = event k zs

abbrev reading : List Op
reading = S.on 0 ∷ READ zero_id 0 1 ∷ []

-- P1, P3: PUTFH, ALLOCATE; PUTFH, WRITE; PUTFH, READ
abbrev first : List Event
first = events 2 (S.allocate 1024 ∷ S.write 0 (7 ∷ []) ∷ reading ∷ [])

-- P5, P6: the same with three blocks; PUTFH, SAVEFH, PUTFH, CLONE; PUTFH, WRITE; PUTFH, READ
abbrev second : List Event
second = events 3 (S.allocate 1024 ∷ S.write 0 (7 ∷ []) ∷ S.clone 512 ∷ S.write 0 (9 ∷ []) ∷ reading ∷ [])

pub p3_allocated : Allocated (S.geometry 2) first 0 0 1024 0 (7 ∷ []) (event 3 first)
unfolding S.rules
p3_allocated = record {
  a = event 1 first;
  mid = take 1 (drop 2 first);
  between = (take 1 first, drop 4 first, refl);
  id = zero_id;
  allocate = ((_, refl), refl);
  done = refl;
  kept = λ z k m s b. kept_by (S.geometry 2) (take 1 (drop 2 first)) refl z m 0 k b;
  stable = 2;
  write = ((_, refl), refl);
  some_byte = omega arith;
  starts = omega arith;
  ends = omega arith;
}

pub p3_read : ReadAfter (S.geometry 2) first 0 0 0 1 (7 ∷ []) (event 5 first)
unfolding S.rules
p3_read = record {
  w = event 3 first;
  mid = take 1 (drop 4 first);
  between = (take 3 first, [], refl);
  id = zero_id;
  stable = 2;
  write = ((_, refl), refl);
  done = refl;
  right_after = right_after_by (S.geometry 2) 0 (take 1 (drop 4 first)) refl;
  read = ((_, refl), refl);
  starts = omega arith;
  ends = omega arith;
  granted = omega arith;
}

-- between P1's ALLOCATE and P6's WRITE stand a WRITE and the CLONE of the region
pub p6_allocated : Allocated (S.geometry 3) second 0 0 1024 0 (9 ∷ []) (event 9 second)
unfolding S.rules
p6_allocated = record {
  a = event 1 second;
  mid = take 7 (drop 2 second);
  between = (take 1 second, drop 10 second, refl);
  id = zero_id;
  allocate = ((_, refl), refl);
  done = refl;
  kept = λ z k m s b. kept_by (S.geometry 3) (take 7 (drop 2 second)) refl z m 0 k b;
  stable = 2;
  write = ((_, refl), refl);
  some_byte = omega arith;
  starts = omega arith;
  ends = omega arith;
}

pub p6_read : ReadAfter (S.geometry 3) second 0 0 0 1 (9 ∷ []) (event 11 second)
unfolding S.rules
p6_read = record {
  w = event 9 second;
  mid = take 1 (drop 10 second);
  between = (take 9 second, [], refl);
  id = zero_id;
  stable = 2;
  write = ((_, refl), refl);
  done = refl;
  right_after = right_after_by (S.geometry 3) 0 (take 1 (drop 10 second)) refl;
  read = ((_, refl), refl);
  starts = omega arith;
  ends = omega arith;
  granted = omega arith;
}

-- what the claim says of them, seen by computing: OK, and the byte written
pub p3_seen : OK (event 3 first) × (OK (event 5 first) × ReadsBack 0 0 0 1 (7 ∷ []) (event 5 first))
unfolding S.rules
p3_seen = (refl, (refl, refl))

pub p6_seen : OK (event 9 second) × (OK (event 11 second) × ReadsBack 0 0 0 1 (9 ∷ []) (event 11 second))
unfolding S.rules
p6_seen = (refl, (refl, refl))

-- ---- P5, then a file is emptied: PUTFH, ALLOCATE; PUTFH, WRITE; PUTFH, SAVEFH, PUTFH, CLONE; PUTFH, DEALLOCATE of n bytes

abbrev emptying : ℕ → ℕ → Event
emptying f n = event 9 (events 3 (S.allocate 1024 ∷ S.write 0 (7 ∷ []) ∷ S.clone 512 ∷ (S.on f ∷ DEALLOCATE zero_id 0 n ∷ []) ∷ []))

-- used + owed before and after, what space_freed said in blocks, and what other files owed for the file
abbrev given : ℕ → Event → List ℕ
given f z =
    let ws = z.before.store.words in
    need ws ∷ need z.after.store.words ∷ space_freed (S.geometry 3) ws f / 512 ∷ owed_for_file (S.geometry 3) ws f ∷ []

pub p5_empties : Empties (emptying 0 1024) 0 × Empties (emptying 1 512) 1
unfolding S.rules
p5_empties = (
  record { id = zero_id; n = 1024; deallocate = ((_, refl), refl); whole = omega arith; done = refl },
  record { id = zero_id; n = 512; deallocate = ((_, refl), refl); whole = omega arith; done = refl },
)

-- file 0 has its block with file 1 and frees what its two reserved slots owe; file 1 frees nothing, but file 0's reserved slot 0 has its block alone then
pub p5_emptied : (given 0 (emptying 0 1024) ≡ 3 ∷ 1 ∷ 2 ∷ 0 ∷ []) × (given 1 (emptying 1 512) ≡ 3 ∷ 2 ∷ 0 ∷ 1 ∷ [])
unfolding S.rules
p5_emptied = (refl, refl)

-- ---- a COPY that makes a reserved slot a hole, in a pool of two blocks that is full: PUTFH, ALLOCATE, WRITE to file 1; PUTFH, WRITE into slot 1 of file
-- 0, SAVEFH, PUTFH, COPY of file 0's slot 0, a hole; PUTFH, WRITE into the reserved slot

abbrev third : List Event
third = events 2 (
    (S.on 1 ∷ ALLOCATE zero_id 0 512 ∷ WRITE zero_id 0 2 (7 ∷ []) ∷ [])
    ∷ (S.on 0 ∷ WRITE zero_id 512 2 (5 ∷ []) ∷ SAVEFH ∷ S.on 1 ∷ COPY zero_id zero_id 0 0 512 false true ∷ []) ∷ S.write 1 (9 ∷ []) ∷ [])

-- between the ALLOCATE and the WRITE stands the COPY
pub k7_allocated : Allocated (S.geometry 2) third 1 0 512 0 (9 ∷ []) (event 9 third)
unfolding S.rules
k7_allocated = record {
  a = event 1 third;
  mid = take 7 (drop 2 third);
  between = (take 1 third, [], refl);
  id = zero_id;
  allocate = ((_, refl), refl);
  done = refl;
  kept = λ z k m s b. kept_by (S.geometry 2) (take 7 (drop 2 third)) refl z m 1 k b;
  stable = 2;
  write = ((_, refl), refl);
  some_byte = omega arith;
  starts = omega arith;
  ends = omega arith;
}

-- file 1's words after the COPY, used + owed then, and after the WRITE
pub k7_seen : take 2 (drop 16 (event 7 third).after.store.words) ++ (need (event 7 third).after.store.words ∷ need (event 9 third).after.store.words ∷ []) ≡ 1 ∷ 0 ∷ 2 ∷ 2 ∷ []
unfolding S.rules
k7_seen = refl

-- ---- a COPY whose second slot takes the block that its first one frees, in the same pool: PUTFH, WRITE into slot 0 of file 1; PUTFH, WRITE into slot 1 of
-- file 0, SAVEFH, PUTFH, COPY of all 513 bytes

abbrev copied : Event
copied = event 6 (events 2 (S.write 1 (7 ∷ []) ∷ (S.on 0 ∷ WRITE zero_id 512 2 (5 ∷ []) ∷ SAVEFH ∷ S.on 1 ∷ COPY zero_id zero_id 0 0 0 false true ∷ []) ∷ []))

abbrev copy_edit : Edit
copy_edit = copying 1 0 513 0 0

pub k7_copies : edit_done (S.geometry 2) copied ≡ some copy_edit
unfolding S.rules
k7_copies = refl

-- file 1's words before and after it; used + owed after it, the slots saved, and what a WRITE of the same bytes would need
abbrev saving : Event → List ℕ
saving z =
    let st = z.before.store in
    take 2 (drop 16 st.words) ++ take 2 (drop 16 z.after.store.words)
    ++ (need z.after.store.words ∷ saved_slots (S.geometry 2) st copy_edit 0 0 ∷ need (edited (S.geometry 2) st (as_write (S.geometry 2) st copy_edit 0 0)).words ∷ [])

pub k7_copied : saving copied ≡ 2 ∷ 0 ∷ 0 ∷ 2 ∷ 2 ∷ 1 ∷ 3 ∷ []
unfolding S.rules saved_slots
k7_copied = refl
