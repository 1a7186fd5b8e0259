-- What emptying a file gives back: used + owed of a table in two parts, the file's slots and the others, and of one whose first part is all 0.
use Prim.Native.Nat.{ℕ, zero, suc, pred, ◌+◌, ◌*◌, ◌/◌, ◌≤◌, ◌<◌, max, suc-le-suc}
use mathlib.Core.Path.{◌≡◌, refl, sym, ap, ◌∙◌}
use mathlib.Core.Bool.{Bool, true, false, ◌&&◌, ◌||◌, not}
use mathlib.Core.List.{List, [], ◌∷◌}
use native.Mathlib.Nat.{zero-add, mul-div_right}
use native.Mathlib.Omega.{arith}
use borrow.Author.Tests.{lt-ltb, ne_eqb, eqb-false}
use lib.ListN.{length, get_or, take, drop, replicate, take-append-drop, length-drop, length-replicate, get_or-replicate}
use lib.Seq.{length-take-le, get_or-take, get_or-drop, drop-drop, ext_get_or}
use lib.Dec.{ltb, eqb, eqb-zero-suc}
use Rattle.rules.specs.Lists.{bit, count, count_to}
use Rattle.rules.specs.Store.{Geometry, word_of, is_hole, is_reserved, holds, holders, block_bound, used, owes, owed, need}
use Rattle.rules.specs.Attributes.{slots_of, others_of, held_alone, freed_blocks, space_freed}
use Rattle.rules.specs.Emptying.{shares_alone, owed_for_file, GivesBackRoom}
use Rattle.xdr.proofs.BoolLaws.{and_false}
use Rattle.rules.proofs.CountLaws.{count_append, sum_to_ext, sum_to_add, sum_to_cut}
use Rattle.rules.proofs.NeedLaws.{no-holder, used-to}
use Rattle.rules.proofs.PlanLaws.{one-holder}

-- ---- counts

-- a count that is the sum of two at each element
count-sum : (p q r : ℕ → Bool) (ws : List ℕ) → ((i : ℕ) → i < length ws → bit (p (get_or ws i 0)) ≡ bit (q (get_or ws i 0)) + bit (r (get_or ws i 0)))
    → count p ws ≡ count q ws + count r ws
count-sum p q r [] h = refl
count-sum p q r (w ∷ ws) h = omega (arith, h 0 (omega arith), count-sum p q r ws (λ i l. h (suc i) (suc-le-suc l)))

-- no element passes
count_none : (p : ℕ → Bool) (ws : List ℕ) → ((w : ℕ) → p w ≡ false) → count p ws ≡ 0
count_none p [] h = refl
count_none p (w ∷ ws) h = rw (h w) (omega (arith, count_none p ws h))

-- zeros that don't pass
count_zeros : (p : ℕ → Bool) (n : ℕ) → p 0 ≡ false → count p (replicate n 0) ≡ 0
count_zeros p zero h = refl
count_zeros p (suc n) h = rw h (omega (arith, count_zeros p n h))

-- zeros hold no block
bound-zeros : (n : ℕ) → block_bound (replicate n 0) ≡ 0
bound-zeros zero = refl
bound-zeros (suc n) = omega (arith, bound-zeros n)

-- ---- one block, one word

-- a block with a holders in one part and c in the other: it is held in the first alone, or in the second
held_in : (a c : ℕ) → bit (ltb 0 (a + c)) ≡ bit (ltb 0 a && eqb c 0) + bit (ltb 0 c)
held_in zero c = rw (zero-add c) (omega arith)
held_in (suc a) zero = rw (lt-ltb 0 (suc a + 0) (omega arith), lt-ltb 0 (suc a) (omega arith))
held_in (suc a) (suc c) =
    rw (lt-ltb 0 (suc a + suc c) (omega arith), lt-ltb 0 (suc a) (omega arith), ne_eqb (suc c) 0 (λ (q : suc c ≡ 0). omega arith), lt-ltb 0 (suc c) (omega arith))

-- a word of the second part: it owes there, or shares its block with the first part alone
owes_in : (hole r : Bool) (a c : ℕ) → (hole ≡ false → 1 ≤ c)
    → bit ((hole || ltb 1 (a + c)) && r) ≡ bit ((hole || ltb 1 c) && r) + bit (r && not hole && eqb c 1 && ltb 0 a)
owes_in true true a c h = refl
owes_in hole false a c h = rw (and_false (hole || ltb 1 (a + c)), and_false (hole || ltb 1 c))
owes_in false true a zero h = absurd (omega (arith, h refl))
owes_in false true zero (suc zero) h = refl
owes_in false true (suc a) (suc zero) h = rw (lt-ltb 1 (suc a + 1) (omega arith), lt-ltb 0 (suc a) (omega arith))
owes_in false true a (suc (suc c)) h =
    rw (lt-ltb 1 (a + suc (suc c)) (omega arith), lt-ltb 1 (suc (suc c)) (omega arith), ne_eqb (suc (suc c)) 1 (λ (q : suc (suc c) ≡ 1). omega arith))

-- ---- a table in two parts

-- blocks from `block_bound` on are not held
pub alone-cut : (n : ℕ) (own others : List ℕ) → block_bound own ≤ n → count_to n (held_alone own others) ≡ count_to (block_bound own) (held_alone own others)
alone-cut n own others h = sum_to_cut (block_bound own) n (λ b. bit (held_alone own others b)) h (λ b l. rw (no-holder own b l))

module _ (all own others : List ℕ) (split : (p : ℕ → Bool) → count p all ≡ count p own + count p others) where
  -- used: held by `own` alone, or used in `others`
  used-parts : used all ≡ count_to (block_bound own) (held_alone own others) + used others
  used-parts =
      let n : ℕ = max (block_bound own) (max (block_bound others) (block_bound all)) in
      let parts : count_to n (λ b. ltb 0 (holders b all)) ≡ count_to n (held_alone own others) + count_to n (λ b. ltb 0 (holders b others))
      = sum_to_ext n _ _ (λ b l. rw (split (holds b)) (held_in (holders b own) (holders b others)))
      ∙ sum_to_add n (λ b. bit (held_alone own others b)) (λ b. bit (ltb 0 (holders b others))) in
      omega (arith, used-to n all (omega arith), used-to n others (omega arith), parts, alone-cut n own others (omega arith))

  -- a word of `others` owes: in `others`, or for `own` alone
  owes-parts : (i : ℕ) → i < length others → bit (owes all (get_or others i 0)) ≡ bit (owes others (get_or others i 0)) + bit (shares_alone own others (get_or others i 0))
  owes-parts i h =
      let w : ℕ = get_or others i 0 in
      let b : ℕ = pred (w / 2) in
      rw (split (holds b)) (owes_in (is_hole w) (is_reserved w) (holders b own) (holders b others)
      (λ e. one-holder others i b h (omega (arith, eqb-false (w / 2) 0 e))))

  -- the need: that of `others`, what `own` alone holds and owes, and what `others` owe for `own` alone
  need-parts : need all ≡ need others + (count_to (block_bound own) (held_alone own others) + count (owes all) own) + count (shares_alone own others) others
  unfolding owed
  need-parts = omega (arith, used-parts, split (owes all), count-sum (owes all) (owes others) (shares_alone own others) others owes-parts)

-- no slot shares a block with zeros
zeros-share : (n : ℕ) (others : List ℕ) (w : ℕ) → shares_alone (replicate n 0) others w ≡ false
zeros-share n others w =
    let b : ℕ = pred (w / 2) in
    rw (count_zeros (holds b) n (eqb-zero-suc b)) (and_false (is_reserved w && not (is_hole w) && eqb (holders b others) 1))

-- zeros hold nothing and owe nothing
need-zeros : (n : ℕ) (all others : List ℕ) → ((p : ℕ → Bool) → count p all ≡ count p (replicate n 0) + count p others) → need all ≡ need others
need-zeros n all others split =
    let alone : count_to (block_bound (replicate n 0)) (held_alone (replicate n 0) others) ≡ 0 = rw (bound-zeros n) in
    omega (
      arith,
      need-parts all (replicate n 0) others split,
      alone,
      count_zeros (owes all) n refl,
      count_none (shares_alone (replicate n 0) others) others (zeros-share n others),
    )

-- ---- a file's slots and the others

-- the two parts of a table
pub file-parts : (g : Geometry) (ws : List ℕ) (f : ℕ) (p : ℕ → Bool) → count p ws ≡ count p (slots_of g ws f) + count p (others_of g ws f)
file-parts g ws f p =
    let a : ℕ = f * g.S in
    omega (
      arith,
      ap (count p) (take-append-drop a ws),
      count_append p (take a ws) (drop a ws),
      ap (count p) (take-append-drop g.S (drop a ws)),
      count_append p (take g.S (drop a ws)) (drop g.S (drop a ws)),
      ap (count p) (drop-drop g.S a ws),
      count_append p (take a ws) (drop (a + g.S) ws),
    )

-- ws' is ws with the slots of file f all 0
pub record Emptied (g : Geometry) (f : ℕ) (ws ws' : List ℕ) : Type 0 where
  pub slots : length ws' ≡ length ws
  pub own : (k : ℕ) → k < g.S → word_of g ws' f k ≡ 0
  pub before : (p : ℕ) → p < f * g.S → get_or ws' p 0 ≡ get_or ws p 0
  pub behind : (p : ℕ) → f * g.S + g.S ≤ p → get_or ws' p 0 ≡ get_or ws p 0

module _ (g : Geometry) (f : ℕ) (ws ws' : List ℕ) (inside : f * g.S + g.S ≤ length ws) (e : Emptied g f ws ws') where
  own-zero : slots_of g ws' f ≡ replicate g.S 0
  own-zero =
      let long : length (slots_of g ws' f) ≡ g.S = length-take-le g.S (drop (f * g.S) ws') (rw (length-drop (f * g.S) ws') (omega (arith, e.slots))) in
      ext_get_or 0 _ _ (long ∙ sym (length-replicate g.S 0)) (λ k h.
      let l : k < g.S = rw long at h in
      get_or-take g.S (drop (f * g.S) ws') k 0 l ∙ get_or-drop (f * g.S) ws' k 0 ∙ e.own k l ∙ sym (get_or-replicate g.S k 0 0 l))

  front_same : take (f * g.S) ws' ≡ take (f * g.S) ws
  front_same =
      let a : ℕ = f * g.S in
      let long : length (take a ws') ≡ a = length-take-le a ws' (omega (arith, e.slots)) in
      ext_get_or 0 _ _ (long ∙ sym (length-take-le a ws (omega arith))) (λ p h.
      let l : p < a = rw long at h in
      get_or-take a ws' p 0 l ∙ e.before p l ∙ sym (get_or-take a ws p 0 l))

  back-same : drop (f * g.S + g.S) ws' ≡ drop (f * g.S + g.S) ws
  back-same =
      let a : ℕ = f * g.S + g.S in
      ext_get_or 0 _ _ (simp length-drop (omega (arith, e.slots))) (λ p h. get_or-drop a ws' p 0 ∙ e.behind (a + p) (omega arith) ∙ sym (get_or-drop a ws p 0))

  others_same : others_of g ws' f ≡ others_of g ws f
  others_same = rw (front_same, back-same)

  -- after, the need is that of the other files
  need-after : need ws' ≡ need (others_of g ws f)
  need-after = need-zeros g.S ws' (others_of g ws f) (λ p. rw (← own-zero, ← others_same) (file-parts g ws' f p))

  -- before, it was more by what is freed and by what other files owed for this one
  need-before : need ws ≡ need ws' + freed_blocks g ws f + owed_for_file g ws f
  unfolding freed_blocks owed_for_file
  need-before = omega (arith, need-after, need-parts ws (slots_of g ws f) (others_of g ws f) (file-parts g ws f))

  -- space_freed in blocks
  freed_blocks_lem : 0 < g.B → space_freed g ws f / g.B ≡ freed_blocks g ws f
  unfolding space_freed
  freed_blocks_lem pos = mul-div_right (freed_blocks g ws f) pos

  pub gives_back : 0 < g.B → GivesBackRoom g ws ws' f
  gives_back pos = record { at_least = omega (arith, freed_blocks_lem pos, need-before); exactly = omega (arith, freed_blocks_lem pos, need-before) }
