-- The room of a file: what forgetting its slots shows, and that noting them again restores the table of holders.
use Prim.Native.Nat.{ℕ, zero, suc, pred, ◌+◌, ◌-◌, ◌*◌, ◌/◌, ◌%◌, ◌≤◌, ◌<◌}
use mathlib.Core.Path.{◌≡◌, refl, ap, ◌∙◌}
use mathlib.Core.Bool.{Bool, true, false, ◌&&◌, ◌||◌, not}
use mathlib.Core.List.{List, [], ◌∷◌}
use mathlib.Core.Logic.{◌≢◌}
use native.Mathlib.Nat.{mul-le-mul_right}
use native.Mathlib.Numerals.{add-one}
use native.Mathlib.Omega.{arith}
use borrow.Author.Tests.{eqb-true, eqb-false, eq-eqb, ne_eqb, lt-ltb}
use lib.ListN.{length, get_or, set, drop, drop_of_length-le, length-take}
use lib.Seq.{ext_get_or, get_or-set_same, get_or-set_other, drop-cons}
use lib.Dec.{ltb, eqb, eqb-suc-suc, eqb-suc-zero}
use Rattle.rules.specs.Lists.{bit, count, count_to}
use Rattle.rules.specs.Store.{Geometry, is_reserved, holds, holders, block_bound, owes}
use Rattle.rules.specs.Attributes.{slots_of, others_of, takes_room, held_alone, freed_blocks}
use Rattle.rules.proofs.CountLaws.{bit-most, count_most, sum_to_ext, sum_to_point, sum_to_cut, count-drop, count-end}
use Rattle.rules.proofs.EmptyingLaws.{alone-cut, file-parts}
use Rattle.rules.proofs.PlanLaws.{InPool}
use Rattle.tables.specs.Tally.{forgot, NotedAll, owes_by}
use Rattle.tables.specs.Space.{Counted, block_free, ForgotLast, held_only, ForgotAll, SlotsKnown, SlotsSpace, SpaceKnown, SpaceIs}
use Rattle.tables.proofs.TallyLaws.{pool-part}
use Rattle.tables.proofs.PoolLaws.{count_ext, pool-top, takes_same}
use Rattle.tables.proofs.WordLaws.{length-forgot, forgot-at}

-- ---- blocks that slots hold alone, by the counts: what forgetting the first slot does to their number

-- a block of c + 1 holders, h + 1 of them among the slots
last_one : (c h : ℕ) → h ≤ c → bit (eqb c 0) + bit (ltb 0 h && eqb c h) ≡ bit (ltb 0 (suc h) && eqb (suc c) (suc h))
last_one c zero l = rw (eqb-suc-suc c 0) (omega arith)
last_one c (suc h) l =
    rw (eqb-suc-suc c (suc h), lt-ltb 0 (suc (suc h)) (omega arith), lt-ltb 0 (suc h) (omega arith), ne_eqb c 0 (λ (q : c ≡ 0). omega arith)) (omega arith)

-- a block that the slot does not hold
holders-rest : (w : ℕ) (ws : List ℕ) (b : ℕ) → w / 2 ≢ suc b → holders b (w ∷ ws) ≡ holders b ws
holders-rest w ws b d = rw (ne_eqb (w / 2) (suc b) d) (omega arith)

-- the first slot's block, where it has lost its last holder, and those that the other slots hold alone
last_turn : (w : ℕ) (ws cs : List ℕ) → w / 2 ≤ length cs → ((b : ℕ) → b < length cs → holders b (w ∷ ws) ≤ get_or cs b 0)
    → bit (block_free (forgot (w / 2) cs) w) + count_to (length cs) (held_only ws (forgot (w / 2) cs)) ≡ count_to (length cs) (held_only (w ∷ ws) cs)
unfolding forgot
last_turn w ws cs pool left = go (w / 2) refl
  where
    go : (k : ℕ) → w / 2 ≡ k
        → bit (not (eqb k 0) && eqb (get_or (forgot k cs) (pred k) 0) 0) + count_to (length cs) (held_only ws (forgot k cs)) ≡ count_to (length cs) (held_only (w ∷ ws) cs)
    go zero e =
        omega (
          arith,
          sum_to_ext (length cs) (λ b. bit (held_only ws cs b)) (λ b. bit (held_only (w ∷ ws) cs b))
              (λ b h. rw (holders-rest w ws b (λ (q : w / 2 ≡ suc b). omega arith))),
        )
    go (suc o) e =
        let cs₁ : List ℕ = set cs o (get_or cs o 0 - 1) in
        let l : o < length cs = omega arith in
        let here : holders o (w ∷ ws) ≡ suc (holders o ws) = rw (eq-eqb (w / 2) (suc o) e) (omega arith) in
        let less : get_or cs₁ o 0 ≡ get_or cs o 0 - 1 = get_or-set_same cs o (get_or cs o 0 - 1) 0 l in
        let more : get_or cs o 0 ≡ suc (get_or cs₁ o 0) = omega (arith, less, here, left o l) in
        let point = sum_to_point (length cs) o (λ b. bit (held_only ws cs₁ b)) (λ b. bit (held_only (w ∷ ws) cs b)) l
        (λ b d. rw (holders-rest w ws b (λ (q : w / 2 ≡ suc b). d (omega arith)), get_or-set_other cs o b (get_or cs o 0 - 1) 0 d)) in
        let one = last_one (get_or cs₁ o 0) (holders o ws) (omega (arith, more, here, left o l)) in
        rw (eqb-suc-zero o) (omega (arith, point, rw (← more, ← here) at one))

-- no slot holds a block
held_none : (n : ℕ) (cs : List ℕ) → count_to n (held_only [] cs) ≡ 0
held_none n cs = sum_to_cut 0 n (λ b. bit (held_only [] cs b)) (omega arith) (λ b h. refl)

count_to_most : (n : ℕ) (p : ℕ → Bool) → count_to n p ≤ n
count_to_most zero p = omega arith
count_to_most (suc n) p = omega (arith, bit-most (p n), count_to_most n p)

-- ---- the pass that forgets

-- the first i slots are forgotten: n blocks have lost their last holder
pub record Forgetting (ws before counts : List ℕ) (n i : ℕ) : Type 0 where
  pub within : i ≤ length ws
  pub long : length counts ≡ length before
  pub each : (b : ℕ) → b < length counts → get_or counts b 0 + holders b ws ≡ get_or before b 0 + holders b (drop i ws)
  pub rest : n + count_to (length counts) (held_only (drop i ws) counts) ≡ count_to (length before) (held_only ws before)

module _ {ws before counts : List ℕ} {n i : ℕ} (known : Counted ws before) (f : Forgetting ws before counts n i) where
  left : (b : ℕ) → b < length counts → holders b (drop i ws) ≤ get_or counts b 0
  left b h = omega (arith, f.each b h, known.held b (omega (arith, f.long)))

  pub forgetting_few : n ≤ length before
  forgetting_few = omega (arith, f.rest, count_to_most (length before) (held_only ws before))

  module _ (inside : i < length ws) where
    pool : get_or ws i 0 / 2 ≤ length counts
    pool = rw f.long (known.pool i)

    holder : (b : ℕ) → b < length counts → get_or ws i 0 / 2 ≡ suc b → 1 ≤ get_or counts b 0
    holder b h e = omega (arith, left b h, count-drop (holds b) ws i inside, ap bit (eq-eqb (get_or ws i 0 / 2) (suc b) e))

    pub forgetting_more : {last : Bool} {m : ℕ} {after : List ℕ} → ForgotLast (get_or ws i 0) last counts after → m ≡ bit last → Forgetting ws before after (n + m) (i + 1)
    forgetting_more {last} {m} {after} t is =
        let k : ℕ = get_or ws i 0 / 2 in
        let long₁ : length (forgot k counts) ≡ length counts = length-forgot k counts in
        let cut : drop i ws ≡ get_or ws i 0 ∷ drop (suc i) ws = drop-cons ws i 0 inside in
        rw (add-one i, t.table) (record {
          within = omega arith;
          long = long₁ ∙ f.long;
          each = λ b h.
              let l : b < length counts = omega (arith, long₁) in
              omega (arith, f.each b l, forgot-at k counts b l (holder b l), count-drop (holds b) ws i inside);
          rest = rw long₁ (omega (
            arith,
            is ∙ ap bit (rw t.table at t.last_is),
            last_turn (get_or ws i 0) (drop (suc i) ws) counts pool (λ b h. rw cut at (left b h)),
            rw cut at f.rest,
          ));
        })

  pub forgetting_all : length ws ≤ i → ForgotAll ws n before counts
  forgetting_all end = record {
    long = f.long;
    each = λ b h. omega (arith, f.each b (omega (arith, f.long)), count-end (holds b) ws i end);
    last = omega (arith, rw (drop_of_length-le ws end) at f.rest, held_none (length counts) counts);
  }

-- ---- slots forgotten and noted again

module _ {ws before mid : List ℕ} {alone : ℕ} (known : SlotsKnown ws before) (forgotten : ForgotAll ws alone before mid) where
  pub alone-few : alone ≤ length before
  alone-few = omega (arith, forgotten.last, count_to_most (length before) (held_only ws before))

  pub slots_are : {after : List ℕ} {used owed : ℕ} → NotedAll ws mid after → used ≡ count (ltb 0) ws → owed ≡ count (owes_by before) ws
      → SlotsSpace ws used (alone + owed) before after
  slots_are {after} noted u o = record {
    used_is = u;
    freed_is = omega (arith, forgotten.last, o);
    table = ext_get_or 0 after before (noted.long ∙ forgotten.long) (λ b h.
        let k : b < length mid = omega (arith, noted.long) in
        omega (arith, noted.each b k, forgotten.each b (omega (arith, forgotten.long))));
  }

-- ---- the slots of a file among all slots

-- a slot that holds a block or is reserved
takes_room_lem : (w : ℕ) → ltb 0 w ≡ takes_room w
takes_room_lem zero = refl
takes_room_lem (suc w) = rw (lt-ltb 0 (suc w) (omega arith)) (go (eqb (suc w / 2) 0) refl)
  where
    go : (t : Bool) → eqb (suc w / 2) 0 ≡ t → true ≡ (not t || is_reserved (suc w))
    go true e = let z : suc w / 2 ≡ 0 = eqb-true (suc w / 2) 0 e in rw (eq-eqb (suc w % 2) 1 (omega arith))
    go false e = refl

-- m holders in all, h of them in the file
alone-is : (m h o : ℕ) → m ≡ h + o → eqb m h ≡ eqb o 0
alone-is m h o e = go (eqb o 0) refl
  where
    go : (t : Bool) → eqb o 0 ≡ t → eqb m h ≡ t
    go true q = let z : o ≡ 0 = eqb-true o 0 q in eq-eqb m h (omega arith)
    go false q = let z : o ≢ 0 = eqb-false o 0 q in ne_eqb m h (λ (r : m ≡ h). z (omega arith))

module _ {g : Geometry} {ws counts : List ℕ} {f : ℕ} (known : SpaceKnown g ws counts f) where
  abbrev own : List ℕ
  own = slots_of g ws f

  abbrev others : List ℕ
  others = others_of g ws f

  split : (b : ℕ) → b < length counts → get_or counts b 0 ≡ holders b own + holders b others
  split b h = known.counted.table.each b h ∙ file-parts g ws f (holds b)

  own-pool : InPool (length counts) own
  own-pool = pool-part (length counts) g.S (f * g.S) ws known.counted.pool

  own-short : length own ≤ g.S
  own-short = omega (arith, length-take g.S (drop (f * g.S) ws))

  -- the file's slots lie in the table
  pub slots-inside : f * g.S + g.S ≤ length ws
  slots-inside = omega (arith, mul-le-mul_right g.S known.file, known.slots)

  pub slots-known : SlotsKnown (slots_of g ws f) counts
  slots-known = record {
    counted = record { pool = own-pool; held = λ b h. omega (arith, split b h) };
    looked_up = record { pool = own-pool; some = known.counted.some; few = omega (arith, own-short, slots-inside, known.counted.few) };
    few = λ b h. omega (arith, known.counted.table.each b h, count_most (holds b) ws, known.counted.few);
  }

  freed_same : count_to (length counts) (held_only own counts) + count (owes_by counts) own ≡ freed_blocks g ws f
  unfolding freed_blocks
  freed_same =
      let n : ℕ = length counts in
      let top : block_bound own ≤ n = pool-top n own own-pool in
      let same : count_to n (held_only own counts) ≡ count_to n (held_alone own others)
      = sum_to_ext n _ _ (λ b h. ap (λ t. bit (ltb 0 (holders b own) && t)) (alone-is (get_or counts b 0) (holders b own) (holders b others) (split b h))) in
      let owe : count (owes_by counts) own ≡ count (owes ws) own
      = count_ext (owes_by counts) (owes ws) own
      (λ i. ap (λ t. t && is_reserved (get_or own i 0)) (takes_same ws counts known.counted.table known.counted.pool (get_or own i 0) (own-pool i))) in
      omega (arith, same, alone-cut n own others top, owe)

  -- how large the numbers are
  pub used-most : count takes_room (slots_of g ws f) ≤ g.S
  used-most = omega (arith, count_most takes_room own, own-short)

  pub freed_most : freed_blocks g ws f ≤ length counts + g.S
  freed_most = omega (arith, freed_same, count_to_most (length counts) (held_only own counts), count_most (owes_by counts) own, own-short)

  pub space-is : {used freed : ℕ} {after : List ℕ} → SlotsSpace (slots_of g ws f) used freed counts after → SpaceIs g ws f used freed counts after
  space-is r = record {
    used_is = r.used_is ∙ count_ext (ltb 0) takes_room own (λ i. takes_room_lem (get_or own i 0));
    freed_is = r.freed_is ∙ freed_same;
    table = r.table;
  }
