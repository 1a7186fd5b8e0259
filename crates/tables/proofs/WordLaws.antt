-- A stored word moves one holder: from the block it had to the block it gets.
use Prim.Native.Nat.{ℕ, zero, suc, ◌+◌, ◌-◌, ◌/◌, ◌≤◌, ◌<◌}
use mathlib.Core.Path.{◌≡◌, refl, ◌∙◌}
use mathlib.Core.Bool.{Bool, true, false}
use mathlib.Core.List.{List}
use mathlib.Core.Logic.{◌≢◌}
use native.Mathlib.Numerals.{sub-one}
use native.Mathlib.Omega.{arith}
use lib.ListN.{length, get_or, set, length-set}
use lib.Seq.{get_or-set_same, get_or-set_other}
use lib.Dec.{eqb}
use borrow.Author.Tests.{eqb-true, eqb-false, eq-eqb, ne_eqb}
use Rattle.rules.specs.Lists.{bit}
use Rattle.rules.specs.Store.{holds, holders}
use Rattle.tables.specs.Tally.{noted, forgot}
use Rattle.tables.specs.Tables.{TableTrue, Stored}
use Rattle.rules.proofs.CountLaws.{count_set, count_most}
use Rattle.rules.proofs.PlanLaws.{in_pool_set}
use Rattle.tables.proofs.TallyLaws.{length-noted, noted-at}

pub forgot_none : (k : ℕ) (cs : List ℕ) → k ≡ 0 → cs ≡ forgot k cs
unfolding forgot
forgot_none k cs e = rw e

pub forgot_some : (k : ℕ) (cs : List ℕ) → k ≢ 0 → set cs (k - 1) (get_or cs (k - 1) 0 - 1) ≡ forgot k cs
unfolding forgot
forgot_some zero cs d = absurd (d refl)
forgot_some (suc b) cs d = rw (sub-one (suc b))

pub length-forgot : (k : ℕ) (cs : List ℕ) → length (forgot k cs) ≡ length cs
unfolding forgot
length-forgot zero cs = refl
length-forgot (suc b) cs = length-set cs b (get_or cs b 0 - 1)

pub forgot-at : (k : ℕ) (cs : List ℕ) (b : ℕ) → b < length cs → (k ≡ suc b → 1 ≤ get_or cs b 0) → get_or (forgot k cs) b 0 + bit (eqb k (suc b)) ≡ get_or cs b 0
unfolding forgot
forgot-at zero cs b h p = rw (ne_eqb 0 (suc b) (λ (e : 0 ≡ suc b). omega arith)) (omega arith)
forgot-at (suc j) cs b h p = go (eqb b j) refl
  where
    go : (t : Bool) → eqb b j ≡ t → get_or (set cs j (get_or cs j 0 - 1)) b 0 + bit (eqb (suc j) (suc b)) ≡ get_or cs b 0
    go true e =
        let q : b ≡ j = eqb-true b j e in
        rw (eq-eqb (suc j) (suc b) (omega arith), ← q, get_or-set_same cs b (get_or cs b 0 - 1) 0 h) (omega (arith, p (omega arith)))
    go false e =
        let q : b ≢ j = eqb-false b j e in
        rw (ne_eqb (suc j) (suc b) (λ (z : suc j ≡ suc b). q (omega arith)), get_or-set_other cs j b (get_or cs j 0 - 1) 0 q) (omega arith)

-- a slot that holds a block is among its holders
pub holder-there : (ws : List ℕ) (i b : ℕ) → i < length ws → get_or ws i 0 / 2 ≡ suc b → 1 ≤ holders b ws
holder-there ws i b h e =
    let z : bit (holds b (get_or ws i 0)) ≡ 1 = rw e (rw (eq-eqb (suc b) (suc b) refl)) in
    let y : bit (holds b 0) ≡ 0 = rw (ne_eqb 0 (suc b) (λ (q : 0 ≡ suc b). omega arith)) in
    omega (arith, count_set (holds b) ws i 0 h, z, y)

module _ (ws cs : List ℕ) (known : TableTrue ws cs) (i : ℕ) (inside : i < length ws) where
  old : ℕ
  old = get_or ws i 0 / 2

  -- what `forget` asks
  pub held_once : 0 < get_or ws i 0 / 2 → 0 < get_or cs (get_or ws i 0 / 2 - 1) 0
  held_once h = go (get_or ws i 0 / 2) refl h
    where
      go : (k : ℕ) → get_or ws i 0 / 2 ≡ k → 0 < k → 0 < get_or cs (k - 1) 0
      go zero e h = absurd (omega arith)
      go (suc b) e h = rw (sub-one (suc b)) (omega (arith, known.table.each b (omega (arith, known.pool i)), holder-there ws i b inside e))

  less : (b : ℕ) → b < length cs → get_or (forgot old cs) b 0 + bit (eqb old (suc b)) ≡ get_or cs b 0
  unfolding old
  less b h = forgot-at old cs b h (λ e. omega (arith, known.table.each b h, holder-there ws i b inside e))

  -- what `note` asks
  pub few_holders : (b : ℕ) → b < length (forgot (get_or ws i 0 / 2) cs) → get_or (forgot (get_or ws i 0 / 2) cs) b 0 ≤ 65536
  unfolding old
  few_holders b h =
      let k : b < length cs = rw (length-forgot old cs) at h in
      omega (arith, less b k, known.table.each b k, count_most (holds b) ws, known.few)

  pub stored : (w : ℕ) → w / 2 ≤ length cs → Stored ws i w (set ws i w) (noted (w / 2) (forgot (get_or ws i 0 / 2) cs))
  unfolding old
  stored w h = record {
    words_are = refl;
    counted = record {
      table = record { each = each' };
      pool = rw len (in_pool_set (length cs) ws i w known.pool h);
      few = rw (length-set ws i w) known.few;
      some = rw len known.some;
      most = rw len known.most;
    };
  }
    where
      len : length (noted (w / 2) (forgot old cs)) ≡ length cs
      len = length-noted (w / 2) (forgot old cs) ∙ length-forgot old cs

      each' : (b : ℕ) → b < length (noted (w / 2) (forgot old cs)) → get_or (noted (w / 2) (forgot old cs)) b 0 ≡ holders b (set ws i w)
      each' b l =
          let k : b < length cs = rw len at l in
          omega (
            arith,
            noted-at (w / 2) (forgot old cs) b (rw (length-forgot old cs) k),
            less b k,
            known.table.each b k,
            count_set (holds b) ws i w inside,
          )
