-- Laws on the table of holders: how slots are noted in it, one by one, in groups and file by file.
use Prim.Native.Nat.{ℕ, zero, suc, pred, ◌+◌, ◌-◌, ◌*◌, ◌/◌, ◌%◌, ◌≤◌, ◌<◌}
use mathlib.Core.Path.{◌≡◌, refl, sym, ap, ◌∙◌}
use mathlib.Core.Bool.{Bool, true, false, cond, ◌||◌}
use mathlib.Core.List.{List}
use mathlib.Core.Logic.{◌≢◌}
use native.Mathlib.Nat.{add-zero, zero-add}
use native.Mathlib.Decide.{dec_lt}
use native.Mathlib.Numerals.{add-one, sub-one}
use native.Mathlib.Omega.{arith}
use borrow.Author.Tests.{eq-eqb, ne_eqb, eqb-true, eqb-false, lt-ltb, le-ltb, ltb-true, leb-true, le-leb, lt-leb}
use lib.ListN.{length, length-set, length-take, get_or, set, take, drop, get_or-eq_default}
use lib.Seq.{get_or-set_same, get_or-set_other, set-get_or, get_or-take, get_or-drop, drop-drop}
use lib.Dec.{leb, ltb, eqb, eqb-suc-zero}
use Rattle.rules.specs.Lists.{bit, count, all_to}
use Rattle.rules.specs.Store.{is_hole, holds, holders}
use Rattle.tables.specs.Tally.{noted, holds_one, Scannable, Known, HoldAll, NotesFit, NotesFitAs, NotesFitFrom, NotedAll, NotedFrom}
use Rattle.tables.specs.Groups.{group_at}
use Rattle.rules.proofs.CountLaws.{count-drop, count-parts, count_most, count-all-at}
use Rattle.rules.proofs.BoundLaws.{holders-held}
use Rattle.rules.proofs.SoundLaws.{all_to_at}
use Rattle.rules.proofs.PlanLaws.{InPool}
use Rattle.tables.proofs.GroupLaws.{count-sum, count-two, bit-sides, count-all_to, group_room}

-- ---- one word noted

pub noted_none : (k : ℕ) (cs : List ℕ) → k ≡ 0 → cs ≡ noted k cs
unfolding noted
noted_none k cs e = rw e

pub noted_some : (k : ℕ) (cs : List ℕ) → k ≢ 0 → set cs (k - 1) (get_or cs (k - 1) 0 + 1) ≡ noted k cs
unfolding noted
noted_some zero cs h = absurd (h refl)
noted_some (suc b) cs h = rw (sub-one (suc b))

-- the place of a block where a hole reads a number too
pub place-first : (w : ℕ) → cond (is_hole w) 0 (pred (w / 2)) ≡ pred (w / 2)
place-first w = go (w / 2)
  where
    go : (k : ℕ) → cond (eqb k 0) 0 (pred k) ≡ pred k
    go zero = refl
    go (suc b) = rw (eqb-suc-zero b)

-- a hole adds nothing, wherever it does
pub noted_mixed : (w own : ℕ) (cs : List ℕ)
    → set cs (cond (is_hole w) own (pred (w / 2))) (get_or cs (cond (is_hole w) own (pred (w / 2))) 0 + bit (ltb 1 w)) ≡ noted (w / 2) cs
unfolding noted
noted_mixed w own cs = go (w / 2) refl
  where
    go : (k : ℕ) → w / 2 ≡ k → set cs (cond (eqb k 0) own (pred k)) (get_or cs (cond (eqb k 0) own (pred k)) 0 + bit (ltb 1 w)) ≡ noted k cs
    go zero e = rw (le-ltb 1 w (omega arith), add-zero (get_or cs own 0)) (set-get_or cs own 0)
    go (suc b) e = rw (lt-ltb 1 w (omega arith), eqb-suc-zero b)

pub length-noted : (k : ℕ) (cs : List ℕ) → length (noted k cs) ≡ length cs
unfolding noted
length-noted zero cs = refl
length-noted (suc b) cs = length-set cs b (get_or cs b 0 + 1)

pub noted-at : (k : ℕ) (cs : List ℕ) (b : ℕ) → b < length cs → get_or (noted k cs) b 0 ≡ get_or cs b 0 + bit (eqb k (suc b))
unfolding noted
noted-at zero cs b h = rw (ne_eqb 0 (suc b) (λ (e : 0 ≡ suc b). omega arith)) (omega arith)
noted-at (suc j) cs b h = go (eqb b j) refl
  where
    go : (t : Bool) → eqb b j ≡ t → get_or (set cs j (get_or cs j 0 + 1)) b 0 ≡ get_or cs b 0 + bit (eqb (suc j) (suc b))
    go true e =
        let q : b ≡ j = eqb-true b j e in
        rw (eq-eqb (suc j) (suc b) (omega arith), ← q) (get_or-set_same cs b _ 0 h)
    go false e =
        let q : b ≢ j = eqb-false b j e in
        rw (ne_eqb (suc j) (suc b) (λ (z : suc j ≡ suc b). q (omega arith)), get_or-set_other cs j b _ 0 q) (omega arith)

-- the count of a block and its holders from place i on keep their sum
pub noted-turn : (ws cs : List ℕ) (i b : ℕ) → i < length ws → b < length cs
    → get_or (noted (get_or ws i 0 / 2) cs) b 0 + holders b (drop (i + 1) ws) ≡ get_or cs b 0 + holders b (drop i ws)
noted-turn ws cs i b h k = rw (add-one i) (omega (arith, noted-at (get_or ws i 0 / 2) cs b k, count-drop (holds b) ws i h))

-- ---- words tested

-- two less than a word, modulo 2^32: the words of the blocks come first, those of holes last
pub less-held : (n w : ℕ) → n ≤ 65536 → w ≤ 4294967295 → (w + 4294967294) % 4294967296 < 2 * n → bit (holds_one n w) ≡ 1
less-held n w few word h = rw (lt-ltb 1 w (omega arith), le-leb (w / 2) n (omega arith))

pub less_other : (n w : ℕ) → n ≤ 65536 → w ≤ 4294967295 → 2 * n ≤ (w + 4294967294) % 4294967296 → bit (holds_one n w) ≡ 0
less_other n w few word h = go (dec_lt 1 w)
  where
    go : Dec (1 < w) → bit (holds_one n w) ≡ 0
    go (yes l) = rw (lt-ltb 1 w l, lt-leb (w / 2) n (omega arith))
    go (no d) = rw (le-ltb 1 w (omega (arith, d)))

-- a word names one of n blocks or none: it holds one of them or is a hole's
one_or_hole : (n w : ℕ) → bit (holds_one n w) + bit (leb w 1) ≡ bit (leb (w / 2) n)
one_or_hole n w = go (dec_lt 1 w)
  where
    go : Dec (1 < w) → bit (holds_one n w) + bit (leb w 1) ≡ bit (leb (w / 2) n)
    go (yes l) = rw (lt-ltb 1 w l, lt-leb w 1 l) (omega arith)
    go (no d) =
        let l : w ≤ 1 = omega (arith, d) in
        rw (le-ltb 1 w l, le-leb w 1 l, le-leb (w / 2) n (omega arith))

module _ (n : ℕ) (ws : List ℕ) where
  named : count (holds_one n) ws + count (λ w. leb w 1) ws ≡ count (λ w. leb (w / 2) n) ws
  named = count-sum (holds_one n) (λ w. leb w 1) (λ w. leb (w / 2) n) (one_or_hole n) ws

  -- what `rest_holes` asks, and what it tells
  pub scan-rest : count (holds_one n) ws + count (λ w. leb w 1) ws ≤ length ws
  scan-rest = omega (arith, named, count_most (λ w. leb (w / 2) n) ws)

  pub scan_formed : eqb (count (holds_one n) ws + count (λ w. leb w 1) ws) (length ws) ≡ all_to (length ws) (λ i. leb (get_or ws i 0 / 2) n)
  scan_formed = rw named (count-all_to (λ w. leb (w / 2) n) ws)

  pub scan-held : eqb (count (holds_one n) ws + count (λ w. leb w 1) ws) (length ws) ≡ true → count (holds_one n) ws ≡ count (ltb 1) ws
  scan-held e = omega (arith, eqb-true (count (holds_one n) ws + count (λ w. leb w 1) ws) (length ws) e, count-two (ltb 1) (λ w. leb w 1) (bit-sides 1) ws)

-- whether one is reserved, part by part
pub some-part : (r : Bool) (a b : ℕ) → ((r || ltb 0 a) || ltb 0 b) ≡ (r || ltb 0 (a + b))
some-part true a b = refl
some-part false zero b = rw (zero-add b)
some-part false (suc a) b = rw (lt-ltb 0 (suc a) (omega arith), lt-ltb 0 (suc a + b) (omega arith))

pub some-none : (r : Bool) → r ≡ (r || ltb 0 0)
some-none true = refl
some-none false = refl

-- words that pass their test name blocks of the pool
pub formed_pool : (n m : ℕ) (ws : List ℕ) → length ws ≡ n → all_to n (λ i. leb (get_or ws i 0 / 2) m) ≡ true → InPool m ws
formed_pool n m ws l e p = go (dec_lt p n)
  where
    go : Dec (p < n) → get_or ws p 0 / 2 ≤ m
    go (yes h) = leb-true (get_or ws p 0 / 2) m (all_to_at n (λ i. leb (get_or ws i 0 / 2) m) e p h)
    go (no d) = rw (get_or-eq_default ws 0 {n = p} (omega (arith, d, l))) (omega arith)

-- what `note_counted` asks of words that passed
pub scan_fits : {ws cs : List ℕ} → Scannable ws cs → true ≡ all_to (length ws) (λ i. leb (get_or ws i 0 / 2) (length cs)) → NotesFit ws cs
scan_fits {ws} {cs} ready ok = record {
  pool = formed_pool (length ws) (length cs) ws refl (sym ok);
  few = ready.few;
  short = ready.short;
}

-- ---- some words noted

-- a count over a part and behind it
pub count-from : (p : ℕ → Bool) (i n : ℕ) (l : List ℕ) → count p (take n (drop i l)) + count p (drop (i + n) l) ≡ count p (drop i l)
count-from p i n l = sym (count-parts p n (drop i l) ∙ ap (λ (x : List ℕ). count p (take n (drop i l)) + count p x) (drop-drop n i l))

-- the blocks of a part are in the pool
pub pool-part : (n m i : ℕ) (ws : List ℕ) → InPool n ws → InPool n (take m (drop i ws))
pool-part n m i ws h p = go (dec_lt p m)
  where
    go : Dec (p < m) → get_or (take m (drop i ws)) p 0 / 2 ≤ n
    go (yes l) = rw (get_or-take m (drop i ws) p 0 l, get_or-drop i ws p 0) (h (i + p))
    go (no d) = rw (get_or-eq_default (take m (drop i ws)) 0 {n = p} (omega (arith, d, length-take m (drop i ws)))) (omega arith)

-- where all words are above 1 each slot holds a block; where none is, none does
pub all_held : (l : List ℕ) → count (ltb 1) l ≡ length l → (i : ℕ) → i < length l → 0 < get_or l i 0 / 2
all_held l e i h = omega (arith, ltb-true 1 (get_or l i 0) (count-all-at (ltb 1) l e i h))

pub all-holes : (l cs : List ℕ) → count (ltb 1) l ≡ 0 → NotedAll l cs cs
all-holes l cs e = record { long = refl; each = λ b h. omega (arith, holders-held b l, e) }

-- one slot noted
pub noted_one : (ws cs : List ℕ) (i : ℕ) → i < length ws → NotedFrom ws i 1 cs (noted (get_or ws i 0 / 2) cs)
noted_one ws cs i h = record {
  some = omega arith;
  inside = omega arith;
  long = length-noted (get_or ws i 0 / 2) cs;
  rest = λ b k. noted-turn ws cs i b h k;
}

-- ---- a loop that notes: the words before place i are noted

pub record Noting (ws before counts : List ℕ) (i : ℕ) : Type 0 where
  pub within : i ≤ length ws
  pub long : length counts ≡ length before
  pub each : (b : ℕ) → b < length counts → get_or counts b 0 + holders b (drop i ws) ≡ get_or before b 0 + holders b ws

module _ {ws before counts : List ℕ} {i : ℕ} (t : Noting ws before counts i) where
  -- n more of them
  pub noting_more : {n : ℕ} {after : List ℕ} → NotedFrom ws i n counts after → Noting ws before after (i + n)
  noting_more r = record {
    within = r.inside;
    long = r.long ∙ t.long;
    each = λ b h. r.rest b (omega (arith, r.long)) ∙ t.each b (omega (arith, r.long));
  }

-- ---- in groups

-- a group of them, as the code takes it
module _ (ws cs : List ℕ) (i : ℕ) where
  sixteen : i + 16 - i ≡ 16
  sixteen = omega arith

  -- what `note_each` asks
  group_known : (t : Bool) → i + 16 ≤ length ws → 16 ≤ length cs → HoldAll t ws
      → Known t ((j : ℕ) → j < length (take 16 (drop i ws)) → 0 < get_or (take 16 (drop i ws)) j 0 / 2) (length (take 16 (drop i ws)) ≤ length cs)
  group_known true room l all = λ j h.
      let k : j < 16 = omega (arith, length-take 16 (drop i ws)) in
      rw (get_or-take 16 (drop i ws) j 0 k, get_or-drop i ws j 0) (all (i + j) (omega arith))
  group_known false room l t = omega (arith, length-take 16 (drop i ws))

  pub group_fits : {t : Bool} → group_at i (length ws) ≡ true → NotesFitFrom t ws cs i → 16 ≤ length cs
      → NotesFitAs t (take (i + 16 - i) (drop i ws)) cs
  unfolding sixteen
  group_fits {t} group f l =
      rw sixteen
      (record {
        fits = record {
          pool = pool-part (length cs) 16 i ws f.pool;
          few = λ b h. omega (arith, f.few b h, count-from (holds b) i 16 ws);
          short = omega (arith, length-take 16 (drop i ws));
        };
        known = group_known t (group_room i (length ws) group) l f.known;
      })

  pub noted_group : group_at i (length ws) ≡ true → {after : List ℕ} → NotedAll (take (i + 16 - i) (drop i ws)) cs after → NotedFrom ws i 16 cs after
  unfolding sixteen
  noted_group group t =
      let a = rw sixteen at t in
      record { some = omega arith; inside = group_room i (length ws) group; long = t.long; rest = λ b h. omega (arith, a.each b h, count-from (holds b) i 16 ws) }
