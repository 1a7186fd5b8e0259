-- A reader goes on from its place to the end of the bytes: what its answer depends on, and what a fault says of the bytes before it. Read alone they
-- stop there too, and zeros behind them are read on, unless they begin a number that is out of range.
use Prim.Native.Nat.{ℕ, ◌+◌, ◌-◌, ◌≤◌, ◌<◌}
use mathlib.Core.Path.{◌≡◌, refl, sym, ap, ◌∙◌, subst}
use mathlib.Core.Logic.{◌⊎◌, inl, inr}
use mathlib.Core.Bool.{Bool, true, false}
use mathlib.Core.List.{List, ◌++◌, append_assoc}
use native.Mathlib.Nat.{add-sub_of_le, le_refl, le_trans}
use native.Mathlib.Omega.{arith}
use lib.ListN.{length, take, drop, replicate, length-append, length-replicate, replicate-append-replicate}
use lib.Seq.{take_all, take-take, take-add, take-append-le, take-append_seam, take_at, drop_at, drop-drop, length-take-le}
use lib.Dec.{leb, ltb}
use borrow.Author.Tests.{leb-true, leb-false, ltb-true, ltb-false}
use Rattle.xdr.specs.Decode.{Parsed, got, fault, stop, Reader, ret, and_then, ◌>>=◌}

-- enough zeros behind the bytes s complete what is read from `at` on
pub record Mended {A : Type 0} (r : Reader A) (s : List ℕ) (at : ℕ) : Type 0 where
  pub zeros : ℕ
  pub value : A
  pub next : ℕ
  pub reads : r (s ++ replicate zeros 0) at ≡ got value next

-- how bytes s go on, in which reading from `at` on comes to their end
pub data Ends {A : Type 0} (r : Reader A) (s : List ℕ) (at : ℕ) : Type 0 where
  mends : Mended r s at → Ends r s at
  -- the last of them, from place q on, begin a number of four bytes that is out of range whatever follows
  over : (q : ℕ) → q < length s → length s < q + 4 → ((t : List ℕ) → take (length s) t ≡ s → q + 4 ≤ length t → r t at ≡ fault q) → Ends r s at

pub record Onward {A : Type 0} (r : Reader A) : Type 0 where
  -- it looks at no byte before its place, and stops at or after it
  pub same : (s t : List ℕ) (at : ℕ) → length s ≡ length t → drop at s ≡ drop at t → r s at ≡ r t at
  pub forth : (s : List ℕ) (at : ℕ) → at ≤ stop (r s at)
  pub inside : (s : List ℕ) (at : ℕ) → at ≤ length s → stop (r s at) ≤ length s
  -- a value depends on the bytes before the place after it alone
  pub before : (s t : List ℕ) (at : ℕ) (a : A) (n : ℕ) → r s at ≡ got a n → n ≤ length t → take n s ≡ take n t → r t at ≡ got a n
  -- the bytes before a fault, read alone, end there
  pub cut : (s : List ℕ) (at p : ℕ) → at ≤ length s → r s at ≡ fault p → r (take p s) at ≡ fault p
  -- a fault at a byte that is there, and one at the first missing byte
  pub there : (s : List ℕ) (at p : ℕ) → at ≤ length s → r s at ≡ fault p → p < length s → Mended r (take p s) at
  pub ends : (s : List ℕ) (at : ℕ) → at ≤ length s → r s at ≡ fault (length s) → Ends r s at

pub fault≢got : {A : Type 0} {a : A} {n p : ℕ} → ◌≡◌ {A = Parsed A} (fault p) (got a n) → ⊥
fault≢got e = let z : ◌≡◌ {A = ℕ} 0 1 = cc in omega arith

-- ---- lists

same_first : (m n : ℕ) (s t : List ℕ) → m ≤ n → take n s ≡ take n t → take m s ≡ take m t
same_first m n s t h e = sym (take-take m n s h) ∙ ap (take m) e ∙ take-take m n t h

pub drop-take : (n k : ℕ) (l : List ℕ) → n ≤ length l → drop n (take (n + k) l) ≡ take k (drop n l)
drop-take n k l h = ap (drop n) (take-add n k l) ∙ drop_at (take n l) (take k (drop n l)) n (length-take-le n l h)

pub same-part : (s t : List ℕ) (at k : ℕ) → at ≤ length s → at ≤ length t → take (at + k) s ≡ take (at + k) t → take k (drop at s) ≡ take k (drop at t)
same-part s t at k h g e = sym (drop-take at k s h) ∙ ap (drop at) e ∙ drop-take at k t g

-- bytes that agree from a place on agree from any later one on
later : (s t : List ℕ) (at n : ℕ) → at ≤ n → drop at s ≡ drop at t → drop n s ≡ drop n t
later s t at n h e =
    let k : at + (n - at) ≡ n = add-sub_of_le h in
    rw (← k) (sym (drop-drop (n - at) at s) ∙ ap (drop (n - at)) e ∙ drop-drop (n - at) at t)

pub length-zeros : (s : List ℕ) (n : ℕ) → length (s ++ replicate n 0) ≡ length s + n
length-zeros s n = length-append s (replicate n 0) ∙ ap (λ (k : ℕ). length s + k) (length-replicate n 0)

more-zeros : (s : List ℕ) (j k : ℕ) → s ++ replicate j 0 ++ replicate k 0 ≡ s ++ replicate (j + k) 0
more-zeros s j k = append_assoc s (replicate j 0) (replicate k 0) ∙ ap (λ (l : List ℕ). s ++ l) (replicate-append-replicate j k 0)

-- ---- a reader on more and on fewer bytes

module _ {A : Type 0} {r : Reader A} (h : Onward r) (s : List ℕ) (at : ℕ) where
  stops-forth : (x : Parsed A) → r s at ≡ x → at ≤ stop x
  stops-forth x e = subst (λ (y : Parsed A). at ≤ stop y) e (h.forth s at)

  pub stops-inside : (x : Parsed A) → at ≤ length s → r s at ≡ x → stop x ≤ length s
  stops-inside x l e = subst (λ (y : Parsed A). stop y ≤ length s) e (h.inside s at l)

  pub longer : (u : List ℕ) (a : A) (n : ℕ) → n ≤ length s → r s at ≡ got a n → r (s ++ u) at ≡ got a n
  longer u a n w e = h.before s (s ++ u) at a n e (omega (arith, length-append s u)) (sym (take-append-le n s u w))

  shorter : (u : List ℕ) (a : A) (n : ℕ) → n ≤ length s → r (s ++ u) at ≡ got a n → r s at ≡ got a n
  shorter u a n w e = h.before (s ++ u) s at a n e w (take-append-le n s u w)

module _ {A : Type 0} {r : Reader A} (h : Onward r) (s : List ℕ) (at n : ℕ) (a : A) (m : ℕ) (e : r (s ++ replicate n 0) at ≡ got a m) where
  -- a value that zeros complete ends among them
  reaches : r s at ≡ fault (length s) → length s < m
  reaches d = go (leb m (length s)) refl
    where
      go : (t : Bool) → leb m (length s) ≡ t → length s < m
      go true t = absurd (fault≢got (sym d ∙ shorter h s at (replicate n 0) a m (leb-true m (length s) t) e))
      go false t = leb-false m (length s) t

  -- and needs no more of them than it reads
  enough : at ≤ length s → length s < m → r (s ++ replicate (m - length s) 0) at ≡ got a m
  enough l g =
      let j = m - length s in
      let w : m ≤ length s + n = rw (length-zeros s n) at (stops-inside h (s ++ replicate n 0) at (got a m) (omega (arith, length-zeros s n)) e) in
      let split : j + (n - j) ≡ n = omega arith in
      shorter h (s ++ replicate j 0) at (replicate (n - j) 0) a m (omega (arith, length-zeros s j))
      (rw (more-zeros s j (n - j), split) e)

-- ---- one reader after another

pub ret_onward : {A : Type 0} (a : A) → Onward (ret a)
ret_onward a = record {
  same = λ s t at l e. refl;
  forth = λ s at. le_refl at;
  inside = λ s at l. l;
  before = λ s t at b n e w d. e;
  cut = λ s at p l e. absurd (fault≢got (sym e));
  there = λ s at p l e w. absurd (fault≢got (sym e));
  ends = λ s at l e. absurd (fault≢got (sym e));
}

module _ {A B : Type 0} (r : Reader A) (f : A → Reader B) (h : Onward r) (k : (a : A) → Onward (f a)) where
  joined : (s : List ℕ) (at : ℕ) (x : Parsed A) → r s at ≡ x → ◌>>=◌ r f s at ≡ and_then x (λ a n. f a s n)
  joined s at x e = ap (λ (y : Parsed A). and_then y (λ a n. f a s n)) e

  then_same : (s t : List ℕ) (at : ℕ) → length s ≡ length t → drop at s ≡ drop at t → ◌>>=◌ r f s at ≡ ◌>>=◌ r f t at
  then_same s t at l e = go (r s at) (h.forth s at) (h.same s t at l e)
    where
      go : (x : Parsed A) → at ≤ stop x → x ≡ r t at → and_then x (λ a n. f a s n) ≡ ◌>>=◌ r f t at
      go (got a n) g c = (k a).same s t n l (later s t at n g e) ∙ sym (joined t at (got a n) (sym c))
      go (fault p) g c = sym (joined t at (fault p) (sym c))

  then-forth : (s : List ℕ) (at : ℕ) → at ≤ stop (◌>>=◌ r f s at)
  then-forth s at = go (r s at) (h.forth s at)
    where
      go : (x : Parsed A) → at ≤ stop x → at ≤ stop (and_then x (λ a n. f a s n))
      go (got a n) g = le_trans g ((k a).forth s n)
      go (fault n) g = g

  then-inside : (s : List ℕ) (at : ℕ) → at ≤ length s → stop (◌>>=◌ r f s at) ≤ length s
  then-inside s at l = go (r s at) (h.inside s at l)
    where
      go : (x : Parsed A) → stop x ≤ length s → stop (and_then x (λ a n. f a s n)) ≤ length s
      go (got a n) g = (k a).inside s n g
      go (fault n) g = g

  then-before : (s t : List ℕ) (at : ℕ) (b : B) (n : ℕ) → ◌>>=◌ r f s at ≡ got b n → n ≤ length t → take n s ≡ take n t → ◌>>=◌ r f t at ≡ got b n
  then-before s t at b n e w d = go (r s at) refl e
    where
      go : (x : Parsed A) → r s at ≡ x → and_then x (λ a m. f a s m) ≡ got b n → ◌>>=◌ r f t at ≡ got b n
      go (fault p) c e = absurd (fault≢got e)
      go (got a m) c e =
          let g : m ≤ n = stops-forth (k a) s m (got b n) e in
          joined t at (got a m) (h.before s t at a m c (le_trans g w) (same_first m n s t g d)) ∙ (k a).before s t m b n e w d

  then-cut : (s : List ℕ) (at p : ℕ) → at ≤ length s → ◌>>=◌ r f s at ≡ fault p → ◌>>=◌ r f (take p s) at ≡ fault p
  then-cut s at p l e = go (r s at) refl e
    where
      go : (x : Parsed A) → r s at ≡ x → and_then x (λ a m. f a s m) ≡ fault p → ◌>>=◌ r f (take p s) at ≡ fault p
      go (fault q) c e = joined (take p s) at (fault p) (h.cut s at p l (c ∙ ap fault (ap stop e)))
      go (got a m) c e =
          let i : m ≤ length s = stops-inside h s at (got a m) l c in
          let g : m ≤ p = stops-forth (k a) s m (fault p) e in
          let w : p ≤ length s = stops-inside (k a) s m (fault p) i e in
          joined (take p s) at (got a m) (h.before s (take p s) at a m c (rw (length-take-le p s w) g) (sym (take-take m p s g)))
          ∙ (k a).cut s m p i e

  -- bytes that the second reader completes, behind a value of the first
  second-mended : (s : List ℕ) (at : ℕ) (a : A) (m : ℕ) → m ≤ length s → r s at ≡ got a m → Mended (f a) s m → Mended (◌>>=◌ r f) s at
  second-mended s at a m l c d = record {
    zeros = d.zeros;
    value = d.value;
    next = d.next;
    reads = joined (s ++ replicate d.zeros 0) at (got a m) (longer h s at (replicate d.zeros 0) a m l c) ∙ d.reads;
  }

  second-ends : (s : List ℕ) (at : ℕ) (a : A) (m : ℕ) → m ≤ length s → r s at ≡ got a m → Ends (f a) s m → Ends (◌>>=◌ r f) s at
  second-ends s at a m l c (mends d) = mends (second-mended s at a m l c d)
  second-ends s at a m l c (over q u v e) = over q u v (λ t d w.
      joined t at (got a m) (h.before s t at a m c (omega arith) (sym (ap (take m) d) ∙ take-take m (length s) t l)) ∙ e t d w)

  -- the first reader's value ends with the zeros behind s
  full : (s : List ℕ) (at j m : ℕ) (a : A) → length s + j ≡ m → r (s ++ replicate j 0) at ≡ got a m → Mended (◌>>=◌ r f) s at
  full s at j m a q c = by-second (f a s' m) refl
    where
      s' : List ℕ
      s' = s ++ replicate j 0

      long : length s' ≡ m
      long = length-zeros s j ∙ q

      on : Ends (f a) s' m → Mended (◌>>=◌ r f) s at
      on (mends d) =
          let more = second-mended s' at a m (omega (arith, long)) c d in
          record { zeros = j + more.zeros; value = more.value; next = more.next; reads = rw (← more-zeros s j more.zeros) more.reads }
      on (over q u v d) =
          let t : List ℕ = s' ++ replicate 4 0 in
          let g : m ≤ q = stops-forth (k a) t m (fault q) (d t (take-append_seam s' (replicate 4 0)) (omega (arith, length-zeros s' 4))) in
          absurd (omega (arith, long))

      by-second : (y : Parsed B) → f a s' m ≡ y → Mended (◌>>=◌ r f) s at
      by-second (got b next) d = record { zeros = j; value = b; next = next; reads = joined s' at (got a m) c ∙ d }
      by-second (fault p) d =
          let g : m ≤ p = stops-forth (k a) s' m (fault p) d in
          let w : p ≤ length s' = stops-inside (k a) s' m (fault p) (omega (arith, long)) d in
          on ((k a).ends s' m (omega (arith, long)) (d ∙ ap fault (omega (arith, long))))

  first-mended : (s : List ℕ) (at : ℕ) → at ≤ length s → r s at ≡ fault (length s) → Mended r s at → Mended (◌>>=◌ r f) s at
  first-mended s at l c d =
      let g : length s < d.next = reaches h s at d.zeros d.value d.next d.reads c in
      full s at (d.next - length s) d.next d.value (omega arith) (enough h s at d.zeros d.value d.next d.reads l g)

  then-there : (s : List ℕ) (at p : ℕ) → at ≤ length s → ◌>>=◌ r f s at ≡ fault p → p < length s → Mended (◌>>=◌ r f) (take p s) at
  then-there s at p l e w = go (r s at) refl e
    where
      long : length (take p s) ≡ p
      long = length-take-le p s (omega arith)

      go : (x : Parsed A) → r s at ≡ x → and_then x (λ a m. f a s m) ≡ fault p → Mended (◌>>=◌ r f) (take p s) at
      go (fault q) c e =
          let d : r s at ≡ fault p = c ∙ ap fault (ap stop e) in
          let low : at ≤ p = stops-forth h s at (fault p) d in
          first-mended (take p s) at (omega (arith, long)) (h.cut s at p l d ∙ ap fault (sym long)) (h.there s at p l d w)
      go (got a m) c e =
          let i : m ≤ length s = stops-inside h s at (got a m) l c in
          let g : m ≤ p = stops-forth (k a) s m (fault p) e in
          second-mended (take p s) at a m (omega (arith, long)) (h.before s (take p s) at a m c (omega (arith, long)) (sym (take-take m p s g))) ((k a).there s m p i e w)

  then-ends : (s : List ℕ) (at : ℕ) → at ≤ length s → ◌>>=◌ r f s at ≡ fault (length s) → Ends (◌>>=◌ r f) s at
  then-ends s at l e = go (r s at) refl e
    where
      first_ends : r s at ≡ fault (length s) → Ends r s at → Ends (◌>>=◌ r f) s at
      first_ends c (over q u v d) = over q u v (λ t g w. joined t at (fault q) (d t g w))
      first_ends c (mends d) = mends (first-mended s at l c d)

      go : (x : Parsed A) → r s at ≡ x → and_then x (λ a m. f a s m) ≡ fault (length s) → Ends (◌>>=◌ r f) s at
      go (fault p) c e = let d : r s at ≡ fault (length s) = c ∙ ap fault (ap stop e) in first_ends d (h.ends s at l d)
      go (got a m) c e =
          let i : m ≤ length s = stops-inside h s at (got a m) l c in
          second-ends s at a m i c ((k a).ends s m i e)

pub then_onward : {A B : Type 0} (r : Reader A) (f : A → Reader B) → Onward r → ((a : A) → Onward (f a)) → Onward (◌>>=◌ r f)
then_onward r f h k = record {
  same = then_same r f h k;
  forth = then-forth r f h k;
  inside = then-inside r f h k;
  before = then-before r f h k;
  cut = then-cut r f h k;
  there = then-there r f h k;
  ends = then-ends r f h k;
}

-- a reader that reads as another does
pub like : {A : Type 0} {r q : Reader A} → Onward q → ((s : List ℕ) (at : ℕ) → r s at ≡ q s at) → Onward r
like {A} h e = subst (Onward {A = A}) (sym {A = Reader A} (λ i s at. e s at i)) h

-- ---- what a fault says

module _ {A : Type 0} (r : Reader A) (s : List ℕ) (at p : ℕ) where
  -- bytes with the same first p are read
  abbrev pub Completed : Type 0
  Completed = (t : List ℕ) × (take p t ≡ take p s) × (a : A) × (next : ℕ) × (r t at ≡ got a next)

  -- the bytes end at p, in a number that is out of range whatever follows
  abbrev pub Overrun : Type 0
  Overrun = (p ≡ length s) × (q : ℕ) × (q < p) × (p < q + 4) × ((t : List ℕ) → take p t ≡ take p s → q + 4 ≤ length t → r t at ≡ fault q)

  pub mended : Onward r → at ≤ length s → r s at ≡ fault p → Completed ⊎ Overrun
  mended h l e = by_place (ltb p (length s)) refl
    where
      inside : p ≤ length s
      inside = stops-inside h s at (fault p) l e

      completed : Mended r (take p s) at → Completed
      completed d = (take p s ++ replicate d.zeros 0, take_at (take p s) (replicate d.zeros 0) p (length-take-le p s inside), d.value, d.next, d.reads)

      by_end : p ≡ length s → Ends r s at → Completed ⊎ Overrun
      by_end c (mends d) = inl (completed (rw (take_all p s (omega arith)) d))
      by_end c (over q u v d) = inr (c, q, omega arith, omega arith, λ t g w. d t (rw (← c) (g ∙ take_all p s (omega arith))) w)

      by_place : (b : Bool) → ltb p (length s) ≡ b → Completed ⊎ Overrun
      by_place true b = inl (completed (h.there s at p l e (ltb-true p (length s) b)))
      by_place false b = let c : p ≡ length s = omega (arith, inside, ltb-false p (length s) b) in by_end c (h.ends s at l (e ∙ ap fault c))
