-- Every reader goes on, and so does every layout that is made of them.
use Prim.Native.Nat.{ℕ, zero, suc, ◌+◌, ◌-◌, ◌*◌, ◌^◌, ◌≤◌, ◌<◌, max}
use mathlib.Core.Path.{◌≡◌, refl, sym, ap, ◌∙◌}
use mathlib.Core.Bool.{Bool, true, false, cond, true≢false}
use mathlib.Core.List.{List, [], ◌++◌}
use native.Mathlib.Nat.{le_refl, le-max_left, max-eq_left, max-eq_right, zero-mul}
use native.Mathlib.Omega.{arith}
use lib.ListN.{length, get_or, take, drop, replicate, length-drop, length-replicate, drop_of_length-le}
use lib.Seq.{take_all, take-nil, take-take, take-add, take-append_seam, drop-append_seam, drop_at, drop-drop, length-take-le, get_or-take}
use lib.Dec.{leb, ltb, eqb}
use borrow.Author.Tests.{le-leb, lt-leb, leb-true, leb-false, ltb-true, ltb-false}
use Rattle.xdr.specs.declared.bytes.Span.{Span}
use Rattle.xdr.specs.Encode.{pad_bytes}
use Rattle.xdr.specs.Decode.{Parsed, got, fault, stop, Reader, ret, and_then, ◌>>=◌, fixed_at, fixed, value, number, up_to, padded, opaque_at, opaque_up_to, numbers, array_at, array_up_to}
use Rattle.xdr.specs.Layout.{Layout, boolean, ◌then◌}
use Rattle.xdr.proofs.EncodeLaws.{value_append}
use Rattle.xdr.proofs.DecodeLaws.{fixed-is, byte-drop, opaque-reads, array-reads}
use Rattle.xdr.proofs.Onward.{Mended, Ends, mends, over, Onward, fault≢got, drop-take, same-part, length-zeros, ret_onward, then_onward, like}

-- ---- bytes that pass a test

-- k bytes; where they fail the test, the fault is at the first of them
abbrev tested : {A : Type 0} → ℕ → (List ℕ → Bool) → (ℕ → List ℕ → A) → Reader A
tested k ok v s at = and_then (fixed k s at) (λ w m. cond (ok w) (got (v at w) m) (fault at))

module _ {A : Type 0} (k : ℕ) (ok : List ℕ → Bool) (v : ℕ → List ℕ → A) where
  tested-there : (s : List ℕ) (at : ℕ) → at + k ≤ length s
      → tested k ok v s at ≡ cond (ok (take k (drop at s))) (got (v at (take k (drop at s))) (at + k)) (fault at)
  tested-there s at h = rw (fixed-is k s at, le-leb (at + k) (length s) h)

  tested-missing : (s : List ℕ) (at : ℕ) → length s < at + k → tested k ok v s at ≡ fault (max at (length s))
  tested-missing s at h = rw (fixed-is k s at, lt-leb (at + k) (length s) h)

  tested-alike : (s t : List ℕ) (at : ℕ) → at + k ≤ length s → at + k ≤ length t → take (at + k) s ≡ take (at + k) t → tested k ok v s at ≡ tested k ok v t at
  tested-alike s t at h g e =
      tested-there s at h
      ∙ ap (λ (w : List ℕ). cond (ok w) (got (v at w) (at + k)) (fault at)) (same-part s t at k (omega arith) (omega arith) e)
      ∙ sym (tested-there t at g)

  -- what becomes of the bytes at a place
  data Came (s : List ℕ) (at : ℕ) : Type 0 where
    passed : (a : A) → at + k ≤ length s → tested k ok v s at ≡ got a (at + k) → Came s at
    failed : at + k ≤ length s → ok (take k (drop at s)) ≡ false → tested k ok v s at ≡ fault at → Came s at
    missing : length s < at + k → tested k ok v s at ≡ fault (max at (length s)) → Came s at

  came : (s : List ℕ) (at : ℕ) → Came s at
  came s at = go (leb (at + k) (length s)) refl (ok (take k (drop at s))) refl
    where
      go : (t : Bool) → leb (at + k) (length s) ≡ t → (u : Bool) → ok (take k (drop at s)) ≡ u → Came s at
      go false e u d = let h : length s < at + k = leb-false _ _ e in missing h (tested-missing s at h)
      go true e true d = let h : at + k ≤ length s = leb-true _ _ e in passed (v at (take k (drop at s))) h (tested-there s at h ∙ rw d)
      go true e false d = let h : at + k ≤ length s = leb-true _ _ e in failed h d (tested-there s at h ∙ rw d)

  tested-same : (s t : List ℕ) (at : ℕ) → length s ≡ length t → drop at s ≡ drop at t → tested k ok v s at ≡ tested k ok v t at
  tested-same s t at l e =
      let same : fixed k s at ≡ fixed k t at = fixed-is k s at ∙ rw (l, e, fixed-is k t at) in
      ap (λ (x : Parsed (List ℕ)). and_then x (λ w m. cond (ok w) (got (v at w) m) (fault at))) same

  tested-forth : (s : List ℕ) (at : ℕ) → at ≤ stop (tested k ok v s at)
  tested-forth s at = go (came s at)
    where
      go : Came s at → at ≤ stop (tested k ok v s at)
      go (passed a h e) = rw e (omega arith)
      go (failed h d e) = rw e (le_refl at)
      go (missing h e) = rw e (le-max_left at (length s))

  tested-inside : (s : List ℕ) (at : ℕ) → at ≤ length s → stop (tested k ok v s at) ≤ length s
  tested-inside s at l = go (came s at)
    where
      go : Came s at → stop (tested k ok v s at) ≤ length s
      go (passed a h e) = rw e h
      go (failed h d e) = rw e l
      go (missing h e) = rw (e, max-eq_right l) (le_refl (length s))

  tested-before : (s t : List ℕ) (at : ℕ) (a : A) (n : ℕ) → tested k ok v s at ≡ got a n → n ≤ length t → take n s ≡ take n t → tested k ok v t at ≡ got a n
  tested-before s t at a n g w d = go (came s at)
    where
      go : Came s at → tested k ok v t at ≡ got a n
      go (failed h u e) = absurd (fault≢got (sym e ∙ g))
      go (missing h e) = absurd (fault≢got (sym e ∙ g))
      go (passed b h e) = let q : at + k ≡ n = ap stop (sym e ∙ g) in sym (tested-alike s t at h (omega arith) (rw q d)) ∙ g

  tested-cut : (s : List ℕ) (at p : ℕ) → at ≤ length s → tested k ok v s at ≡ fault p → tested k ok v (take p s) at ≡ fault p
  tested-cut s at p l g = go (came s at)
    where
      go : Came s at → tested k ok v (take p s) at ≡ fault p
      go (passed b h e) = absurd (fault≢got (sym g ∙ e))
      go (missing h e) =
          let q : p ≡ length s = ap stop (sym g ∙ e) ∙ max-eq_right l in
          rw (take_all p s (omega arith)) g
      go (failed h d e) = by-room (leb (at + k) at) refl
        where
          q : p ≡ at
          q = ap stop (sym g ∙ e)

          long : length (take p s) ≡ p
          long = length-take-le p s (omega (arith, q))

          by-room : (t : Bool) → leb (at + k) at ≡ t → tested k ok v (take p s) at ≡ fault p
          by-room true t =
              let u : at + k ≤ at = leb-true _ _ t in
              tested-alike (take p s) s at (omega (arith, long, q)) h (take-take (at + k) p s (omega (arith, q))) ∙ g
          by-room false t =
              let u : at < at + k = leb-false _ _ t in
              tested-missing (take p s) at (omega (arith, long, q)) ∙ ap fault (max-eq_left (omega (arith, long, q)) ∙ sym q)

  tested-zeros : ok (replicate k 0) ≡ true → (s : List ℕ) (at p : ℕ) → at ≤ length s → tested k ok v s at ≡ fault p → p < length s → Mended (tested k ok v) (take p s) at
  tested-zeros pass s at p l g w = go (came s at)
    where
      go : Came s at → Mended (tested k ok v) (take p s) at
      go (passed b h e) = absurd (fault≢got (sym g ∙ e))
      go (missing h e) = absurd (omega (arith, ap stop (sym g ∙ e), max-eq_right l))
      go (failed h d e) = record { zeros = k; value = v at (replicate k 0); next = at + k; reads = tested-there filled at (omega (arith, long, length-zeros (take p s) k)) ∙ rw (bytes_are, pass) }
        where
          q : p ≡ at
          q = ap stop (sym g ∙ e)

          long : length (take p s) ≡ at
          long = length-take-le p s (omega arith) ∙ q

          filled : List ℕ
          filled = take p s ++ replicate k 0

          bytes_are : take k (drop at filled) ≡ replicate k 0
          bytes_are = ap (take k) (drop_at (take p s) (replicate k 0) at long) ∙ take_all k (replicate k 0) (omega (arith, length-replicate {A = ℕ} k 0))

  -- for a test that the empty list and zeros pass, and bytes that go on where they are cut
  tested_onward : ok [] ≡ true → ok (replicate k 0) ≡ true → ((s : List ℕ) (at : ℕ) → at ≤ length s → length s < at + k → Ends (tested k ok v) s at) → Onward (tested k ok v)
  tested_onward none pass on = record {
    same = tested-same;
    forth = tested-forth;
    inside = tested-inside;
    before = tested-before;
    cut = tested-cut;
    there = tested-zeros pass;
    ends = ends';
  }
    where
      ends' : (s : List ℕ) (at : ℕ) → at ≤ length s → tested k ok v s at ≡ fault (length s) → Ends (tested k ok v) s at
      ends' s at l g = go (came s at)
        where
          go : Came s at → Ends (tested k ok v) s at
          go (passed b h e) = absurd (fault≢got (sym g ∙ e))
          go (missing h e) = on s at l h
          go (failed h d e) =
              let q : length s ≡ at = ap stop (sym g ∙ e) in
              let empty : take k (drop at s) ≡ [] = ap (take k) (drop_of_length-le s {i = at} (omega arith)) ∙ take-nil k in
              absurd (true≢false (sym none ∙ sym (ap ok empty) ∙ d))

-- n bytes, whatever they are
bytes_onward : {A : Type 0} (n : ℕ) (v : ℕ → List ℕ → A) → Onward (tested n (λ w. true) v)
bytes_onward n v =
    tested_onward n (λ w. true) v refl refl
    (λ s at l h. mends (record { zeros = n; value = _; next = _; reads = tested-there n (λ w. true) v (s ++ replicate n 0) at (omega (arith, length-zeros s n)) }))

pub fixed_onward : (n : ℕ) → Onward (fixed n)
fixed_onward n = like (bytes_onward n (λ at w. w)) (λ s at. go (fixed n s at))
  where
    go : (x : Parsed (List ℕ)) → x ≡ and_then x (λ w m. got w m)
    go (got w m) = refl
    go (fault p) = refl

-- where they stand
pub fixed_at_onward : (n : ℕ) → Onward (fixed_at n)
unfolding fixed_at
fixed_at_onward n =
    like (bytes_onward n place)
    (λ s at. sym (ap (λ (x : Parsed (List ℕ)). and_then x (λ w m. got (place at w) m)) (fixed-is n s at) ∙ go s at (leb (at + n) (length s))))
  where
    place : ℕ → List ℕ → Span
    place at w = record { start = at; len = n }

    go : (s : List ℕ) (at : ℕ) (t : Bool)
        → and_then (cond t (got (take n (drop at s)) (at + n)) (fault (max at (length s)))) (λ w m. got (place at w) m)
        ≡ cond t (got (place at []) (at + n)) (fault (max at (length s)))
    go s at true = refl
    go s at false = refl

pub number_onward : (k : ℕ) → Onward (number k)
unfolding number
number_onward k = then_onward (fixed k) (λ bs. ret (value bs)) (fixed_onward k) (λ bs. ret_onward (value bs))

-- ---- a number with a bound

zeros-value : (j n : ℕ) → value (take j (replicate n 0)) ≡ 0
zeros-value zero n = refl
zeros-value (suc j) zero = refl
zeros-value (suc j) (suc n) = omega (arith, zero-mul (256 ^ length (take j (replicate {A = ℕ} n 0))), zeros-value j n)

-- a number of k + j bytes, of which the first k are the last of s
begun : (s t : List ℕ) (at k j : ℕ) → at + k ≡ length s → at + (k + j) ≤ length t → take (length s) t ≡ s
    → value (take (k + j) (drop at t)) ≡ value (drop at s) * 256 ^ j + value (take j (drop (length s) t))
begun s t at k j q h e =
    let front : take k (drop at t) ≡ drop at s = sym (drop-take at k t (omega arith)) ∙ ap (λ (n : ℕ). drop at (take n t)) q ∙ ap (drop at) e in
    let low : length (take j (drop (length s) t)) ≡ j = length-take-le j (drop (length s) t) (rw (length-drop (length s) t) (omega arith)) in
    rw (take-add k j (drop at t), drop-drop k at t, front, q, value_append (drop at s) (take j (drop (length s) t)), low)

pub bounded_onward : (limit : ℕ) → Onward (up_to limit)
unfolding up_to number
bounded_onward limit = like (tested_onward 4 ok (λ at w. value w) (le-leb 0 limit (omega arith)) (le-leb 0 limit (omega arith)) ends') (λ s at. go at (fixed 4 s at))
  where
    ok : List ℕ → Bool
    ok w = leb (value w) limit

    word : Reader ℕ
    word = tested 4 ok (λ at w. value w)

    go : (at : ℕ) (x : Parsed (List ℕ))
        → and_then (and_then x (λ w m. got (value w) m)) (λ n m. cond (leb n limit) (got n m) (fault at)) ≡ and_then x (λ w m. cond (ok w) (got (value w) m) (fault at))
    go at (got w m) = refl
    go at (fault p) = refl

    ends' : (s : List ℕ) (at : ℕ) → at ≤ length s → length s < at + 4 → Ends word s at
    ends' s at l h = choose (ok (take 4 (drop at filled))) refl
      where
        filled : List ℕ
        filled = s ++ replicate 4 0

        j : ℕ
        j = at + 4 - length s

        -- a number that begins with the last bytes of s
        number_is : (t : List ℕ) → at + 4 ≤ length t → take (length s) t ≡ s → value (take 4 (drop at t)) ≡ value (drop at s) * 256 ^ j + value (take j (drop (length s) t))
        number_is t g e =
            let q : length s - at + j ≡ 4 = omega arith in
            rw q at (begun s t at (length s - at) j (omega arith) (omega arith) e)

        least : value (take 4 (drop at filled)) ≡ value (drop at s) * 256 ^ j
        least =
            number_is filled (omega (arith, length-zeros s 4)) (take-append_seam s (replicate 4 0))
            ∙ rw (drop-append_seam s (replicate 4 0), zeros-value j 4) (omega arith)

        choose : (t : Bool) → ok (take 4 (drop at filled)) ≡ t → Ends word s at
        choose true e =
            mends (record {
              zeros = 4;
              value = value (take 4 (drop at filled));
              next = at + 4;
              reads = tested-there 4 ok (λ at w. value w) filled at (omega (arith, length-zeros s 4)) ∙ rw e;
            })
        choose false e = over at (some (ltb at (length s)) refl) h
            (λ t d w. tested-there 4 ok (λ at w. value w) t at w ∙ rw (lt-leb (value (take 4 (drop at t))) limit (omega (arith, large, least, number_is t w d))))
          where
            large : limit < value (take 4 (drop at filled))
            large = leb-false _ _ e

            some : (t : Bool) → ltb at (length s) ≡ t → at < length s
            some true u = ltb-true _ _ u
            some false u =
                let none : value (drop at s) ≡ 0 = ap value (drop_of_length-le s (ltb-false _ _ u)) in
                absurd (omega (arith, large, rw none at least, zero-mul (256 ^ j)))

-- ---- the pad

-- one zero byte, and then the others
pad-first : {A : Type 0} (n : ℕ) (a : A) (s : List ℕ) (at : ℕ) → padded (suc n) a s at ≡ and_then (padded 1 a s at) (λ b m. padded n b s m)
unfolding padded
pad-first n a s at = go (ltb at (length s)) (eqb (get_or s at 0) 0)
  where
    go : (t u : Bool) → cond t (cond u (padded n a s (at + 1)) (fault at)) (fault at) ≡ and_then (cond t (cond u (got a (at + 1)) (fault at)) (fault at)) (λ b m. padded n b s m)
    go true true = refl
    go true false = refl
    go false u = refl

byte_onward : {A : Type 0} (a : A) → Onward (padded 1 a)
unfolding padded
byte_onward {A} a = like (tested_onward 1 ok (λ at w. a) refl refl ends') reads
  where
    ok : List ℕ → Bool
    ok w = eqb (get_or w 0 0) 0

    byte : Reader A
    byte = tested 1 ok (λ at w. a)

    reads : (s : List ℕ) (at : ℕ) → cond (ltb at (length s)) (cond (eqb (get_or s at 0) 0) (got a (at + 1)) (fault at)) (fault at) ≡ byte s at
    reads s at = go (ltb at (length s)) refl
      where
        go : (t : Bool) → ltb at (length s) ≡ t → cond t (cond (eqb (get_or s at 0) 0) (got a (at + 1)) (fault at)) (fault at) ≡ byte s at
        go true e =
            let h : at < length s = ltb-true _ _ e in
            let same : get_or (take 1 (drop at s)) 0 0 ≡ get_or s at 0 = get_or-take 1 (drop at s) 0 0 (omega arith) ∙ byte-drop s at in
            sym (tested-there 1 ok (λ at w. a) s at (omega arith) ∙ rw same)
        go false e =
            let h : length s ≤ at = ltb-false _ _ e in
            sym (tested-missing 1 ok (λ at w. a) s at (omega arith) ∙ ap fault (max-eq_left h))

    ends' : (s : List ℕ) (at : ℕ) → at ≤ length s → length s < at + 1 → Ends byte s at
    ends' s at l h =
        let filled : List ℕ = s ++ replicate 1 0 in
        let q : length s ≡ at = omega arith in
        mends (record { zeros = 1; value = a; next = at + 1; reads = tested-there 1 ok (λ at w. a) filled at (omega (arith, length-zeros s 1)) ∙ rw (drop_at s (replicate 1 0) at q) })

pub padded_onward : {A : Type 0} (n : ℕ) (a : A) → Onward (padded n a)
unfolding padded
padded_onward zero a = ret_onward a
padded_onward (suc n) a = like (then_onward (padded 1 a) (padded n) (byte_onward a) (padded_onward n)) (pad-first n a)

-- ---- opaque data and arrays

pub opaque_at_onward : (limit : ℕ) → Onward (opaque_at limit)
unfolding opaque_at
opaque_at_onward limit =
    then_onward (up_to limit) (λ n. ◌>>=◌ (fixed_at n) (padded (pad_bytes n))) (bounded_onward limit)
    (λ n. then_onward (fixed_at n) (padded (pad_bytes n)) (fixed_at_onward n) (padded_onward (pad_bytes n)))

pub array_at_onward : (limit : ℕ) → Onward (array_at limit)
unfolding array_at
array_at_onward limit = then_onward (up_to limit) (λ n. fixed_at (4 * n)) (bounded_onward limit) (λ n. fixed_at_onward (4 * n))

-- as bytes and as numbers
pub opaque_onward : (limit : ℕ) → Onward (opaque_up_to limit)
opaque_onward limit =
    like (then_onward (up_to limit) (λ n. ◌>>=◌ (fixed n) (padded (pad_bytes n))) (bounded_onward limit)
    (λ n. then_onward (fixed n) (padded (pad_bytes n)) (fixed_onward n) (padded_onward (pad_bytes n)))) (opaque-reads limit)

pub array_onward : (limit : ℕ) → Onward (array_up_to limit)
array_onward limit =
    like (then_onward (up_to limit) (λ n. ◌>>=◌ (fixed (4 * n)) (λ bs. ret (numbers bs))) (bounded_onward limit)
    (λ n. then_onward (fixed (4 * n)) (λ bs. ret (numbers bs)) (fixed_onward (4 * n)) (λ bs. ret_onward (numbers bs)))) (array-reads limit)

-- ---- layouts

pub both_onward : {A B : Type 0} (a : Layout A) (b : Layout B) → Onward a.read → Onward b.read → Onward (a then b).read
both_onward a b h k =
    then_onward a.read (λ x. ◌>>=◌ b.read (λ y. ret (x, y))) h
    (λ x. then_onward b.read (λ y. ret (x, y)) k (λ y. ret_onward (x, y)))

pub boolean_onward : Onward boolean.read
boolean_onward = then_onward (up_to 1) (λ n. ret (eqb n 1)) (bounded_onward 1) (λ n. ret_onward (eqb n 1))
