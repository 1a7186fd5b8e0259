-- An operation's errors: their numbers, and what it says, by name, that there is none.
use Prim.Native.Nat.{ℕ, ◌+◌, ◌-◌, ◌*◌, ◌%◌, ◌^◌, ◌≤◌, ◌<◌}
use mathlib.Core.Path.{◌≡◌, refl}
use mathlib.Core.Bool.{Bool, true, false, cond, ◌&&◌, ◌||◌, not}
use mathlib.Core.List.{List, [], ◌∷◌}
use mathlib.Core.Logic.{◌≢◌, ◌⊎◌, inl, inr}
use native.Mathlib.Omega.{arith}
use borrow.Author.Tests.{ltb-false, leb-true, leb-false, eqb-true, eqb-false, lt-ltb, not-true, not-false}
use lib.ListN.{length}
use lib.Dec.{leb, ltb, eqb}
use Rattle.xdr.specs.Decode.{value}
use Rattle.rules.specs.Lists.{first}
use Rattle.rules.specs.Store.{Geometry, Store, size_of}
use Rattle.rules.specs.Operation.{NOSPC, BADXDR, PUTFH, WRITE, ALLOCATE, DEALLOCATE, COPY, CLONE}
use Rattle.rules.specs.Run.{State, no_file, file_of, source_count, past_source, overlap, uneven, errors}
use Rattle.xdr.proofs.BoolLaws.{and_left, and_right, and_cases, or_left, or_right, not_is}
use Rattle.rules.proofs.FirstLaws.{all-clear}

-- ---- the numbers: statuses of at most 10,090, none of them NOSPC, and none BADXDR, which comes before, where the operation is read

abbrev own_error : ℕ → Bool
own_error e = leb e 10090 && (not (eqb e NOSPC) && not (eqb e BADXDR))

abbrev pub known : List (Bool × ℕ) → Bool
known [] = true
known (t ∷ ts) = own_error t.1 && known ts

pub record OwnError (e : ℕ) : Type 0 where
  pub most : e ≤ 10090
  pub not_nospc : e ≢ NOSPC
  pub not_badxdr : e ≢ BADXDR

own_error_lem : (e : ℕ) → own_error e ≡ true → OwnError e
own_error_lem e h =
    let others = and_right (leb e 10090) (not (eqb e NOSPC) && not (eqb e BADXDR)) h in
    record {
      most = leb-true e 10090 (and_left (leb e 10090) (not (eqb e NOSPC) && not (eqb e BADXDR)) h);
      not_nospc = eqb-false e NOSPC (not-true (eqb e NOSPC) (and_left (not (eqb e NOSPC)) (not (eqb e BADXDR)) others));
      not_badxdr = eqb-false e BADXDR (not-true (eqb e BADXDR) (and_right (not (eqb e NOSPC)) (not (eqb e BADXDR)) others));
    }

first_passes : (ts : List (Bool × ℕ)) → known ts ≡ true → own_error (first ts) ≡ true
first_passes [] h = refl
first_passes (t ∷ ts) h = go t.0 (first_passes ts (and_right (own_error t.1) (known ts) h))
  where
    go : (b : Bool) → own_error (first ts) ≡ true → own_error (cond b t.1 (first ts)) ≡ true
    go true ih = and_left (own_error t.1) (known ts) h
    go false ih = ih

pub first-known : (ts : List (Bool × ℕ)) → known ts ≡ true → OwnError (first ts)
first-known ts h = own_error_lem (first ts) (first_passes ts h)

-- ---- no error

pub fits-from : (g : Geometry) (o n : ℕ) → (ltb 0 n && ltb (g.S * g.B) (o + n)) ≡ false → 0 < n → o + n ≤ g.S * g.B
fits-from g o n h l = ltb-false (g.S * g.B) (o + n) (rw (lt-ltb 0 n l) at h)

pub record PutClear (g : Geometry) (h : List ℕ) : Type 0 where
  pub long : length h ≡ 4
  pub file : value h < g.F

pub record WriteClear (g : Geometry) (x : State) (o n : ℕ) : Type 0 where
  pub file : no_file x.current ≡ false
  pub sum : o + n < 2 ^ 64
  pub fits : 0 < n → o + n ≤ g.S * g.B

pub record AllocateClear (g : Geometry) (x : State) (o n : ℕ) : Type 0 where
  pub file : no_file x.current ≡ false
  pub sum : o + n < 2 ^ 64
  pub some_byte : 0 < n
  pub fits : o + n ≤ g.S * g.B

pub record DeallocateClear (x : State) (o n : ℕ) : Type 0 where
  pub file : no_file x.current ≡ false
  pub sum : o + n < 2 ^ 64
  pub some_byte : 0 < n

-- how many bytes of the saved file are meant
abbrev pub meant : State → ℕ → ℕ → ℕ
meant x s n = source_count x.store (file_of x.saved) s n

pub record CopyClear (g : Geometry) (x : State) (s o n : ℕ) : Type 0 where
  pub source : no_file x.saved ≡ false
  pub file : no_file x.current ≡ false
  pub other : file_of x.saved ≢ file_of x.current
  pub inside : s + meant x s n ≤ size_of x.store (file_of x.saved)
  pub sum : o + meant x s n < 2 ^ 64
  pub fits : 0 < meant x s n → o + meant x s n ≤ g.S * g.B

pub record CloneClear (g : Geometry) (x : State) (s o n : ℕ) : Type 0 where
  pub source : no_file x.saved ≡ false
  pub file : no_file x.current ≡ false
  pub inside : s + meant x s n ≤ size_of x.store (file_of x.saved)
  pub apart : (file_of x.saved ≢ file_of x.current) ⊎ ((s + meant x s n ≤ o) ⊎ (o + meant x s n ≤ s))
  pub source_even : s % g.B ≡ 0
  pub target_even : o % g.B ≡ 0
  pub even : (meant x s n % g.B ≡ 0) ⊎ (s + meant x s n ≡ size_of x.store (file_of x.saved))
  pub sum : o + meant x s n < 2 ^ 64
  pub fits : 0 < meant x s n → o + meant x s n ≤ g.S * g.B

-- ---- from the list of tests

pub source-inside : (st : Store) (e s n : ℕ) → past_source st e s n ≡ false → s + source_count st e s n ≤ size_of st e
source-inside st e s n h = go (eqb n 0) (ltb-false (size_of st e) (s + n) h)
  where
    go : (t : Bool) → s + n ≤ size_of st e → s + cond t (size_of st e - s) n ≤ size_of st e
    go true h = omega arith
    go false h = h

apart_of : (e f s o n : ℕ) → eqb e f && overlap s o n ≡ false → (e ≢ f) ⊎ ((s + n ≤ o) ⊎ (o + n ≤ s))
apart_of e f s o n h = files (and_cases (eqb e f) (overlap s o n) h)
  where
    ranges : (ltb s (o + n) ≡ false) ⊎ (ltb o (s + n) ≡ false) → (s + n ≤ o) ⊎ (o + n ≤ s)
    ranges (inl q) = inr (ltb-false s (o + n) q)
    ranges (inr q) = inl (ltb-false o (s + n) q)

    files : (eqb e f ≡ false) ⊎ (overlap s o n ≡ false) → (e ≢ f) ⊎ ((s + n ≤ o) ⊎ (o + n ≤ s))
    files (inl q) = inl (eqb-false e f q)
    files (inr q) = inr (ranges (and_cases (ltb s (o + n)) (ltb o (s + n)) q))

record Even (g : Geometry) (st : Store) (e s o n : ℕ) : Type 0 where
  source : s % g.B ≡ 0
  target : o % g.B ≡ 0
  length : (n % g.B ≡ 0) ⊎ (s + n ≡ size_of st e)

even_of : (g : Geometry) (st : Store) (e s o n : ℕ) → uneven g st e s o n ≡ false → Even g st e s o n
even_of g st e s o n h = record {
  source = eqb-true (s % g.B) 0 (not_is (eqb (s % g.B) 0) (or_left u₁ u₂ (or_left (u₁ || u₂) u₃ h)));
  target = eqb-true (o % g.B) 0 (not_is (eqb (o % g.B) 0) (or_right u₁ u₂ (or_left (u₁ || u₂) u₃ h)));
  length = go (and_cases (not (eqb (n % g.B) 0)) (not (eqb (s + n) (size_of st e))) (or_right (u₁ || u₂) u₃ h));
}
  where
    u₁ : Bool
    u₁ = not (eqb (s % g.B) 0)

    u₂ : Bool
    u₂ = not (eqb (o % g.B) 0)

    u₃ : Bool
    u₃ = not (eqb (n % g.B) 0) && not (eqb (s + n) (size_of st e))

    go : (not (eqb (n % g.B) 0) ≡ false) ⊎ (not (eqb (s + n) (size_of st e)) ≡ false) → (n % g.B ≡ 0) ⊎ (s + n ≡ size_of st e)
    go (inl q) = inl (eqb-true (n % g.B) 0 (not_is (eqb (n % g.B) 0) q))
    go (inr q) = inr (eqb-true (s + n) (size_of st e) (not_is (eqb (s + n) (size_of st e)) q))

module _ (g : Geometry) (x : State) where
  pub put-clear : (h : List ℕ) → first (errors g x (PUTFH h)) ≡ 0 → PutClear g h
  unfolding errors
  put-clear h e =
      let c = all-clear (errors g x (PUTFH h)) refl e in
      record { long = eqb-true (length h) 4 (not-false (eqb (length h) 4) c.0); file = leb-false g.F (value h) c.1.0 }

  pub write-clear : (i : List ℕ) (o s : ℕ) (d : List ℕ) → first (errors g x (WRITE i o s d)) ≡ 0 → WriteClear g x o (length d)
  unfolding errors
  write-clear i o s d h =
      let c = all-clear (errors g x (WRITE i o s d)) refl h in
      record { file = c.0; sum = leb-false (2 ^ 64) (o + length d) c.1.1.0; fits = fits-from g o (length d) c.1.1.1.0 }

  pub allocate-clear : (i : List ℕ) (o n : ℕ) → first (errors g x (ALLOCATE i o n)) ≡ 0 → AllocateClear g x o n
  unfolding errors
  allocate-clear i o n h =
      let c = all-clear (errors g x (ALLOCATE i o n)) refl h in
      let l : 0 < n = omega (arith, eqb-false n 0 c.1.1.1.0) in
      record { file = c.0; sum = leb-false (2 ^ 64) (o + n) c.1.1.0; some_byte = l; fits = fits-from g o n c.1.1.1.1.0 l }

  pub deallocate-clear : (i : List ℕ) (o n : ℕ) → first (errors g x (DEALLOCATE i o n)) ≡ 0 → DeallocateClear x o n
  unfolding errors
  deallocate-clear i o n h =
      let c = all-clear (errors g x (DEALLOCATE i o n)) refl h in
      record { file = c.0; sum = leb-false (2 ^ 64) (o + n) c.1.1.0; some_byte = omega (arith, eqb-false n 0 c.1.1.1.0) }

  pub copy-clear : (i j : List ℕ) (s o n : ℕ) (c y : Bool) → first (errors g x (COPY i j s o n c y)) ≡ 0 → CopyClear g x s o n
  unfolding errors
  copy-clear i j s o n ca sy h =
      let c = all-clear (errors g x (COPY i j s o n ca sy)) refl h in
      record {
        source = or_left (no_file x.saved) (no_file x.current) c.0;
        file = or_right (no_file x.saved) (no_file x.current) c.0;
        other = eqb-false (file_of x.saved) (file_of x.current) c.1.1.0;
        inside = source-inside x.store (file_of x.saved) s n c.1.1.1.0;
        sum = leb-false (2 ^ 64) (o + meant x s n) c.1.1.1.1.0;
        fits = fits-from g o (meant x s n) c.1.1.1.1.1.0;
      }

  pub clone-clear : (i j : List ℕ) (s o n : ℕ) → first (errors g x (CLONE i j s o n)) ≡ 0 → CloneClear g x s o n
  unfolding errors
  clone-clear i j s o n h =
      let c = all-clear (errors g x (CLONE i j s o n)) refl h in
      let e = even_of g x.store (file_of x.saved) s o (meant x s n) c.1.1.1.1.0 in
      record {
        source = or_left (no_file x.saved) (no_file x.current) c.0;
        file = or_right (no_file x.saved) (no_file x.current) c.0;
        inside = source-inside x.store (file_of x.saved) s n c.1.1.0;
        apart = apart_of (file_of x.saved) (file_of x.current) s o (meant x s n) c.1.1.1.0;
        source_even = e.source;
        target_even = e.target;
        even = e.length;
        sum = leb-false (2 ^ 64) (o + meant x s n) c.1.1.1.1.1.0;
        fits = fits-from g o (meant x s n) c.1.1.1.1.1.1.0;
      }
