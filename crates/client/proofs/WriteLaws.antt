-- Laws on a request that is written: how long an operation is, and what stands in the buffer.
use Prim.Native.Nat.{ℕ, zero, suc, ◌+◌, ◌*◌, ◌/◌, ◌%◌, ◌^◌, ◌≤◌, ◌<◌}
use mathlib.Core.Path.{◌≡◌, refl, sym, ap, ◌∙◌}
use mathlib.Core.Bool.{Bool, true, false, cond, ◌&&◌, and-true, and_comm, and_assoc}
use mathlib.Core.List.{List, [], ◌∷◌, ◌++◌}
use Rattle.std.specs.Prelude.{Some, None}
use native.Mathlib.Decide.{dec_le}
use native.Mathlib.Omega.{arith}
use borrow.Author.Tests.{leb-true, leb-false, eqb-true, lt-ltb, le-leb, lt-leb}
use lib.ListN.{length, get_or, take, drop, length-append, length-take, length-drop, take-append-drop, get_or-eq_default}
use lib.Seq.{length-take-le, take-suc, get_or-take, get_or-drop}
use lib.Dec.{leb, ltb, eqb}
use Rattle.xdr.specs.declared.bytes.Span.{Span}
use Rattle.xdr.specs.Bytes.{part_of}
use Rattle.xdr.specs.Encode.{u32, opaque_size, concat_map, array}
use Rattle.xdr.specs.Decode.{value, fours, numbers}
use Rattle.xdr.specs.Layout.{every, is_word, any_length}
use Rattle.xdr.proofs.BoolLaws.{and_left, and_right, and_false}
use Rattle.xdr.proofs.EncodeLaws.{length-u32, length-u64, length-bool, length-opaque, length-array, u32-bytes, value-be}
use Rattle.rules.specs.Operation.{op_number, op_bytes, bitmap_args}
use Rattle.wire.specs.declared.operation.ReadArgs.{ReadArgs}
use Rattle.wire.specs.declared.operation.WriteArgs.{WriteArgs}
use Rattle.wire.specs.declared.operation.RegionArgs.{RegionArgs}
use Rattle.wire.specs.declared.operation.CloneArgs.{CloneArgs}
use Rattle.wire.specs.declared.operation.CopyArgs.{CopyArgs}
use Rattle.wire.specs.declared.operation.Operation.{Operation}
use Rattle.wire.specs.Decoded.{meaning}
use Rattle.client.specs.Given.{lent_in, stateid_ok, writable, args_bytes, op_size}

-- ---- tests that hold together

pub both : (a b : Bool) → a && b ≡ true → (a ≡ true) × (b ≡ true)
both a b h = (and_left a b h, and_right a b h)

three : (a b c : Bool) → a && (b && c) ≡ true → (a ≡ true) × ((b ≡ true) × (c ≡ true))
three a b c h = (and_left a (b && c) h, both b c (and_right a (b && c) h))

four : (a b c d : Bool) → a && (b && (c && d)) ≡ true → (a ≡ true) × ((b ≡ true) × ((c ≡ true) × (d ≡ true)))
four a b c d h = (and_left a (b && (c && d)) h, three b c d (and_right a (b && (c && d)) h))

-- ---- spans

pub part_length : (s : List ℕ) (d : Span) → lent_in s d ≡ true → length (part_of s d) ≡ d.len
unfolding part_of
part_length s d h = length-take-le d.len (drop d.start s) (rw (length-drop d.start s) (omega (arith, leb-true (d.start + d.len) (length s) h)))

stateid-length : (s : List ℕ) (d : Span) → stateid_ok s d ≡ true → length (part_of s d) ≡ 16
stateid-length s d h =
    let t = both (eqb d.len 16) (lent_in s d) h in
    part_length s d t.1 ∙ eqb-true d.len 16 t.0

-- a stateid that is lent and has 16 bytes, with what else is asked
stateid-fits : (s : List ℕ) (d : Span) (b : Bool) → b ≡ true → lent_in s d && (eqb (length (part_of s d)) 16 && b) ≡ stateid_ok s d
stateid-fits s d b e = go (lent_in s d) refl
  where
    go : (t : Bool) → lent_in s d ≡ t → t && (eqb (length (part_of s d)) 16 && b) ≡ eqb d.len 16 && t
    go true h = rw (part_length s d h, e)
    go false h = sym (and_false (eqb d.len 16))

-- ---- how long an operation is

-- its number, and its arguments
pub op_length : (s : List ℕ) (o : Operation) → length (op_bytes (meaning s o)) ≡ 4 + length (args_bytes s o)
op_length s o = length-append (u32 (op_number (meaning s o))) (args_bytes s o) ∙ rw (length-u32 (op_number (meaning s o)))

-- test w is t, and where it holds, bs has n bytes
pub record Measured (w : Bool) (bs : List ℕ) (t : Bool) (n : ℕ) : Type 0 where
  pub when : w ≡ t
  pub long : t ≡ true → length bs ≡ n

-- the operation can be written just where t holds, and its arguments then have n bytes
abbrev pub Sized : List ℕ → Operation → Bool → ℕ → Type 0
Sized s o t n = Measured (writable s o) (args_bytes s o) t n

-- its size m, from that
size_is : (s : List ℕ) (o : Operation) {t : Bool} {n m : ℕ} → Sized s o t n → 4 + n ≡ m → op_size s o ≡ cond t (Some m) None
unfolding op_size
size_is s o {t} {n} {m} z e = go t z.when z.long
  where
    go : (t : Bool) → writable s o ≡ t → (t ≡ true → length (args_bytes s o) ≡ n) → cond (writable s o) (Some (length (op_bytes (meaning s o)))) None ≡ cond t (Some m) None
    go true w l = rw (w, op_length s o, l refl, e)
    go false w l = rw w

-- without arguments: GETFH, RESTOREFH, SAVEFH
bare_sized : (s : List ℕ) → Sized s Operation.GetFh true 0
bare_sized s = record { when = refl; long = λ t. refl }

-- READ, READ_PLUS, SEEK
read-sized : (s : List ℕ) (a : ReadArgs) → (a.offset < 2 ^ 64) × (a.count < 2 ^ 32) → Sized s (Operation.Read a) (stateid_ok s a.stateid) 28
read-sized s a h = record {
  when = stateid-fits s a.stateid _ (rw (lt-ltb a.offset (2 ^ 64) h.0, lt-ltb a.count (2 ^ 32) h.1));
  long = λ t. simp (length-append, length-u64, length-u32) (omega (arith, stateid-length s a.stateid t));
}

-- ALLOCATE, DEALLOCATE
region-sized : (s : List ℕ) (a : RegionArgs) → (a.offset < 2 ^ 64) × (a.length < 2 ^ 64) → Sized s (Operation.Allocate a) (stateid_ok s a.stateid) 32
region-sized s a h = record {
  when = stateid-fits s a.stateid _ (rw (lt-ltb a.offset (2 ^ 64) h.0, lt-ltb a.length (2 ^ 64) h.1));
  long = λ t. simp (length-append, length-u64) (omega (arith, stateid-length s a.stateid t));
}

-- what is at most `limit` has 32 bits
limit_fits : (limit n : ℕ) → limit < 2 ^ 32 → leb n limit && is_word n ≡ leb n limit
limit_fits limit n h = go (leb n limit) refl
  where
    go : (t : Bool) → leb n limit ≡ t → t && is_word n ≡ t
    go true e = lt-ltb n (2 ^ 32) (omega (arith, leb-true n limit e))
    go false e = refl

handle-sized : (s : List ℕ) (d : Span) → Sized s (Operation.PutFh d) (leb d.len 128 && lent_in s d) (opaque_size d.len)
handle-sized s d = record {
  when = go (lent_in s d) refl;
  long = λ t. length-opaque (part_of s d) ∙ ap opaque_size (part_length s d (both (leb d.len 128) (lent_in s d) t).1);
}
  where
    go : (t : Bool) → lent_in s d ≡ t → t && (leb (length (part_of s d)) 128 && is_word (length (part_of s d))) ≡ leb d.len 128 && t
    go true e = rw (part_length s d e) (limit_fits 128 d.len (omega arith) ∙ sym (and-true (leb d.len 128)))
    go false e = sym (and_false (leb d.len 128))

-- two stateids, with what else is asked
stateids_fit : (s : List ℕ) (d e : Span) (b : Bool) → b ≡ true
    → lent_in s d && lent_in s e && (eqb (length (part_of s d)) 16 && (eqb (length (part_of s e)) 16 && b)) ≡ stateid_ok s d && stateid_ok s e
stateids_fit s d e b h = go (lent_in s d) (lent_in s e) refl refl
  where
    go : (t u : Bool) → lent_in s d ≡ t → lent_in s e ≡ u
        → t && u && (eqb (length (part_of s d)) 16 && (eqb (length (part_of s e)) 16 && b)) ≡ eqb d.len 16 && t && (eqb e.len 16 && u)
    go true true p q = rw (part_length s d p, part_length s e q, h, and-true (eqb d.len 16))
    go true false p q = rw (and_false (eqb e.len 16), and_false (eqb d.len 16 && true))
    go false u p q = rw (and_false (eqb d.len 16))

clone-sized : (s : List ℕ) (a : CloneArgs) → (a.from < 2 ^ 64) × ((a.to < 2 ^ 64) × (a.count < 2 ^ 64))
    → Sized s (Operation.Clone a) (stateid_ok s a.source && stateid_ok s a.target) 56
clone-sized s a h = record {
  when = stateids_fit s a.source a.target _ (rw (lt-ltb a.from (2 ^ 64) h.0, lt-ltb a.to (2 ^ 64) h.1.0, lt-ltb a.count (2 ^ 64) h.1.1));
  long = λ t.
      let ok = both (stateid_ok s a.source) (stateid_ok s a.target) t in
      simp (length-append, length-u64) (omega (arith, stateid-length s a.source ok.0, stateid-length s a.target ok.1));
}

-- COPY's tests: the spans and the booleans, then the layout's
copy-tests : (a b c d e : Bool) → a && b && c && d && (e && true) ≡ c && (d && (a && b && e))
copy-tests a b true true e = rw (and-true (a && b), and-true (a && b), and-true e)
copy-tests a b true false e = rw (and_false (a && b && true))
copy-tests a b false d e = rw (and_false (a && b))

copy-sized : (s : List ℕ) (a : CopyArgs) → (a.clone.from < 2 ^ 64) × ((a.clone.to < 2 ^ 64) × (a.clone.count < 2 ^ 64))
    → Sized s (Operation.Copy a) (leb a.consecutive 1 && (leb a.synchronous 1 && (stateid_ok s a.clone.source && stateid_ok s a.clone.target))) 68
copy-sized s a h =
    let c = a.clone in
    let ids = stateid_ok s c.source && stateid_ok s c.target in
    let z = clone-sized s c h in
    record {
      when = copy-tests (lent_in s c.source) (lent_in s c.target) (leb a.consecutive 1) (leb a.synchronous 1) _
          ∙ ap (λ (t : Bool). leb a.consecutive 1 && (leb a.synchronous 1 && t)) z.when;
      long = λ t.
          length-append (args_bytes s (Operation.Clone c)) _
          ∙ rw (z.long (three (leb a.consecutive 1) (leb a.synchronous 1) ids t).1.1) (simp (length-append, length-bool, length-u32));
    }

write-sized : (s : List ℕ) (a : WriteArgs) → a.offset < 2 ^ 64
    → Sized s (Operation.Write a) (leb a.stable 2 && (lent_in s a.data && (leb a.data.len any_length && stateid_ok s a.stateid))) (28 + opaque_size a.data.len)
write-sized s a h = record {
  when = go (lent_in s i) (lent_in s d) refl refl;
  long = λ t.
      let ok = four (leb a.stable 2) (lent_in s d) (leb d.len any_length) (stateid_ok s i) t in
      simp (length-append, length-u64, length-u32, length-opaque) (rw (part_length s d ok.1.0) (omega (arith, stateid-length s i ok.1.1.1)));
}
  where
    i : Span
    i = a.stateid

    d : Span
    d = a.data

    go : (t u : Bool) → lent_in s i ≡ t → lent_in s d ≡ u
        → t && u && (eqb (length (part_of s i)) 16 && (ltb a.offset (2 ^ 64) && (leb a.stable 2 && is_word a.stable && (leb (length (part_of s d)) any_length && is_word (length (part_of s d))))))
        ≡ leb a.stable 2 && (u && (leb d.len any_length && (eqb i.len 16 && t)))
    go true true p q =
        rw (part_length s i p, part_length s d q, lt-ltb a.offset (2 ^ 64) h, limit_fits 2 a.stable (omega arith), limit_fits any_length d.len (omega arith), and-true (eqb i.len 16))
        (and_comm (eqb i.len 16) (leb a.stable 2 && leb d.len any_length) ∙ and_assoc (leb a.stable 2) (leb d.len any_length) (eqb i.len 16))
    go true false p q = sym (and_false (leb a.stable 2))
    go false u p q = rw (and_false (eqb i.len 16), and_false (leb d.len any_length), and_false u) (sym (and_false (leb a.stable 2)))

-- ---- bitmaps

-- numbers below 256
abbrev pub Bytes : List ℕ → Type 0
Bytes bs = (i : ℕ) → get_or bs i 0 < 256

part_bytes : (s : List ℕ) (d : Span) → Bytes s → Bytes (part_of s d)
unfolding part_of
part_bytes s d b i = go (dec_le d.len i)
  where
    go : Dec (d.len ≤ i) → get_or (take d.len (drop d.start s)) i 0 < 256
    go (yes h) = rw (get_or-eq_default (take d.len (drop d.start s)) 0 {n = i} (omega (arith, length-take d.len (drop d.start s)))) (omega arith)
    go (no h) = rw (get_or-take d.len (drop d.start s) i 0 (omega (arith, h)), get_or-drop d.start s i 0) (b (d.start + i))

-- the number of four bytes, written again
word_back : (a b c d : ℕ) → a < 256 → b < 256 → c < 256 → d < 256 → u32 (value (a ∷ b ∷ c ∷ d ∷ [])) ≡ a ∷ b ∷ c ∷ d ∷ []
word_back a b c d h i j k =
    let v : ℕ = value (a ∷ b ∷ c ∷ d ∷ []) in
    let p : v / 16777216 % 256 ≡ a = omega arith in
    let q : v / 65536 % 256 ≡ b = omega arith in
    let r : v / 256 % 256 ≡ c = omega arith in
    let t : v % 256 ≡ d = omega arith in
    rw (u32-bytes v, p, q, r, t)

first-four : (bs : List ℕ) → 4 ≤ length bs → take 4 bs ≡ get_or bs 0 0 ∷ get_or bs 1 0 ∷ get_or bs 2 0 ∷ get_or bs 3 0 ∷ []
first-four bs h = rw (take-suc bs 3 0 (omega arith), take-suc bs 2 0 (omega arith), take-suc bs 1 0 (omega arith), take-suc bs 0 0 (omega arith))

four-back : (bs : List ℕ) → 4 ≤ length bs → Bytes bs → u32 (value (take 4 bs)) ≡ take 4 bs
four-back bs h b = rw (first-four bs h) (word_back (get_or bs 0 0) (get_or bs 1 0) (get_or bs 2 0) (get_or bs 3 0) (b 0) (b 1) (b 2) (b 3))

four-word : (bs : List ℕ) → 4 ≤ length bs → Bytes bs → is_word (value (take 4 bs)) ≡ true
unfolding u32
four-word bs h b =
    let v = value (take 4 bs) in
    let e : v ≡ v % 4294967296 = ap value (sym (four-back bs h b)) ∙ value-be 4 v in
    lt-ltb v (2 ^ 32) (omega arith)

-- what holds of the n numbers ns that the bytes bs spell
record Spelled (bs : List ℕ) (n : ℕ) (ns : List ℕ) : Type 0 where
  many : length ns ≡ n
  bytes : concat_map u32 ns ≡ bs
  words : every is_word ns ≡ true

spelled : (n : ℕ) (bs : List ℕ) → length bs ≡ 4 * n → Bytes bs → Spelled bs n (fours n bs)
spelled zero [] h b = record { many = refl; bytes = refl; words = refl }
spelled zero (x ∷ bs) h b = absurd (omega arith)
spelled (suc n) bs h b =
    let l : 4 ≤ length bs = omega arith in
    let r = spelled n (drop 4 bs) (rw (length-drop 4 bs) (omega arith)) (λ i. rw (get_or-drop 4 bs i 0) (b (4 + i))) in
    record {
      many = ap suc r.many;
      bytes = rw (four-back bs l b, r.bytes) (take-append-drop 4 bs);
      words = rw (four-word bs l b) r.words;
    }

bitmap-spelled : (s : List ℕ) (d : Span) → Bytes s → lent_in s d ≡ true → d.len % 4 ≡ 0 → Spelled (part_of s d) (d.len / 4) (numbers (part_of s d))
bitmap-spelled s d b h m =
    let l = part_length s d h in
    rw l (spelled (d.len / 4) (part_of s d) (omega (arith, l)) (part_bytes s d b))

attr_sized : (s : List ℕ) (d : Span) → Bytes s → Sized s (Operation.GetAttr d) (leb d.len 16 && (eqb (d.len % 4) 0 && lent_in s d)) (4 + d.len)
attr_sized s d b = record {
  when = go (lent_in s d) (eqb (d.len % 4) 0) refl refl;
  long = λ t.
      let ok = three (leb d.len 16) (eqb (d.len % 4) 0) (lent_in s d) t in
      let m = eqb-true (d.len % 4) 0 ok.1.0 in
      omega (arith, length-array ns, (bitmap-spelled s d b ok.1.1 m).many, m);
}
  where
    ns : List ℕ
    ns = numbers (part_of s d)

    few : d.len % 4 ≡ 0 → (t : Bool) → leb d.len 16 ≡ t → leb (d.len / 4) 4 ≡ t
    few m true e = le-leb (d.len / 4) 4 (omega (arith, leb-true d.len 16 e))
    few m false e = lt-leb (d.len / 4) 4 (omega (arith, leb-false d.len 16 e))

    go : (t u : Bool) → lent_in s d ≡ t → eqb (d.len % 4) 0 ≡ u → t && u && (leb (length ns) 4 && is_word (length ns) && every is_word ns) ≡ leb d.len 16 && (u && t)
    go true true p q =
        let m = eqb-true (d.len % 4) 0 q in
        let z = bitmap-spelled s d b p m in
        rw (z.many, z.words, limit_fits 4 (d.len / 4) (omega arith), few m (leb d.len 16) refl)
    go true false p q = sym (and_false (leb d.len 16))
    go false u p q = rw (and_false u) (sym (and_false (leb d.len 16)))

-- ---- what is written

-- a bitmap that can be written
module _ (s : List ℕ) (d : Span) (b : Bytes s) (h : writable s (Operation.GetAttr d) ≡ true) where
  pub bitmap_words : (lent_in s d ≡ true) × ((d.len % 4 ≡ 0) × (d.len ≤ 16))
  bitmap_words =
      let z = attr_sized s d b in
      let ok = three (leb d.len 16) (eqb (d.len % 4) 0) (lent_in s d) (sym z.when ∙ h) in
      (ok.1.1, (eqb-true (d.len % 4) 0 ok.1.0, leb-true d.len 16 ok.0))

  pub bitmap_length : length (args_bytes s (Operation.GetAttr d)) ≡ 4 + d.len
  bitmap_length = let z = attr_sized s d b in z.long (sym z.when ∙ h)

pub bitmap_bytes : (s : List ℕ) (d : Span) → Bytes s → lent_in s d ≡ true → d.len % 4 ≡ 0 → bitmap_args.write (numbers (part_of s d)) ≡ u32 (d.len / 4) ++ part_of s d
unfolding array
bitmap_bytes s d b h m = let z = bitmap-spelled s d b h m in rw (z.many, z.bytes)

-- ---- lengths of arguments

module _ (s : List ℕ) where
  pub read_length : (a : ReadArgs) → length (args_bytes s (Operation.Read a)) ≡ length (part_of s a.stateid) + 12
  read_length a = simp (length-append, length-u64, length-u32)

  pub region_length : (a : RegionArgs) → length (args_bytes s (Operation.Allocate a)) ≡ length (part_of s a.stateid) + 16
  region_length a = simp (length-append, length-u64)

  pub write_length : (a : WriteArgs) → length (args_bytes s (Operation.Write a)) ≡ length (part_of s a.stateid) + (12 + opaque_size (length (part_of s a.data)))
  write_length a = simp (length-append, length-u64, length-u32, length-opaque) (omega arith)

  pub clone_length : (a : CloneArgs) → length (args_bytes s (Operation.Clone a)) ≡ length (part_of s a.source) + (length (part_of s a.target) + 24)
  clone_length a = simp (length-append, length-u64)

  pub copy_length : (a : CopyArgs) → length (args_bytes s (Operation.Copy a)) ≡ length (part_of s a.clone.source) + (length (part_of s a.clone.target) + 36)
  copy_length a = simp (length-append, length-u64, length-u32, length-bool) (omega arith)

pub ruleset args_lengths = (read_length, region_length, write_length, clone_length, copy_length, length-opaque)

-- ---- sizes

pub ruleset lengths = (length-u32, length-u64, length-bool, length-opaque)

module _ (s : List ℕ) where
  pub get_fh_size : op_size s Operation.GetFh ≡ Some 4
  get_fh_size = size_is s Operation.GetFh (bare_sized s) refl

  pub restore_fh_size : op_size s Operation.RestoreFh ≡ Some 4
  restore_fh_size = size_is s Operation.RestoreFh (bare_sized s) refl

  pub save_fh_size : op_size s Operation.SaveFh ≡ Some 4
  save_fh_size = size_is s Operation.SaveFh (bare_sized s) refl

  pub get_attr_size : (d : Span) → Bytes s → op_size s (Operation.GetAttr d) ≡ cond (leb d.len 16 && (eqb (d.len % 4) 0 && lent_in s d)) (Some (8 + d.len)) None
  get_attr_size d b = size_is s (Operation.GetAttr d) (attr_sized s d b) (omega arith)

  pub put_fh_size : (d : Span) → op_size s (Operation.PutFh d) ≡ cond (leb d.len 128 && lent_in s d) (Some (4 + opaque_size d.len)) None
  put_fh_size d = size_is s (Operation.PutFh d) (handle-sized s d) (omega arith)

  module _ (a : ReadArgs) (p : a.offset < 2 ^ 64) (q : a.count < 2 ^ 32) where
    pub read_size : op_size s (Operation.Read a) ≡ cond (stateid_ok s a.stateid) (Some 32) None
    read_size = size_is s (Operation.Read a) (read-sized s a (p, q)) refl

    pub read_plus_size : op_size s (Operation.ReadPlus a) ≡ cond (stateid_ok s a.stateid) (Some 32) None
    read_plus_size = size_is s (Operation.ReadPlus a) (read-sized s a (p, q)) refl

    pub seek_size : op_size s (Operation.Seek a) ≡ cond (stateid_ok s a.stateid) (Some 32) None
    seek_size = size_is s (Operation.Seek a) (read-sized s a (p, q)) refl

  pub write_size : (a : WriteArgs) → a.offset < 2 ^ 64
      → op_size s (Operation.Write a) ≡ cond (leb a.stable 2 && (lent_in s a.data && (leb a.data.len any_length && stateid_ok s a.stateid))) (Some (32 + opaque_size a.data.len)) None
  write_size a p = size_is s (Operation.Write a) (write-sized s a p) (omega arith)

  module _ (a : RegionArgs) (p : a.offset < 2 ^ 64) (q : a.length < 2 ^ 64) where
    pub allocate_size : op_size s (Operation.Allocate a) ≡ cond (stateid_ok s a.stateid) (Some 36) None
    allocate_size = size_is s (Operation.Allocate a) (region-sized s a (p, q)) refl

    pub deallocate_size : op_size s (Operation.Deallocate a) ≡ cond (stateid_ok s a.stateid) (Some 36) None
    deallocate_size = size_is s (Operation.Deallocate a) (region-sized s a (p, q)) refl

  pub clone_size : (a : CloneArgs) → a.from < 2 ^ 64 → a.to < 2 ^ 64 → a.count < 2 ^ 64
      → op_size s (Operation.Clone a) ≡ cond (stateid_ok s a.source && stateid_ok s a.target) (Some 60) None
  clone_size a p q r = size_is s (Operation.Clone a) (clone-sized s a (p, (q, r))) refl

  pub copy_size : (a : CopyArgs) → a.clone.from < 2 ^ 64 → a.clone.to < 2 ^ 64 → a.clone.count < 2 ^ 64
      → op_size s (Operation.Copy a)
      ≡ cond (leb a.consecutive 1 && (leb a.synchronous 1 && (stateid_ok s a.clone.source && stateid_ok s a.clone.target))) (Some 72) None
  copy_size a p q r = size_is s (Operation.Copy a) (copy-sized s a (p, (q, r))) refl

pub ruleset op_sizes = (get_fh_size, restore_fh_size, save_fh_size, get_attr_size, put_fh_size, read_size, read_plus_size, seek_size, write_size, allocate_size, deallocate_size, clone_size, copy_size)
