-- Laws on a request: its operations one after the other, and what the rules say of one that is written or refused.
use Prim.Native.Nat.{ℕ, suc, ◌+◌, ◌≤◌, ◌<◌}
use mathlib.Core.Path.{◌≡◌, refl, sym, ap, ◌∙◌}
use mathlib.Core.Bool.{Bool, true, false, cond, ◌&&◌}
use mathlib.Core.Option.{Option, none, some}
use mathlib.Core.List.{List, [], ◌∷◌, ◌++◌, map, append-nil}
use native.Mathlib.Nat.{zero-add}
use native.Mathlib.Numerals.{add-one}
use native.Mathlib.Omega.{arith}
use borrow.Author.Tests.{lt-ltb, le-ltb, le-leb, lt-leb}
use lib.ListN.{length, get_or, take, drop, length-append, length-map}
use lib.Seq.{take-suc, drop-cons}
use lib.Dec.{leb}
use Rattle.xdr.specs.Bytes.{splice}
use Rattle.xdr.specs.Encode.{pad_bytes, concat_map}
use Rattle.xdr.specs.Layout.{every}
use Rattle.xdr.specs.Writing.{Wrote}
use Rattle.xdr.specs.declared.writer.Writer.{Writer}
use Rattle.xdr.proofs.BoolLaws.{and_left, and_right, and_false}
use Rattle.xdr.proofs.EncodeLaws.{length-u32, length-opaque}
use Rattle.xdr.proofs.ArrayLaws.{concat_map_append}
use Rattle.xdr.proofs.WritingLaws.{wrote_then, wrote_spliced}
use Rattle.rules.specs.Operation.{Op, op_bytes, op_fits, header_layout, request_bytes}
use Rattle.rules.specs.Client.{request_fits, not_written, wrote}
use Rattle.wire.specs.declared.operation.Operation.{Operation}
use Rattle.wire.specs.Decoded.{meaning}
use Rattle.client.specs.Given.{well_given, given, writable, ops_bytes}
use Rattle.client.proofs.WriteLaws.{both}

-- ---- operations, one after the other

-- what a slice of operations has past its end
abbrev pub past : Operation
past = Operation.GetAttr (record { start = 0; len = 0 })

module _ (s : List ℕ) (ops : List Operation) (i : ℕ) (h : i < length ops) where
  abbrev o : Operation
  o = get_or ops i past

  -- those from the i-th on
  left_is : drop i ops ≡ o ∷ drop (i + 1) ops
  left_is = rw add-one (drop-cons ops i past h)

  pub left_writable : every (writable s) (drop i ops) ≡ writable s o && every (writable s) (drop (i + 1) ops)
  left_writable = ap (every (writable s)) left_is

  pub left_length : length (ops_bytes s (drop i ops)) ≡ length (op_bytes (meaning s o)) + length (ops_bytes s (drop (i + 1) ops))
  left_length = ap (λ (os : List Operation). length (ops_bytes s os)) left_is ∙ length-append (op_bytes (meaning s o)) (ops_bytes s (drop (i + 1) ops))

  -- those before it, and it
  pub ops_wrote : {x y z : Writer} → Wrote (ops_bytes s (take i ops)) x y → Wrote (op_bytes (meaning s o)) y z → Wrote (ops_bytes s (take (i + 1) ops)) x z
  ops_wrote f g =
      rw (add-one i, take-suc ops i past h, concat_map_append (λ p. op_bytes (meaning s p)) (take i ops) (o ∷ []), append-nil) (wrote_then f g)

-- ---- what the rules say of a request

-- the header of one with n operations
abbrev pub header_bytes : List ℕ → ℕ → List ℕ
header_bytes tag n = header_layout.write (tag, (2, n))

pub header_length : (tag : List ℕ) (n : ℕ) → length (header_bytes tag n) ≡ 12 + (length tag + pad_bytes (length tag))
header_length tag n = simp (length-append, length-opaque, length-u32) (omega arith)

start_splice : (x bs : List ℕ) → splice x 0 bs ≡ bs ++ drop (length bs) x
unfolding splice
start_splice x bs = rw (zero-add (length bs))

-- operations xs that can be written, and the rules' operations os that they stand for
record Exact (s : List ℕ) (xs : List Operation) (os : List Op) : Type 0 where
  stand : given s xs ≡ some os
  fit : every op_fits os ≡ true
  bytes : concat_map op_bytes os ≡ ops_bytes s xs

exact : (s : List ℕ) (xs : List Operation) → every (writable s) xs ≡ true → Exact s xs (map (meaning s) xs)
exact s [] h = record { stand = refl; fit = refl; bytes = refl }
exact s (o ∷ xs) h =
    let k = both (writable s o) (every (writable s) xs) h in
    let t = both (well_given s o) (op_fits (meaning s o)) k.0 in
    let r = exact s xs k.1 in
    record { stand = rw (t.0, r.stand); fit = rw t.1 r.fit; bytes = rw r.bytes }

pub none≢some : {os : List Op} → ◌≡◌ {A = Option (List Op)} none (some os) → ⊥
none≢some e = cc

-- of operations that stand for the rules' there are as many, and where those fit, all can be written
pub record Stands (s : List ℕ) (xs : List Operation) (os : List Op) : Type 0 where
  pub many : length os ≡ length xs
  pub all : every op_fits os ≡ true → every (writable s) xs ≡ true

pub stands : (s : List ℕ) (xs : List Operation) (os : List Op) → given s xs ≡ some os → Stands s xs os
stands s [] os e = let n : [] ≡ os = cc in record { many = ap length (sym n); all = λ h. refl }
stands s (o ∷ xs) os e = go (well_given s o) refl (given s xs) (stands s xs) e
  where
    go : (t : Bool) → well_given s o ≡ t → (u : Option (List Op)) → ((ps : List Op) → u ≡ some ps → Stands s xs ps)
        → cond t (elim u [ none ↦ none | some ps ↦ some (meaning s o ∷ ps) ]) none ≡ some os → Stands s (o ∷ xs) os
    go false w u ih e = absurd (none≢some e)
    go true w none ih e = absurd (none≢some e)
    go true w (some ps) ih e =
        let q : meaning s o ∷ ps ≡ os = cc in
        let r = ih ps refl in
        record {
          many = ap length (sym q) ∙ ap suc r.many;
          all = λ h.
              let f = both (op_fits (meaning s o)) (every op_fits ps) (ap (every op_fits) q ∙ h) in
              rw (w, f.0) (r.all f.1);
        }

-- the header, and the operations behind it
abbrev pub size_is : List ℕ → List ℕ → List Operation → ℕ
size_is s tag ops = 12 + (length tag + pad_bytes (length tag)) + length (ops_bytes s ops)

module _ (s tag : List ℕ) (ops : List Operation) (buf : List ℕ) where
  pub refuses : (u : Option (List Op)) → ((os : List Op) → u ≡ some os → request_fits tag os ≡ false) → wrote tag u buf ≡ not_written 11 buf
  unfolding wrote
  refuses none h = refl
  refuses (some os) h = rw (h os refl, wrote)

  pub many_operations : 12 < length ops → wrote tag (given s ops) buf ≡ not_written 11 buf
  many_operations h = refuses (given s ops) (λ os e. let n = (stands s ops os e).many in rw (lt-leb (length os) 12 (omega arith)))

  pub long_tag : 1024 < length tag → wrote tag (given s ops) buf ≡ not_written 11 buf
  long_tag h = refuses (given s ops) (λ os e. rw (lt-leb (length tag) 1024 h, and_false (leb (length os) 12 && every op_fits os)))

  fitting : (os : List Op) → request_fits tag os ≡ true → every op_fits os ≡ true
  fitting os f = and_right (leb (length os) 12) (every op_fits os) (and_left (leb (length os) 12 && every op_fits os) (leb (length tag) 1024) (and_left (leb (length os) 12 && every op_fits os && leb (length tag) 1024) (leb (length (request_bytes tag os)) 65536) f))

  pub not_writable : every (writable s) ops ≡ false → wrote tag (given s ops) buf ≡ not_written 11 buf
  not_writable h = refuses (given s ops) (λ os e. go os e (request_fits tag os) refl)
    where
      go : (os : List Op) → given s ops ≡ some os → (t : Bool) → request_fits tag os ≡ t → request_fits tag os ≡ false
      go os e false f = f
      go os e true f = let w = (stands s ops os e).all (fitting os f) in cc

  module _ (w : every (writable s) ops ≡ true) where
    means : List Op
    means = map (meaning s) ops

    all : Exact s ops means
    unfolding means
    all = exact s ops w

    number : length means ≡ length ops
    unfolding means
    number = length-map ops (meaning s)

    bytes : request_bytes tag means ≡ header_bytes tag (length ops) ++ ops_bytes s ops
    unfolding request_bytes
    bytes = rw (number, all.bytes)

    long : length (request_bytes tag means) ≡ size_is s tag ops
    long = ap length bytes ∙ length-append (header_bytes tag (length ops)) (ops_bytes s ops) ∙ rw (header_length tag (length ops))

    pub long_request : 65536 < size_is s tag ops → wrote tag (given s ops) buf ≡ not_written 11 buf
    long_request h = rw all.stand (refuses (some means) (λ os e. let q : means ≡ os = cc in rw (← q, lt-leb (length (request_bytes tag means)) 65536 (omega (arith, long)), and_false (leb (length means) 12 && every op_fits means && leb (length tag) 1024))))

    module _ (few : length ops ≤ 12) (tagged : length tag ≤ 1024) (small : size_is s tag ops ≤ 65536) where
      fits : request_fits tag means ≡ true
      fits = rw (number, le-leb (length ops) 12 few, all.fit, le-leb (length tag) 1024 tagged, long) (le-leb (size_is s tag ops) 65536 small)

      pub no_room : length buf < size_is s tag ops → wrote tag (given s ops) buf ≡ not_written 9 buf
      unfolding wrote
      no_room h = rw (all.stand, fits, lt-ltb (length buf) (length (request_bytes tag means)) (omega (arith, long)), wrote)

      pub has_room : size_is s tag ops ≤ length buf → wrote tag (given s ops) buf
          ≡ record { number = 0; written = size_is s tag ops; buffer = (header_bytes tag (length ops) ++ ops_bytes s ops) ++ drop (size_is s tag ops) buf }
      unfolding wrote
      has_room h = rw (all.stand, fits, le-ltb (length buf) (length (request_bytes tag means)) (omega (arith, long)), wrote, long, bytes)

      pub request_written : size_is s tag ops ≤ length buf → {x y : Writer} {after : List ℕ} → x.at ≡ 0 → x.out.now ≡ buf
          → Wrote (header_bytes tag (length ops) ++ ops_bytes s ops) x y → after ≡ y.out.now
          → record { number = 0; written = y.at; buffer = after } ≡ wrote tag (given s ops) buf
      request_written h {x} {y} p q f e =
          let bs : List ℕ = header_bytes tag (length ops) ++ ops_bytes s ops in
          let n : length bs ≡ size_is s tag ops = sym (ap length bytes) ∙ long in
          let at : y.at ≡ size_is s tag ops = omega (arith, f.place, p, n) in
          let whole : y.out.now ≡ bs ++ drop (size_is s tag ops) buf
          = wrote_spliced f ∙ ap (λ (k : ℕ). splice x.out.now k bs) p ∙ ap (λ (l : List ℕ). splice l 0 bs) q ∙ start_splice buf bs ∙ ap (λ (k : ℕ). bs ++ drop k buf) n in
          rw (has_room h, at, e, whole)

pub ruleset refusals = (many_operations, long_tag, not_writable, long_request, no_room, header_length)
