-- The bodies of results read back: what the rules write for an operation without error is a value of its layout.
use Prim.Native.Nat.{ℕ, zero, suc, ◌+◌, ◌*◌, ◌^◌, ◌≤◌, ◌<◌}
use mathlib.Core.Path.{◌≡◌, refl, sym, ap, ◌∙◌, subst}
use mathlib.Core.Bool.{Bool, true, false, cond}
use mathlib.Core.Option.{Option, none, some}
use mathlib.Core.List.{List, [], ◌∷◌, ◌++◌, Memᴰ}
use native.Mathlib.Nat.{add_assoc, add-zero}
use native.Mathlib.Omega.{arith}
use borrow.Author.Tests.{ltb-false, lt-ltb, le-leb, eq-eqb}
use lib.ListN.{length, length-append}
use lib.Dec.{eqb}
use Rattle.xdr.specs.Encode.{u32, u64, opaque, concat_map}
use Rattle.xdr.specs.Decode.{Parsed, got, fault, and_then, Reader, ret}
use Rattle.xdr.specs.Layout.{Layout, every, is_word, uint, hyper, up_to_limit, boolean, bytes, opaque_data, any_length, uints, ◌then◌}
use Rattle.xdr.proofs.BoolLaws.{and_left, and_right, and_both}
use Rattle.xdr.proofs.EncodeLaws.{length-u32}
use Rattle.xdr.proofs.RoundTrip.{Stands, stands-first, stands-rest, bounded-back}
use Rattle.xdr.proofs.LayoutLaws.{ReadsBack, uint-back, hyper-back, limit_back, boolean-back, bytes_back, opaque_data_back, then-back, times-back}
use Rattle.xdr.proofs.ArrayLaws.{uints-back}
use Rattle.rules.specs.Lists.{first}
use Rattle.rules.specs.Store.{Geometry, Store, size_of, byte_at, bytes_from}
use Rattle.rules.specs.Read.{Piece, read_count, is_at_end, read_pieces, seek_place}
use Rattle.rules.specs.Attributes.{Attr, attr_number, supported, select, asks_for, bitmap_word, bitmap_length, bitmap, FileAttrs, file_attrs, attr_value}
use Rattle.rules.specs.Operation.{Op, GETATTR, GETFH, RESTOREFH, SAVEFH, PUTFH, READ, READ_PLUS, WRITE, ALLOCATE, DEALLOCATE, SEEK, COPY, CLONE, op_number, reading, find, attr_result, handle_result, read_result, read_plus_result, data_piece, hole_piece, seek_result, write_result, copy_result, getattr_reply, read_reply, piece_bytes, read_plus_reply, seek_reply, file_sync}
use Rattle.rules.specs.Run.{State, file_of, errors, does, body}
use Rattle.rules.specs.Client.{Content, data_at, hole_at, piece_layout, pieces_result, Body, empty, attrs, handle, file_data, written, copied, pieces, sought, body_bytes, bodies, body_by}
use Rattle.rules.proofs.FirstLaws.{all-clear}
use Rattle.rules.proofs.GeometryLaws.{Good, block-pos, file-most, file-small}
use Rattle.rules.proofs.SlotByteLaws.{length_tab}
use Rattle.rules.proofs.AttributeLaws.{words-most, bitmap-words, values_most}
use Rattle.rules.proofs.PieceLaws.{pieces_right}
use Rattle.rules.proofs.ErrorLaws.{write-clear, copy-clear, meant}
use Rattle.rules.proofs.BodyLaws.{pieces-most, any_file}
use Rattle.rules.proofs.SeekLaws.{seek_finds}
use Rattle.rules.proofs.OperationLaws.{Ready}

-- ---- the layouts of results

attr_result_lem : ReadsBack attr_result
attr_result_lem = then-back (uints any_length) (opaque_data any_length) (uints-back any_length) (opaque_data_back any_length)

read_result_lem : ReadsBack read_result
read_result_lem = then-back boolean (opaque_data any_length) boolean-back (opaque_data_back any_length)

seek_result_lem : ReadsBack seek_result
seek_result_lem = then-back boolean hyper boolean-back hyper-back

write_result_lem : ReadsBack write_result
write_result_lem = then-back uint (up_to_limit 2 then bytes 8) uint-back (then-back (up_to_limit 2) (bytes 8) (limit_back 2) (bytes_back 8))

copy_result_lem : ReadsBack copy_result
copy_result_lem =
    then-back (up_to_limit 0) (hyper then up_to_limit 2 then bytes 8 then boolean then boolean) (limit_back 0)
    (then-back hyper (up_to_limit 2 then bytes 8 then boolean then boolean) hyper-back
    (then-back (up_to_limit 2) (bytes 8 then boolean then boolean) (limit_back 2)
    (then-back (bytes 8) (boolean then boolean) (bytes_back 8) (then-back boolean boolean boolean-back boolean-back))))

data_piece_lem : ReadsBack data_piece
data_piece_lem = then-back uint (hyper then opaque_data any_length) uint-back (then-back hyper (opaque_data any_length) hyper-back (opaque_data_back any_length))

hole_piece_lem : ReadsBack hole_piece
hole_piece_lem = then-back uint (hyper then hyper) uint-back (then-back hyper hyper hyper-back hyper-back)

pub piece_back : ReadsBack piece_layout
piece_back (data_at o d) h s at w =
    rw (bounded-back 1 0 s at (stands-first (u32 0) (u64 o ++ opaque d) w) (omega arith) (omega arith), data_piece_lem (0, (o, d)) h s at w)
piece_back (hole_at o n) h s at w =
    rw (bounded-back 1 1 s at (stands-first (u32 1) (u64 o ++ u64 n) w) (omega arith) (omega arith), hole_piece_lem (1, (o, n)) h s at w)

pub pieces-back : ReadsBack pieces_result
pieces-back (e, ps) h s at w =
    let few : is_word (length ps) ≡ true = and_left (is_word (length ps)) (every piece_layout.fits ps) h in
    let head = read_plus_result.write (e, length ps) in
    let rest = concat_map piece_layout.write ps in
    rw (
      then-back boolean uint boolean-back uint-back (e, length ps) few s at (stands-first head rest w),
      times-back piece_layout piece_back ps (and_right (is_word (length ps)) (every piece_layout.fits ps) h) s (at + length head) (stands-rest head rest w),
      length-append head rest,
      add_assoc at (length head) (length rest),
    )

-- ---- a body that is read back under its operation's number

pub record Shown (n : ℕ) (bs : List ℕ) : Type 0 where
  pub body : Body
  pub bytes_are : body_bytes body ≡ bs
  pub reads : (s : List ℕ) (at : ℕ) → Stands s at bs → body_by n 0 s at ≡ got body (at + length bs)

-- by its layout
shown-as : {A : Type 0} (n : ℕ) (l : Layout A) (f : A → Body) → ReadsBack l → find n bodies ≡ some (reading l f) → (a : A) → l.fits a ≡ true → body_bytes (f a) ≡ l.write a
    → Shown n (l.write a)
shown-as n l f back is a fits e = record {
  body = f a;
  bytes_are = e;
  reads = λ s at w.
      ap (λ (u : Option (Reader Body)). elim u [ none ↦ fault at | some r ↦ r s at ]) is
      ∙ ap (λ (t : Parsed _). and_then t (λ a next. got (f a) next)) (back a fits s at w);
}

shown-empty : (n : ℕ) → find n bodies ≡ some (ret empty) → Shown n []
shown-empty n is = record {
  body = empty;
  bytes_are = refl;
  reads = λ s at w. ap (λ (u : Option (Reader Body)). elim u [ none ↦ fault at | some r ↦ r s at ]) is ∙ ap (got empty) (sym (add-zero at));
}

-- ---- the values that the rules write fit their layouts

-- opaque data of at most n bytes
opaque-fits : (d : List ℕ) (n : ℕ) → length d ≤ n → n < 2 ^ 32 → (opaque_data any_length).fits d ≡ true
opaque-fits d n h k = rw (le-leb (length d) any_length (omega arith), lt-ltb (length d) (2 ^ 32) (omega arith))

attrs-fit : (v : FileAttrs) (p : Attr → Bool) → attr_result.fits (bitmap (select p supported), concat_map (attr_value v) (select p supported)) ≡ true
attrs-fit v p =
    let words = bitmap (select p supported) in
    let few : length words ≤ 3 = omega (arith, length_tab (bitmap_word (select p supported)) (bitmap_length (select p supported)) 0, words-most p) in
    rw (
      le-leb (length words) any_length (omega arith),
      lt-ltb (length words) (2 ^ 32) (omega arith),
      bitmap-words p,
      opaque-fits (concat_map (attr_value v) (select p supported)) 44 (values_most v p) (omega arith),
    )

read_fits : (g : Geometry) (st : Store) (f off n : ℕ) (e : Bool) → read_result.fits (e, bytes_from g st f off (read_count st f off n)) ≡ true
read_fits g st f off n e = opaque-fits (bytes_from g st f off (read_count st f off n)) 2048 (rw (length_tab (byte_at g st f) (read_count st f off n) off) (omega arith)) (omega arith)

write-fits : (n : ℕ) (v : List ℕ) → n < 2 ^ 32 → length v ≡ 8 → write_result.fits (n, (file_sync, v)) ≡ true
write-fits n v h k = rw (lt-ltb n (2 ^ 32) h, eq-eqb (length v) 8 k)

copy-fits : (n : ℕ) (v : List ℕ) → n < 2 ^ 64 → length v ≡ 8 → copy_result.fits (0, (n, (file_sync, (v, (true, true))))) ≡ true
copy-fits n v h k = rw (lt-ltb n (2 ^ 64) h, eq-eqb (length v) 8 k)

-- ---- READ_PLUS's pieces

module _ (g : Geometry) (st : Store) (f : ℕ) where
  abbrev content_of : Piece → Content
  content_of p = cond p.hole (hole_at p.start p.size) (data_at p.start (bytes_from g st f p.start p.size))

  abbrev contents : List Piece → List Content
  contents [] = []
  contents (p ∷ ps) = content_of p ∷ contents ps

  piece_is : (p : Piece) → piece_layout.write (content_of p) ≡ piece_bytes g st f p
  piece_is p = go p.hole
    where
      go : (t : Bool) → piece_layout.write (cond t (hole_at p.start p.size) (data_at p.start (bytes_from g st f p.start p.size)))
          ≡ cond t (hole_piece.write (1, (p.start, p.size))) (data_piece.write (0, (p.start, bytes_from g st f p.start p.size)))
      go true = refl
      go false = refl

  pieces_are : (ps : List Piece) → concat_map piece_layout.write (contents ps) ≡ concat_map (piece_bytes g st f) ps
  pieces_are [] = refl
  pieces_are (p ∷ ps) = rw (piece_is p, pieces_are ps)

  as_many : (ps : List Piece) → length (contents ps) ≡ length ps
  as_many [] = refl
  as_many (p ∷ ps) = ap suc (as_many ps)

  piece-fits : (p : Piece) → p.start < 2 ^ 32 → p.size < 2 ^ 32 → piece_layout.fits (content_of p) ≡ true
  piece-fits p h k = go p.hole
    where
      go : (t : Bool) → piece_layout.fits (cond t (hole_at p.start p.size) (data_at p.start (bytes_from g st f p.start p.size))) ≡ true
      go true = rw (lt-ltb p.start (2 ^ 64) (omega arith), lt-ltb p.size (2 ^ 64) (omega arith))
      go false =
          rw (lt-ltb p.start (2 ^ 64) (omega arith))
          (opaque-fits (bytes_from g st f p.start p.size) p.size (rw (length_tab (byte_at g st f) p.size p.start) (omega arith)) k)

  pieces-fit : (ps : List Piece) → ((p : Piece) → Memᴰ p ps → (p.start < 2 ^ 32) × (p.size < 2 ^ 32)) → every piece_layout.fits (contents ps) ≡ true
  pieces-fit [] h = refl
  pieces-fit (p ∷ ps) h =
      let k = h p (Memᴰ.head refl) in
      and_both (piece_layout.fits (content_of p)) (every piece_layout.fits (contents ps)) (piece-fits p k.0 k.1) (pieces-fit ps (λ q m. h q (Memᴰ.tail m)))

  read-plus-shown : Good g → size_of st f ≤ g.S * g.B → (off n : ℕ) → Shown 68 (read_plus_reply g st f off n)
  unfolding read_plus_reply
  read-plus-shown bd fits off n =
      rw (sym (ap (λ (m : ℕ). read_plus_result.write (is_at_end st f off n, m)) (as_many ps)), sym (pieces_are ps))
      (shown-as 68 pieces_result (λ a. pieces a.0 a.1) pieces-back refl (is_at_end st f off n, contents ps) fit refl)
    where
      ps : List Piece
      ps = read_pieces g st f off n

      fit : pieces_result.fits (is_at_end st f off n, contents ps) ≡ true
      fit =
          and_both (is_word (length (contents ps))) (every piece_layout.fits (contents ps))
          (lt-ltb (length (contents ps)) (2 ^ 32) (omega (arith, as_many ps, pieces-most g (block-pos bd) st f bd.block off n)))
          (pieces-fit ps (λ p m. let i = (pieces_right g (block-pos bd) st f fits off n).inside p m in (omega (arith, i, file-most g bd), omega (arith, i, file-most g bd))))

-- ---- every operation without error, a row each

-- a number that is small where it isn't 0
few : (n : ℕ) → (0 < n → n < 2 ^ 32) → n < 2 ^ 32
few zero h = omega arith
few (suc n) h = h (omega arith)

module _ (g : Geometry) (bd : Good g) (x : State) (r : Ready g x) (v : List ℕ) (hv : length v ≡ 8) where
  abbrev file : ℕ
  file = file_of x.current

  file-fits : size_of x.store file ≤ g.S * g.B
  file-fits = any_file g x.store r.sound file

  getattr_shown : (ws : List ℕ) → Shown 9 (getattr_reply g x.store file ws)
  unfolding getattr_reply
  getattr_shown ws =
      let p : Attr → Bool = λ a. asks_for ws (attr_number a) in
      let w = file_attrs g x.store file in
      shown-as 9 attr_result (λ a. attrs a.0 a.1) attr_result_lem refl (bitmap (select p supported), concat_map (attr_value w) (select p supported)) (attrs-fit w p) refl

  read-shown : (off n : ℕ) → Shown 25 (read_reply g x.store file off n)
  unfolding read_reply
  read-shown off n =
      shown-as 25 read_result (λ a. file_data a.0 a.1) read_result_lem refl (is_at_end x.store file off n, bytes_from g x.store file off (read_count x.store file off n))
      (read_fits g x.store file off n (is_at_end x.store file off n)) refl

  seek_shown : (i : List ℕ) (off what : ℕ) → first (errors g x (SEEK i off what)) ≡ 0 → Shown 69 (seek_reply g x.store file off what)
  unfolding seek_reply errors
  seek_shown i off what h =
      let c = all-clear (errors g x (SEEK i off what)) refl h in
      let place = seek_place g x.store file (eqb what 1) off in
      let most = (seek_finds g (block-pos bd) x.store file file-fits (eqb what 1) off (ltb-false _ _ c.1.1.1.0)).to in
      shown-as 69 seek_result (λ a. sought a.0 a.1) seek_result_lem refl (eqb place (size_of x.store file), place)
      (lt-ltb place (2 ^ 64) (omega (arith, most, file-fits, file-small bd))) refl

  pub body-shown : (o : Op) → first (errors g x o) ≡ 0 → Shown (op_number o) (body g v x o)
  unfolding body does
  body-shown (GETATTR ws) h = getattr_shown ws
  body-shown GETFH h =
      shown-as 10 handle_result handle (opaque_data_back 128) refl (u32 (file_of x.current)) (rw (length-u32 (file_of x.current))) refl
  body-shown (PUTFH d) h = shown-empty 22 refl
  body-shown (READ i o n) h = read-shown o n
  body-shown RESTOREFH h = shown-empty 31 refl
  body-shown SAVEFH h = shown-empty 32 refl
  body-shown (WRITE i o s d) h =
      let c = write-clear g x i o s d h in
      shown-as 38 write_result (λ a. written a.0 a.1.0 a.1.1) write_result_lem refl (length d, (file_sync, v))
      (write-fits (length d) v (few (length d) (λ l. omega (arith, c.fits l, file-most g bd))) hv) refl
  body-shown (ALLOCATE i o n) h = shown-empty 59 refl
  body-shown (COPY i j s o n ca sy) h =
      let c = copy-clear g x i j s o n ca sy h in
      shown-as 60 copy_result (λ a. copied a.1.0 a.1.1.0 a.1.1.1.0 a.1.1.1.1.0 a.1.1.1.1.1) copy_result_lem refl (0, (meant x s n, (file_sync, (v, (true, true)))))
      (copy-fits (meant x s n) v (omega (arith, c.sum)) hv) refl
  body-shown (DEALLOCATE i o n) h = shown-empty 62 refl
  body-shown (READ_PLUS i o n) h = read-plus-shown g x.store (file_of x.current) bd file-fits o n
  body-shown (SEEK i o what) h = seek_shown i o what h
  body-shown (CLONE i j s o n) h = shown-empty 71 refl

  -- what is read of a WRITE
  pub write-shown : (i : List ℕ) (p s : ℕ) (d : List ℕ) (o : Op) → o ≡ WRITE i p s d → (h : first (errors g x o) ≡ 0) → (body-shown o h).body ≡ written (length d) file_sync v
  unfolding body-shown shown-as
  write-shown i p s d o e =
      subst (λ (y : Op). (h : first (errors g x y) ≡ 0) → (body-shown y h).body ≡ written (length d) file_sync v) (sym e) (λ h. refl)
