-- How long the bodies of GETATTR, READ, READ_PLUS, SEEK, WRITE and COPY are: at most 2,171 bytes.
use Prim.Native.Nat.{ℕ, zero, suc, ◌+◌, ◌-◌, ◌*◌, ◌/◌, ◌%◌, ◌≤◌, ◌<◌, min}
use mathlib.Core.Path.{◌≡◌, refl, ap}
use mathlib.Core.Bool.{Bool, true, false, cond, beq}
use mathlib.Core.List.{List, [], ◌∷◌}
use native.Mathlib.Nat.{le_refl, le_trans, le-div_iff_mul-le}
use native.Mathlib.Decide.{dec_lt}
use native.Mathlib.Omega.{arith}
use borrow.Author.Tests.{lt-ltb}
use lib.ListN.{length, replicate, length-append, get_or-eq_default}
use Rattle.xdr.specs.Encode.{opaque, pad_bytes, concat_map}
use Rattle.xdr.proofs.EncodeLaws.{length-u32, length-u64, length-bool, length-opaque}
use Rattle.rules.specs.Store.{Geometry, Store, size_of, byte_at, bytes_from}
use Rattle.rules.specs.Read.{Piece, join, pieces, granted, read_count, read_pieces}
use Rattle.rules.specs.Attributes.{Attr, attr_number, supported, select, asks_for, file_attrs, attr_value}
use Rattle.rules.specs.Operation.{getattr_reply, hole_piece, data_piece, piece_bytes, read_reply, read_plus_reply, seek_reply, write_reply, copy_reply}
use Rattle.rules.specs.Claim.{laid}
use Rattle.rules.proofs.SoundStore.{div_le, div_ge, Sound}
use Rattle.rules.proofs.SlotByteLaws.{length_tab}
use Rattle.rules.proofs.AttributeLaws.{bitmap-most, values_most}
use Rattle.rules.proofs.ReadLaws.{pieces_none, read-plus-laid}

pub pad-most : (n m : ℕ) → n ≤ m → m % 4 ≡ 0 → n + pad_bytes n ≤ m
pad-most n m h e = omega arith

opaque-most : (d : List ℕ) (m : ℕ) → length d ≤ m → m % 4 ≡ 0 → length (opaque d) ≤ 4 + m
opaque-most d m h e = omega (arith, length-opaque d, pad-most (length d) m h e)

-- ---- GETATTR

pub getattr_most : (g : Geometry) (st : Store) (f : ℕ) (ws : List ℕ) → length (getattr_reply g st f ws) ≤ 2171
unfolding getattr_reply
getattr_most g st f ws =
    let p : Attr → Bool = λ a. asks_for ws (attr_number a) in
    let v = file_attrs g st f in
    simp length-append (omega (arith, bitmap-most p, opaque-most (concat_map (attr_value v) (select p supported)) 44 (values_most v p) refl))

-- ---- READ_PLUS

join-length : (p : Piece) (qs : List Piece) → length (join p qs) ≤ suc (length qs)
unfolding join
join-length p [] = le_refl 1
join-length p (q ∷ qs) = go (beq p.hole q.hole)
  where
    go : (t : Bool) → length {A = Piece} (elim t [ true ↦ record { hole = p.hole; start = p.start; size = p.size + q.size } ∷ qs | false ↦ p ∷ q ∷ qs ]) ≤ suc (suc (length qs))
    go true = omega arith
    go false = omega arith

module _ (g : Geometry) (pos : 0 < g.B) (st : Store) (f : ℕ) where
  div_mono : (i j : ℕ) → i ≤ j → i / g.B ≤ j / g.B
  div_mono i j l = div_le pos i (j / g.B) (omega (arith, div_ge pos j (j / g.B) (le_refl _)))

  -- as many pieces as slots at most
  pieces-few : (end k i : ℕ) → i < end → length (pieces g st f end k i) + i / g.B ≤ (end - 1) / g.B + 1
  unfolding pieces
  pieces-few end zero i h = omega (arith, div_mono i (end - 1) (omega arith))
  pieces-few end (suc k) i h = rw (lt-ltb i end h, pieces) (le_trans (more (join-length _ rest)) (go (pieces-few end k next) (dec_lt next end)))
    where
      next : ℕ
      next = min end ((i / g.B + 1) * g.B)

      rest : List Piece
      rest = pieces g st f end k next

      more : {n m : ℕ} → n ≤ m → n + i / g.B ≤ m + i / g.B
      more h = omega arith

      go : (next < end → length rest + next / g.B ≤ (end - 1) / g.B + 1) → Dec (next < end) → suc (length rest) + i / g.B ≤ (end - 1) / g.B + 1
      go ih (yes l) = omega (arith, ih l, (le-div_iff_mul-le {k = g.B} {x = i / g.B + 1} {y = next} pos).1 (omega arith))
      go ih (no d) = omega (arith, ap length (pieces_none g st f end k next (omega (arith, d))), div_mono i (end - 1) (omega arith))

  piece-most : (p : Piece) → length (piece_bytes g st f p) ≤ 23 + length (laid g st f p)
  piece-most p = go p.hole
    where
      go : (t : Bool) → length (cond t (hole_piece.write (1, (p.start, p.size))) (data_piece.write (0, (p.start, bytes_from g st f p.start p.size))))
          ≤ 23 + length (cond t (replicate p.size 0) (bytes_from g st f p.start p.size))
      go true = simp (length-append, length-u32, length-u64) (omega arith)
      go false = simp (length-append, length-u32, length-u64, length-opaque) (omega arith)

  all_most : (ps : List Piece) → length (concat_map (piece_bytes g st f) ps) ≤ 23 * length ps + length (concat_map (laid g st f) ps)
  all_most [] = omega arith
  all_most (p ∷ ps) = simp length-append (omega (arith, piece-most p, all_most ps))

  pub read-most : (off n : ℕ) → length (read_reply g st f off n) ≤ 2171
  unfolding read_reply
  read-most off n =
      simp (length-append, length-bool) (omega (arith, opaque-most (bytes_from g st f off (read_count st f off n)) 2048 (rw (length_tab (byte_at g st f) (read_count st f off n) off) (omega arith)) refl))

  -- at most five pieces
  pub pieces-most : 512 ≤ g.B → (off n : ℕ) → length (read_pieces g st f off n) ≤ 5
  pieces-most wide off n = go (dec_lt off end)
    where
      end : ℕ
      end = min (off + granted n) (size_of st f)

      go : Dec (off < end) → length (read_pieces g st f off n) ≤ 5
      go (yes l) = omega (arith, pieces-few end (suc g.S) off l, div_le pos (end - 1) (off / g.B + 4) (omega (arith, div_ge pos off (off / g.B) (le_refl _))))
      go (no d) = omega (arith, ap length (pieces_none g st f end (suc g.S) off (omega (arith, d))))

  pub read-plus-most : 512 ≤ g.B → size_of st f ≤ g.S * g.B → (off n : ℕ) → length (read_plus_reply g st f off n) ≤ 2171
  unfolding read_plus_reply
  read-plus-most wide fits off n = simp (length-append, length-bool, length-u32) (omega (arith, all_most ps, pieces-most wide off n, total))
    where
      end : ℕ
      end = min (off + granted n) (size_of st f)

      ps : List Piece
      ps = read_pieces g st f off n

      total : length (concat_map (laid g st f) ps) ≤ 2048
      total = rw (read-plus-laid g pos st f off end (omega arith)) (rw length_tab (omega arith))

-- ---- SEEK, WRITE and COPY

pub seek_most : (g : Geometry) (st : Store) (f off what : ℕ) → length (seek_reply g st f off what) ≤ 2171
unfolding seek_reply
seek_most g st f off what = simp (length-append, length-bool, length-u64) (omega arith)

pub write-most : (n : ℕ) (v : List ℕ) → length v ≡ 8 → length (write_reply n v) ≤ 2171
write-most n v h = simp (length-append, length-u32) (omega (arith, h))

pub copy-most : (n : ℕ) (v : List ℕ) → length v ≡ 8 → length (copy_reply n v) ≤ 2171
copy-most n v h = simp (length-append, length-u32, length-u64, length-bool) (omega (arith, h))

-- ---- any file's size, also of a file that isn't there

pub any_file : (g : Geometry) (st : Store) → Sound g st → (f : ℕ) → size_of st f ≤ g.S * g.B
any_file g st s f = go (dec_lt f g.F)
  where
    go : Dec (f < g.F) → size_of st f ≤ g.S * g.B
    go (yes h) = s.fits f h
    go (no d) = rw (get_or-eq_default st.sizes 0 {n = f} (omega (arith, s.files, d))) (omega arith)
