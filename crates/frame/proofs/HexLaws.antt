-- Laws on hexadecimal: the bytes of the digits that are left, and the digits of bytes.
use Prim.Native.Nat.{ℕ, suc, ◌+◌, ◌*◌, ◌/◌, ◌%◌, ◌≤◌, ◌<◌}
use mathlib.Core.Path.{◌≡◌, refl, sym, ap, ◌∙◌}
use mathlib.Core.Option.{Option, none, some}
use Rattle.std.specs.Prelude.{Some, None}
use mathlib.Core.List.{List, [], ◌∷◌, ◌++◌, append_assoc, append-nil}
use native.Mathlib.Nat.{add-zero, zero-add}
use native.Mathlib.Numerals.{add-one}
use native.Mathlib.Omega.{arith}
use lib.ListN.{length, get_or, set, take, drop, length-set, drop_of_length-le, take-append-drop}
use lib.Seq.{append_snoc, drop-cons, set_split, sets-eq, take-suc-set}
use borrow.Author.Tests.{lt-ltb, le-ltb}
use Rattle.xdr.specs.Bytes.{splice}
use Rattle.xdr.proofs.BytesLaws.{splice-splice}
use Rattle.rules.specs.Line.{digit_value, byte_of, byte_front, line_bytes, digit, byte_digits, hex_line, request_of}
use Rattle.frame.specs.Hex.{front_of, good_bytes, stored_bytes, RequestRead}
use Rattle.frame.specs.Printing.{Printed}

-- ---- the bytes of a line

-- bytes in front of others
abbrev pub bytes_front : List ℕ → Option (List ℕ) → Option (List ℕ)
bytes_front bs none = none
bytes_front bs (some cs) = some (bs ++ cs)

front-more : (out : List ℕ) (i b : ℕ) (o : Option (List ℕ)) → i < length out
    → bytes_front (take (i + 1) (set out i b)) o ≡ bytes_front (take i out) (byte_front (some b) o)
front-more out i b none h = refl
front-more out i b (some bs) h = ap some (rw (add-one i, take-suc-set out i b h) (append_snoc (take i out) b bs))

bytes_drop : (l : List ℕ) (i : ℕ) → 2 * i + 1 < length l
    → line_bytes (drop (2 * i) l) ≡ byte_front (byte_of (digit_value (get_or l (2 * i) 0)) (digit_value (get_or l (2 * i + 1) 0))) (line_bytes (drop (2 * (i + 1)) l))
unfolding line_bytes
bytes_drop l i h =
    let e : 2 * (i + 1) ≡ suc (suc (2 * i)) = omega arith in
    rw (e, add-one (2 * i), drop-cons l (2 * i) 0 (omega arith), drop-cons l (suc (2 * i)) 0 (omega arith))

-- the same of the bytes that are stored
good-drop : (l : List ℕ) (i : ℕ) → 2 * i + 1 < length l
    → good_bytes (drop (2 * i) l) ≡ front_of (byte_of (digit_value (get_or l (2 * i) 0)) (digit_value (get_or l (2 * i + 1) 0))) (good_bytes (drop (2 * (i + 1)) l))
unfolding good_bytes
good-drop l i h =
    let e : 2 * (i + 1) ≡ suc (suc (2 * i)) = omega arith in
    rw (e, add-one (2 * i), drop-cons l (2 * i) 0 (omega arith), drop-cons l (suc (2 * i)) 0 (omega arith))

-- one byte stored is a splice
set-splice : (out : List ℕ) (i b : ℕ) (bs : List ℕ) → i < length out → splice (set out i b) (i + 1) bs ≡ splice out i (b ∷ bs)
unfolding splice
set-splice out i b bs h =
    ap (λ (l : List ℕ). splice l (i + 1) bs) (set_split out i b h ∙ ap (λ (n : ℕ). take i out ++ b ∷ drop n out) (sym (add-one i)))
    ∙ splice-splice out i (b ∷ []) bs (omega arith)

splice-nothing : (out : List ℕ) (i : ℕ) → splice out i [] ≡ out
unfolding splice
splice-nothing out i = rw (add-zero i) (take-append-drop i out)

-- an odd number of digits
bytes-odd : (l : List ℕ) → length l % 2 ≡ 1 → line_bytes l ≡ none
unfolding line_bytes
bytes-odd [] h = let z : ◌≡◌ {A = ℕ} 0 1 = h in absurd (omega arith)
bytes-odd (a ∷ []) h = refl
bytes-odd (a ∷ b ∷ cs) h = rw (bytes-odd cs (omega arith)) (go (byte_of (digit_value a) (digit_value b)))
  where
    go : (o : Option ℕ) → byte_front o none ≡ none
    go none = refl
    go (some v) = refl

-- the bytes of i pairs of digits are stored; with those of the digits left they are the line's
pub record BytesLeft (line out₀ out : List ℕ) (i : ℕ) : Type 0 where
  pub within : 2 * i ≤ length line
  pub long : length out ≡ length out₀
  pub same : bytes_front (take i out) (line_bytes (drop (2 * i) line)) ≡ line_bytes line
  pub stored : splice out i (good_bytes (drop (2 * i) line)) ≡ splice out₀ 0 (good_bytes line)

-- ---- what the reader of a line answers

request-is : (l : List ℕ) → length l ≤ 8192 → request_of l ≡ line_bytes l
unfolding request_of
request-is l h = rw (le-ltb 8192 (length l) h)

refused : {line before out : List ℕ} → request_of line ≡ none → out ≡ splice before 0 (stored_bytes line) → RequestRead line before out None
refused e s = record { bytes = e; half = tt; within = tt; left = s }

-- a line that is read at all
stored_is : (line : List ℕ) → length line ≤ 8192 → length line % 2 ≡ 0 → stored_bytes line ≡ good_bytes line
unfolding stored_bytes
stored_is line few even = rw (le-ltb 8192 (length line) few, even)

pub refused-long : (line out : List ℕ) → 8192 < length line → RequestRead line out out None
unfolding request_of stored_bytes
refused-long line out h = refused (rw (lt-ltb 8192 (length line) h)) (rw (lt-ltb 8192 (length line) h) (sym (splice-nothing out 0)))

pub refused-odd : (line out : List ℕ) → length line ≤ 8192 → length line % 2 ≡ 1 → RequestRead line out out None
unfolding stored_bytes
refused-odd line out h k = refused (request-is line h ∙ bytes-odd line k) (rw (le-ltb 8192 (length line) h, k) (sym (splice-nothing out 0)))

module _ {line out₀ out : List ℕ} {i : ℕ} (left : BytesLeft line out₀ out i) where
  -- no byte is left to store
  stored-all : length line ≤ 8192 → length line % 2 ≡ 0 → good_bytes (drop (2 * i) line) ≡ [] → out ≡ splice out₀ 0 (stored_bytes line)
  stored-all few even e = rw (stored_is line few even) (sym (splice-nothing out i) ∙ ap (splice out i) (sym e) ∙ left.stored)

  pub read_all : length line ≤ 8192 → length line % 2 ≡ 0 → length line / 2 ≤ i → RequestRead line out₀ out (Some (length line / 2))
  unfolding line_bytes good_bytes
  read_all few even h =
      let e : length line / 2 ≡ i = omega (arith, left.within) in
      let past : length line ≤ 2 * i = omega arith in
      record {
        bytes = request-is line few ∙ sym left.same ∙ rw (e, drop_of_length-le line past) (ap some (append-nil (take i out)));
        half = refl;
        within = omega arith;
        left = stored-all few even (rw (drop_of_length-le line past));
      }

  module _ (h : 2 * i + 1 < length line) where
    abbrev here : Option ℕ
    here = byte_of (digit_value (get_or line (2 * i) 0)) (digit_value (get_or line (2 * i + 1) 0))

    abbrev rest : Option (List ℕ)
    rest = line_bytes (drop (2 * (i + 1)) line)

    split : {o : Option ℕ} → here ≡ o → bytes_front (take i out) (byte_front o rest) ≡ line_bytes line
    split e = ap (bytes_front (take i out)) (sym (bytes_drop line i h ∙ ap (λ o. byte_front o rest) e)) ∙ left.same

    good-split : {o : Option ℕ} → here ≡ o → good_bytes (drop (2 * i) line) ≡ front_of o (good_bytes (drop (2 * (i + 1)) line))
    good-split e = good-drop line i h ∙ ap (λ o. front_of o (good_bytes (drop (2 * (i + 1)) line))) e

    pub bytes-more : (b : ℕ) → i < length out → here ≡ some b → BytesLeft line out₀ (set out i b) (i + 1)
    bytes-more b k e = record {
      within = omega arith;
      long = length-set out i b ∙ left.long;
      same = front-more out i b rest k ∙ split e;
      stored = set-splice out i b (good_bytes (drop (2 * (i + 1)) line)) k ∙ ap (splice out i) (sym (good-split e)) ∙ left.stored;
    }

    pub refused-digit : length line ≤ 8192 → length line % 2 ≡ 0 → here ≡ none → RequestRead line out₀ out None
    refused-digit few even e = refused (request-is line few ∙ sym (split e)) (stored-all few even (good-split e))

-- ---- the digits of bytes

-- two stores in a row are a splice
pub put2 : (l : List ℕ) (at a b : ℕ) → at + 2 ≤ length l → set (set l at a) (at + 1) b ≡ splice l at (a ∷ b ∷ [])
unfolding splice
put2 l at a b h = rw (add-one at) (sets-eq (a ∷ b ∷ []) l at h ∙ append_assoc (take at l) (a ∷ b ∷ []) (drop (at + 2) l))

hex-drop : (bs : List ℕ) (i : ℕ) → i < length bs → hex_line (drop i bs) ≡ byte_digits (get_or bs i 0) ++ hex_line (drop (i + 1) bs)
unfolding hex_line
hex-drop bs i h = rw (add-one i, drop-cons bs i 0)

pub length-hex : (bs : List ℕ) → length (hex_line bs) ≡ 2 * length bs
unfolding hex_line
length-hex [] = refl
length-hex (b ∷ bs) = omega (arith, length-hex bs)

-- the digits of i bytes are written; with those of the bytes left they are the whole line
pub record HexLeft (bs out₀ out : List ℕ) (i : ℕ) : Type 0 where
  pub within : i ≤ length bs
  pub long : length out ≡ length out₀
  pub same : splice out (2 * i) (hex_line (drop i bs)) ≡ splice out₀ 0 (hex_line bs)

module _ {bs out₀ out : List ℕ} {i : ℕ} (left : HexLeft bs out₀ out i) where
  pub hex-more : {h l : ℕ} → i < length bs → 2 * length bs ≤ length out₀ → h ≡ digit (get_or bs i 0 / 16) → l ≡ digit (get_or bs i 0 % 16)
      → HexLeft bs out₀ (set (set out (2 * i) h) (2 * i + 1) l) (i + 1)
  hex-more {h} {l} k room p q =
      let e : 2 * (i + 1) ≡ 2 * i + 2 = omega arith in
      let two = put2 out (2 * i) h l (omega (arith, left.long)) in
      record {
        within = omega arith;
        long = length-set (set out (2 * i) h) (2 * i + 1) l ∙ length-set out (2 * i) h ∙ left.long;
        same =
            rw (e, two, p, q) (splice-splice out (2 * i) (byte_digits (get_or bs i 0)) (hex_line (drop (i + 1) bs)) (omega (arith, left.long))
            ∙ ap (splice out (2 * i)) (sym (hex-drop bs i k)) ∙ left.same);
      }

  pub hex_end : length bs ≤ i → Printed (hex_line bs) out₀ (2 * length bs) out
  unfolding hex_line splice
  hex_end h =
      let n = length-hex bs in
      record {
        length_is = sym n;
        out_is = sym (take-append-drop (2 * i) out) ∙ (rw (drop_of_length-le bs h, add-zero (2 * i)) at left.same) ∙ ap (λ (m : ℕ). hex_line bs ++ drop m out₀) (zero-add (length (hex_line bs)));
      }
