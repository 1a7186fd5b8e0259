-- A request that is written is read back: its header, and each operation where it stands.
use Prim.Native.Nat.{ℕ, ◌+◌, ◌^◌, ◌≤◌, ◌<◌}
use mathlib.Core.Path.{◌≡◌, refl, sym, ap, ◌∙◌}
use mathlib.Core.Bool.{true}
use mathlib.Core.Option.{Option, none, some}
use mathlib.Core.List.{List, [], ◌∷◌, ◌++◌, append-nil}
use native.Mathlib.Nat.{add_assoc}
use native.Mathlib.Omega.{arith}
use borrow.Author.Tests.{lt-ltb, le-leb}
use lib.ListN.{length, length-append}
use Rattle.xdr.specs.Encode.{u32, concat_map}
use Rattle.xdr.specs.Decode.{got, and_then, ret}
use Rattle.xdr.specs.Layout.{Layout, every, uint, hyper, up_to_limit, boolean, opaque_data, any_length, ◌then◌}
use Rattle.xdr.proofs.BoolLaws.{and_left, and_right}
use Rattle.xdr.proofs.RoundTrip.{Stands, stands-first, stands-rest}
use Rattle.xdr.proofs.LayoutLaws.{ReadsBack, uint-back, hyper-back, limit_back, boolean-back, bytes_back, opaque_data_back, then-back}
use Rattle.xdr.proofs.ArrayLaws.{uints-back}
use Rattle.rules.specs.Operation.{Op, GETATTR, GETFH, RESTOREFH, SAVEFH, PUTFH, READ, READ_PLUS, WRITE, ALLOCATE, DEALLOCATE, SEEK, COPY, CLONE, stateid, handle_args, bitmap_args, read_args, write_args, region_args, clone_args, copy_args, op_bytes, op_fits, three, write_of, clone_of, copy_of, reading, readers, find, op, args_item, unserved, number_item, item_at, items, header_layout, header, request_bytes}
use Rattle.rules.specs.Builder.{items_from}

-- ---- an operation

-- o is read where it stands
abbrev pub OpBack : Op → Type 0
OpBack o = (s : List ℕ) (at : ℕ) → Stands s at (op_bytes o) → item_at s at ≡ op o (at + length (op_bytes o))

-- operation n whose arguments a, of layout l, make o
module _ {A : Type 0} (n : ℕ) (l : Layout A) (make : A → Option Op) (back : ReadsBack l) (small : n < 2 ^ 32) (is : find n readers ≡ some (reading l make)) where
  item_back : (a : A) → l.fits a ≡ true → (o : Op) → make a ≡ some o → (s : List ℕ) (at : ℕ) → Stands s at (u32 n ++ l.write a)
      → item_at s at ≡ op o (at + length (u32 n ++ l.write a))
  unfolding item_at
  item_back a fits o makes s at w =
      ap (number_item s) (uint-back n (lt-ltb n (2 ^ 32) small) s at (stands-first (u32 n) (l.write a) w))
      ∙ ap (λ u. elim u [ none ↦ unserved n | some r ↦ args_item n (r s (at + length (u32 n))) ]) is
      ∙ ap (λ t. args_item n (and_then t (λ a next. got (make a) next))) (back a fits s (at + length (u32 n)) (stands-rest (u32 n) (l.write a) w))
      ∙ ap (λ u. args_item n (got u (at + length (u32 n) + length (l.write a)))) makes
      ∙ ap (op o) place
    where
      place : at + length (u32 n) + length (l.write a) ≡ at + length (u32 n ++ l.write a)
      place = add_assoc at (length (u32 n)) (length (l.write a)) ∙ ap (λ m. at + m) (sym (length-append (u32 n) (l.write a)))

-- operation n without arguments
bare_back : (n : ℕ) (o : Op) → n < 2 ^ 32 → find n readers ≡ some (ret (some o)) → (s : List ℕ) (at : ℕ) → Stands s at (u32 n ++ []) → item_at s at ≡ op o (at + length (u32 n ++ []))
unfolding item_at
bare_back n o small is s at w =
    ap (number_item s) (uint-back n (lt-ltb n (2 ^ 32) small) s at (stands-first (u32 n) [] w))
    ∙ ap (λ u. elim u [ none ↦ unserved n | some r ↦ args_item n (r s (at + length (u32 n))) ]) is
    ∙ ap (λ (l : List ℕ). op o (at + length l)) (sym (append-nil (u32 n)))

-- ---- the layouts of arguments

read_args_lem : ReadsBack read_args
read_args_lem = then-back stateid (hyper then uint) (bytes_back 16) (then-back hyper uint hyper-back uint-back)

write_args_lem : ReadsBack write_args
write_args_lem =
    then-back stateid (hyper then up_to_limit 2 then opaque_data any_length) (bytes_back 16)
    (then-back hyper (up_to_limit 2 then opaque_data any_length) hyper-back (then-back (up_to_limit 2) (opaque_data any_length) (limit_back 2) (opaque_data_back any_length)))

region_args_lem : ReadsBack region_args
region_args_lem = then-back stateid (hyper then hyper) (bytes_back 16) (then-back hyper hyper hyper-back hyper-back)

clone_args_lem : ReadsBack clone_args
clone_args_lem =
    then-back stateid (stateid then hyper then hyper then hyper) (bytes_back 16)
    (then-back stateid (hyper then hyper then hyper) (bytes_back 16) (then-back hyper (hyper then hyper) hyper-back (then-back hyper hyper hyper-back hyper-back)))

copy_args_lem : ReadsBack copy_args
copy_args_lem =
    then-back clone_args (boolean then boolean then uint) clone_args_lem (then-back boolean (boolean then uint) boolean-back (then-back boolean uint boolean-back uint-back))

-- ---- every operation whose arguments can be written, a row each

pub op-back : (o : Op) → op_fits o ≡ true → OpBack o
op-back (GETATTR ws) h = item_back 9 bitmap_args (λ ws. some (GETATTR ws)) (uints-back 4) (omega arith) refl ws h (GETATTR ws) refl
op-back GETFH h = bare_back 10 GETFH (omega arith) refl
op-back (PUTFH d) h = item_back 22 handle_args (λ h. some (PUTFH h)) (opaque_data_back 128) (omega arith) refl d h (PUTFH d) refl
op-back (READ i o n) h = item_back 25 read_args (λ a. some (three READ a)) read_args_lem (omega arith) refl (i, (o, n)) h (READ i o n) refl
op-back RESTOREFH h = bare_back 31 RESTOREFH (omega arith) refl
op-back SAVEFH h = bare_back 32 SAVEFH (omega arith) refl
op-back (WRITE i o s d) h = item_back 38 write_args (λ a. some (write_of a)) write_args_lem (omega arith) refl (i, (o, (s, d))) h (WRITE i o s d) refl
op-back (ALLOCATE i o n) h = item_back 59 region_args (λ a. some (three ALLOCATE a)) region_args_lem (omega arith) refl (i, (o, n)) h (ALLOCATE i o n) refl
op-back (COPY i j s o n c y) h = item_back 60 copy_args copy_of copy_args_lem (omega arith) refl ((i, (j, (s, (o, n)))), (c, (y, 0))) h (COPY i j s o n c y) refl
op-back (DEALLOCATE i o n) h = item_back 62 region_args (λ a. some (three DEALLOCATE a)) region_args_lem (omega arith) refl (i, (o, n)) h (DEALLOCATE i o n) refl
op-back (READ_PLUS i o n) h = item_back 68 read_args (λ a. some (three READ_PLUS a)) read_args_lem (omega arith) refl (i, (o, n)) h (READ_PLUS i o n) refl
op-back (SEEK i o n) h = item_back 69 read_args (λ a. some (three SEEK a)) read_args_lem (omega arith) refl (i, (o, n)) h (SEEK i o n) refl
op-back (CLONE i j s o n) h = item_back 71 clone_args (λ a. some (clone_of a)) clone_args_lem (omega arith) refl (i, (j, (s, (o, n)))) h (CLONE i j s o n) refl

-- ---- a list of them

pub items_back : (os : List Op) → every op_fits os ≡ true → (s : List ℕ) (at : ℕ) → Stands s at (concat_map op_bytes os) → items s (length os) at ≡ items_from at os
unfolding items
items_back [] h s at w = refl
items_back (o ∷ os) h s at w =
    rw (op-back o (and_left (op_fits o) (every op_fits os) h) s at (stands-first (op_bytes o) (concat_map op_bytes os) w), items)
    (ap (λ is. op o (at + length (op_bytes o)) ∷ is)
    (items_back os (and_right (op_fits o) (every op_fits os) h) s (at + length (op_bytes o)) (stands-rest (op_bytes o) (concat_map op_bytes os) w)))

-- ---- a request

abbrev header_bytes : List ℕ → List Op → List ℕ
header_bytes tag os = header_layout.write (tag, (2, length os))

pub stands-all : (bs : List ℕ) → Stands bs 0 bs
stands-all bs = record { rest = []; inside = omega arith; there = sym (append-nil bs) }

request-stands : (tag : List ℕ) (os : List Op) → Stands (request_bytes tag os) 0 (header_bytes tag os ++ concat_map op_bytes os)
unfolding request_bytes
request-stands tag os = stands-all (header_bytes tag os ++ concat_map op_bytes os)

-- its header: minor version 2, and so many operations
pub header-back : (tag : List ℕ) → length tag ≤ 1024 → (os : List Op) → length os < 2 ^ 32
    → header (request_bytes tag os) 0 ≡ got (record { tag = tag; minor = 2; ops = length os }) (0 + length (header_bytes tag os))
unfolding header
header-back tag short os few =
    rw (then-back (opaque_data 1024) (uint then uint) (opaque_data_back 1024) (then-back uint uint uint-back uint-back) (tag, (2, length os)) fits
    (request_bytes tag os) 0 (stands-first (header_bytes tag os) (concat_map op_bytes os) (request-stands tag os)))
  where
    fits : header_layout.fits (tag, (2, length os)) ≡ true
    fits = simp (le-leb (length tag) 1024 short, lt-ltb (length tag) (2 ^ 32) (omega arith), lt-ltb (length os) (2 ^ 32) few)

-- its operations
pub request-items : (tag : List ℕ) (os : List Op) → every op_fits os ≡ true
    → items (request_bytes tag os) (length os) (0 + length (header_bytes tag os)) ≡ items_from (0 + length (header_bytes tag os)) os
request-items tag os h = items_back os h (request_bytes tag os) (0 + length (header_bytes tag os)) (stands-rest (header_bytes tag os) (concat_map op_bytes os) (request-stands tag os))
