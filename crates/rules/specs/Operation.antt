-- The operations of a COMPOUND as bytes, and the bodies of their results (document 01, "The compound"; RFC 5661 section 18, RFC 7862 section 15).
use Rattle.std.specs.Prelude.{ℕ, zero, suc, Bool, true, cond, ◌&&◌, List, [], ◌∷◌, ◌++◌, length, leb, eqb}
use Rattle.std.proofs.Math.Option.{Option, none, some}
use Rattle.xdr.specs.Encode.{u32, concat_map}
use Rattle.xdr.specs.Decode.{Parsed, got, fault, Reader, ret, ◌>>=◌, number}
use Rattle.xdr.specs.Layout.{Layout, uint, hyper, up_to_limit, boolean, bytes, opaque_data, any_length, uints, ◌then◌}
use Rattle.rules.specs.Store.{Geometry, Store, size_of, bytes_from}
use Rattle.rules.specs.Read.{read_count, is_at_end, Piece, read_pieces, seek_place}
use Rattle.rules.specs.Attributes.{Attr, attr_number, supported, select, asks_for, bitmap, FileAttrs, file_attrs, attr_value}

-- ---- status numbers

abbrev pub NXIO : ℕ
NXIO = 6

abbrev pub INVAL : ℕ
INVAL = 22

abbrev pub FBIG : ℕ
FBIG = 27

abbrev pub NOSPC : ℕ
NOSPC = 28

abbrev pub STALE : ℕ
STALE = 70

abbrev pub BADHANDLE : ℕ
BADHANDLE = 10001

abbrev pub NOTSUPP : ℕ
NOTSUPP = 10004

abbrev pub NOFILEHANDLE : ℕ
NOFILEHANDLE = 10020

abbrev pub MINOR_VERS_MISMATCH : ℕ
MINOR_VERS_MISMATCH = 10021

abbrev pub BAD_STATEID : ℕ
BAD_STATEID = 10025

abbrev pub BADXDR : ℕ
BADXDR = 10036

abbrev pub OP_ILLEGAL : ℕ
OP_ILLEGAL = 10044

abbrev pub SEQUENCE_POS : ℕ
SEQUENCE_POS = 10064

abbrev pub TOO_MANY_OPS : ℕ
TOO_MANY_OPS = 10070

abbrev pub UNION_NOTSUPP : ℕ
UNION_NOTSUPP = 10090

-- ---- operations

-- an operation with its arguments, in the RFC's order
pub data Op : Type 0 where
  GETFH RESTOREFH SAVEFH : Op
  -- bitmap
  GETATTR : List ℕ → Op
  -- handle
  PUTFH : List ℕ → Op
  -- stateid, offset, count
  READ READ_PLUS : List ℕ → ℕ → ℕ → Op
  -- stateid, offset, stable_how, data
  WRITE : List ℕ → ℕ → ℕ → List ℕ → Op
  -- stateid, offset, length
  ALLOCATE DEALLOCATE : List ℕ → ℕ → ℕ → Op
  -- stateid, offset, what
  SEEK : List ℕ → ℕ → ℕ → Op
  -- source and target stateid, source and target offset, count, consecutive, synchronous
  COPY : List ℕ → List ℕ → ℕ → ℕ → ℕ → Bool → Bool → Op
  -- source and target stateid, source and target offset, count
  CLONE : List ℕ → List ℕ → ℕ → ℕ → ℕ → Op

-- ---- the arguments' layouts

abbrev pub stateid : Layout (List ℕ)
stateid = bytes 16

abbrev pub handle_args : Layout (List ℕ)
handle_args = opaque_data 128

-- a bitmap of at most four words (request K4)
abbrev pub bitmap_args : Layout (List ℕ)
bitmap_args = uints 4

-- of READ, READ_PLUS and SEEK
abbrev pub read_args : Layout (List ℕ × (ℕ × ℕ))
read_args = stateid then hyper then uint

abbrev pub write_args : Layout (List ℕ × (ℕ × (ℕ × List ℕ)))
write_args = stateid then hyper then up_to_limit 2 then opaque_data any_length

-- of ALLOCATE and DEALLOCATE
abbrev pub region_args : Layout (List ℕ × (ℕ × ℕ))
region_args = stateid then hyper then hyper

-- of CLONE, and the first of COPY's
abbrev pub clone_args : Layout (List ℕ × (List ℕ × (ℕ × (ℕ × ℕ))))
clone_args = stateid then stateid then hyper then hyper then hyper

-- consecutive, synchronous, the number of source servers
abbrev pub copy_args : Layout ((List ℕ × (List ℕ × (ℕ × (ℕ × ℕ)))) × (Bool × (Bool × ℕ)))
copy_args = clone_args then boolean then boolean then uint

-- ---- writing an operation

-- arguments as bytes, and whether their layout has them
pub record Args : Type 0 where
  pub bytes : List ℕ
  pub fit : Bool

abbrev pub args : {A : Type 0} → Layout A → A → Args
args l a = record { bytes = l.write a; fit = l.fits a }

abbrev pub no_args : Args
no_args = record { bytes = []; fit = true }

-- its number and its arguments
abbrev pub wire : Op → ℕ × Args
wire (GETATTR ws) = (9, args bitmap_args ws)
wire GETFH = (10, no_args)
wire (PUTFH h) = (22, args handle_args h)
wire (READ i o n) = (25, args read_args (i, (o, n)))
wire RESTOREFH = (31, no_args)
wire SAVEFH = (32, no_args)
wire (WRITE i o s d) = (38, args write_args (i, (o, (s, d))))
wire (ALLOCATE i o n) = (59, args region_args (i, (o, n)))
wire (COPY i j s o n c y) = (60, args copy_args ((i, (j, (s, (o, n)))), (c, (y, 0))))
wire (DEALLOCATE i o n) = (62, args region_args (i, (o, n)))
wire (READ_PLUS i o n) = (68, args read_args (i, (o, n)))
wire (SEEK i o n) = (69, args read_args (i, (o, n)))
wire (CLONE i j s o n) = (71, args clone_args (i, (j, (s, (o, n)))))

abbrev pub op_number : Op → ℕ
op_number o = (wire o).0

abbrev pub op_bytes : Op → List ℕ
op_bytes o = u32 (op_number o) ++ (wire o).1.bytes

-- its arguments can be written
abbrev pub op_fits : Op → Bool
op_fits o = (wire o).1.fit

-- ---- reading an operation

-- arguments in the order of their layouts
abbrev pub three : (List ℕ → ℕ → ℕ → Op) → List ℕ × (ℕ × ℕ) → Op
three f (i, (o, n)) = f i o n

abbrev pub write_of : List ℕ × (ℕ × (ℕ × List ℕ)) → Op
write_of (i, (o, (s, d))) = WRITE i o s d

abbrev pub clone_of : List ℕ × (List ℕ × (ℕ × (ℕ × ℕ))) → Op
clone_of (i, (j, (s, (o, n)))) = CLONE i j s o n

-- COPY with a source server is not supported: the list of servers is then not read
abbrev pub copy_of : (List ℕ × (List ℕ × (ℕ × (ℕ × ℕ)))) × (Bool × (Bool × ℕ)) → Option Op
copy_of ((i, (j, (s, (o, n)))), (c, (y, servers))) = cond (eqb servers 0) (some (COPY i j s o n c y)) none

-- what f makes of a value of layout l, read
abbrev pub reading : {A B : Type 0} → Layout A → (A → B) → Reader B
reading l f = do
  a ← l.read
  ret (f a)

-- the operations that we serve: number, and how the arguments are read
abbrev pub readers : List (ℕ × Reader (Option Op))
readers =
    (9, reading bitmap_args (λ ws. some (GETATTR ws)))
    ∷ (10, ret (some GETFH))
    ∷ (22, reading handle_args (λ h. some (PUTFH h)))
    ∷ (25, reading read_args (λ a. some (three READ a)))
    ∷ (31, ret (some RESTOREFH))
    ∷ (32, ret (some SAVEFH))
    ∷ (38, reading write_args (λ a. some (write_of a)))
    ∷ (59, reading region_args (λ a. some (three ALLOCATE a)))
    ∷ (60, reading copy_args copy_of)
    ∷ (62, reading region_args (λ a. some (three DEALLOCATE a)))
    ∷ (68, reading read_args (λ a. some (three READ_PLUS a)))
    ∷ (69, reading read_args (λ a. some (three SEEK a)))
    ∷ (71, reading clone_args (λ a. some (clone_of a))) ∷ []

-- what stands in the table under number n, if it has one
abbrev pub find : {B : Type 0} → ℕ → List (ℕ × B) → Option B
find n [] = none
find n (r ∷ rs) = cond (eqb n r.0) (some r.1) (find n rs)

-- What stands at a place of the request: an operation and the place after it; or the number and status of a result that ends the
-- compound, by the operation's number or arguments alone: BADXDR, NOTSUPP, SEQUENCE_POS or OP_ILLEGAL.
pub data Item : Type 0 where
  op : Op → ℕ → Item
  bad : ℕ → ℕ → Item

abbrev pub args_item : ℕ → Parsed (Option Op) → Item
args_item n (fault p) = bad n BADXDR
args_item n (got none next) = bad n NOTSUPP
args_item n (got (some o) next) = op o next

-- the numbers of the RFCs' operations, 3 to 71, SEQUENCE among them; and the number of a result that can't have its own (house where
-- it is cut off)
abbrev pub SEQUENCE : ℕ
SEQUENCE = 53

abbrev pub is_operation : ℕ → Bool
is_operation n = leb 3 n && leb n 71

abbrev pub ILLEGAL : ℕ
ILLEGAL = 10044

-- a number that we don't serve; SEQUENCE is refused at any place (house)
abbrev pub unserved : ℕ → Item
unserved n = cond (eqb n SEQUENCE) (bad SEQUENCE SEQUENCE_POS) (cond (is_operation n) (bad n NOTSUPP) (bad ILLEGAL OP_ILLEGAL))

abbrev pub number_item : List ℕ → Parsed ℕ → Item
number_item s (fault p) = bad ILLEGAL BADXDR
number_item s (got n next) = elim (find n readers) [ none ↦ unserved n | some r ↦ args_item n (r s next) ]

unfoldable pub item_at : List ℕ → ℕ → Item
item_at s at = number_item s (number 4 s at)

-- the items of a list of n operations, up to the first that is no operation
unfoldable pub items : List ℕ → ℕ → ℕ → List Item
items s zero at = []
items s (suc n) at = elim (item_at s at) [ op o next ↦ op o next ∷ items s n next | bad k e ↦ bad k e ∷ [] ]

-- ---- the header: tag, minor version, number of operations

pub record Header : Type 0 where
  pub tag : List ℕ
  pub minor : ℕ
  pub ops : ℕ

abbrev pub header_layout : Layout (List ℕ × (ℕ × ℕ))
header_layout = opaque_data 1024 then uint then uint

unfoldable pub header : Reader Header
header = do
  a ← header_layout.read
  ret (record { tag = a.0; minor = a.1.0; ops = a.1.1 })

-- a request of minor version 2
unfoldable pub request_bytes : List ℕ → List Op → List ℕ
request_bytes tag os = header_layout.write (tag, (2, length os)) ++ concat_map op_bytes os

-- ---- the layouts of results

abbrev pub handle_result : Layout (List ℕ)
handle_result = opaque_data 128

-- the bitmap of the attributes shown, and their values
abbrev pub attr_result : Layout (List ℕ × List ℕ)
attr_result = uints any_length then opaque_data any_length

-- eof, data
abbrev pub read_result : Layout (Bool × List ℕ)
read_result = boolean then opaque_data any_length

-- eof, the number of pieces; they follow
abbrev pub read_plus_result : Layout (Bool × ℕ)
read_plus_result = boolean then uint

-- content type 0 (data): offset, data; content type 1 (hole): offset, length
abbrev pub data_piece : Layout (ℕ × (ℕ × List ℕ))
data_piece = uint then hyper then opaque_data any_length

abbrev pub hole_piece : Layout (ℕ × (ℕ × ℕ))
hole_piece = uint then hyper then hyper

-- eof, offset
abbrev pub seek_result : Layout (Bool × ℕ)
seek_result = boolean then hyper

-- count, committed (a stable_how), verifier
abbrev pub write_result : Layout (ℕ × (ℕ × List ℕ))
write_result = uint then up_to_limit 2 then bytes 8

-- the number of callback ids, which is 0; count, committed, verifier, consecutive, synchronous
abbrev pub copy_result : Layout (ℕ × (ℕ × (ℕ × (List ℕ × (Bool × Bool)))))
copy_result = up_to_limit 0 then hyper then up_to_limit 2 then bytes 8 then boolean then boolean

-- ---- the bodies of results

-- GETATTR with the attributes that pass the test
abbrev pub attrs_reply : FileAttrs → (Attr → Bool) → List ℕ
attrs_reply v p = let xs = select p supported in attr_result.write (bitmap xs, concat_map (attr_value v) xs)

-- those that the bitmap ws asks for; what we don't have is left out
unfoldable pub getattr_reply : Geometry → Store → ℕ → List ℕ → List ℕ
getattr_reply g st f ws = attrs_reply (file_attrs g st f) (λ a. asks_for ws (attr_number a))

unfoldable pub read_reply : Geometry → Store → ℕ → ℕ → ℕ → List ℕ
read_reply g st f off n = read_result.write (is_at_end st f off n, bytes_from g st f off (read_count st f off n))

abbrev pub piece_bytes : Geometry → Store → ℕ → Piece → List ℕ
piece_bytes g st f p = cond p.hole (hole_piece.write (1, (p.start, p.size))) (data_piece.write (0, (p.start, bytes_from g st f p.start p.size)))

unfoldable pub read_plus_reply : Geometry → Store → ℕ → ℕ → ℕ → List ℕ
read_plus_reply g st f off n =
    let ps = read_pieces g st f off n in
    read_plus_result.write (is_at_end st f off n, length ps) ++ concat_map (piece_bytes g st f) ps

-- a hole is asked for by 1, data by 0
unfoldable pub seek_reply : Geometry → Store → ℕ → ℕ → ℕ → List ℕ
seek_reply g st f off what = let p = seek_place g st f (eqb what 1) off in seek_result.write (eqb p (size_of st f), p)

-- FILE_SYNC4
abbrev pub file_sync : ℕ
file_sync = 2

-- v is the verifier
abbrev pub write_reply : ℕ → List ℕ → List ℕ
write_reply n v = write_result.write (n, (file_sync, v))

abbrev pub copy_reply : ℕ → List ℕ → List ℕ
copy_reply n v = copy_result.write (0, (n, (file_sync, (v, (true, true)))))
