-- The client's half (request K6): a request written from operations, and a reply taken apart.
use Rattle.std.specs.Prelude.{ℕ, zero, suc, ◌-◌, ◌^◌, Bool, true, false, cond, ◌&&◌, not, List, [], ◌∷◌, ◌++◌, length, drop, leb, ltb, eqb}
use Rattle.std.proofs.Math.Option.{Option, none, some}
use Rattle.xdr.specs.Encode.{concat_map}
use Rattle.xdr.specs.Decode.{got, fault, stop, and_then, Reader, ret, ◌>>=◌, up_to, times}
use Rattle.xdr.specs.Layout.{Layout, every, is_word, uint}
use Rattle.rules.specs.Lists.{first}
use Rattle.rules.specs.Operation.{Op, op_fits, request_bytes, reading, find, attr_result, handle_result, read_result, read_plus_result, data_piece, hole_piece, seek_result, write_result, copy_result}
use Rattle.rules.specs.Run.{same_bytes}
use Rattle.rules.specs.Calls.{reply_head}

-- ---- a request

-- at most 12 operations, whose arguments can be written; a tag of at most 1,024 bytes; at most 65,536 bytes in all
abbrev pub request_fits : List ℕ → List Op → Bool
request_fits tag os = leb (length os) 12 && every op_fits os && leb (length tag) 1024 && leb (length (request_bytes tag os)) 65536

-- what comes of a call that writes: number, bytes written, and the request buffer afterwards
pub record Wrote : Type 0 where
  pub number : ℕ
  pub written : ℕ
  pub buffer : List ℕ

abbrev pub not_written : ℕ → List ℕ → Wrote
not_written k buf = record { number = k; written = 0; buffer = buf }

abbrev pub write_refusals : List ℕ → List Op → List ℕ → List (Bool × ℕ)
write_refusals tag os buf = (not (request_fits tag os), 11) ∷ (ltb (length buf) (length (request_bytes tag os)), 9) ∷ []

-- no operations where what is given stands for none, as data outside what is lent
unfoldable pub wrote : List ℕ → Option (List Op) → List ℕ → Wrote
wrote tag none buf = not_written 11 buf
wrote tag (some os) buf = elim (first (write_refusals tag os buf)) [
  | zero ↦ let bs = request_bytes tag os in record { number = 0; written = length bs; buffer = bs ++ drop (length bs) buf }
  | suc k ↦ not_written (suc k) buf
]

-- ---- the bodies of results

-- a piece of READ_PLUS
pub data Content : Type 0 where
  -- offset, data
  data_at : ℕ → List ℕ → Content
  -- offset, length
  hole_at : ℕ → ℕ → Content

-- its content type, 0 or 1, says which layout it has
abbrev pub piece_layout : Layout Content
piece_layout = record {
  write = λ p. elim p [ data_at o d ↦ data_piece.write (0, (o, d)) | hole_at o n ↦ hole_piece.write (1, (o, n)) ];
  read = λ s at. and_then (up_to 1 s at) (λ kind next. cond (eqb kind 0)
      (reading data_piece (λ a. data_at a.1.0 a.1.1) s at)
      (reading hole_piece (λ a. hole_at a.1.0 a.1.1) s at));
  fits = λ p. elim p [ data_at o d ↦ data_piece.fits (0, (o, d)) | hole_at o n ↦ hole_piece.fits (1, (o, n)) ];
}

-- eof, and the pieces behind their number
abbrev pub pieces_result : Layout (Bool × List Content)
pieces_result = record {
  write = λ a. read_plus_result.write (a.0, length a.1) ++ concat_map piece_layout.write a.1;
  read = ◌>>=◌ read_plus_result.read (λ h. ◌>>=◌ (times h.1 piece_layout.read) (λ ps. ret (h.0, ps)));
  fits = λ a. is_word (length a.1) && every piece_layout.fits a.1;
}

pub data Body : Type 0 where
  -- of an operation that fails, and of one that answers OK alone
  empty : Body
  -- GETATTR: bitmap, values
  attrs : List ℕ → List ℕ → Body
  -- GETFH
  handle : List ℕ → Body
  -- READ: eof, data
  file_data : Bool → List ℕ → Body
  -- WRITE: count, committed, verifier
  written : ℕ → ℕ → List ℕ → Body
  -- COPY: count, committed, verifier, consecutive, synchronous
  copied : ℕ → ℕ → List ℕ → Bool → Bool → Body
  -- READ_PLUS: eof, pieces
  pieces : Bool → List Content → Body
  -- SEEK: eof, offset
  sought : Bool → ℕ → Body

abbrev pub body_bytes : Body → List ℕ
body_bytes empty = []
body_bytes (attrs ws d) = attr_result.write (ws, d)
body_bytes (handle h) = handle_result.write h
body_bytes (file_data e d) = read_result.write (e, d)
body_bytes (written n c v) = write_result.write (n, (c, v))
body_bytes (copied n c v i y) = copy_result.write (0, (n, (c, (v, (i, y)))))
body_bytes (pieces e ps) = pieces_result.write (e, ps)
body_bytes (sought e o) = seek_result.write (e, o)

-- how the body of an operation that answers OK is read, by its number
abbrev pub bodies : List (ℕ × Reader Body)
bodies =
    (9, reading attr_result (λ a. attrs a.0 a.1))
    ∷ (10, reading handle_result handle)
    ∷ (22, ret empty)
    ∷ (25, reading read_result (λ a. file_data a.0 a.1))
    ∷ (31, ret empty)
    ∷ (32, ret empty)
    ∷ (38, reading write_result (λ a. written a.0 a.1.0 a.1.1))
    ∷ (59, ret empty)
    ∷ (60, reading copy_result (λ a. copied a.1.0 a.1.1.0 a.1.1.1.0 a.1.1.1.1.0 a.1.1.1.1.1))
    ∷ (62, ret empty)
    ∷ (68, reading pieces_result (λ a. pieces a.0 a.1))
    ∷ (69, reading seek_result (λ a. sought a.0 a.1))
    ∷ (71, ret empty) ∷ []

-- number and status; an OK of an operation that we don't serve has no layout
abbrev pub body_by : ℕ → ℕ → Reader Body
body_by n zero s at = elim (find n bodies) [ none ↦ fault at | some r ↦ r s at ]
body_by n (suc e) s at = got empty at

-- ---- a reply

pub record Result : Type 0 where
  pub number : ℕ
  pub status : ℕ
  pub body : Body

unfoldable pub result : Reader Result
result = do
  n ← uint.read
  e ← uint.read
  b ← body_by n e
  ret (record { number = n; status = e; body = b })

pub record Reply : Type 0 where
  pub status : ℕ
  pub tag : List ℕ
  pub results : List Result

unfoldable pub reply : Reader Reply
reply = do
  h ← reply_head.read
  rs ← times h.1.1 result
  ret (record { status = h.0; tag = h.1.0; results = rs })

-- ---- a reply that is opened

-- the first failing result is the last, and the last one's status is the reply's; a reply without results may have any
abbrev pub agree : ℕ → List Result → Bool
agree e [] = true
agree e (r ∷ []) = eqb r.status e
agree e (r ∷ q ∷ rs) = eqb r.status 0 && agree e (q ∷ rs)

-- the results' numbers follow the request's, ns; `all` asks for every one of them
abbrev pub follow : Bool → List ℕ → List Result → Bool
follow all [] [] = true
follow all [] (r ∷ rs) = false
follow all (n ∷ ns) [] = not all
follow all (n ∷ ns) (r ∷ rs) = eqb r.number n && follow all ns rs

-- r answers a request with this tag and these operation numbers
abbrev pub answers : List ℕ → List ℕ → Reply → Bool
answers tag ns r = same_bytes r.tag tag && (agree r.status r.results && follow (eqb r.status 0) ns r.results)

-- number, the reply's status, and the place of the first result
pub record Opened : Type 0 where
  pub number : ℕ
  pub status : ℕ
  pub first : ℕ

-- no status
abbrev pub NO_STATUS : ℕ
NO_STATUS = 2 ^ 32 - 1

-- a reply that is refused hands out nothing
abbrev pub not_opened : List ℕ → Opened
not_opened s = record { number = 10; status = NO_STATUS; first = length s }

-- the reply s, read to its last byte, is one to a request with this tag and these operation numbers
unfoldable pub opened : List ℕ → List ℕ → List ℕ → Opened
opened tag ns s = elim (reply s 0) [
  | got r next ↦ cond (eqb next (length s) && answers tag ns r) (record { number = 0; status = r.status; first = stop (reply_head.read s 0) }) (not_opened s)
  | fault p ↦ not_opened s
]

-- what is handed out at a place of a reply: a result, with the place of the next one; or, at the end, that it is done. A place that was not
-- told may have no result.
pub data Step : Type 0 where
  handed : Result → ℕ → Step
  done : Step
  faulty : ℕ → Step

unfoldable pub step : List ℕ → ℕ → Step
step s at = cond (leb (length s) at) done (elim (result s at) [ got r next ↦ handed r next | fault p ↦ faulty p ])
