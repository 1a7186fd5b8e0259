-- What the answers of the reply's readers say: a span stands for its bytes.
use Rattle.std.specs.Prelude.{ℕ, ◌≡◌, Bool, false, ◌&&◌, List, [], length, eqb, Option, Some, None, Result, Ok, Err}
use Rattle.xdr.specs.Bytes.{part_of}
use Rattle.xdr.specs.Decode.{Parsed, got, fault, numbers, times}
use Rattle.rules.specs.Client as rules
use Rattle.rules.specs.Client.{Content, data_at, hole_at, piece_layout, empty, attrs, handle, file_data, written, copied, pieces, sought, result, agree, follow, Step, handed, done, faulty, not_opened, opened}
use Rattle.client.specs.declared.reply.Piece.{Piece}
use Rattle.client.specs.declared.reply.Body.{Body}
use Rattle.client.specs.declared.reply.OpResult.{OpResult}
use Rattle.client.specs.declared.reply.Fault.{Fault}
use Rattle.client.specs.declared.open.Opened.{Opened}
use Rattle.client.specs.declared.open.NotOpened.{NotOpened}
use Rattle.client.specs.declared.open.Head.{Head}

-- ---- pieces

abbrev pub of_piece : List ℕ → Piece → Content
of_piece s (Piece.Data p) = data_at p.offset (part_of s p.data)
of_piece s (Piece.Hole p) = hole_at p.offset p.length

-- where a value ends
abbrev pub end_of : {A : Type 0} → Parsed A → Parsed (Unit {0})
end_of (got a next) = got tt next
end_of (fault p) = fault p

-- n pieces from place `at` on; none where they can't be read
abbrev pub contents_of : Parsed (List Content) → List Content
contents_of (got ps next) = ps
contents_of (fault p) = []

abbrev pub pieces_from : List ℕ → ℕ → ℕ → List Content
pieces_from s n at = contents_of (times n piece_layout.read s at)

-- ---- bodies

abbrev pub of_body : List ℕ → Body → rules.Body
of_body s Body.Empty = empty
of_body s (Body.Attrs a) = attrs (numbers (part_of s a.bitmap)) (part_of s a.values)
of_body s (Body.Handle d) = handle (part_of s d)
of_body s (Body.FileData a) = file_data a.eof (part_of s a.data)
of_body s (Body.Written a) = written a.count a.committed (part_of s a.verifier)
of_body s (Body.Copied a) = copied a.count a.committed (part_of s a.verifier) a.consecutive a.synchronous
of_body s (Body.Pieces a) = pieces a.eof (pieces_from s a.count a.first)
of_body s (Body.Sought a) = sought a.eof a.offset

-- ---- results

abbrev pub of_result : List ℕ → OpResult → rules.Result
of_result s r = record { number = r.number; status = r.status; body = of_body s r.body }

-- what was handed out, and the place where the reader then stands
abbrev pub of_step : List ℕ → Result (Option OpResult) Fault → ℕ → Step
of_step s (Ok (Some r)) at = handed (of_result s r) at
of_step s (Ok None) at = done
of_step s (Err e) at = faulty at

-- ---- a reply that is opened

-- status, tag and number of results
abbrev pub of_head : List ℕ → Head → ℕ × (List ℕ × ℕ)
of_head s h = (h.status, (part_of s h.tag, h.count))

-- so many results from place `at` on end with the reply and answer a request with the numbers ns
unfoldable pub results_good : List ℕ → ℕ → ℕ → ℕ → List ℕ → Bool
results_good s at count status ns = elim (times count result s at) [
  | got rs next ↦ eqb next (length s) && (agree status rs && follow (eqb status 0) ns rs)
  | fault p ↦ false
]

abbrev pub of_opened : List ℕ → Result Opened NotOpened → rules.Opened
of_opened s (Ok o) = record { number = 0; status = o.status; first = o.first }
of_opened s (Err e) = not_opened s

abbrev pub OpenPromise : (tag ns s : List ℕ) → Result Opened NotOpened → Type 0
OpenPromise tag ns s r = of_opened s r ≡ opened tag ns s
