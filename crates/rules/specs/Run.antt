-- An operation: its errors in order, what it does, its answer; and the operations reached (document 01, "The compound" and "The edits").
use Rattle.std.specs.Prelude.{ℕ, zero, suc, ◌+◌, ◌-◌, ◌*◌, ◌%◌, ◌^◌, min, Bool, true, false, cond, ◌&&◌, ◌||◌, not, List, [], ◌∷◌, length, get_or, replicate, leb, ltb, eqb}
use Rattle.std.proofs.Math.Option.{Option, none, some}
use Rattle.xdr.specs.Encode.{u32, opaque}
use Rattle.xdr.specs.Decode.{value}
use Rattle.rules.specs.Lists.{first}
use Rattle.rules.specs.Store.{Geometry, Store, size_of, fits_pool}
use Rattle.rules.specs.Edit.{Edit, writing, copying, cloning, allocating, deallocating, edited}
use Rattle.rules.specs.Operation.{NXIO, INVAL, FBIG, NOSPC, STALE, BADHANDLE, NOFILEHANDLE, BAD_STATEID, UNION_NOTSUPP, Op, GETATTR, GETFH, RESTOREFH, SAVEFH, PUTFH, READ, READ_PLUS, WRITE, ALLOCATE, DEALLOCATE, SEEK, COPY, CLONE, Item, op, bad, getattr_reply, read_reply, read_plus_reply, seek_reply, write_reply, copy_reply}

-- the current and the saved file, and the store
pub record State : Type 0 where
  pub current : Option ℕ
  pub saved : Option ℕ
  pub store : Store

abbrev pub no_file : Option ℕ → Bool
no_file none = true
no_file (some f) = false

-- asked only where there is one: NOFILEHANDLE comes before
abbrev pub file_of : Option ℕ → ℕ
file_of none = 0
file_of (some f) = f

-- ---- stateids

abbrev pub same_bytes : List ℕ → List ℕ → Bool
same_bytes [] [] = true
same_bytes [] (y ∷ ys) = false
same_bytes (x ∷ xs) [] = false
same_bytes (x ∷ xs) (y ∷ ys) = eqb x y && same_bytes xs ys

-- sixteen zero bytes always pass
abbrev pub zero_id : List ℕ
zero_id = replicate 16 0

abbrev pub zero_stateid : List ℕ → Bool
zero_stateid i = same_bytes i zero_id

-- for reading, and as a source, sixteen bytes of 255 pass too
abbrev pub read_stateid : List ℕ → Bool
read_stateid i = zero_stateid i || same_bytes i (replicate 16 255)

-- ---- regions and sources

-- a region of n bytes: the sum's range, and the file's room (an empty region needs none)
abbrev pub too_far : ℕ → ℕ → Bool × ℕ
too_far off n = (leb (2 ^ 64) (off + n), INVAL)

abbrev pub too_big : Geometry → ℕ → ℕ → Bool × ℕ
too_big g off n = (ltb 0 n && ltb (g.S * g.B) (off + n), FBIG)

-- how many bytes of file s are meant: a count of 0 means to its end, none past it
abbrev pub source_count : Store → ℕ → ℕ → ℕ → ℕ
source_count st s soff n = cond (eqb n 0) (size_of st s - soff) n

-- the source offset, or offset plus count, is past the source's size
abbrev pub past_source : Store → ℕ → ℕ → ℕ → Bool
past_source st s soff n = ltb (size_of st s) (soff + n)

-- two ranges of n bytes have a byte in common
abbrev pub overlap : ℕ → ℕ → ℕ → Bool
overlap a b n = ltb a (b + n) && ltb b (a + n)

-- an offset is no multiple of B, or the length is none and does not end at the source's size
abbrev pub uneven : Geometry → Store → ℕ → ℕ → ℕ → ℕ → Bool
uneven g st s soff off n =
    not (eqb (soff % g.B) 0) || not (eqb (off % g.B) 0) || (not (eqb (n % g.B) 0) && not (eqb (soff + n) (size_of st s)))

-- ---- the errors of an operation that was read, in order. BADXDR and NOTSUPP came before, where it was read; NOSPC comes last, where its
-- effect is judged.

-- handles are four bytes, the file's number (house); length 0 of ALLOCATE and DEALLOCATE is INVAL (house); SEEK at the size is no error (request K2)
unfoldable pub errors : Geometry → State → Op → List (Bool × ℕ)
errors g x (GETATTR ws) = (no_file x.current, NOFILEHANDLE) ∷ []
errors g x GETFH = (no_file x.current, NOFILEHANDLE) ∷ []
errors g x SAVEFH = (no_file x.current, NOFILEHANDLE) ∷ []
errors g x RESTOREFH = (no_file x.saved, NOFILEHANDLE) ∷ []
errors g x (PUTFH h) = (not (eqb (length h) 4), BADHANDLE) ∷ (leb g.F (value h), STALE) ∷ []
errors g x (READ i o n) = (no_file x.current, NOFILEHANDLE) ∷ (not (read_stateid i), BAD_STATEID) ∷ []
errors g x (READ_PLUS i o n) = (no_file x.current, NOFILEHANDLE) ∷ (not (read_stateid i), BAD_STATEID) ∷ []
errors g x (SEEK i o what) =
    (no_file x.current, NOFILEHANDLE) ∷ (not (read_stateid i), BAD_STATEID)
    ∷ (ltb 1 what, UNION_NOTSUPP) ∷ (ltb (size_of x.store (file_of x.current)) o, NXIO) ∷ []
errors g x (WRITE i o s d) =
    (no_file x.current, NOFILEHANDLE) ∷ (not (zero_stateid i), BAD_STATEID) ∷ too_far o (length d) ∷ too_big g o (length d) ∷ []
errors g x (ALLOCATE i o n) =
    (no_file x.current, NOFILEHANDLE) ∷ (not (zero_stateid i), BAD_STATEID) ∷ too_far o n ∷ (eqb n 0, INVAL) ∷ too_big g o n ∷ []
errors g x (DEALLOCATE i o n) =
    (no_file x.current, NOFILEHANDLE) ∷ (not (zero_stateid i), BAD_STATEID) ∷ too_far o n ∷ (eqb n 0, INVAL) ∷ []
errors g x (COPY i j s o n c y) =
    let e = file_of x.saved in
    let meant = source_count x.store e s n in
    (no_file x.saved || no_file x.current, NOFILEHANDLE) ∷ (not (read_stateid i) || not (zero_stateid j), BAD_STATEID)
    ∷ (eqb e (file_of x.current), INVAL) ∷ (past_source x.store e s n, INVAL) ∷ too_far o meant ∷ too_big g o meant ∷ []
errors g x (CLONE i j s o n) =
    let e = file_of x.saved in
    let meant = source_count x.store e s n in
    (no_file x.saved || no_file x.current, NOFILEHANDLE) ∷ (not (read_stateid i) || not (zero_stateid j), BAD_STATEID)
    ∷ (past_source x.store e s n, INVAL) ∷ (eqb e (file_of x.current) && overlap s o meant, INVAL) ∷ (uneven g x.store e s o meant, INVAL)
    ∷ too_far o meant ∷ too_big g o meant ∷ []

-- ---- what it does

-- what a serving call is given beside the store, the request and the reply buffer
pub record Config : Type 0 where
  pub geometry : Geometry
  pub verifier : List ℕ

abbrev pub config : Geometry → List ℕ → Config
config g v = record { geometry = g; verifier = v }

-- What an operation without error does: it sets the handles (the current and the saved file), or shows (the body of its result), or edits
-- (the edit, and the body of its result from the verifier).
pub data Does : Type 0 where
  sets : Option ℕ → Option ℕ → Does
  shows : List ℕ → Does
  edits : Edit → (List ℕ → List ℕ) → Does

-- DEALLOCATE's region is cut at the size
unfoldable pub does : Geometry → State → Op → Does
does g x (GETATTR ws) = shows (getattr_reply g x.store (file_of x.current) ws)
does g x GETFH = shows (opaque (u32 (file_of x.current)))
does g x SAVEFH = sets x.current x.current
does g x RESTOREFH = sets x.saved x.saved
does g x (PUTFH h) = sets (some (value h)) x.saved
does g x (READ i o n) = shows (read_reply g x.store (file_of x.current) o n)
does g x (READ_PLUS i o n) = shows (read_plus_reply g x.store (file_of x.current) o n)
does g x (SEEK i o what) = shows (seek_reply g x.store (file_of x.current) o what)
does g x (WRITE i o s d) = edits (writing (file_of x.current) o (o + length d) (λ p. get_or d (p - o) 0)) (write_reply (length d))
does g x (ALLOCATE i o n) = edits (allocating (file_of x.current) o (o + n)) (λ v. [])
does g x (DEALLOCATE i o n) = let f = file_of x.current in edits (deallocating f o (min (o + n) (size_of x.store f))) (λ v. [])
does g x (COPY i j s o n c y) =
    let meant = source_count x.store (file_of x.saved) s n in
    edits (copying (file_of x.current) o (o + meant) (file_of x.saved) s) (copy_reply meant)
does g x (CLONE i j s o n) =
    let meant = source_count x.store (file_of x.saved) s n in
    edits (cloning (file_of x.current) o (o + meant) (file_of x.saved) s) (λ v. [])

-- the edit of an operation, if it is one
unfoldable pub edit_of : Geometry → State → Op → Option Edit
edit_of g x o = elim (does g x o) [ sets a b ↦ none | shows b ↦ none | edits e b ↦ some e ]

-- the state that an operation without error leaves, in a pool without end
unfoldable pub effect : Geometry → State → Op → State
effect g x o = elim (does g x o) [
  | sets a b ↦ record { current = a; saved = b; store = x.store }
  | shows b ↦ x
  | edits e b ↦ record { current = x.current; saved = x.saved; store = edited g x.store e }
]

-- the body of its result
unfoldable pub body : Geometry → List ℕ → State → Op → List ℕ
body g v x o = elim (does g x o) [ sets a b ↦ [] | shows b ↦ b | edits e b ↦ b v ]

-- ---- running a compound

-- an operation reached, the state before it, and its answer
pub record Event : Type 0 where
  pub item : Item
  pub before : State
  pub status : ℕ
  pub after : State
  pub body : List ℕ

-- an operation that fails changes nothing
abbrev pub failed : Item → State → ℕ → Event
failed i x e = record { item = i; before = x; status = e; after = x; body = [] }

-- *Counted after* (document 01's term): the words that the edit would leave, blocks being numbered on from N.
abbrev pub counted_after : Geometry → State → Op → List ℕ
counted_after g x o = (effect g x o).store.words

-- NOSPC comes last, exactly if used + owed, counted after the whole edit, don't fit the pool
unfoldable pub perform : Config → State → Op → ℕ → Event
perform c x o next = elim (first (errors c.geometry x o)) [
  | zero ↦ cond (fits_pool c.geometry.N (counted_after c.geometry x o))
      (record { item = op o next; before = x; status = 0; after = effect c.geometry x o; body = body c.geometry c.verifier x o })
      (failed (op o next) x NOSPC)
  | suc e ↦ failed (op o next) x (suc e)
]

-- *Reached* (document 01's term): every operation before it in its compound answered OK. The first that fails is the last.
unfoldable pub reached : Config → State → List Item → List Event
reached c x [] = []
reached c x (bad k e ∷ rest) = failed (bad k e) x e ∷ []
reached c x (op o next ∷ rest) =
    let z = perform c x o next in
    elim z.status [ zero ↦ z ∷ reached c z.after rest | suc e ↦ z ∷ [] ]
