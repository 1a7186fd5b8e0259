-- A client's call of PUTFH and SEEK: it is served, leaves the store, and its reply, read, has SEEK's eof and place.
use Prim.Native.Nat.{ℕ, ◌+◌, ◌^◌, ◌≤◌, ◌<◌}
use mathlib.Core.Path.{◌≡◌, refl, ap, ◌∙◌, subst}
use mathlib.Core.Bool.{Bool, true, false, cond}
use mathlib.Core.Option.{none, some}
use mathlib.Core.List.{List, [], ◌∷◌, append-nil}
use native.Mathlib.Nat.{mod-eq_of_lt}
use native.Mathlib.Omega.{arith}
use borrow.Author.Tests.{lt-leb, le-ltb, lt-ltb}
use lib.ListN.{length, length-append}
use lib.Dec.{eqb}
use Rattle.xdr.specs.Encode.{u32}
use Rattle.xdr.specs.Decode.{value}
use Rattle.xdr.specs.Layout.{every, uint, boolean, hyper, ◌then◌}
use Rattle.xdr.proofs.EncodeLaws.{length-u32, length-u64, length-opaque, value-be}
use Rattle.xdr.proofs.RoundTrip.{Stands}
use Rattle.xdr.proofs.LayoutLaws.{ReadsBack, uint-back, hyper-back, boolean-back, then-back}
use Rattle.rules.specs.Store.{Store, size_of}
use Rattle.rules.specs.Read.{seek_place}
use Rattle.rules.specs.Operation.{Op, PUTFH, SEEK, op_bytes, op_fits, op, Header, header_layout, request_bytes, seek_result, seek_reply}
use Rattle.rules.specs.Run.{State, zero_id, errors, Config, does, effect, body, Event, perform, reached}
use Rattle.rules.specs.Calls.{fresh, compound, result_layout, result_bytes, last_status, last_store, reply_head, reply_bytes, Call, refusal, answer}
use Rattle.rules.specs.Seek.{seek_call, SeekReplied, seek_replied, sought, WalkGiven}
use Rattle.rules.proofs.GeometryLaws.{Good, good, block-pos, file-small}
use Rattle.rules.proofs.SoundStore.{Sound}
use Rattle.rules.proofs.SoundLaws.{sound-facts}
use Rattle.rules.proofs.OperationLaws.{perform-done}
use Rattle.rules.proofs.ChainLaws.{reached-on}
use Rattle.rules.proofs.SeekLaws.{seek_finds, seek_passes, seek_body}
use Rattle.rules.proofs.ReplyLaws.{head-back, result-back}
use Rattle.rules.proofs.RequestLaws.{header-back, request-items}
use Rattle.rules.proofs.AnswerLaws.{Accepted, stands, store_is}

-- ---- the reply that a client reads

replied-back : ReadsBack seek_replied
replied-back =
    then-back reply_head (result_layout 0 then uint then uint then seek_result) head-back
    (then-back (result_layout 0) (uint then uint then seek_result) (result-back 0)
    (then-back uint (uint then seek_result) uint-back (then-back uint seek_result uint-back (then-back boolean hyper boolean-back hyper-back))))

-- ---- a call of the walk

module _ (c : Config) (buffer : List ℕ) (st : Store) (f : ℕ) (h : WalkGiven c buffer st f) where
  pub bd : Good c.geometry
  bd = good c.geometry h.geometry

  pub facts : Sound c.geometry st
  facts = sound-facts c.geometry (block-pos bd) st h.lengths h.sound

  module _ (hole : Bool) (off : ℕ) (l : off ≤ size_of st f) where
    abbrev what : ℕ
    what = cond hole 1 0

    what-most : what ≤ 1
    what-most = go hole
      where
        go : (b : Bool) → cond b 1 0 ≤ 1
        go true = omega arith
        go false = omega arith

    -- the two operations, and the call
    abbrev ops : List Op
    ops = PUTFH (u32 f) ∷ SEEK zero_id off what ∷ []

    abbrev call : Call
    call = seek_call c buffer f hole off

    request-short : length (request_bytes [] ops) ≤ 65536
    unfolding request_bytes
    request-short = simp (length-append, length-u32, length-u64, length-opaque) (omega arith)

    passes : refusal call st ≡ 0
    unfolding refusal
    passes = rw (h.geometry, h.lengths, h.verifier, h.sound, le-ltb _ _ request-short, le-ltb _ _ h.room)

    abbrev head : Header
    head = record { tag = []; minor = 2; ops = 2 }

    abbrev at : ℕ
    at = 0 + length (header_layout.write ([], (2, 2)))

    accepted : Accepted call st head at
    accepted = record { passes = passes; decoded = header-back [] (omega arith) ops (omega arith) }

    -- PUTFH makes file f current, and SEEK shows its body
    abbrev opened : State
    opened = record { current = some f; saved = none; store = st }

    abbrev place : ℕ
    place = seek_place c.geometry st f hole off

    abbrev put_done : ℕ → Event
    put_done next = record { item = op (PUTFH (u32 f)) next; before = fresh st; status = 0; after = opened; body = [] }

    abbrev seek_done : ℕ → Event
    seek_done next = record { item = op (SEEK zero_id off what) next; before = opened; status = 0; after = opened; body = seek_reply c.geometry st f off what }

    number : value (u32 f) ≡ f
    unfolding u32
    number = value-be 4 f ∙ mod-eq_of_lt (omega (arith, h.file, bd.files_most))

    put_done_lem : (next : ℕ) → perform c (fresh st) (PUTFH (u32 f)) next ≡ put_done next
    unfolding errors effect body does
    put_done_lem next =
        perform-done c (fresh st) (PUTFH (u32 f)) next (rw (length-u32 f, number, lt-leb c.geometry.F f h.file)) facts.room
        ∙ rw number

    seek_done_lem : (next : ℕ) → perform c opened (SEEK zero_id off what) next ≡ seek_done next
    unfolding effect does
    seek_done_lem next =
        perform-done c opened (SEEK zero_id off what) next (seek_passes c.geometry opened f refl zero_id refl off what what-most l) facts.room
        ∙ ap (λ b. record { item = op (SEEK zero_id off what) next; before = opened; status = 0; after = opened; body = b })
        (seek_body c.geometry opened f refl zero_id refl off what c.verifier)

    -- the operations reached are these two
    behind_put : ℕ
    behind_put = at + length (op_bytes (PUTFH (u32 f)))

    behind_seek : ℕ
    behind_seek = behind_put + length (op_bytes (SEEK zero_id off what))

    abbrev both : List Event
    both = put_done behind_put ∷ seek_done behind_seek ∷ []

    fit : every op_fits ops ≡ true
    fit =
        rw (length-u32 f, lt-ltb off (2 ^ 64) (omega (arith, l, facts.fits f h.file, file-small bd)), lt-ltb what (2 ^ 32) (omega (arith, what-most)))

    events_are : compound c st call.request head at ≡ both
    unfolding compound reached behind_put behind_seek
    events_are =
        ap (reached c (fresh st))
        (request-items [] ops fit)
        ∙ reached-on c (fresh st) (PUTFH (u32 f)) behind_put (op (SEEK zero_id off what) behind_seek ∷ []) (put_done behind_put) (put_done_lem behind_put) refl
        ∙ ap (λ zs. put_done behind_put ∷ zs) (reached-on c opened (SEEK zero_id off what) behind_seek [] (seek_done behind_seek) (seek_done_lem behind_seek) refl)

    -- what its reply says
    abbrev eof : Bool
    eof = eqb place (size_of st f)

    abbrev replied : SeekReplied
    replied = ((0, ([], 2)), ((22, (0, [])), (69, (0, (eof, place)))))

    kind-is : eqb what 1 ≡ hole
    kind-is = go hole
      where
        go : (b : Bool) → eqb (cond b 1 0) 1 ≡ b
        go true = refl
        go false = refl

    bytes_are : reply_bytes 0 [] both ≡ seek_replied.write replied
    unfolding reply_bytes seek_reply
    bytes_are = rw (append-nil (result_bytes (seek_done behind_seek)), kind-is)

    reply-stands : Stands (answer call st).reply 0 (seek_replied.write replied)
    reply-stands = subst (Stands (answer call st).reply 0) (ap (λ zs. reply_bytes (last_status 0 zs) [] zs) events_are ∙ bytes_are) (stands accepted)

    pub sought-is : sought (answer (seek_call c buffer f hole off) st).reply ≡ some (eqb (seek_place c.geometry st f hole off) (size_of st f), seek_place c.geometry st f hole off)
    sought-is =
        let finds = seek_finds c.geometry (block-pos bd) st f (facts.fits f h.file) hole off l in
        let small : place < 2 ^ 64 = omega (arith, finds.to, facts.fits f h.file, file-small bd) in
        let fits : seek_replied.fits replied ≡ true = rw (lt-ltb place (2 ^ 64) small) in
        rw (replied-back replied fits (answer call st).reply 0 reply-stands, sought)

    pub store-stays : (answer (seek_call c buffer f hole off) st).store ≡ st
    store-stays = store_is accepted ∙ ap (last_store st) events_are
