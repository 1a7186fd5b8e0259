use Rattle.std.proofs.Common.{rules, ◌≡◌, Ok, sym, refl, ap}
use mathlib.Core.Bool.{Bool, cond}
use Rattle.xdr.proofs.EncodeLaws.{length-u64}
use Rattle.rules.specs.Operation.{header}
use Rattle.xdr.specs.Decode.{fault}
use Rattle.tables.specs.Lent.{geometry_of}
use Rattle.store.specs.Whole.{whole}
use Rattle.wire.specs.Decoded.{header_of}
use Rattle.compound.specs.declared.served.Refused.{Refused}
use Rattle.compound.proofs.WholeLaws.{good, lengths}
use Rattle.compound.proofs.ServeLaws.{refused-long, refused-short, refused-header, serves, tag-short, with-reply}
use Rattle.compound.proofs.serving.serve_sound.Goals as goal

pub returns-then-request-gt-MAX_REQUEST-clause-contract : goal.returns-then-request-gt-MAX_REQUEST-clause-contract
returns-then-request-gt-MAX_REQUEST-clause-contract c =
    let t = c.args.store.now in
    refused-long (geometry_of t.geometry) _ c.args.request.now c.args.reply.now (whole t) (good t) (lengths t) (length-u64 _) c.if-request-gt-MAX_REQUEST.true
    Refused.LongRequest (ap (λ (b : Bool). cond b 4 3) (sym t.is_sound)) refl

pub returns-then-reply-lt-MIN_REPLY-clause-contract : goal.returns-then-reply-lt-MIN_REPLY-clause-contract
returns-then-reply-lt-MIN_REPLY-clause-contract c =
    let t = c.args.store.now in
    refused-short (geometry_of t.geometry) _ c.args.request.now c.args.reply.now (whole t) (good t) (lengths t) (length-u64 _)
    c.if-request-gt-MAX_REQUEST.false c.if-reply-lt-MIN_REPLY.true Refused.ShortReply (ap (λ (b : Bool). cond b 5 3) (sym t.is_sound)) refl

pub returns-in_default-clause-contract : goal.returns-in_default-clause-contract
returns-in_default-clause-contract c =
    let t = c.args.store.now in
    let e : header c.args.request.now 0 ≡ fault c.header.new.r.at = search rules in
    refused-header (geometry_of t.geometry) _ c.args.request.now c.args.reply.now (whole t) (good t) (lengths t) (length-u64 _) t.is_sound
    c.if-request-gt-MAX_REQUEST.false c.if-reply-lt-MIN_REPLY.false e

pub serve_operations-requires-clause-tag : goal.serve_operations-requires-clause-tag
serve_operations-requires-clause-tag c =
    let s = c.args.request.now in
    let e = rw (c.new-reader.ensures.bytes, c.new-reader.ensures.place) at c.in-Some.ensures.value in
    rw (c.header.ensures.bytes, c.new-reader.ensures.bytes) (tag-short s {h = header_of s c.in-Some.header} {at = c.header.new.r.at} (sym e))

pub returns-clause-contract : goal.returns-clause-contract
returns-clause-contract c =
    let t = c.args.store.now in
    let e = rw (c.new-reader.ensures.bytes, c.new-reader.ensures.place) at c.in-Some.ensures.value in
    let served = rw (c.header.ensures.bytes, c.new-reader.ensures.bytes) at c.serve_operations.ensures.served in
    with-reply (Ok c.serve_operations.result) (whole c.serve_operations.new.store) (search rules)
    (serves (geometry_of t.geometry) _ c.args.request.now c.args.reply.now (whole t) (good t) (lengths t) (length-u64 _) t.is_sound
    c.if-request-gt-MAX_REQUEST.false c.if-reply-lt-MIN_REPLY.false c.serve_operations.result (sym e) served)
