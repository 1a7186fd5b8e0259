-- The call that serves a compound: its refusals one by one, and the reply of the operations reached.
use Prim.Native.Nat.{ℕ, zero, suc, ◌+◌, ◌≤◌, ◌<◌}
use mathlib.Core.Path.{◌≡◌, refl, sym, ap, ◌∙◌, subst}
use mathlib.Core.Bool.{Bool, true, false, not, cond, ◌&&◌}
use mathlib.Core.List.{List, [], ◌++◌, append_assoc}
use native.Mathlib.Omega.{arith}
use native.Mathlib.Nat.{zero-add}
use borrow.Author.Tests.{lt-ltb, le-ltb, eq-eqb, ne_eqb}
use lib.ListN.{length, drop, get_or}
use lib.Dec.{eqb, ltb}
use Rattle.std.proofs.Common.{Result, Ok, Err, Some, None, IfSome, is_some}
use Rattle.std.specs.declared.option.Option as Std
use Rattle.xdr.specs.Bytes.{splice}
use Rattle.xdr.specs.Encode.{u32, u64, opaque, concat_map}
use Rattle.xdr.specs.Decode.{number, got, fault}
use Rattle.xdr.specs.Reading.{parsed, itself}
use Rattle.xdr.specs.Writing.{Wrote, WroteOver}
use Rattle.xdr.specs.declared.writer.Writer.{Writer}
use Rattle.xdr.proofs.EncodeLaws.{length-u32}
use Rattle.xdr.proofs.ReadingLaws.{word_found, word-missed}
use Rattle.xdr.proofs.NumberLaws.{no-fault, spelled, u64-value}
use Rattle.xdr.proofs.WritingLaws.{wrote_none, wrote_then, wrote_over, wrote_spliced}
use Rattle.rules.specs.Store.{Geometry, good_geometry, Store, good_lengths, sound}
use Rattle.rules.specs.Operation.{BADXDR, items, Header, header}
use Rattle.rules.specs.Fault.{NOWHERE}
use Rattle.rules.specs.Run.{Config, config, reached}
use Rattle.rules.specs.Calls.{result_bytes, reply_bytes, last_status, fresh, header_status, compound, Outcome, Gives, with_place, refuse, served, refusal, make_refusal, Call, answer_no_place, last_fault, place_of, answer, Contract}
use Rattle.rules.proofs.ItemLaws.{header-reads}
use Rattle.rules.proofs.AnswerLaws.{header-own}
use Rattle.wire.specs.declared.status.Status.{Status}
use Rattle.wire.specs.Status.{number_of}
use Rattle.tables.specs.declared.refusal.Refusal.{Refusal}
use Rattle.tables.specs.Refusal as Tables
use Rattle.compound.specs.declared.run.Ended.{Ended}
use Rattle.compound.specs.declared.served.Served.{Served}
use Rattle.compound.specs.declared.served.Refused.{Refused}
use Rattle.compound.specs.Runner.{RanAll, ServedAs, refused_number, refused_place, call, outcome}

-- ---- the verifier

pub verifier-read : (r : Std.Option ℕ) (at : ℕ) (v : List ℕ) → length v ≡ 8 → ((i : ℕ) → get_or v i 0 < 256) → parsed itself r at ≡ number 8 v 0
    → (is_some r ≡ eqb (length v) 8) × IfSome r (λ n. u64 n ≡ v)
verifier-read None at v long small e = absurd (no-fault 8 v long 0 refl (word-missed at refl e refl))
verifier-read (Some n) at v long small e = (sym (eq-eqb (length v) 8 long), u64-value v long small (spelled 8 v long 0 refl (word_found at e refl)))

-- ---- the operations of a compound whose header is h

module _ (c : Config) (st : Store) (s : List ℕ) (h : Header) (at : ℕ) where
  events-none : (e : ℕ) → header_status h ≡ e → 0 < e → compound c st s h at ≡ []
  unfolding compound
  events-none zero q n = absurd (omega arith)
  events-none (suc e) q n = rw (q, compound)

  -- one that is refused as a whole
  pub ran-none : (e : Status) → number_of e ≡ header_status h → 0 < number_of e → (w : Writer)
      → RanAll (header_status h) s (compound c st s h at) st at (record { count = 0; status = e; place = None }) at st w w
  ran-none e q n w = rw (events-none (number_of e) (sym q) n) (record {
    status = q;
    count = refl;
    read = refl;
    place = rw (ne_eqb (header_status h) BADXDR (header-own h).not_badxdr);
    store = refl;
    wrote = wrote_none w;
  })

  pub ran-some : 0 ≡ header_status h → {r : Ended} {next : ℕ} {after : Store} {w v : Writer}
      → RanAll 0 s (reached c (fresh st) (items s h.ops at)) st at r next after w v
      → RanAll (header_status h) s (compound c st s h at) st at r next after w v
  unfolding compound
  ran-some q ran = rw (← q, compound) ran

  -- ---- the reply: zeros, tag and zeros, then the results; the head put over the zeros

  abbrev bytes : List ℕ
  bytes = reply_bytes (last_status (header_status h) (compound c st s h at)) h.tag (compound c st s h at)

  module _ {r : Ended} {next : ℕ} {after : Store} {w₀ w₁ w₂ w₃ w₄ w₅ w₆ : Writer} (start : w₀.at ≡ 0) (room : 32768 ≤ length w₀.out.now)
      (short : length (opaque h.tag) ≤ 1028) (first : Wrote (u32 0) w₀ w₁) (tag : Wrote (opaque h.tag) w₁ w₂) (second : Wrote (u32 0) w₂ w₃)
      (ran : RanAll (header_status h) s (compound c st s h at) st at r next after w₃ w₄) (count : WroteOver w₂.at (u32 r.count) w₄ w₅)
      (status : WroteOver 0 (u32 (number_of r.status)) w₅ w₆) where
    whole-reply : Wrote bytes w₀ w₆
    unfolding reply_bytes
    whole-reply =
        let results = concat_map result_bytes (compound c st s h at) in
        let from = wrote_over (u32 0) results (omega (arith, start, room, short, first.place, first.size, tag.place, tag.size, length-u32 0)) (length-u32 r.count ∙ sym (length-u32 0))
        (wrote_then second ran.wrote) count in
        let all = wrote_over (u32 0) (opaque h.tag ++ (u32 r.count ++ results)) (omega (arith, start)) (length-u32 (number_of r.status) ∙ sym (length-u32 0))
        (wrote_then first (wrote_then tag from)) (rw start status) in
        rw (← ran.status, ← ran.count, append_assoc, append_assoc) all

    reply-is : w₆.out.now ≡ bytes ++ drop (length bytes) w₀.out.now
    unfolding splice
    reply-is = wrote_spliced whole-reply ∙ ap (λ (k : ℕ). splice w₀.out.now k bytes) start ∙ ap (λ (k : ℕ). bytes ++ drop k w₀.out.now) (zero-add (length bytes))

    pub served-right : ServedAs c st s h at w₀.out.now (record { read = next; written = w₆.at; place = r.place }) w₆.out.now after
    unfolding served last_fault
    served-right = record {
      number = refl;
      read = ran.read;
      written = whole-reply.place ∙ ap (λ (k : ℕ). k + length bytes) start ∙ zero-add (length bytes);
      place = ran.place;
      reply = reply-is;
      sizes = ap (λ (u : Store). u.sizes) ran.store;
      words = ap (λ (u : Store). u.words) ran.store;
      mem = ap (λ (u : Store). u.mem) ran.store;
    }

pub tag-short : (s : List ℕ) {h : Header} {at : ℕ} → header s 0 ≡ got h at → length h.tag ≤ 1024
tag-short s e = rw e at (header-reads s 0)

-- ---- the refusals

module _ (g : Geometry) (v s buf : List ℕ) (st : Store) where
  abbrev asked : Call
  asked = call (config g v) s buf

  refused-at : (k : ℕ) → refusal asked st ≡ k → 0 < k → answer asked st ≡ refuse k buf st
  unfolding answer answer_no_place place_of
  refused-at zero e n = absurd (omega arith)
  refused-at (suc k) e n = rw (e, answer_no_place, place_of)

  refuse-gives : {want : Outcome Store} (e : Refused) → want ≡ with_place (refused_place e) (refuse (refused_number e) buf st) → Gives want (outcome (Err e) buf st)
  refuse-gives e q = rw q (record { number = refl; read = refl; written = refl; place = refl; reply = refl; sizes = refl; words = refl; mem = refl })

  by : (e : Refused) → refused_place e ≡ NOWHERE → refusal asked st ≡ refused_number e → 0 < refused_number e → Contract asked st (outcome (Err e) buf st)
  by e p q n = refuse-gives e (refused-at (refused_number e) q n ∙ rw p refl)

  -- 1 and 2 by the tables
  made : (k : ℕ) → 0 < k → make_refusal g st ≡ k → refusal asked st ≡ k
  unfolding make_refusal refusal
  made k n e = go (good_geometry g) (good_lengths g st) e
    where
      go : (a b : Bool) → cond (not a) 1 (cond (not b) 2 0) ≡ k
          → cond (not a) 1 (cond (not (b && eqb (length v) 8)) 2 (cond (not (sound g st)) 3 (cond (ltb 65536 (length s)) 4 (cond (ltb (length buf) 32768) 5 0)))) ≡ k
      go false b q = q
      go true false q = q
      go true true q = absurd (omega arith)

  pub refused-made : (e : Refused) → refused_place e ≡ NOWHERE → 0 < refused_number e → make_refusal g st ≡ refused_number e → Contract asked st (outcome (Err e) buf st)
  refused-made e p n q = by e p (made (refused_number e) n q) n

  module _ (good : good_geometry g ≡ true) (fits : good_lengths g st ≡ true) where
    pub refused-verifier : eqb (length v) 8 ≡ false → Contract asked st (outcome (Err (Refused.Tables Refusal.Length)) buf st)
    unfolding refusal
    refused-verifier q = by (Refused.Tables Refusal.Length) refl (rw (good, fits, q) refl) (omega arith)

    module _ (long : length v ≡ 8) where
      is-unsound : sound g st ≡ false → refusal asked st ≡ 3
      unfolding refusal
      is-unsound q = rw (good, fits, eq-eqb (length v) 8 long, q) refl

      pub refused-unsound : sound g st ≡ false → Contract asked st (outcome (Err (Refused.Tables Refusal.Unsound)) buf st)
      refused-unsound q = by (Refused.Tables Refusal.Unsound) refl (is-unsound q) (omega arith)

      -- a refusal that comes behind it
      behind : (k : ℕ) → 0 < k → (sound g st ≡ true → refusal asked st ≡ k) → (e : Refused) → refused_number e ≡ cond (sound g st) k 3 → refused_place e ≡ NOWHERE
          → Contract asked st (outcome (Err e) buf st)
      behind k n then e q p = go (sound g st) refl
        where
          go : (b : Bool) → sound g st ≡ b → Contract asked st (outcome (Err e) buf st)
          go true h = let i : refused_number e ≡ k = rw h at q in by e p (then h ∙ sym i) (omega (arith, i, n))
          go false h = let i : refused_number e ≡ 3 = rw h at q in by e p (is-unsound h ∙ sym i) (omega (arith, i))

      long-is : 65536 < length s → sound g st ≡ true → refusal asked st ≡ 4
      unfolding refusal
      long-is l is-sound = rw (good, fits, eq-eqb (length v) 8 long, is-sound, lt-ltb 65536 (length s) l) refl

      short-is : length s ≤ 65536 → length buf < 32768 → sound g st ≡ true → refusal asked st ≡ 5
      unfolding refusal
      short-is short l is-sound = rw (good, fits, eq-eqb (length v) 8 long, is-sound, le-ltb 65536 (length s) short, lt-ltb (length buf) 32768 l) refl

      pub refused-long : 65536 < length s → (e : Refused) → refused_number e ≡ cond (sound g st) 4 3 → refused_place e ≡ NOWHERE → Contract asked st (outcome (Err e) buf st)
      refused-long l = behind 4 (omega arith) (long-is l)

      pub refused-short : length s ≤ 65536 → length buf < 32768 → (e : Refused) → refused_number e ≡ cond (sound g st) 5 3 → refused_place e ≡ NOWHERE
          → Contract asked st (outcome (Err e) buf st)
      refused-short short l = behind 5 (omega arith) (short-is short l)

      module _ (is-sound : sound g st ≡ true) (short : length s ≤ 65536) (room : 32768 ≤ length buf) where
        accepted : refusal asked st ≡ 0
        unfolding refusal
        accepted = rw (good, fits, eq-eqb (length v) 8 long, is-sound, le-ltb 65536 (length s) short, le-ltb (length buf) 32768 room) refl

        pub refused-header : {p : ℕ} → header s 0 ≡ fault p → Contract asked st (outcome (Err (Refused.BadHeader p)) buf st)
        unfolding answer answer_no_place place_of
        refused-header {p} e = refuse-gives (Refused.BadHeader p) (rw (accepted, e, answer_no_place, place_of) refl)

        pub serves : {h : Header} {at : ℕ} (r : Served) {reply : List ℕ} {after : Store} → header s 0 ≡ got h at
            → ServedAs (config g v) st s h at buf r reply after → Contract asked st (outcome (Ok r) reply after)
        unfolding answer answer_no_place place_of
        serves r e d = rw (accepted, e, answer_no_place, place_of) d

-- the same in a reply buffer that is the same
pub with-reply : {want : Outcome Store} (r : Result Served Refused) {l m : List ℕ} (st : Store) → l ≡ m → Gives want (outcome r m st) → Gives want (outcome r l st)
with-reply {want} r {l} {m} st e d = subst (λ (x : List ℕ). Gives want (outcome r x st)) (sym e) d

pub refusal-some : (r : Refusal) → 0 < Tables.number_of r
refusal-some Refusal.Geometry = omega arith
refusal-some Refusal.Length = omega arith
refusal-some Refusal.Unsound = omega arith
refusal-some Refusal.NoSlot = omega arith
