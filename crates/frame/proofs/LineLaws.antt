-- Laws on the call on a line: one for each way out.
use Prim.Native.Nat.{ℕ, zero, suc, ◌*◌, ◌≤◌, ◌<◌}
use mathlib.Core.Path.{◌≡◌, refl, sym, ap, ◌∙◌}
use mathlib.Core.Bool.{Bool, true, false, cond}
use mathlib.Core.Option.{Option, none, some}
use mathlib.Core.List.{List, ◌++◌}
use mathlib.Core.Logic.{◌≢◌}
use native.Mathlib.Omega.{arith}
use lib.ListN.{length, take, drop, replicate, length-replicate, length-take}
use lib.Seq.{length-take-le, take_at}
use lib.Dec.{eqb}
use borrow.Author.Tests.{le-ltb, eq-eqb, ne_eqb}
use Rattle.rules.specs.Store.{Geometry, Store}
use Rattle.rules.specs.Calls.{Outcome, answer, Contract}
use Rattle.rules.specs.Line.{hex_line, request_of, frame_geometry, frame_call, refusal_line, answer_request, answer_line}
use Rattle.rules.proofs.AnswerLaws.{refused-number, reply-bound, reply-length}
use Rattle.rules.specs.Run.{config}
use Rattle.std.specs.Prelude.{Some, None}
use Rattle.frame.specs.Hex.{RequestRead}
use Rattle.frame.specs.Printing.{Printed}
use Rattle.tables.specs.declared.refusal.Refusal.{Refusal}
use Rattle.compound.specs.declared.served.Refused.{Refused}
use Rattle.compound.specs.Runner.{refused_number}
use Rattle.frame.specs.LineCall.{line_into, LinePromise}
use Rattle.frame.proofs.HexLaws.{length-hex}

-- ---- a request

-- the call with the arguments of a frame
pub frame_called : {d : Geometry} {buf : List ℕ} (s : List ℕ) (st : Store) {o : Outcome Store} → d ≡ frame_geometry → buf ≡ replicate 32768 0
    → Contract (record { config = config d (replicate 8 0); request = s; buffer = buf }) st o → Contract (frame_call s) st o
frame_called s st p r k = rw (← p, ← r) k

module _ (s : List ℕ) (st : Store) {o : Outcome Store} (k : Contract (frame_call s) st o) where
  pub number_small : o.number < 10
  number_small = go (answer (frame_call s) st).number refl
    where
      go : (n : ℕ) → (answer (frame_call s) st).number ≡ n → o.number < 10
      go zero e = omega (arith, k.number)
      go (suc n) e = omega (arith, k.number, (refused-number (frame_call s) st (λ z. omega (arith, z))).number)

  pub written_small : o.written ≤ 27184
  written_small = omega (arith, k.written, reply-bound (frame_call s) st)

  pub written_fits : o.written ≤ length o.reply
  written_fits =
      let e : length o.reply ≡ 32768 = ap length k.reply ∙ reply-length (frame_call s) st ∙ length-replicate {A = ℕ} 32768 0 in
      omega (arith, written_small)

  pub digits-fit : {room : ℕ} → 65536 ≤ room → 2 * length (take o.written o.reply) ≤ room
  digits-fit h = omega (arith, length-take-le o.written o.reply written_fits, written_small)

  module _ {out after : List ℕ} {n : ℕ} where
    pub request-refused : o.number ≢ 0 → Printed (refusal_line o.number) out n after → LinePromise (answer_request st s) out n after o.store
    unfolding answer_request answer
    request-refused h w =
        let e = ne_eqb (answer (frame_call s) st).number 0 (λ z. h (k.number ∙ z)) in
        rw e (record {
          length_is = w.length_is;
          out_is = w.out_is ∙ ap (λ m. refusal_line m ++ drop 2 out) k.number;
          sizes_are = k.sizes;
          words_are = k.words;
          mem_is = k.mem;
        })

    pub request-served : o.number ≡ 0 → Printed (hex_line (take o.written o.reply)) out n after → LinePromise (answer_request st s) out n after o.store
    unfolding answer_request answer
    request-served h w =
        let e = eq-eqb (answer (frame_call s) st).number 0 (sym k.number ∙ h) in
        rw (e, ← k.written, ← k.reply) (record { length_is = w.length_is; out_is = w.out_is; sizes_are = k.sizes; words_are = k.words; mem_is = k.mem })

-- a refusal has a number
pub refused_some : (e : Refused) → refused_number e ≢ 0
refused_some (Refused.Tables Refusal.Geometry) h = omega (arith, h)
refused_some (Refused.Tables Refusal.Length) h = omega (arith, h)
refused_some (Refused.Tables Refusal.Unsound) h = omega (arith, h)
refused_some (Refused.Tables Refusal.NoSlot) h = omega (arith, h)
refused_some Refused.LongRequest h = omega (arith, h)
refused_some Refused.ShortReply h = omega (arith, h)
refused_some (Refused.BadHeader p) h = omega (arith, h)

-- ---- a line

module _ {l buffer req : List ℕ} (st : Store) {out after : List ℕ} {n : ℕ} where
  pub line_refused : RequestRead l buffer req None → Printed (refusal_line 7) out n after → LinePromise (answer_line st l) out n after st
  unfolding answer_line
  line_refused read w = rw (read.bytes, answer_line) (record { length_is = w.length_is; out_is = w.out_is; sizes_are = refl; words_are = refl; mem_is = refl })

  pub line-served : {left : Store} {k : ℕ} → RequestRead l buffer req (Some k) → LinePromise (answer_request st (take k req)) out n after left
      → LinePromise (answer_line st l) out n after left
  unfolding answer_line
  line-served read p = rw (read.bytes, answer_line) p

-- ---- the length of a line

request-most : (st : Store) (s : List ℕ) → length (answer_request st s).line ≤ 54368
unfolding answer_request
request-most st s = go (eqb o.number 0)
  where
    o : Outcome Store
    o = answer (frame_call s) st

    go : (t : Bool) → length (cond t (hex_line (take o.written o.reply)) (refusal_line o.number)) ≤ 54368
    go true = omega (arith, length-hex (take o.written o.reply), length-take o.written o.reply, reply-bound (frame_call s) st)
    go false = omega arith

pub line-most : (st : Store) (l : List ℕ) → length (answer_line st l).line ≤ 54368
unfolding answer_line
line-most st l = go (request_of l) refl
  where
    go : (r : Option (List ℕ)) → request_of l ≡ r → length (answer_line st l).line ≤ 54368
    go none e = rw (e, answer_line) (omega arith)
    go (some s) e = rw (e, answer_line) (request-most st s)

-- ---- a line that was written, as those who go on with it want it

module _ (st : Store) (l : List ℕ) {out after : List ℕ} {n : ℕ} {left : Store} (h : 65536 ≤ length out) (p : LinePromise (line_into out st l) out n after left) where
  into : LinePromise (answer_line st l) out n after left
  unfolding line_into
  into = rw (le-ltb (length out) 65536 h) at p

  pub line-written : take n after ≡ (answer_line st l).line
  line-written = ap (take n) into.out_is ∙ take_at (answer_line st l).line _ n (sym into.length_is)

  pub line-many : n ≡ length (answer_line st l).line
  line-many = into.length_is

  pub line-stands : after ≡ (answer_line st l).line ++ drop (length (answer_line st l).line) out
  line-stands = into.out_is

  pub line-fits : n ≤ 54368
  line-fits = omega (arith, into.length_is, line-most st l)

  pub store_is : left ≡ (answer_line st l).store
  store_is =
      let s = (answer_line st l).store in
      ap (λ x. record { sizes = x; words = left.words; mem = left.mem }) into.sizes_are
      ∙ ap (λ x. record { sizes = s.sizes; words = x; mem = left.mem }) into.words_are
      ∙ ap (λ x. record { sizes = s.sizes; words = s.words; mem = x }) into.mem_is
