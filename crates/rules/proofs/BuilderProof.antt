-- What a builder's program has of the client's half, proved: what was written decodes, what was answered is read, and demand 3 of what is read.
use Prim.Native.Nat.{ℕ, zero, suc, ◌+◌, ◌≤◌}
use mathlib.Core.Path.{◌≡◌, refl, sym, ap, ◌∙◌, subst}
use mathlib.Core.Bool.{Bool, true, cond, ◌&&◌}
use mathlib.Core.List.{List, [], ◌∷◌, ◌++◌, Memᴰ}
use mathlib.Core.Logic.{◌⊎◌, inl, inr}
use native.Mathlib.Omega.{arith}
use borrow.Author.Tests.{leb-true, not-false, le-ltb, eq-eqb}
use lib.ListN.{length, take, drop, length-append}
use lib.Seq.{take-append_seam}
use lib.Dec.{leb, eqb}
use Rattle.xdr.specs.Layout.{every}
use Rattle.xdr.proofs.BoolLaws.{and_left, and_right, and_both}
use Rattle.xdr.specs.Encode.{concat_map}
use Rattle.xdr.specs.Decode.{Parsed, got, fault, stop}
use Rattle.xdr.proofs.RoundTrip.{Stands, stands-first, stands-rest}
use Rattle.rules.specs.Lists.{first}
use Rattle.rules.specs.Store.{Geometry, Store}
use Rattle.rules.specs.Operation.{Op, WRITE, op, file_sync, op_fits, request_bytes, header_layout, items, Header, header}
use Rattle.rules.specs.Run.{State, config, zero_id, Event, same_bytes, reached}
use Rattle.rules.specs.Calls.{fresh, header_status, compound, item_number, result_bytes, last_status, reply_head, reply_bytes, Call, Outcome, answer}
use Rattle.rules.specs.Client.{request_fits, Wrote, not_written, write_refusals, wrote, written, body_bytes, Result, Reply, reply, agree, follow, answers, not_opened, opened}
use Rattle.rules.specs.Claim.{Entry, serving, Each, machine, events, history, Allocated}
use Rattle.rules.specs.Builder.{items_from, Decodes, WritingClaim, SameResult, SameResults, op_numbers, ReadsAs, ReplyClaim, reply_of, results_in, pairs, readings, AllocatedAsRead, ReadsWritten, ReadsTrue, BuilderClaim}
use Rattle.rules.proofs.FirstLaws.{all-clear}
use Rattle.rules.proofs.GeometryLaws.{Good, good}
use Rattle.rules.proofs.OperationLaws.{Performed, refused, nospc, done}
use Rattle.rules.proofs.ChainLaws.{op_inj, op≢bad, Step, decoded, undecoded, Chain, nil, cons}
use Rattle.rules.proofs.ResultLaws.{write-shown}
use Rattle.rules.proofs.ClaimProof.{Fulfils, claim_of, no-events, serving_fulfils}
use Rattle.rules.proofs.RequestLaws.{stands-all, header-back, request-items}
use Rattle.rules.proofs.ReplyLaws.{compound-few, head_read, last_status_most}
use Rattle.rules.proofs.AnswerLaws.{Accepted, Refusal, early, no_header, accepted_or_refused, refused-is, header-own, passed, events_are, number_is, zs, status, reply as reply-of, accepted-chain, tag-short, buffer_is, written_is}
use Rattle.rules.proofs.ReadBackLaws.{verdict, opens_or, result_of, step-reads, chain-results, chain-read, chain_same, chain-agree, ran-follow}

-- ---- a request that was written

-- what the test says
record Fits (tag : List ℕ) (os : List Op) : Type 0 where
  few : length os ≤ 12
  writable : every op_fits os ≡ true
  short : length tag ≤ 1024
  small : length (request_bytes tag os) ≤ 65536

fits : (tag : List ℕ) (os : List Op) → request_fits tag os ≡ true → Fits tag os
fits tag os h =
    let a : Bool = leb (length os) 12 in
    let b : Bool = every op_fits os in
    let c : Bool = leb (length tag) 1024 in
    let d : Bool = leb (length (request_bytes tag os)) 65536 in
    let abc = and_left (a && b && c) d h in
    let ab = and_left (a && b) c abc in
    record {
      few = leb-true (length os) 12 (and_left a b ab);
      writable = and_right a b ab;
      short = leb-true (length tag) 1024 (and_right (a && b) c abc);
      small = leb-true (length (request_bytes tag os)) 65536 (and_right (a && b && c) d h);
    }

decodes : (tag : List ℕ) (os : List Op) → Fits tag os → Decodes tag os (request_bytes tag os)
decodes tag os f = record {
  at = 0 + length (header_layout.write (tag, (2, length os)));
  header_is = header-back tag f.short os (omega (arith, f.few));
  items_are = request-items tag os f.writable;
}

pub writing : WritingClaim
unfolding wrote
writing tag os buf = go (first (write_refusals tag os buf)) refl
  where
    after : ℕ → Wrote
    after n = elim n [
      | zero ↦ record { number = 0; written = length (request_bytes tag os); buffer = request_bytes tag os ++ drop (length (request_bytes tag os)) buf }
      | suc k ↦ not_written (suc k) buf
    ]

    go : (n : ℕ) → first (write_refusals tag os buf) ≡ n → (after n).number ≡ 0 → Decodes tag os (take (after n).written (after n).buffer)
    go zero e h =
        let c = all-clear (write_refusals tag os buf) refl e in
        subst (Decodes tag os) (sym (take-append_seam (request_bytes tag os) (drop (length (request_bytes tag os)) buf)))
        (decodes tag os (fits tag os (not-false (request_fits tag os) c.0)))
    go (suc k) e h = absurd (omega arith)

-- ---- a served call's reply, read

module _ {c : Call} {st : Store} {h : Header} {at : ℕ} (a : Accepted c st h at) (bd : Good c.config.geometry) where
  chain : Chain c.config.geometry (fresh st) (zs a)
  chain = accepted-chain a

  results : List Result
  results = chain-results c.config.geometry bd chain

  -- the bytes written are the reply
  reply_bytes_lem : reply_of (answer c st) ≡ reply-of a
  reply_bytes_lem =
      ap (λ (n : ℕ). take n (answer c st).reply) (written_is a) ∙ ap (take (length (reply-of a))) (buffer_is a)
      ∙ take-append_seam (reply-of a) (drop (length (reply-of a)) c.buffer)

  head_bytes : List ℕ
  head_bytes = reply_head.write (status a, (h.tag, length (zs a)))

  reply-reads : reply (reply-of a) 0 ≡ got (record { status = status a; tag = h.tag; results = results }) (length (reply-of a))
  unfolding reply head_bytes results reply_bytes
  reply-reads =
      let w : Stands (head_bytes ++ concat_map result_bytes (zs a)) 0 (head_bytes ++ concat_map result_bytes (zs a)) = stands-all (head_bytes ++ concat_map result_bytes (zs a)) in
      rw (
        head_read _ (status a) h.tag (length (zs a)) (last_status_most c.config.geometry bd (header_status h) chain (header-own h).most) (tag-short a)
            (compound-few c.config st c.request h at).most (stands-first head_bytes (concat_map result_bytes (zs a)) w),
        chain-read c.config.geometry bd chain _ (0 + length head_bytes) (stands-rest head_bytes (concat_map result_bytes (zs a)) w),
      )
      (ap (got (record { status = status a; tag = h.tag; results = results })) size)
    where
      size : 0 + length head_bytes + length (concat_map result_bytes (zs a)) ≡ length (head_bytes ++ concat_map result_bytes (zs a))
      size = omega (arith, length-append head_bytes (concat_map result_bytes (zs a)))

  results_are : results_in (reply_of (answer c st)) ≡ results
  results_are = ap results_in reply_bytes_lem ∙ ap (λ (t : Parsed Reply). elim t [ got r next ↦ r.results | fault p ↦ [] ]) reply-reads

-- ---- the reply to a request that was written

got-value : {A : Type 0} {x y : A} {m n : ℕ} → ◌≡◌ {A = Parsed A} (got x m) (got y n) → x ≡ y
got-value e = cc

got-place : {A : Type 0} {x y : A} {m n : ℕ} → ◌≡◌ {A = Parsed A} (got x m) (got y n) → m ≡ n
got-place e = cc

same_bytes_lem : (d : List ℕ) → same_bytes d d ≡ true
same_bytes_lem [] = refl
same_bytes_lem (x ∷ d) = and_both (eqb x x) (same_bytes d d) (eq-eqb x x refl) (same_bytes_lem d)

-- its operations are run, in their order
module _ (tag : List ℕ) (os : List Op) (f : Fits tag os) (c : Call) (st : Store) (is : c.request ≡ request_bytes tag os) (bd : Good c.config.geometry) where
  abbrev head : Header
  head = record { tag = tag; minor = 2; ops = length os }

  abbrev start : ℕ
  start = 0 + length (header_layout.write (tag, (2, length os)))

  same_head : {h : Header} {at : ℕ} → Accepted c st h at → got h at ≡ got head start
  same_head a = sym a.decoded ∙ ap (λ (s : List ℕ). header s 0) is ∙ header-back tag f.short os (omega (arith, f.few))

  no-status : header_status head ≡ 0
  no-status = rw (le-ltb 12 (length os) f.few)

  runs : (a : Accepted c st head start) → zs a ≡ reached c.config (fresh st) (items_from start os)
  unfolding compound
  runs a = rw (no-status, compound) (ap (reached c.config (fresh st)) (ap (λ (s : List ℕ). items s (length os) start) is ∙ request-items tag os f.writable))

  reply_is : (a : Accepted c st head start) → Reply
  reply_is a = record { status = status a; tag = tag; results = results a bd }

  answers_it : (a : Accepted c st head start) → answers tag (op_numbers os) (reply_is a) ≡ true
  unfolding reply_is results
  answers_it a =
      and_both (same_bytes tag tag) _ (same_bytes_lem tag)
      (and_both (agree (status a) (results a bd)) _ (chain-agree c.config.geometry bd (header_status head) (chain a bd))
      (ap (λ (n : ℕ). follow (eqb (last_status n (zs a)) 0) (op_numbers os) (results a bd)) no-status
      ∙ subst (λ ys. SameResults ys (results a bd) → follow (eqb (last_status 0 ys) 0) (op_numbers os) (results a bd) ≡ true) (sym (runs a))
      (ran-follow c.config os start (fresh st) (results a bd)) (chain_same c.config.geometry bd (chain a bd))))

  opens_it : (a : Accepted c st head start) → opened tag (op_numbers os) (reply-of a) ≡ record { number = 0; status = status a; first = stop (reply_head.read (reply-of a) 0) }
  unfolding opened reply_is
  opens_it a =
      ap (verdict (reply-of a) tag (op_numbers os)) (reply-reads a bd)
      ∙ ap (λ (b : Bool). cond b (record { number = 0; status = status a; first = stop (reply_head.read (reply-of a) 0) }) (not_opened (reply-of a)))
      (and_both (eqb (length (reply-of a)) (length (reply-of a))) _ (eq-eqb (length (reply-of a)) (length (reply-of a)) refl) (answers_it a))

  reads_as : (a : Accepted c st head start) → ReadsAs tag os (zs a) (reply-of a)
  unfolding reply_is results
  reads_as a =
      let opens : (opened tag (op_numbers os) (reply-of a)).number ≡ 0 = ap (λ o. o.number) (opens_it a) in
      let o = (opens_or (reply-of a) tag (op_numbers os)).opens opens in
      let same : o.0 ≡ reply_is a = got-value (sym o.1 ∙ reply-reads a bd) in
      record {
        opens = opens;
        status = ap (λ o. o.status) (opens_it a) ∙ ap (λ (n : ℕ). last_status n (zs a)) no-status;
        results = o.0.results;
        hands_out = o.2;
        same = subst (λ (r : Reply). SameResults (zs a) r.results) (sym same) (chain_same c.config.geometry bd (chain a bd));
      }

-- a call that ran is accepted
accepted : (c : Call) (st : Store) → (answer c st).number ≡ 0 → (h : Header) × (at : ℕ) × Accepted c st h at
accepted c st e = go (accepted_or_refused c st)
  where
    number_of : {k : ℕ} → Refusal c st k → (answer c st).number ≡ k
    number_of r = ap (λ o. o.number) (refused-is r)

    some : {k : ℕ} → Refusal c st k → 1 ≤ k
    some (early k e) = omega arith
    some (no_header p e d) = omega arith

    go : ((h : Header) × (at : ℕ) × Accepted c st h at) ⊎ ((k : ℕ) × Refusal c st k) → (h : Header) × (at : ℕ) × Accepted c st h at
    go (inl a) = a
    go (inr r) = absurd (omega (arith, number_of r.1, some r.1, e))

pub replies : ReplyClaim
replies c st tag os fit is e = go (accepted c st e).2 (same_head tag os f c st is (bounds (accepted c st e).2) (accepted c st e).2)
  where
    f : Fits tag os
    f = fits tag os fit

    bounds : {h : Header} {at : ℕ} → Accepted c st h at → Good c.config.geometry
    bounds a = (passed a.passes).bounds

    go : {h : Header} {at : ℕ} → Accepted c st h at → got h at ≡ got (record { tag = tag; minor = 2; ops = length os }) (0 + length (header_layout.write (tag, (2, length os)))) → ReadsAs tag os (events serving c st) (reply_of (answer c st))
    go {h} {at} a q =
        let b = subst (λ (y : Header × ℕ). Accepted c st y.0 y.1) (λ i. (got-value q i, got-place q i)) a in
        rw (events_are b, reply_bytes_lem b (bounds b)) (reads_as tag os f c st is (bounds b) b)

-- ---- demand 3, of what is read

-- what a call reached was answered, result by result
abbrev Answered : (E : Entry) → Geometry → Type 0
Answered E g = (bd : Good g) (c : E.Given) (t : E.Tables) → E.good g t ≡ true → ((E.answer c t).number ≡ 0 → E.geometry c ≡ g)
    → (events E c t ≡ []) ⊎ ((x : State) × (ch : Chain g x (events E c t)) × (results_in (reply_of (E.answer c t)) ≡ chain-results g bd ch))

module _ (g : Geometry) (bd : Good g) where
  -- r is the result of the operation that z is
  abbrev Own : Event × Result → Type 0
  Own p = (t : Step g p.0) × (p.1 ≡ result_of (step-reads g bd t))

  own-pairs : {x : State} {zs : List Event} (c : Chain g x zs) (p : Event × Result) → Memᴰ p (pairs zs (chain-results g bd c)) → Own p
  unfolding chain-results
  own-pairs (nil r) p m = absurd (mathlib.Core.List.Memᴰ.not-nil m)
  own-pairs (cons {z = z} t e f c) p m = go (mathlib.Core.List.Memᴰ.cases_cons m) (own-pairs c p)
    where
      go : {ps : List (Event × Result)} → (p ≡ (z, result_of (step-reads g bd t))) ⊎ Memᴰ p ps → (Memᴰ p ps → Own p) → Own p
      go (inl q) ih = subst Own (sym q) (t, refl)
      go (inr k) ih = ih k

  all-pairs : {x : State} {zs : List Event} (c : Chain g x zs) (z : Event) → Memᴰ z zs → (r : Result) × Memᴰ (z, r) (pairs zs (chain-results g bd c))
  unfolding chain-results
  all-pairs (nil r) z m = absurd (mathlib.Core.List.Memᴰ.not-nil m)
  all-pairs (cons {z = y} {zs = zs} t e f c) z m = go (mathlib.Core.List.Memᴰ.cases_cons m) (all-pairs c z)
    where
      go : (z ≡ y) ⊎ Memᴰ z zs → (Memᴰ z zs → (r : Result) × Memᴰ (z, r) (pairs zs (chain-results g bd c)))
          → (r : Result) × Memᴰ (z, r) ((y, result_of (step-reads g bd t)) ∷ pairs zs (chain-results g bd c))
      go (inl q) ih = (result_of (step-reads g bd t), mathlib.Core.List.Memᴰ.head (λ i. (q i, result_of (step-reads g bd t))))
      go (inr k) ih = let w = ih k in (w.0, mathlib.Core.List.Memᴰ.tail w.1)

  own_same : (z : Event) (r : Result) → Own (z, r) → SameResult z r
  own_same z r o = record {
    number = ap (λ y. y.number) o.1;
    status = ap (λ y. y.status) o.1;
    body = ap (λ y. body_bytes y.body) o.1 ∙ (step-reads g bd o.0).bytes_are;
  }

  -- a WRITE that was answered OK is read as so many bytes written
  wrote_value : {w : Event} (t : Step g w) (i : List ℕ) (p s : ℕ) (d : List ℕ) (n : ℕ) → w.item ≡ op (WRITE i p s d) n → w.status ≡ 0
      → (v : List ℕ) × ((step-reads g bd t).body ≡ written (length d) file_sync v)
  unfolding step-reads
  wrote_value (undecoded x k e r b) i p s d n q ok = absurd (op≢bad (sym q))
  wrote_value (decoded v x o next hv r h) i p s d n q ok = go v h hv q ok
    where
      go : (u : List ℕ) {w : Event} (h : Performed (config g u) x o next w) (hu : length u ≡ 8) → w.item ≡ op (WRITE i p s d) n → w.status ≡ 0
          → (v : List ℕ) × ((step-reads g bd (decoded u x o next hu r h)).body ≡ written (length d) file_sync v)
      go u (refused e h) hu q ok = absurd (omega (arith, ok))
      go u (nospc h l) hu q ok = absurd (omega (arith, ok))
      go u (done h l) hu q ok = (u, write-shown g bd x r u hu i p s d o (op_inj q) h)

  reads-written : {w : Event} {r : Result} (p s : ℕ) (d : List ℕ) {n : ℕ} → w.item ≡ op (WRITE zero_id p s d) n → w.status ≡ 0 → Own (w, r) → ReadsWritten (length d) r
  reads-written p s d {n} q ok (t, e) =
      let v = wrote_value t zero_id p s d n q ok in
      record { number = ap (λ y. y.number) e ∙ ap item_number q; status = ap (λ y. y.status) e ∙ ok; verifier = v.0; body = ap (λ y. y.body) e ∙ v.1 }

  -- that the ALLOCATE was answered OK is what was read
  allocated_as_read : {zs : List Event} {rs : List (Event × Result)} {f o n p : ℕ} {d : List ℕ} {w : Event} (a : AllocatedAsRead g zs rs f o n p d w)
      → SameResult a.a a.result → Allocated g zs f o n p d w
  allocated_as_read a same = record {
    a = a.a;
    mid = a.mid;
    between = a.between;
    id = a.id;
    allocate = a.allocate;
    done = sym same.status ∙ a.read_ok;
    kept = a.kept;
    stable = a.stable;
    write = a.write;
    some_byte = a.some_byte;
    starts = a.starts;
    ends = a.ends;
  }

module _ (E : Entry) (F : Fulfils E) (A : (g : Geometry) → Answered E g) where
  module _ (g : Geometry) (bd : Good g) where
    abbrev Keeps : E.Given → E.Tables → Outcome E.Tables → Type 0
    Keeps c t o = o.number ≡ 0 → E.geometry c ≡ g

    abbrev here : E.Given → E.Tables → List (Event × Result)
    here c t = pairs (events E c t) (results_in (reply_of (E.answer c t)))

    module _ (c : E.Given) (t : E.Tables) (gd : E.good g t ≡ true) (k : Keeps c t (E.answer c t)) where
      call-own : (p : Event × Result) → Memᴰ p (here c t) → Own g bd p
      call-own p m = go (A g bd c t gd k)
        where
          go : (events E c t ≡ []) ⊎ ((x : State) × (ch : Chain g x (events E c t)) × (results_in (reply_of (E.answer c t)) ≡ chain-results g bd ch)) → Own g bd p
          go (inl e) = absurd (mathlib.Core.List.Memᴰ.not-nil (rw e at m))
          go (inr w) = own-pairs g bd w.1 p (rw w.2 at m)

      call-all : (z : Event) → Memᴰ z (events E c t) → (r : Result) × Memᴰ (z, r) (here c t)
      call-all z m = go (A g bd c t gd k)
        where
          go : (events E c t ≡ []) ⊎ ((x : State) × (ch : Chain g x (events E c t)) × (results_in (reply_of (E.answer c t)) ≡ chain-results g bd ch))
              → (r : Result) × Memᴰ (z, r) (here c t)
          go (inl e) = absurd (mathlib.Core.List.Memᴰ.not-nil (rw e at m))
          go (inr w) = rw w.2 (all-pairs g bd w.1 z m)

    list-own : (cs : List E.Given) (t : E.Tables) → E.good g t ≡ true → Each E Keeps t cs (machine E t cs) → (p : Event × Result)
        → Memᴰ p (readings E t cs (machine E t cs)) → Own g bd p
    unfolding machine
    list-own [] t gd k p m = absurd (mathlib.Core.List.Memᴰ.not-nil m)
    list-own (c ∷ cs) t gd k p m =
        go (mathlib.Core.List.Memᴰ.append_cases (here c t) m) (list-own cs (E.answer c t).store (F.good g bd c t gd k.0) k.1 p)
      where
        go : {ps : List (Event × Result)} → Memᴰ p (here c t) ⊎ Memᴰ p ps → (Memᴰ p ps → Own g bd p) → Own g bd p
        go (inl h) ih = call-own c t gd k.0 p h
        go (inr h) ih = ih h

    list_all : (cs : List E.Given) (t : E.Tables) → E.good g t ≡ true → Each E Keeps t cs (machine E t cs) → (z : Event) → Memᴰ z (history E t cs)
        → (r : Result) × Memᴰ (z, r) (readings E t cs (machine E t cs))
    unfolding machine history
    list_all [] t gd k z m = absurd (mathlib.Core.List.Memᴰ.not-nil m)
    list_all (c ∷ cs) t gd k z m =
        go (mathlib.Core.List.Memᴰ.append_cases (events E c t) m) (list_all cs (E.answer c t).store (F.good g bd c t gd k.0) k.1 z)
      where
        rest : List (Event × Result)
        rest = readings E (E.answer c t).store cs (machine E (E.answer c t).store cs)

        go : Memᴰ z (events E c t) ⊎ Memᴰ z (history E (E.answer c t).store cs)
            → (Memᴰ z (history E (E.answer c t).store cs) → (r : Result) × Memᴰ (z, r) rest) → (r : Result) × Memᴰ (z, r) (here c t ++ rest)
        go (inl h) ih = let w = call-all c t gd k.0 z h in (w.0, mathlib.Core.List.Memᴰ.append_left rest w.1)
        go (inr h) ih = let w = ih h in (w.0, mathlib.Core.List.Memᴰ.append_right (here c t) w.1)

  pub builder_of : BuilderClaim E
  builder_of g t fine gd cs os contracts keeps =
      let bd = good g fine in
      let claim = claim_of E F g t fine gd cs os contracts keeps in
      let k = subst (Each E (λ c t o. o.number ≡ 0 → E.geometry c ≡ g) t cs) claim.equal keeps in
      let owned : (p : Event × Result) → Memᴰ p (readings E t cs os) → Own g bd p = rw claim.equal (list-own g bd cs t gd k) in
      record {
        all = rw claim.equal (list_all g bd cs t gd k);
        own = λ z r m. own_same g bd z r (owned (z, r) m);
        reservation = λ f o n p d w a r m.
            let ok : w.status ≡ 0 = claim.reservation f o n p d w (allocated_as_read g bd a (own_same g bd a.a a.result (owned (a.a, a.result) a.read))) in
            reads-written g bd p a.stable d a.write.0.1 ok (owned (w, r) m);
      }

-- what the claim calls allocated is read so
pub as_read : {E : Entry} {g : Geometry} {t : E.Tables} {cs : List E.Given} {os : List (Outcome E.Tables)} → ReadsTrue E g t cs os
    → {f o n p : ℕ} {d : List ℕ} {w : Event} → Allocated g (history E t cs) f o n p d w → AllocatedAsRead g (history E t cs) (readings E t cs os) f o n p d w
as_read reads {w = w} al =
    let pre = al.between.0 in
    let here : Memᴰ al.a (pre ++ (al.a ∷ (al.mid ++ (w ∷ al.between.1)))) = mathlib.Core.List.Memᴰ.append_right pre (mathlib.Core.List.Memᴰ.head refl) in
    let r = reads.all al.a (subst (Memᴰ al.a) (sym al.between.2) here) in
    record {
      a = al.a;
      mid = al.mid;
      between = al.between;
      id = al.id;
      allocate = al.allocate;
      result = r.0;
      read = r.1;
      read_ok = (reads.own al.a r.0 r.1).status ∙ al.done;
      kept = al.kept;
      stable = al.stable;
      write = al.write;
      some_byte = al.some_byte;
      starts = al.starts;
      ends = al.ends;
    }

-- ---- the entry that serves a compound

serving-answered : (g : Geometry) → Answered serving g
unfolding results chain
serving-answered g bd c st gd keep = go (accepted_or_refused c st)
  where
    go : ((h : Header) × (at : ℕ) × Accepted c st h at) ⊎ ((k : ℕ) × Refusal c st k)
        → (events serving c st ≡ []) ⊎ ((x : State) × (ch : Chain g x (events serving c st)) × (results_in (reply_of (answer c st)) ≡ chain-results g bd ch))
    go (inr r) = inl (no-events r.1)
    go (inl a) =
        inr (subst (λ (y : Geometry). (bd : Good y) → (x : State) × (ch : Chain y x (events serving c st)) × (results_in (reply_of (answer c st)) ≡ chain-results y bd ch))
        (keep (number_is a.2)) (λ bd. rw (events_are a.2) (fresh st, chain a.2 bd, results_are a.2 bd)) bd)

pub builder : BuilderClaim serving
builder = builder_of serving serving_fulfils serving-answered
