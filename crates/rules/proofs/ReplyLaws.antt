-- The reply of a call: at most 27,184 bytes, 1,036 for status, tag and count and 2,179 for each of at most 12 results; and the layouts' readers
-- read back its status, its tag and each result.
use Prim.Native.Nat.{ℕ, zero, suc, ◌+◌, ◌*◌, ◌^◌, ◌≤◌, ◌<◌}
use mathlib.Core.Path.{◌≡◌, refl, ap}
use mathlib.Core.Bool.{true, not}
use mathlib.Core.Option.{Option, none, some}
use mathlib.Core.List.{List, [], ◌∷◌, ◌++◌}
use native.Mathlib.Omega.{arith}
use borrow.Author.Tests.{ltb-false, lt-ltb, le-leb, eq-eqb}
use lib.ListN.{length, length-append}
use lib.Dec.{ltb, eqb}
use Rattle.xdr.specs.Encode.{concat_map}
use Rattle.xdr.specs.Decode.{got}
use Rattle.xdr.specs.Layout.{uint, bytes, opaque_data, ◌then◌}
use Rattle.xdr.proofs.EncodeLaws.{length-u32, length-opaque}
use Rattle.xdr.proofs.RoundTrip.{Stands, stands-first, stands-rest}
use Rattle.xdr.proofs.LayoutLaws.{ReadsBack, uint-back, bytes_back, opaque_data_back, then-back}
use Rattle.rules.specs.Store.{Geometry, Store}
use Rattle.rules.specs.Operation.{MINOR_VERS_MISMATCH, TOO_MANY_OPS, Item, op, bad, item_at, items, Header}
use Rattle.rules.specs.Run.{State, Config, config, Event, perform, reached}
use Rattle.rules.specs.Calls.{fresh, header_status, compound, item_number, result_layout, result_bytes, reply_head, reply_bytes, last_status}
use Rattle.rules.specs.Claim.{Results}
use Rattle.rules.proofs.GeometryLaws.{Good}
use Rattle.rules.proofs.FirstLaws.{all-clear}
use Rattle.rules.proofs.BodyLaws.{pad-most}
use Rattle.rules.proofs.ItemLaws.{Known, item-known, all_known}
use Rattle.rules.proofs.SoundStore.{Sound}
use Rattle.rules.proofs.OperationLaws.{Ready}
use Rattle.rules.proofs.ChainLaws.{Chain, nil, cons, reached-chain, step-known}

-- ---- the layouts of a reply's head and of a result read back what they write

pub head-back : ReadsBack reply_head
head-back = then-back uint (opaque_data 1024 then uint) uint-back (then-back (opaque_data 1024) uint (opaque_data_back 1024) uint-back)

-- numbers of 32 bits, and a tag that is short
pub head-fits : (status : ℕ) (tag : List ℕ) (n : ℕ) → status < 2 ^ 32 → length tag ≤ 1024 → n < 2 ^ 32 → reply_head.fits (status, (tag, n)) ≡ true
head-fits status tag n hs ht hn =
    simp (lt-ltb status (2 ^ 32) hs, le-leb (length tag) 1024 ht, lt-ltb (length tag) (2 ^ 32) (omega arith), lt-ltb n (2 ^ 32) hn)

pub result-back : (n : ℕ) → ReadsBack (result_layout n)
result-back n = then-back uint (uint then bytes n) uint-back (then-back uint (bytes n) uint-back (bytes_back n))

-- numbers of 32 bits, and a body of n bytes
pub result_fits : (number status : ℕ) (body : List ℕ) → number < 2 ^ 32 → status < 2 ^ 32 → (result_layout (length body)).fits (number, (status, body)) ≡ true
result_fits number status body hn hs =
    simp (lt-ltb number (2 ^ 32) hn, lt-ltb status (2 ^ 32) hs, eq-eqb (length body) (length body) refl)

-- at the start of a compound no handle is set
none≢some : (f : ℕ) → ◌≡◌ {A = Option ℕ} none (some f) → ⊥
none≢some f e = let z : ◌≡◌ {A = ℕ} 0 1 = cc in omega arith

pub fresh-ready : (g : Geometry) (st : Store) → Sound g st → Ready g (fresh st)
fresh-ready g st s = record { sound = s; current = λ f e. absurd (none≢some f e); saved = λ f e. absurd (none≢some f e) }

-- ---- how many operations are reached

-- of a list of n operations: at most n, and n where the last one's status is 0
record Few (n : ℕ) (zs : List Event) : Type 0 where
  most : length zs ≤ n
  all : (a : ℕ) → last_status a zs ≡ 0 → length zs ≡ n

few : (c : Config) (s : List ℕ) (n at : ℕ) (x : State) → Few n (reached c x (items s n at))
unfolding reached items
few c s zero at x = record { most = omega arith; all = λ a q. refl }
few c s (suc n) at x = go (item_at s at) (item-known s at) (λ next y. few c s n next y)
  where
    pick : (z : Event) (rest : List Event) → Few n rest → (t : ℕ) → z.status ≡ t → Few (suc n) (elim t [ zero ↦ z ∷ rest | suc e ↦ z ∷ [] ])
    pick z rest r zero q = record { most = omega (arith, r.most); all = λ a h. ap suc (r.all z.status h) }
    pick z rest r (suc e) q = record { most = omega arith; all = λ a h. absurd (omega (arith, q, h)) }

    go : (i : Item) → Known i → ((next : ℕ) (y : State) → Few n (reached c y (items s n next)))
        → Few (suc n) (reached c x (elim i [ op o next ↦ op o next ∷ items s n next | bad k e ↦ bad k e ∷ [] ]))
    go (op o next) f ih = let z = perform c x o next in pick z (reached c z.after (items s n next)) (ih next z.after) z.status refl
    go (bad k e) f ih = record { most = omega arith; all = λ a h. absurd (omega (arith, f.status_some, h)) }

-- of a compound: at most 12, and every operation of its list where the reply's status is 0
pub record CompoundFew (h : Header) (zs : List Event) : Type 0 where
  pub most : length zs ≤ 12
  pub all : last_status (header_status h) zs ≡ 0 → length zs ≡ h.ops

pub compound-few : (c : Config) (st : Store) (s : List ℕ) (h : Header) (at : ℕ) → CompoundFew h (compound c st s h at)
unfolding compound
compound-few c st s h at = go (header_status h) refl
  where
    go : (n : ℕ) → header_status h ≡ n → CompoundFew h (elim n [ zero ↦ reached c (fresh st) (items s h.ops at) | suc e ↦ [] ])
    go zero e =
        let t = few c s h.ops at (fresh st) in
        let passed = all-clear ((not (eqb h.minor 2), MINOR_VERS_MISMATCH) ∷ (ltb 12 h.ops, TOO_MANY_OPS) ∷ []) refl e in
        record { most = omega (arith, t.most, ltb-false 12 h.ops passed.1.0); all = t.all (header_status h) }
    go (suc n) e = record { most = omega arith; all = λ q. absurd (omega (arith, e, q)) }

-- ---- the length

-- the operations of a compound are a chain
pub compound-chain : (g : Geometry) → Good g → (v : List ℕ) → length v ≡ 8 → (st : Store) → Sound g st → (s : List ℕ) (h : Header) (at : ℕ)
    → Chain g (fresh st) (compound (config g v) st s h at)
unfolding compound
compound-chain g bd v hv st snd s h at = go (header_status h)
  where
    go : (n : ℕ) → Chain g (fresh st) (elim n [ zero ↦ reached (config g v) (fresh st) (items s h.ops at) | suc e ↦ [] ])
    go zero = reached-chain g bd v hv (items s h.ops at) (fresh st) (all_known s h.ops at) (fresh-ready g st snd)
    go (suc e) = nil (fresh-ready g st snd)

module _ (g : Geometry) (bd : Good g) where
  pub results-most : {x : State} {zs : List Event} → Chain g x zs → length (concat_map result_bytes zs) ≤ 2179 * length zs
  results-most (nil r) = omega arith
  results-most (cons {z = z} {zs = zs} s e f c) =
      omega (arith, length-append (result_bytes z) (concat_map result_bytes zs), (step-known g bd s).size, results-most c)

  pub compound-results : (v : List ℕ) → length v ≡ 8 → (st : Store) → Sound g st → (s : List ℕ) (h : Header) (at : ℕ) → length (concat_map result_bytes (compound (config g v) st s h at)) ≤ 26148
  compound-results v hv st snd s h at = omega (arith, results-most (compound-chain g bd v hv st snd s h at), (compound-few (config g v) st s h at).most)

  -- status, tag, count and results
  pub reply-most : {x : State} {zs : List Event} (status : ℕ) (tag : List ℕ) → Chain g x zs → length zs ≤ 12 → length tag ≤ 1024 → length (reply_bytes status tag zs) ≤ 27184
  unfolding reply_bytes
  reply-most status tag c few short =
      simp (length-append, length-u32, length-opaque) (omega (arith, pad-most (length tag) 1024 short refl, results-most c))

  -- ---- reading it

  -- the results, each where the one before ends
  pub results-read : (s : List ℕ) {x : State} {zs : List Event} → Chain g x zs → (at : ℕ) → Stands s at (concat_map result_bytes zs)
      → Results s at zs (at + length (concat_map result_bytes zs))
  results-read s (nil r) at w = omega arith
  results-read s (cons {z = z} {zs = zs} t e f c) at w =
      let k = step-known g bd t in
      let n : ℕ = length z.body in
      let rest = results-read s c (at + length (result_bytes z)) (stands-rest (result_bytes z) (concat_map result_bytes zs) w) in
      let size : at + length (result_bytes z) + length (concat_map result_bytes zs) ≡ at + length (result_bytes z ++ concat_map result_bytes zs)
      = omega (arith, length-append (result_bytes z) (concat_map result_bytes zs)) in (
        at + length (result_bytes z),
        result-back n (item_number z.item, (z.status, z.body)) (result_fits (item_number z.item) z.status z.body (omega (arith, k.number)) (omega (arith, k.status))) s at
            (stands-first (result_bytes z) (concat_map result_bytes zs) w),
        rw (← size) rest,
      )

-- status, tag and number of results
pub head_read : (s : List ℕ) (status : ℕ) (tag : List ℕ) (n : ℕ) → status ≤ 10090 → length tag ≤ 1024 → n ≤ 12 → Stands s 0 (reply_head.write (status, (tag, n)))
    → reply_head.read s 0 ≡ got (status, (tag, n)) (0 + length (reply_head.write (status, (tag, n))))
head_read s status tag n hs ht hn w = head-back (status, (tag, n)) (head-fits status tag n (omega arith) ht (omega arith)) s 0 w

-- the status of the last event
pub last_status_lem : (a : ℕ) (pre : List Event) (z : Event) → last_status a (pre ++ (z ∷ [])) ≡ z.status
last_status_lem a [] z = refl
last_status_lem a (y ∷ pre) z = last_status_lem y.status pre z

pub last_status_most : (g : Geometry) (bd : Good g) (a : ℕ) {x : State} {zs : List Event} → Chain g x zs → a ≤ 10090 → last_status a zs ≤ 10090
last_status_most g bd a (nil r) h = h
last_status_most g bd a (cons {z = z} s e f c) h = last_status_most g bd z.status c (step-known g bd s).status
