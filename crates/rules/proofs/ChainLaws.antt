-- The operations reached, one after the other from a sound store on: what each of them keeps, leaves and answers.
use Prim.Native.Nat.{ℕ, zero, suc, ◌+◌, ◌-◌, ◌*◌, ◌%◌, ◌≤◌, ◌<◌}
use mathlib.Core.Path.{◌≡◌, refl, sym, ap, ◌∙◌, subst}
use mathlib.Core.Bool.{Bool, true, false, cond}
use mathlib.Core.Option.{none, some}
use mathlib.Core.List.Memᴰ
use mathlib.Core.List.{List, [], ◌∷◌, ◌++◌, Memᴰ}
use mathlib.Core.Logic.{◌↔◌, ◌≢◌, ◌⊎◌, inl, inr}
use native.Mathlib.Omega.{arith}
use borrow.Author.Tests.{lt-leb, leb-false, ne_eqb}
use lib.ListN.{length, get_or, take, drop, length-append}
use Rattle.xdr.specs.Encode.{u32}
use Rattle.xdr.proofs.EncodeLaws.{length-u32}
use Rattle.rules.specs.Lists.{first}
use Rattle.rules.specs.Store.{Geometry, Store, size_of, word_of, need, fits_pool, byte_at, content}
use Rattle.rules.specs.Edit.{Edit, edited}
use Rattle.rules.specs.Read.{is_at_end}
use Rattle.rules.specs.Operation.{NOSPC, BADXDR, Op, READ, READ_PLUS, WRITE, ALLOCATE, op_number, Item, op, bad, read_result, read_plus_reply}
use Rattle.rules.specs.Run.{State, no_file, file_of, zero_id, errors, Config, config, does, edit_of, effect, body, Event, failed, counted_after, perform, reached}
use Rattle.rules.specs.Calls.{item_number, result_bytes, last_store}
use Rattle.rules.specs.Claim.{InOrder, OK, Current, sets_current, last_set, edit_done, array_after, Leaves, SlotOf, Edits, GivesBack, ReadsBack, NospcExactly}
use Rattle.rules.proofs.GeometryLaws.{Good, file-small}
use Rattle.rules.proofs.SoundStore.{Sound}
use Rattle.rules.proofs.ArrayLaws.{length-content}
use Rattle.rules.proofs.PieceLaws.{pieces_right}
use Rattle.rules.proofs.ErrorLaws.{allocate-clear}
use Rattle.rules.proofs.BodyLaws.{any_file}
use Rattle.rules.proofs.EditLaws.{Lawful}
use Rattle.rules.proofs.OperationLaws.{none≢some, Ready, op-facts, own-errors, effect-ready, effect-edit, effect-same, effect-r, effect-content, effect-current, sets_file, body-most, allocate-done, write-passes, write_has_room, write_done, read-passes, read-room, read-body, Performed, refused, nospc, done, performed, performed-item, performed-before}
use Rattle.rules.proofs.ItemLaws.{BadKnown, AllKnown}

-- ---- an operation reached in a sound state

pub data Step (g : Geometry) : Event → Type 0 where
  decoded : {z : Event} (v : List ℕ) (x : State) (o : Op) (next : ℕ) → length v ≡ 8 → Ready g x → Performed (config g v) x o next z → Step g z
  undecoded : (x : State) (k e : ℕ) → Ready g x → BadKnown k e → Step g (failed (bad k e) x e)

-- one after the other, from state x on
pub data Chain (g : Geometry) : State → List Event → Type 0 where
  nil : {x : State} → Ready g x → Chain g x []
  cons : {x : State} {z : Event} {zs : List Event} → Step g z → z.before ≡ x → (z.status ≢ 0 → zs ≡ []) → Chain g z.after zs → Chain g x (z ∷ zs)

pub op_inj : {o o' : Op} {n n' : ℕ} → op o n ≡ op o' n' → o ≡ o'
op_inj e = cc

pub op≢bad : {o : Op} {n k e : ℕ} → op o n ≡ bad k e → ⊥
op≢bad p = let z : ◌≡◌ {A = ℕ} 0 1 = cc in omega arith

pub not_empty : (pre : List Event) (z : Event) (post : List Event) → [] ≡ pre ++ (z ∷ post) → ⊥
not_empty pre z post e = omega (arith, ap length e, length-append pre (z ∷ post))

-- behind an operation that is answered OK the rest is reached
pub reached-on : (c : Config) (x : State) (o : Op) (next : ℕ) (rest : List Item) (z : Event) → perform c x o next ≡ z → z.status ≡ 0
    → reached c x (op o next ∷ rest) ≡ z ∷ reached c z.after rest
unfolding reached
reached-on c x o next rest z e ok =
    ap (λ y. elim y.status [ zero ↦ y ∷ reached c y.after rest | suc e ↦ y ∷ [] ]) e
    ∙ ap (λ s. elim s [ zero ↦ z ∷ reached c z.after rest | suc e ↦ z ∷ [] ]) ok

module _ (g : Geometry) (bd : Good g) where
  wide : 512 ≤ g.B
  wide = bd.block

  performed-after : {v : List ℕ} {x : State} {o : Op} {next : ℕ} {z : Event} → Ready g x → Performed (config g v) x o next z → Ready g z.after
  performed-after r (refused e h) = r
  performed-after r (nospc h l) = r
  performed-after {x = x} {o = o} r (done h l) = effect-ready g wide x r o h l

  pub step_after : {z : Event} → Step g z → Ready g z.after
  step_after (decoded v x o next hv r p) = performed-after r p
  step_after (undecoded x k e r b) = r

  pub step-before : {z : Event} → Step g z → Ready g z.before
  step-before (decoded v x o next hv r p) = rw (performed-before p) r
  step-before (undecoded x k e r b) = r

  pub chain-start : {x : State} {zs : List Event} → Chain g x zs → Ready g x
  chain-start (nil r) = r
  chain-start (cons s e f c) = rw e at (step-before s)

  -- the operations of a compound
  pub reached-chain : (v : List ℕ) → length v ≡ 8 → (is : List Item) (x : State) → AllKnown is → Ready g x → Chain g x (reached (config g v) x is)
  unfolding reached
  reached-chain v hv [] x f r = nil r
  reached-chain v hv (bad k e ∷ is) x f r = cons (undecoded x k e r f.0) refl (λ n. refl) (nil r)
  reached-chain v hv (op o next ∷ is) x f r = go (perform (config g v) x o next) (performed (config g v) x o next) (λ y ry. reached-chain v hv is y f.1 ry)
    where
      go : (z : Event) → Performed (config g v) x o next z → ((y : State) → Ready g y → Chain g y (reached (config g v) y is))
          → Chain g x (elim z.status [ zero ↦ z ∷ reached (config g v) z.after is | suc e ↦ z ∷ [] ])
      go z (refused e h) ih = cons (decoded v x o next hv r (refused e h)) refl (λ n. refl) (nil r)
      go z (nospc h l) ih = cons (decoded v x o next hv r (nospc h l)) refl (λ n. refl) (nil r)
      go z (done h l) ih = cons (decoded v x o next hv r (done h l)) refl (λ n. absurd (n refl)) (ih (effect g x o) (effect-ready g wide x r o h l))

  pub chain-order : {x : State} {zs : List Event} → Chain g x zs → InOrder x zs (last_store x.store zs)
  chain-order (nil r) = refl
  chain-order (cons s e f c) = (e, f, chain-order c)

  pub chain-end : {x : State} {zs : List Event} → Chain g x zs → Sound g (last_store x.store zs)
  chain-end (nil r) = r.sound
  chain-end (cons s e f c) = chain-end c

  -- ---- results: their numbers fit 32 bits, and they are short

  pub record ResultKnown (z : Event) : Type 0 where
    pub number : item_number z.item ≤ 10044
    pub status : z.status ≤ 10090
    pub size : length (result_bytes z) ≤ 2179

  bare_size : (n s : ℕ) → length (u32 n ++ (u32 s ++ [])) ≤ 2179
  bare_size n s = simp (length-append, length-u32) (omega arith)

  pub step-known : {z : Event} → Step g z → ResultKnown z
  step-known (decoded v x o next hv r p) = go p
    where
      low : op_number o ≤ 10044
      low = omega (arith, (op-facts g wide x r o).number)

      go : {z : Event} → Performed (config g v) x o next z → ResultKnown z
      go (refused e h) = record { number = low; status = omega (arith, (own-errors g wide x r o).most); size = bare_size _ _ }
      go (nospc h l) = record { number = low; status = omega arith; size = bare_size _ _ }
      go (done h l) = record { number = low; status = omega arith; size = simp (length-append, length-u32) (omega (arith, body-most g wide x r v hv o h)) }
  step-known (undecoded x k e r b) = record { number = b.number; status = b.status_most; size = bare_size _ _ }

  pub chain-mem : {x : State} {zs : List Event} → Chain g x zs → (z : Event) → Memᴰ z zs → Step g z
  chain-mem (nil r) z m = absurd (Memᴰ.not-nil m)
  chain-mem (cons {z = y} s e f c) z m = go (Memᴰ.cases_cons m) (chain-mem c z)
    where
      go : {zs : List Event} → (z ≡ y) ⊎ Memᴰ z zs → (Memᴰ z zs → Step g z) → Step g z
      go (inl q) ih = rw q s
      go (inr k) ih = ih k

  -- ---- NOSPC exactly

  exactly : {v : List ℕ} {x : State} {o : Op} {next : ℕ} {z : Event} → Ready g x → Performed (config g v) x o next z
      → (z.status ≡ NOSPC) ↔ ((first (errors g x o) ≡ 0) × (fits_pool g.N (counted_after g x o) ≡ false))
  exactly {x = x} {o = o} r (refused e h) = (λ s. absurd ((own-errors g wide x r o).not_nospc (h ∙ s)), λ q. absurd (omega (arith, h, q.0)))
  exactly {x = x} {o = o} r (nospc h l) = (λ s. (h, lt-leb (need (counted_after g x o)) g.N l), λ q. refl)
  exactly {x = x} {o = o} r (done h l) = (λ (s : ◌≡◌ {A = ℕ} 0 NOSPC). absurd (omega arith), λ q. absurd (omega (arith, l, leb-false (need (counted_after g x o)) g.N q.1)))

  pub step-nospc : {z : Event} → Step g z → NospcExactly g z
  step-nospc {z} (decoded v x o next hv r p) = record {
    decoded = λ o' next' q. rw (performed-before p, ← op_inj (sym (performed-item p) ∙ q)) (exactly r p);
    undecoded = λ k e q s. op≢bad (sym (performed-item p) ∙ q);
  }
  step-nospc (undecoded x k e r b) = record {
    decoded = λ o next q. absurd (op≢bad (sym q));
    undecoded = λ k' e' q s. b.not_nospc s;
  }

  -- ---- an operation that was read is not answered BADXDR

  pub performed-decodes : {v : List ℕ} {x : State} {o : Op} {next : ℕ} {z : Event} → Ready g x → Performed (config g v) x o next z → z.status ≢ BADXDR
  performed-decodes {x = x} {o = o} r (refused e h) s = (own-errors g wide x r o).not_badxdr (h ∙ s)
  performed-decodes r (nospc h l) s = omega (arith, s)
  performed-decodes r (done h l) s = omega (arith, s)

  -- ---- a well-formed operation

  pub record As (z : Event) (o : Op) : Type 0 where
    pub verifier : List ℕ
    pub next : ℕ
    pub ready : Ready g z.before
    pub how : Performed (config g verifier) z.before o next z

  pub as-op : {z : Event} → Step g z → {o : Op} {nx : ℕ} → z.item ≡ op o nx → As z o
  as-op {z} (decoded v x o' next hv r p) {o} e =
      let same : o' ≡ o = op_inj (sym (performed-item p) ∙ e) in
      record {
        verifier = v;
        next = next;
        ready = rw (performed-before p) r;
        how = subst (λ y. Performed (config g v) y o next z) (sym (performed-before p)) (subst (λ y. Performed (config g v) x y next z) same p);
      }
  as-op (undecoded x k e' r b) e = absurd (op≢bad (sym e))

  -- the edit of an operation answered OK
  done-edit : (v : List ℕ) (x : State) (o : Op) (next : ℕ)
      → edit_done g (record { item = op o next; before = x; status = 0; after = effect g x o; body = body g v x o }) ≡ edit_of g x o
  unfolding edit_done
  done-edit v x o next = refl

  failed-edit : (x : State) (i : Item) (e : ℕ) → e ≢ 0 → edit_done g (failed i x e) ≡ none
  unfolding edit_done
  failed-edit x (op o next) e n = rw (ne_eqb e 0 n)
  failed-edit x (bad k s) e n = refl

  -- an edit answered OK, from a sound store: no error forbids it, and the store afterwards is what it leaves
  pub record Done (z : Event) (e : Edit) : Type 0 where
    pub sound : Sound g z.before.store
    pub lawful : Lawful g z.before.store e
    pub after : z.after.store ≡ edited g z.before.store e

  pub step-done : {z : Event} → Step g z → (e : Edit) → edit_done g z ≡ some e → Done z e
  step-done (decoded v x o next hv r p) e = go p
    where
      go : {z : Event} → Performed (config g v) x o next z → edit_done g z ≡ some e → Done z e
      go (refused k h) q = absurd (none≢some (sym (failed-edit x (op o next) (suc k) (λ n. omega (arith, n))) ∙ q))
      go (nospc h l) q = absurd (none≢some (sym (failed-edit x (op o next) NOSPC (λ n. omega (arith, n))) ∙ q))
      go (done h l) q =
          let d = effect-edit g wide x r o h e (sym (done-edit v x o next) ∙ q) in
          record { sound = r.sound; lawful = d.0; after = d.1 }
  step-done (undecoded x k s r b) e = λ q. absurd (none≢some (sym (failed-edit x (bad k s) s (λ n. omega (arith, n, b.status_some))) ∙ q))

  -- ---- what it leaves

  step-failed : {z : Event} → Step g z → z.status ≢ 0 → (z.after ≡ z.before) × (z.body ≡ [])
  step-failed (decoded v x o next hv r p) n = go p n
    where
      go : {z : Event} → Performed (config g v) x o next z → z.status ≢ 0 → (z.after ≡ z.before) × (z.body ≡ [])
      go (refused e h) n = (refl, refl)
      go (nospc h l) n = (refl, refl)
      go (done h l) n = absurd (n refl)
  step-failed (undecoded x k e r b) n = (refl, refl)

  unedited : (x : State) (i : Item) (e f : ℕ) → e ≢ 0 → content g x.store f ≡ array_after g (failed i x e) f
  unfolding array_after
  unedited x i e f n = rw (failed-edit x i e n, array_after)

  step-content : {z : Event} → Step g z → (f : ℕ) → f < g.F → content g z.after.store f ≡ array_after g z f
  unfolding array_after
  step-content (decoded v x o next hv r p) f hf = go p
    where
      go : {z : Event} → Performed (config g v) x o next z → content g z.after.store f ≡ array_after g z f
      go (refused e h) = unedited x (op o next) (suc e) f (λ q. omega (arith, q))
      go (nospc h l) = unedited x (op o next) NOSPC f (λ q. omega (arith, q))
      go (done h l) = rw (done-edit v x o next, array_after) (effect-content g wide x r o h l f hf)
  step-content (undecoded x k e r b) f hf = unedited x (bad k e) e f (λ q. omega (arith, q, b.status_some))

  -- READ_PLUS
  pieces-body : {v : List ℕ} {x : State} {next : ℕ} {z : Event} (i : List ℕ) (off n f : ℕ) → Performed (config g v) x (READ_PLUS i off n) next z → x.current ≡ some f → z.status ≡ 0
      → z.body ≡ read_plus_reply g x.store f off n
  unfolding body does
  pieces-body i off n f (refused e h) c k = absurd (omega (arith, k))
  pieces-body i off n f (nospc h l) c k = absurd (omega (arith, k))
  pieces-body {x = x} i off n f (done h l) c k = ap (λ u. read_plus_reply g x.store (file_of u) off n) c

  pub step-leaves : {z : Event} → Step g z → Leaves g z
  step-leaves {z} s = record {
    failed = step-failed s;
    contents = step-content s;
    size = λ f hf. sym (length-content g z.after.store f) ∙ ap length (step-content s f hf);
    pieces = λ i off n f w k. let a = as-op s w.0.1 in (
      pieces-body i off n f a.how w.1 k,
      pieces_right g (omega (arith, wide)) z.before.store f (any_file g z.before.store a.ready.sound f) off n,
    );
  }

  -- ---- reserved slots stay reserved

  pub step_keeps : {z : Event} → Step g z → (f k : ℕ) → k < g.S → word_of g z.before.store.words f k % 2 ≡ 1 → (GivesBack g f k z → ⊥)
      → word_of g z.after.store.words f k % 2 ≡ 1
  step_keeps (undecoded x c s r b) f k hk q d = q
  step_keeps (decoded v x o next hv r p) f k hk q d = go p q d
    where
      go : {z : Event} → Performed (config g v) x o next z → word_of g z.before.store.words f k % 2 ≡ 1 → (GivesBack g f k z → ⊥) → word_of g z.after.store.words f k % 2 ≡ 1
      go (refused s h) q d = q
      go (nospc h l) q d = q
      go (done h l) q d = effect-r g wide x r o h f k hk q (λ e is b. d (e, (done-edit v x o next ∙ is, b.0), b.1, b.2))

  -- ---- bytes stay where no edit has the file as its target

  -- st has the bytes d from place o of file f on
  abbrev pub Has : ℕ → ℕ → List ℕ → Store → Type 0
  Has f o d st = (i : ℕ) → o ≤ i → i < o + length d → (byte_at g st f i ≡ get_or d (i - o) 0) × (i < size_of st f)

  pub step_has : {z : Event} → Step g z → (f o : ℕ) (d : List ℕ) → f < g.F → ((e : Edit) → Edits g f z e → ⊥) → Has f o d z.before.store → Has f o d z.after.store
  step_has (undecoded x c s r b) f o d hf e has = has
  step_has (decoded v x q next hv r p) f o d hf e has = go p e has
    where
      go : {z : Event} → Performed (config g v) x q next z → ((e : Edit) → Edits g f z e → ⊥) → Has f o d z.before.store → Has f o d z.after.store
      go (refused s h) e has = has
      go (nospc h l) e has = has
      go (done h l) e has = λ i lo hi.
          let c = effect-same g wide x r q h l f hf (λ t is same. e t (done-edit v x q next ∙ is, sym same)) in
          (c.byte i (omega (arith, (has i lo hi).1, r.sound.fits f hf)) ∙ (has i lo hi).0, rw c.size (has i lo hi).1)

  -- ---- ALLOCATE, WRITE and READ

  current-file : (x : State) (f : ℕ) → x.current ≡ some f → file_of x.current ≡ f
  current-file x f e = rw e

  current-some : (x : State) (f : ℕ) → x.current ≡ some f → no_file x.current ≡ false
  current-some x f e = rw e

  -- the slots of the region from o to o + n of file f are reserved
  pub record Backed (f o n : ℕ) (st : Store) : Type 0 where
    pub file : f < g.F
    pub fits : o + n ≤ g.S * g.B
    pub reserved : (k : ℕ) → SlotOf g o (o + n) k → word_of g st.words f k % 2 ≡ 1

  pub allocated : {z : Event} (f o n : ℕ) (i : List ℕ) → As z (ALLOCATE i o n) → Current z f → OK z → Backed f o n z.after.store
  allocated f o n i a c k = go a.how a.ready c k
    where
      go : {v : List ℕ} {x : State} {next : ℕ} {z : Event} → Performed (config g v) x (ALLOCATE i o n) next z → Ready g x → x.current ≡ some f → z.status ≡ 0
          → Backed f o n z.after.store
      go (refused s h) r c k = absurd (omega (arith, k))
      go (nospc h l) r c k = absurd (omega (arith, k))
      go {x = x} (done h l) r c k = record {
        file = r.current f c;
        fits = (allocate-clear g x i o n h).fits;
        reserved = λ q s. rw (current-file x f c) at (allocate-done g wide x r i o n h q s.0 s.1);
      }

  pub write-ok : {w : Event} (f o n p s : ℕ) (d : List ℕ) → As w (WRITE zero_id p s d) → Current w f → Backed f o n w.before.store
      → 1 ≤ length d → o ≤ p → p + length d ≤ o + n → OK w
  write-ok f o n p s d a c al l lo hi = go a.how a.ready c al
    where
      go : {v : List ℕ} {x : State} {next : ℕ} {w : Event} → Performed (config g v) x (WRITE zero_id p s d) next w → Ready g x → x.current ≡ some f
          → Backed f o n x.store → w.status ≡ 0
      go {x = x} (refused e h) r c al =
          absurd (omega (arith, h, write-passes g wide x r p s d (current-some x f c) (omega (arith, al.fits)) (file-small bd)))
      go {x = x} (nospc h m) r c al =
          absurd (omega (
            arith,
            m,
            write_has_room g wide x r zero_id p s d (rw (current-file x f c) al.file) l (omega (arith, al.fits))
                (λ k u v. rw (current-file x f c) (al.reserved k (omega arith, omega arith))),
          ))
      go (done h m) r c al = refl

  pub wrote_has : {z : Event} (f o s : ℕ) (i d : List ℕ) → As z (WRITE i o s d) → Current z f → OK z → (f < g.F) × Has f o d z.after.store
  wrote_has f o s i d a c k = go a.how a.ready c k
    where
      go : {v : List ℕ} {x : State} {next : ℕ} {z : Event} → Performed (config g v) x (WRITE i o s d) next z → Ready g x → x.current ≡ some f → z.status ≡ 0
          → (f < g.F) × Has f o d z.after.store
      go (refused s h) r c k = absurd (omega (arith, k))
      go (nospc h l) r c k = absurd (omega (arith, k))
      go {x = x} (done h l) r c k = (r.current f c, λ p lo hi. rw (current-file x f c) at (write_done g wide x r i o s d h l p lo hi))

  pub read_has : {z : Event} (f o p n : ℕ) (d : List ℕ) → As z (READ zero_id p n) → Current z f → Has f o d z.before.store
      → o ≤ p → p + n ≤ o + length d → n ≤ 2048 → OK z × ReadsBack f o p n d z
  read_has f o p n d a c has lo hi g2 = go a.how a.ready c has
    where
      go : {v : List ℕ} {x : State} {next : ℕ} {z : Event} → Performed (config g v) x (READ zero_id p n) next z → Ready g x → x.current ≡ some f → Has f o d x.store
          → OK z × (z.body ≡ read_result.write (is_at_end x.store f p n, take n (drop (p - o) d)))
      go {x = x} (refused s h) r c has = absurd (omega (arith, h, read-passes g wide x r p n (current-some x f c)))
      go {x = x} (nospc h l) r c has = absurd (omega (arith, l, read-room g wide x r zero_id p n))
      go {v} {x = x} (done h l) r c has = (refl, read-body g wide x r v zero_id f o p n d c lo hi g2 has)

  -- ---- the current handle

  -- an operation sets the current handle, or keeps it
  abbrev Moves : Event → Type 0
  Moves z = z.after.current ≡ cond (sets_current z) z.after.current z.before.current

  same : {A : Type 0} (b : Bool) (a : A) → a ≡ cond b a a
  same true a = refl
  same false a = refl

  step_moves : {z : Event} → Step g z → Moves z
  step_moves (undecoded x k e r b) = same (sets_file k) x.current
  step_moves (decoded v x o next hv r p) = go p
    where
      by_number : (b : Bool) → sets_file (op_number o) ≡ b → first (errors g x o) ≡ 0 → (effect g x o).current ≡ cond b (effect g x o).current x.current
      by_number true e h = refl
      by_number false e h = effect-current g wide x r o h e

      go : {z : Event} → Performed (config g v) x o next z → Moves z
      go (refused e h) = same (sets_file (op_number o)) x.current
      go (nospc h l) = same (sets_file (op_number o)) x.current
      go (done h l) = by_number (sets_file (op_number o)) refl h

  pub chain-current : {x : State} {zs : List Event} → Chain g x zs → (pre : List Event) (y : Event) (post : List Event) → zs ≡ pre ++ (y ∷ post)
      → y.before.current ≡ last_set x.current pre
  chain-current (nil r) pre y post e = absurd (not_empty pre y post e)
  chain-current (cons {x = x} {z = z} {zs = zs} s b f c) [] y post e =
      let head : z ≡ y = cc in
      subst (λ w. w.before.current ≡ x.current) head (ap (λ w. w.current) b)
  chain-current (cons {x = x} {z = z} {zs = zs} s b f c) (w ∷ pre) y post e =
      let head : z ≡ w = cc in
      let rest : zs ≡ pre ++ (y ∷ post) = cc in
      chain-current c pre y post rest
      ∙ ap (λ a. last_set a pre) (step_moves s ∙ ap (λ u. cond (sets_current z) z.after.current u.current) b)
      ∙ ap (λ u. last_set (cond (sets_current u) u.after.current x.current) pre) head
