-- The run of a compound: one operation after the other, and what they come to.
use Prim.Native.Nat.{ℕ, zero, suc, ◌+◌, ◌-◌, ◌*◌, ◌≤◌, ◌<◌}
use mathlib.Core.Path.{◌≡◌, refl, sym, ap, ◌∙◌, subst}
use mathlib.Core.Bool.{cond}
use mathlib.Core.List.{List, [], ◌∷◌, ◌++◌, append_assoc, append-nil}
use mathlib.Core.Logic.{◌≢◌}
use native.Mathlib.Omega.{arith}
use lib.ListN.{length, length-append}
use lib.Dec.{eqb}
use borrow.Author.Tests.{ne_eqb}
use Rattle.std.proofs.Common.{Result, Ok, Err, None}
use Rattle.xdr.specs.Encode.{concat_map}
use Rattle.xdr.specs.Writing.{Wrote}
use Rattle.xdr.specs.declared.writer.Writer.{Writer}
use Rattle.xdr.proofs.ArrayLaws.{concat_map_append}
use Rattle.xdr.proofs.WritingLaws.{wrote_none, wrote_then}
use Rattle.rules.specs.Store.{Geometry, Store}
use Rattle.rules.specs.Fault.{NOWHERE, fault_at}
use Rattle.rules.specs.Operation.{BADXDR, Op, Item, op, bad, item_at, items}
use Rattle.rules.specs.Run.{State, Event, failed, perform, reached, config}
use Rattle.rules.specs.Calls.{result_bytes, place_after, last_place, last_status, last_store, last_of, fresh}
use Rattle.rules.proofs.GeometryLaws.{Good}
use Rattle.rules.proofs.OperationLaws.{Ready, performed, performed-item}
use Rattle.rules.proofs.ItemLaws as Items
use Rattle.rules.proofs.ChainLaws.{Step, decoded, undecoded, step_after, step-known, performed-decodes}
use Rattle.rules.proofs.PlaceProof.{no-fault, bad-fault}
use Rattle.wire.specs.declared.status.Status.{Status}
use Rattle.compound.specs.declared.handles.Handles.{Handles}
use Rattle.compound.specs.declared.run.Stop.{Stop}
use Rattle.compound.specs.Runner.{file_in, state_of, Named, event_of, Turned, RanAll}

-- ---- one event

-- what stands at place `at`, reached in state x: the state after it, the length of its result, and the run from it on
record Stands (g : Geometry) (v s : List ℕ) (x : State) (at : ℕ) (z : Event) : Type 0 where
  ready : Ready g z.after
  short : length (result_bytes z) ≤ 2179
  told : fault_at s at ≡ cond (eqb z.status BADXDR) (fault_at s (place_after at z.item)) NOWHERE
  on : z.status ≡ 0 → (n : ℕ) → reached (config g v) x (items s (suc n) at) ≡ z ∷ reached (config g v) z.after (items s n (place_after at z.item))
  off : z.status ≢ 0 → (n : ℕ) → reached (config g v) x (items s (suc n) at) ≡ z ∷ []

module _ (g : Geometry) (bounds : Good g) (v s : List ℕ) (hv : length v ≡ 8) (x : State) (r : Ready g x) (at : ℕ) where
  reached-at : (i : Item) → item_at s at ≡ i → (n : ℕ)
      → reached (config g v) x (items s (suc n) at) ≡ reached (config g v) x (elim i [ op o next ↦ op o next ∷ items s n next | bad k e ↦ bad k e ∷ [] ])
  unfolding items
  reached-at i e n = rw (e, items)

  -- the events from z on, by its status
  abbrev from : Event → List Item → ℕ → List Event
  from z is zero = z ∷ reached (config g v) z.after is
  from z is (suc n) = z ∷ []

  reached-from : (o : Op) (next : ℕ) (is : List Item) → reached (config g v) x (op o next ∷ is) ≡ from (perform (config g v) x o next) is (perform (config g v) x o next).status
  unfolding reached
  reached-from o next is = go (perform (config g v) x o next) (perform (config g v) x o next).status
    where
      go : (z : Event) (n : ℕ) → ◌≡◌ {A = List Event} (elim n [ zero ↦ z ∷ reached (config g v) z.after is | suc e ↦ z ∷ [] ]) (from z is n)
      go z zero = refl
      go z (suc n) = refl

  bad-stops : (j e : ℕ) (is : List Item) → reached (config g v) x (bad j e ∷ is) ≡ failed (bad j e) x e ∷ []
  unfolding reached
  bad-stops j e is = refl

  item-of : (o : Op) (next : ℕ) → (perform (config g v) x o next).item ≡ op o next
  item-of o next = performed-item (performed (config g v) x o next)

  stands_at : Stands g v s x at (event_of (config g v) x (item_at s at))
  stands_at = go (item_at s at) refl
    where
      done : (o : Op) (next : ℕ) → Step g (perform (config g v) x o next)
      done o next = decoded v x o next hv r (performed (config g v) x o next)

      off-by : (z : Event) (is : List Item) (n : ℕ) → n ≢ 0 → from z is n ≡ z ∷ []
      off-by z is zero h = absurd (h refl)
      off-by z is (suc n) h = refl

      go : (i : Item) → item_at s at ≡ i → Stands g v s x at (event_of (config g v) x i)
      go (op o next) e = record {
        ready = step_after g bounds (done o next);
        short = (step-known g bounds (done o next)).size;
        told = no-fault s at e ∙ rw (ne_eqb (perform (config g v) x o next).status BADXDR (performed-decodes g bounds r (performed (config g v) x o next)));
        on = λ h n. reached-at (op o next) e n ∙ reached-from o next (items s n next)
            ∙ ap (from (perform (config g v) x o next) (items s n next)) h
            ∙ ap (λ i. perform (config g v) x o next ∷ reached (config g v) (perform (config g v) x o next).after (items s n (place_after at i))) (sym (item-of o next));
        off = λ h n. reached-at (op o next) e n ∙ reached-from o next (items s n next)
            ∙ off-by (perform (config g v) x o next) (items s n next) (perform (config g v) x o next).status h;
      }
      go (bad j e) q = record {
        ready = r;
        short = (step-known g bounds (undecoded x j e r (subst Items.Known q (Items.item-known s at)))).size;
        told = bad-fault s at q;
        on = λ h n. absurd (omega (arith, h, (subst Items.Known q (Items.item-known s at)).status_some));
        off = λ h n. reached-at (bad j e) q n ∙ bad-stops j e [];
      }

-- ---- the events so far

last_end : {A : Type 0} (f : Event → A) (a : A) (zs : List Event) (z : Event) → last_of f a (zs ++ (z ∷ [])) ≡ f z
last_end f a [] z = refl
last_end f a (y ∷ zs) z = last_end f (f y) zs z

place_end : (at : ℕ) (zs : List Event) (z : Event) → last_place at (zs ++ (z ∷ [])) ≡ place_after (last_place at zs) z.item
place_end at [] z = refl
place_end at (y ∷ zs) z = place_end (place_after at y.item) zs z

results_end : (zs : List Event) (z : Event) → concat_map result_bytes (zs ++ (z ∷ [])) ≡ concat_map result_bytes zs ++ result_bytes z
results_end zs z = concat_map_append result_bytes zs (z ∷ []) ∙ ap (λ t. concat_map result_bytes zs ++ t) (append-nil (result_bytes z))

-- Before each turn, in state x and at place `place` of request s: the events so far, all of them OK, then those of the run that is left,
-- are those of all of it. The store is sound, and the handles name files of it.
pub record Held (g : Geometry) (v s : List ℕ) (st : Store) (ops at : ℕ) (w₀ : Writer) (x : State) (turn place : ℕ) (w : Writer) : Type 0 where
  pub zs : List Event
  pub ready : Ready g x
  pub ok : last_status 0 zs ≡ 0
  pub count : turn ≡ length zs
  pub read : place ≡ last_place at zs
  pub store : x.store ≡ last_store st zs
  pub wrote : Wrote (concat_map result_bytes zs) w₀ w
  pub most : length (concat_map result_bytes zs) ≤ 2179 * turn
  pub left : reached (config g v) (fresh st) (items s ops at) ≡ zs ++ reached (config g v) x (items s (ops - turn) place)

module _ (g : Geometry) (v s : List ℕ) (st : Store) (ops at : ℕ) (w₀ : Writer) where
  pub held-start : Ready g (fresh st) → Held g v s st ops at w₀ (fresh st) 0 at w₀
  held-start r =
      let all : ops ≡ ops - 0 = omega arith in
      record {
        zs = [];
        ready = r;
        ok = refl;
        count = refl;
        read = refl;
        store = refl;
        wrote = wrote_none w₀;
        most = omega arith;
        left = ap (λ m. reached (config g v) (fresh st) (items s m at)) all;
      }

  module _ (h : Handles) (now : Store) {turn place : ℕ} {w : Writer} (d : Held g v s st ops at w₀ (state_of h now) turn place w) where
    pub held-end : turn ≡ ops → RanAll 0 s (reached (config g v) (fresh st) (items s ops at)) st at (record { count = ops; status = Status.Ok; place = None }) place now w₀ w
    unfolding items reached
    held-end e =
        let none_left : ops - turn ≡ 0 = omega arith in
        rw (d.left, none_left, append-nil d.zs) (record {
          status = sym d.ok;
          count = sym e ∙ d.count;
          read = d.read;
          place = rw d.ok refl;
          store = d.store;
          wrote = d.wrote;
        })

    module _ (bounds : Good g) (hv : length v ≡ 8) (l : turn < ops) where
      abbrev z : Event
      z = event_of (config g v) (state_of h now) (item_at s place)

      stands : Stands g v s (state_of h now) place z
      stands = stands_at g bounds v s hv (state_of h now) d.ready place

      step_left : ops - turn ≡ suc (ops - (turn + 1))
      step_left = omega arith

      module _ {q : Result Handles Stop} {next : ℕ} {after : Store} {w' : Writer} (t : Turned z (fault_at s place) place h q next after w w') where
        wrote-more : Wrote (concat_map result_bytes (d.zs ++ (z ∷ []))) w₀ w'
        wrote-more = rw (results_end d.zs z) (wrote_then d.wrote t.wrote)

        after-is : after ≡ z.after.store
        after-is = ap (λ (x : State). x.store) t.state

      pub held-stop : {e : Stop} {next : ℕ} {after : Store} {w' : Writer} → Turned z (fault_at s place) place h (Err e) next after w w'
          → RanAll 0 s (reached (config g v) (fresh st) (items s ops at)) st at (record { count = turn + 1; status = e.status; place = e.place }) next after w₀ w'
      held-stop t =
          let fails : z.status ≢ 0 = λ q. omega (arith, t.failed, t.status, q) in
          let all : reached (config g v) (fresh st) (items s ops at) ≡ d.zs ++ (z ∷ []) =
          d.left ∙ ap (λ m. d.zs ++ reached (config g v) (state_of h now) (items s m place)) step_left
          ∙ ap (λ y. d.zs ++ y) (stands.off fails (ops - (turn + 1))) in
          let after-place : last_place at (d.zs ++ (z ∷ [])) ≡ place_after place z.item = place_end at d.zs z ∙ ap (λ p. place_after p z.item) (sym d.read) in
          rw all (record {
            status = t.status ∙ sym (last_end (λ y. y.status) 0 d.zs z);
            count = omega (arith, d.count, length-append d.zs (z ∷ []));
            read = t.read ∙ sym after-place;
            place = t.place ∙ stands.told ∙ rw (last_end (λ y. y.status) 0 d.zs z, after-place) refl;
            store = after-is t ∙ sym (last_end (λ y. y.after.store) st d.zs z);
            wrote = wrote-more t;
          })

      module _ {k : Handles} {next : ℕ} {after : Store} {w' : Writer} (t : Turned z (fault_at s place) place h (Ok k) next after w w') where
        -- the store is still sound, and the handles name files of it
        pub ready-more : Ready g (state_of k after)
        ready-more = subst (Ready g) (sym t.state) stands.ready

        pub held-more : Held g v s st ops at w₀ (state_of k after) (turn + 1) next w'
        held-more = record {
          zs = d.zs ++ (z ∷ []);
          ready = ready-more;
          ok = last_end (λ y. y.status) 0 d.zs z ∙ sym t.status;
          count = omega (arith, d.count, length-append d.zs (z ∷ []));
          read = t.read ∙ ap (λ p. place_after p z.item) d.read ∙ sym (place_end at d.zs z);
          store = after-is t ∙ sym (last_end (λ y. y.after.store) st d.zs z);
          wrote = wrote-more t;
          most = rw (results_end d.zs z) (omega (arith, length-append (concat_map result_bytes d.zs) (result_bytes z), d.most, stands.short));
          left =
              d.left ∙ ap (λ m. d.zs ++ reached (config g v) (state_of h now) (items s m place)) step_left
              ∙ ap (λ y. d.zs ++ y) (stands.on (sym t.status) (ops - (turn + 1)))
              ∙ ap (λ y. d.zs ++ (z ∷ reached (config g v) y (items s (ops - (turn + 1)) (place_after place z.item)))) (sym t.state)
              ∙ ap (λ p. d.zs ++ (z ∷ reached (config g v) (state_of k after) (items s (ops - (turn + 1)) p))) (sym t.read)
              ∙ sym (append_assoc d.zs (z ∷ []) (reached (config g v) (state_of k after) (items s (ops - (turn + 1)) next)));
        }

        pub named-more : Named g.F k
        named-more = record { current = λ f e. ready-more.current f (ap file_in e); saved = λ f e. ready-more.saved f (ap file_in e) }
