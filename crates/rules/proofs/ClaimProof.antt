-- The claim about lists of calls, proved: of any entry whose calls each run a chain of operations, and so of the one that serves compounds.
use Prim.Native.Nat.{ℕ, ◌+◌, ◌*◌, ◌%◌, ◌≤◌, ◌<◌}
use mathlib.Core.Path.{◌≡◌, refl, sym, ap, ◌∙◌, subst}
use mathlib.Core.Bool.{true, ◌&&◌}
use mathlib.Core.Option.{Option, none, some}
use mathlib.Core.List.Memᴰ
use mathlib.Core.List.{List, [], ◌∷◌, ◌++◌, Memᴰ}
use mathlib.Core.Logic.{◌≢◌, ◌⊎◌, inl, inr}
use native.Mathlib.Nat.{lt_of_mul-lt-mul_right}
use native.Mathlib.Omega.{arith}
use Rattle.rules.specs.Store.{Geometry, Store, word_of, good_lengths, sound}
use Rattle.rules.specs.Edit.{Edit}
use Rattle.rules.specs.Operation.{Header}
use Rattle.rules.specs.Run.{State, Event}
use Rattle.rules.specs.Calls.{fresh, last_store, Call, Outcome, Gives, answer}
use Rattle.rules.specs.Claim.{Ran, Entry, ran_call, serving, Each, machine, events, history, Says, Refused, InOrder, OK, last_set, Edits, GivesBack, Between, Allocated, ReadAfter, ReadsBack, Claim, EveryEvent}
use Rattle.rules.specs.Seek.{SeekClaim}
use Rattle.rules.specs.Emptying.{EmptyingClaim}
use Rattle.rules.specs.Copying.{CopyingClaim}
use Rattle.xdr.proofs.BoolLaws.{and_left, and_right, and_both}
use Rattle.rules.proofs.GeometryLaws.{Good, good, block-pos}
use Rattle.rules.proofs.SoundStore.{Sound}
use Rattle.rules.proofs.SoundLaws.{sound-facts, lengths_test, sound_test}
use Rattle.rules.proofs.ChainLaws.{Step, Chain, nil, cons, step-before, chain-order, chain-end, chain-current, step-nospc, step-leaves, step_keeps, as-op, Has, step_has, allocated, write-ok, wrote_has, read_has}
use Rattle.rules.proofs.SeekLaws.{step_seek}
use Rattle.rules.proofs.EmptyingStep.{step_empties}
use Rattle.rules.proofs.CopyingLaws.{step-copies}
use Rattle.rules.proofs.AnswerLaws.{Accepted, Refusal, accepted_or_refused, refused-call, refused-number, zs, ran-is, events_are, accepted-chain, store_is, number_is, accepted-says}
use Rattle.rules.proofs.ReplyLaws.{fresh-ready}

-- ---- the operations of several calls: each starts from the store that the last one left

data Trail (g : Geometry) : Store → List Event → Store → Type 0 where
  stop : {st : Store} → Sound g st → Trail g st [] st
  more : {st st' : Store} {z : Event} {zs : List Event} → Step g z → z.before.store ≡ st → Trail g z.after.store zs st' → Trail g st (z ∷ zs) st'

module _ (g : Geometry) (bd : Good g) where
  chain-trail : {x : State} {zs : List Event} → Chain g x zs → Trail g x.store zs (last_store x.store zs)
  chain-trail (nil r) = stop r.sound
  chain-trail (cons s e f c) = more s (ap (λ x. x.store) e) (chain-trail c)

  trail-start : {st st' : Store} {zs : List Event} → Trail g st zs st' → Sound g st
  trail-start (stop s) = s
  trail-start (more s e c) = rw e at (step-before g bd s).sound

  trail_append : {a b c : Store} {xs ys : List Event} → Trail g a xs b → Trail g b ys c → Trail g a (xs ++ ys) c
  trail_append (stop s) d = d
  trail_append (more s e c) d = more s e (trail_append c d)

  trail-split : {a c : Store} (xs : List Event) {ys : List Event} → Trail g a (xs ++ ys) c → (b : Store) × Trail g a xs b × Trail g b ys c
  trail-split [] d = (_, stop (trail-start d), d)
  trail-split (x ∷ xs) (more s e c) = let r = trail-split xs c in (r.0, more s e r.1, r.2)

  trail-mem : {a b : Store} {zs : List Event} → Trail g a zs b → (z : Event) → Memᴰ z zs → Step g z
  trail-mem (stop s) z m = absurd (Memᴰ.not-nil m)
  trail-mem (more {z = y} s e c) z m = go (Memᴰ.cases_cons m) (trail-mem c z)
    where
      go : {zs : List Event} → (z ≡ y) ⊎ Memᴰ z zs → (Memᴰ z zs → Step g z) → Step g z
      go (inl q) ih = rw q s
      go (inr k) ih = ih k

  trail-keeps : {a b : Store} {zs : List Event} → Trail g a zs b → (f k : ℕ) → k < g.S → word_of g a.words f k % 2 ≡ 1
      → ((z : Event) → Memᴰ z zs → GivesBack g f k z → ⊥) → word_of g b.words f k % 2 ≡ 1
  trail-keeps (stop s) f k hk q d = q
  trail-keeps (more {z = z} s eq c) f k hk q d =
      trail-keeps c f k hk (step_keeps g bd s f k hk (rw eq q) (d z (Memᴰ.head refl))) (λ y m. d y (Memᴰ.tail m))

  trail_has : {a b : Store} {zs : List Event} → Trail g a zs b → (f o : ℕ) (d : List ℕ) → f < g.F → ((z : Event) → Memᴰ z zs → (e : Edit) → Edits g f z e → ⊥)
      → Has g bd f o d a → Has g bd f o d b
  trail_has (stop s) f o d hf e has = has
  trail_has (more {z = z} s eq c) f o d hf e has =
      trail_has c f o d hf (λ y m. e y (Memᴰ.tail m)) (step_has g bd s f o d hf (e z (Memᴰ.head refl)) (rw eq has))

  uncons : {a c : Store} {z : Event} {zs : List Event} → Trail g a (z ∷ zs) c → Step g z × (z.before.store ≡ a) × Trail g z.after.store zs c
  uncons (more s e c) = (s, e, c)

  -- an operation a, then mid, then an operation b
  record Apart (a : Event) (mid : List Event) (b : Event) : Type 0 where
    first : Step g a
    second : Step g b
    mid_trail : Trail g a.after.store mid b.before.store

  apart : {st last : Store} (zs : List Event) {mid : List Event} {a b : Event} → Trail g st zs last → Between zs a mid b → Apart a mid b
  apart {st} {last} zs {mid} {a} c w =
      let s = trail-split w.0 (subst (λ y. Trail g st y last) w.2 c) in
      let u = uncons s.2 in
      let t = trail-split mid u.2 in
      let v = uncons t.2 in
      record { first = u.0; second = v.0; mid_trail = subst (λ y. Trail g a.after.store mid y) (sym v.1) t.1 }

  reservation : {st last : Store} (zs : List Event) → Trail g st zs last → (f o n p : ℕ) (d : List ℕ) (w : Event) → Allocated g zs f o n p d w → OK w
  reservation zs c f o n p d w r =
      let b = apart zs c r.between in
      let al = allocated g bd f o n r.id (as-op g bd b.first r.allocate.0.1) r.allocate.1 r.done in
      write-ok g bd f o n p r.stable d (as-op g bd b.second r.write.0.1) r.write.1
      (record {
        file = al.file;
        fits = al.fits;
        reserved = λ k s. trail-keeps b.mid_trail f k (inside-file k al.fits s.0) (al.reserved k s) (λ z m. r.kept z k m s);
      })
      r.some_byte r.starts r.ends
    where
      inside-file : (k : ℕ) → o + n ≤ g.S * g.B → k * g.B < o + n → k < g.S
      inside-file k fits l = lt_of_mul-lt-mul_right g.B (omega arith)

  read_back : {st last : Store} (zs : List Event) → Trail g st zs last → (f o p n : ℕ) (d : List ℕ) (r : Event) → ReadAfter g zs f o p n d r → OK r × ReadsBack f o p n d r
  read_back zs c f o p n d r a =
      let b = apart zs c a.between in
      let w = wrote_has g bd f o a.stable a.id d (as-op g bd b.first a.write.0.1) a.write.1 a.done in
      read_has g bd f o p n d (as-op g bd b.second a.read.0.1) a.read.1
      (trail_has b.mid_trail f o d w.0 a.right_after w.1) a.starts a.ends a.granted

-- ---- any entry

-- what the claim asks of an entry: of each call from good tables, with the geometry kept if it is served
pub record Fulfils (E : Entry) : Type 0 where
  pub is : (c : E.Given) (t : E.Tables) (o : Outcome E.Tables) → E.Contract c t o → o ≡ E.answer c t
  pub sound : (g : Geometry) → Good g → (t : E.Tables) → E.good g t ≡ true → Sound g (E.store t)
  pub chain : (g : Geometry) → Good g → (c : E.Given) (t : E.Tables) → E.good g t ≡ true → ((E.answer c t).number ≡ 0 → E.geometry c ≡ g)
      → Chain g (fresh (E.store t)) (events E c t)
  pub last : (c : E.Given) (t : E.Tables) → E.store (E.answer c t).store ≡ last_store (E.store t) (events E c t)
  pub good : (g : Geometry) → Good g → (c : E.Given) (t : E.Tables) → E.good g t ≡ true → ((E.answer c t).number ≡ 0 → E.geometry c ≡ g)
      → E.good g (E.answer c t).store ≡ true
  pub says : (c : E.Given) (t : E.Tables) (r : Ran) → E.ran c t ≡ some r → Says (E.buffer c) r (E.answer c t)
  pub refused : (c : E.Given) (t : E.Tables) → (E.answer c t).number ≢ 0 → Refused E c t (E.answer c t)

module _ (E : Entry) (F : Fulfils E) where
  -- what came of the calls is the machine's
  trace_is : (t : E.Tables) (cs : List E.Given) (os : List (Outcome E.Tables)) → Each E E.Contract t cs os → os ≡ machine E t cs
  unfolding machine
  trace_is t [] [] k = refl
  trace_is t [] (o ∷ os) k = absurd k
  trace_is t (c ∷ cs) [] k = absurd k
  trace_is t (c ∷ cs) (o ∷ os) k =
      let e = F.is c t o k.0 in
      rw (trace_is o.store cs os k.1, e)

  module _ (g : Geometry) (bd : Good g) where
    abbrev Keeps : E.Given → E.Tables → Outcome E.Tables → Type 0
    Keeps c t o = o.number ≡ 0 → E.geometry c ≡ g

    -- what holds of the rules' answer to any call in good tables holds along the machine
    along : (P : E.Given → E.Tables → Outcome E.Tables → Type 0) → ((c : E.Given) (t : E.Tables) → E.good g t ≡ true → Keeps c t (E.answer c t) → P c t (E.answer c t))
        → (cs : List E.Given) (t : E.Tables) → E.good g t ≡ true → Each E Keeps t cs (machine E t cs) → Each E P t cs (machine E t cs)
    unfolding machine
    along P h [] t gd k = tt
    along P h (c ∷ cs) t gd k = (h c t gd k.0, along P h cs (E.answer c t).store (F.good g bd c t gd k.0) k.1)

    trail : (cs : List E.Given) (t : E.Tables) → E.good g t ≡ true → Each E Keeps t cs (machine E t cs) → (last : Store) × Trail g (E.store t) (history E t cs) last
    unfolding machine history
    trail [] t gd k = (E.store t, stop (F.sound g bd t gd))
    trail (c ∷ cs) t gd k =
        let here = chain-trail g bd (F.chain g bd c t gd k.0) in
        let rest = trail cs (E.answer c t).store (F.good g bd c t gd k.0) k.1 in
        (rest.0, trail_append g bd here (rw (F.last c t) at rest.1))

  pub claim_of : Claim E
  claim_of g t fine gd cs os contracts keeps =
      let bd = good g fine in
      let same = trace_is t cs os contracts in
      let k = subst (Each E (λ c t o. o.number ≡ 0 → E.geometry c ≡ g) t cs) same keeps in
      let w = trail g bd cs t gd k in
      record {
        equal = same;
        sound_after = rw same (along g bd (λ c t o. E.good g o.store ≡ true) (λ c t gd k. F.good g bd c t gd k) cs t gd k);
        replies = rw same (along g bd (λ c t o. (r : Ran) → E.ran c t ≡ some r → Says (E.buffer c) r o) (λ c t gd k. F.says c t) cs t gd k);
        refused = rw same (along g bd (λ c t o. o.number ≢ 0 → Refused E c t o) (λ c t gd k. F.refused c t) cs t gd k);
        in_order = rw same (along g bd (λ c t o. InOrder (fresh (E.store t)) (events E c t) (E.store o.store))
            (λ c t gd k. rw (F.last c t) (chain-order g bd (F.chain g bd c t gd k))) cs t gd k);
        current = rw same (along g bd (λ c t o. (pre : List Event) (z : Event) (post : List Event) → events E c t ≡ pre ++ (z ∷ post) → z.before.current ≡ last_set none pre)
            (λ c t gd k. chain-current g bd (F.chain g bd c t gd k)) cs t gd k);
        leaves = λ z m. step-leaves g bd (trail-mem g bd w.1 z m);
        reservation = λ f o n p d z r. reservation g bd (history E t cs) w.1 f o n p d z r;
        read_back = λ f o p n d z r. read_back g bd (history E t cs) w.1 f o p n d z r;
        nospc = λ z m. step-nospc g bd (trail-mem g bd w.1 z m);
      }

  -- every operation reached starts in a sound state
  steps_of : EveryEvent E Step
  steps_of g t fine gd cs os contracts keeps z m =
      let bd = good g fine in
      let k = subst (Each E (λ c t o. o.number ≡ 0 → E.geometry c ≡ g) t cs) (trace_is t cs os contracts) keeps in
      trail-mem g bd (trail g bd cs t gd k).1 z m

  -- of every SEEK reached
  pub seeks_of : SeekClaim E
  seeks_of g t fine gd cs os contracts keeps z m id off what f is passes =
      step_seek g (good g fine) id passes off what f (steps_of g t fine gd cs os contracts keeps z m) is

  -- of every DEALLOCATE reached that empties a file
  pub emptying_of : EmptyingClaim E
  emptying_of g t fine gd cs os contracts keeps z m f e = step_empties g (good g fine) (steps_of g t fine gd cs os contracts keeps z m) f e

  -- of every COPY reached
  pub copying_of : CopyingClaim E
  copying_of g t fine gd cs os contracts keeps z m = step-copies g (good g fine) (steps_of g t fine gd cs os contracts keeps z m)

-- ---- the entry that serves a compound

gives_is : (want o : Outcome Store) → Gives want o → o ≡ want
gives_is want o k = λ i. record {
  number = k.number i;
  read = k.read i;
  written = k.written i;
  place = k.place i;
  reply = k.reply i;
  store = record { sizes = k.sizes i; words = k.words i; mem = k.mem i };
}

pub no-events : {c : Call} {st : Store} {k : ℕ} → Refusal c st k → events serving c st ≡ []
unfolding events
no-events r = rw ((refused-call r).nothing_run, events)

pub some-ran : (a b : Ran) → ◌≡◌ {A = Option Ran} (some a) (some b) → a ≡ b
some-ran a b e = cc

pub none-ran : (a : Ran) → ◌≡◌ {A = Option Ran} none (some a) → ⊥
none-ran a e = let z : ◌≡◌ {A = ℕ} 0 1 = cc in omega arith

tables-sound : (g : Geometry) → Good g → (st : Store) → good_lengths g st && sound g st ≡ true → Sound g st
tables-sound g bd st e = sound-facts g (block-pos bd) st (and_left (good_lengths g st) (sound g st) e) (and_right (good_lengths g st) (sound g st) e)

tables_test : (g : Geometry) → Good g → (st : Store) → Sound g st → good_lengths g st && sound g st ≡ true
tables_test g bd st s = and_both (good_lengths g st) (sound g st) (lengths_test g (block-pos bd) st s) (sound_test g (block-pos bd) st s)

call-chain : (g : Geometry) → Good g → (c : Call) (st : Store) → good_lengths g st && sound g st ≡ true → ((answer c st).number ≡ 0 → c.config.geometry ≡ g)
    → Chain g (fresh st) (events serving c st)
call-chain g bd c st e keep = go (accepted_or_refused c st)
  where
    go : ((h : Header) × (at : ℕ) × Accepted c st h at) ⊎ ((k : ℕ) × Refusal c st k) → Chain g (fresh st) (events serving c st)
    go (inl a) = rw (events_are a.2) (subst (λ y. Chain y (fresh st) (zs a.2)) (keep (number_is a.2)) (accepted-chain a.2))
    go (inr r) = rw (no-events r.1) (nil (fresh-ready g st (tables-sound g bd st e)))

call-last : (c : Call) (st : Store) → (answer c st).store ≡ last_store st (events serving c st)
call-last c st = go (accepted_or_refused c st)
  where
    go : ((h : Header) × (at : ℕ) × Accepted c st h at) ⊎ ((k : ℕ) × Refusal c st k) → (answer c st).store ≡ last_store st (events serving c st)
    go (inl a) = rw (events_are a.2) (store_is a.2)
    go (inr r) = rw (no-events r.1) (refused-call r.1).tables

call-says : (c : Call) (st : Store) (r : Ran) → ran_call c st ≡ some r → Says c.buffer r (answer c st)
call-says c st r e = go (accepted_or_refused c st)
  where
    go : ((h : Header) × (at : ℕ) × Accepted c st h at) ⊎ ((k : ℕ) × Refusal c st k) → Says c.buffer r (answer c st)
    go (inl a) = subst (λ y. Says c.buffer y (answer c st)) (some-ran _ r (sym (ran-is a.2) ∙ e)) (accepted-says a.2)
    go (inr k) = absurd (none-ran r (sym (refused-call k.1).nothing_run ∙ e))

pub serving_fulfils : Fulfils serving
serving_fulfils = record {
  is = λ c st o k. gives_is (answer c st) o k;
  sound = tables-sound;
  chain = call-chain;
  last = call-last;
  good = λ g bd c st e keep. tables_test g bd (answer c st).store (rw (call-last c st) (chain-end g bd (call-chain g bd c st e keep)));
  says = call-says;
  refused = refused-number;
}

pub promise : Claim serving
promise = claim_of serving serving_fulfils

pub seeks : SeekClaim serving
seeks = seeks_of serving serving_fulfils

pub emptying : EmptyingClaim serving
emptying = emptying_of serving serving_fulfils

pub copying : CopyingClaim serving
copying = copying_of serving serving_fulfils
