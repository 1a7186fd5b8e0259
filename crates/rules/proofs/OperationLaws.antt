-- One operation, by what it does: it sets handles, shows, or edits. What holds of each kind holds of every operation.
use Prim.Native.Nat.{ℕ, zero, suc, ◌+◌, ◌-◌, ◌*◌, ◌%◌, ◌^◌, ◌≤◌, ◌<◌, min}
use mathlib.Core.Path.{◌≡◌, refl, sym, ap, ◌∙◌, subst}
use mathlib.Core.Bool.{Bool, true, false, cond, ◌||◌, true≢false}
use mathlib.Core.Option.{Option, none, some}
use mathlib.Core.List.{List, [], ◌++◌}
use mathlib.Core.Logic.{◌≢◌}
use native.Mathlib.Omega.{arith}
use borrow.Author.Tests.{leb-true, leb-false, lt-leb, le-leb, le-ltb}
use lib.ListN.{length, get_or, take, drop, length-take, length-drop}
use lib.Seq.{ext_get_or, get_or-take, get_or-drop}
use lib.Dec.{eqb}
use Rattle.xdr.specs.Encode.{u32, bool, opaque}
use Rattle.xdr.specs.Decode.{value}
use Rattle.xdr.proofs.EncodeLaws.{length-u32, length-opaque}
use Rattle.rules.specs.Lists.{first, tabulate}
use Rattle.rules.specs.Store.{Geometry, Store, size_of, word_of, need, fits_pool, byte_at, content}
use Rattle.rules.specs.Edit.{Edit, edited, writing}
use Rattle.rules.specs.Read.{read_count, is_at_end}
use Rattle.rules.specs.Operation.{NOSPC, Op, GETATTR, GETFH, RESTOREFH, SAVEFH, PUTFH, READ, READ_PLUS, WRITE, ALLOCATE, DEALLOCATE, SEEK, COPY, CLONE, op_number, op, read_reply, read_result}
use Rattle.rules.specs.Run.{State, no_file, file_of, zero_id, errors, Config, Does, sets, shows, edits, does, edit_of, effect, body, Event, failed, counted_after, perform}
use Rattle.rules.specs.Claim.{array_edit}
use Rattle.rules.proofs.SlotByteLaws.{length_tab, get_or_tab}
use Rattle.xdr.proofs.BoolLaws.{and_false}
use Rattle.rules.proofs.SoundStore.{Sound, slot_in, slot_bytes_lem}
use Rattle.rules.proofs.WriteLaws.{inside, stored-edited, stored_bytes, write_stores, write-room}
use Rattle.rules.proofs.AllocateLaws.{allocate-reserved}
use Rattle.rules.proofs.EditLaws.{Lawful, writes, copies, clones, allocates, deallocates, edit_change, Back, edit-r, edit-content}
use Rattle.rules.proofs.ErrorLaws.{known, OwnError, first-known, put-clear, write-clear, allocate-clear, deallocate-clear, copy-clear, clone-clear, meant}
use Rattle.rules.proofs.BodyLaws.{getattr_most, read-most, read-plus-most, seek_most, write-most, copy-most, any_file}

-- ---- a sound state: handles name files

pub record Ready (g : Geometry) (x : State) : Type 0 where
  pub sound : Sound g x.store
  pub current : (f : ℕ) → x.current ≡ some f → f < g.F
  pub saved : (f : ℕ) → x.saved ≡ some f → f < g.F

pub file-ok : (n : ℕ) (u : Option ℕ) → no_file u ≡ false → ((f : ℕ) → u ≡ some f → f < n) → file_of u < n
file-ok n none e h = absurd (true≢false e)
file-ok n (some f) e h = h f refl

pub some_inj : {A : Type 0} (a b : A) → ◌≡◌ {A = Option A} (some a) (some b) → a ≡ b
some_inj a b p = cc

pub none≢some : {A : Type 0} {a : A} → ◌≡◌ {A = Option A} none (some a) → ⊥
none≢some e = let z : ◌≡◌ {A = ℕ} 0 1 = cc in omega arith

edit_inj : (e e' : Edit) → ◌≡◌ {A = Option Edit} (some e) (some e') → e ≡ e'
edit_inj e e' p = cc

-- ---- what an operation without error does

-- PUTFH (22) and RESTOREFH (31)
abbrev pub sets_file : ℕ → Bool
sets_file n = eqb n 22 || eqb n 31

-- the operation with number n: it sets files that are there, and the current one only as PUTFH or RESTOREFH; shows a body of at most 2,171
-- bytes; or makes an edit that no error forbids
pub data Did (g : Geometry) (x : State) (n : ℕ) : Does → Type 0 where
  did_set : {a b : Option ℕ} → ((f : ℕ) → a ≡ some f → f < g.F) → ((f : ℕ) → b ≡ some f → f < g.F) → (sets_file n ≡ false → a ≡ x.current) → Did g x n (sets a b)
  did_show : {b : List ℕ} → length b ≤ 2171 → Did g x n (shows b)
  did_edit : {e : Edit} {b : List ℕ → List ℕ} → Lawful g x.store e → ((v : List ℕ) → length v ≡ 8 → length (b v) ≤ 2171) → Did g x n (edits e b)

module _ (g : Geometry) (wide : 512 ≤ g.B) (x : State) (r : Ready g x) where
  pos : 0 < g.B
  pos = omega arith

  no_bytes : (v : List ℕ) → length v ≡ 8 → length {A = ℕ} [] ≤ 2171
  no_bytes v h = omega arith

  current-ok : no_file x.current ≡ false → file_of x.current < g.F
  current-ok e = file-ok g.F x.current e r.current

  saved-ok : no_file x.saved ≡ false → file_of x.saved < g.F
  saved-ok e = file-ok g.F x.saved e r.saved

  -- every operation: its number, its errors' statuses, and what it does without error
  pub record OpFacts (o : Op) : Type 0 where
    pub number : op_number o ≤ 71
    pub statuses : known (errors g x o) ≡ true
    pub did : first (errors g x o) ≡ 0 → Did g x (op_number o) (does g x o)

  pub op-facts : (o : Op) → OpFacts o
  unfolding errors does
  op-facts GETFH = record {
    number = omega arith;
    statuses = refl;
    did = λ h. did_show {b = opaque (u32 (file_of x.current))} (omega (arith, length-opaque (u32 (file_of x.current)), length-u32 (file_of x.current)));
  }
  op-facts (GETATTR ws) = record { number = omega arith; statuses = refl; did = λ h. did_show (getattr_most g x.store (file_of x.current) ws) }
  op-facts RESTOREFH = record { number = omega arith; statuses = refl; did = λ h. did_set r.saved r.saved (λ e. absurd (true≢false e)) }
  op-facts SAVEFH = record { number = omega arith; statuses = refl; did = λ h. did_set r.current r.current (λ e. refl) }
  op-facts (PUTFH d) = record {
    number = omega arith;
    statuses = refl;
    did = λ h. did_set (λ e q. rw (some_inj (value d) e q) at (put-clear g x d h).file) r.saved (λ e. absurd (true≢false e));
  }
  op-facts (READ i o n) = record { number = omega arith; statuses = refl; did = λ h. did_show (read-most g pos x.store (file_of x.current) o n) }
  op-facts (READ_PLUS i o n) = record {
    number = omega arith;
    statuses = refl;
    did = λ h. did_show (read-plus-most g pos x.store (file_of x.current) wide (any_file g x.store r.sound (file_of x.current)) o n);
  }
  op-facts (SEEK i o n) = record { number = omega arith; statuses = refl; did = λ h. did_show (seek_most g x.store (file_of x.current) o n) }
  op-facts (WRITE i o s d) = record {
    number = omega arith;
    statuses = refl;
    did = λ h.
        let c = write-clear g x i o s d h in
        did_edit (writes (file_of x.current) o (length d) _ (current-ok c.file) c.fits) (write-most (length d));
  }
  op-facts (ALLOCATE i o n) = record {
    number = omega arith;
    statuses = refl;
    did = λ h.
        let c = allocate-clear g x i o n h in
        did_edit (allocates (file_of x.current) o n (current-ok c.file) c.some_byte c.fits) no_bytes;
  }
  op-facts (DEALLOCATE i o n) = record {
    number = omega arith;
    statuses = refl;
    did = λ h.
        let c = deallocate-clear g x i o n h in
        did_edit (deallocates (file_of x.current) o (min (o + n) (size_of x.store (file_of x.current))) (current-ok c.file) (omega arith)) no_bytes;
  }
  op-facts (COPY i j s o n ca sy) = record {
    number = omega arith;
    statuses = refl;
    did = λ h.
        let c = copy-clear g x i j s o n ca sy h in
        did_edit (copies (file_of x.current) o (meant x s n) (file_of x.saved) s (current-ok c.file) (saved-ok c.source) c.inside c.fits) (copy-most (meant x s n));
  }
  op-facts (CLONE i j s o n) = record {
    number = omega arith;
    statuses = refl;
    did = λ h.
        let c = clone-clear g x i j s o n h in
        did_edit (clones (file_of x.current) o (meant x s n) (file_of x.saved) s (record {
          target_file = current-ok c.file;
          source_file = saved-ok c.source;
          inside = c.inside;
          fits = c.fits;
          source_even = c.source_even;
          target_even = c.target_even;
          even = c.even;
          clear = c.apart;
        })) no_bytes;
  }

  pub own-errors : (o : Op) → OwnError (first (errors g x o))
  own-errors o = first-known (errors g x o) (op-facts o).statuses

  -- what follows for any operation without error that has room
  abbrev after : Does → State
  after d = elim d [
    | sets a b ↦ record { current = a; saved = b; store = x.store }
    | shows b ↦ x
    | edits e b ↦ record { current = x.current; saved = x.saved; store = edited g x.store e }
  ]

  abbrev edit_in : Does → Option Edit
  edit_in d = elim d [ sets a b ↦ none | shows b ↦ none | edits e b ↦ some e ]

  -- the store stays sound, and handles keep naming files
  pub effect-ready : (o : Op) → first (errors g x o) ≡ 0 → need (counted_after g x o) ≤ g.N → Ready g (effect g x o)
  unfolding effect
  effect-ready o h room = go ((op-facts o).did h) room
    where
      go : {d : Does} → Did g x (op_number o) d → need (after d).store.words ≤ g.N → Ready g (after d)
      go (did_set a b k) room = record { sound = r.sound; current = a; saved = b }
      go (did_show m) room = r
      go (did_edit l m) room = record { sound = (edit_change g pos x.store r.sound l room).sound; current = r.current; saved = r.saved }

  -- an edit that is done: no error forbids it, and the store is what it leaves
  pub effect-edit : (o : Op) → first (errors g x o) ≡ 0 → (e : Edit) → edit_of g x o ≡ some e → Lawful g x.store e × ((effect g x o).store ≡ edited g x.store e)
  unfolding effect edit_of
  effect-edit o h e = go ((op-facts o).did h)
    where
      go : {d : Does} → Did g x (op_number o) d → edit_in d ≡ some e → Lawful g x.store e × ((after d).store ≡ edited g x.store e)
      go (did_set a b k) q = absurd (none≢some q)
      go (did_show m) q = absurd (none≢some q)
      go (did_edit {e = d} l m) q = let same : d ≡ e = some_inj d e q in (subst (Lawful g x.store) same l, ap (edited g x.store) same)

  -- a file that is no edit's target keeps its bytes and its size
  pub record Same (f : ℕ) (st' : Store) : Type 0 where
    pub byte : (i : ℕ) → i < g.S * g.B → byte_at g st' f i ≡ byte_at g x.store f i
    pub size : size_of st' f ≡ size_of x.store f

  pub effect-same : (o : Op) → first (errors g x o) ≡ 0 → need (counted_after g x o) ≤ g.N → (f : ℕ) → f < g.F → ((e : Edit) → edit_of g x o ≡ some e → f ≢ e.file)
      → Same f (effect g x o).store
  unfolding effect edit_of
  effect-same o h room f hf other = go ((op-facts o).did h) room other
    where
      go : {d : Does} → Did g x (op_number o) d → need (after d).store.words ≤ g.N → ((e : Edit) → edit_in d ≡ some e → f ≢ e.file) → Same f (after d).store
      go (did_set a b k) room other = record { byte = λ i h. refl; size = refl }
      go (did_show m) room other = record { byte = λ i h. refl; size = refl }
      go (did_edit {e} l m) room other =
          let c = edit_change g pos x.store r.sound l room in
          record { byte = λ i h. c.byte f i hf (other e refl) h; size = c.size f (other e refl) }

  -- a reserved slot stays reserved, unless it is given back
  pub effect-r : (o : Op) → first (errors g x o) ≡ 0 → (f k : ℕ) → k < g.S → word_of g x.store.words f k % 2 ≡ 1
      → ((e : Edit) → edit_of g x o ≡ some e → Back g x.store e f k → ⊥) → word_of g (effect g x o).store.words f k % 2 ≡ 1
  unfolding effect edit_of
  effect-r o h f k hk q d = go ((op-facts o).did h) d
    where
      go : {w : Does} → Did g x (op_number o) w → ((e : Edit) → edit_in w ≡ some e → Back g x.store e f k → ⊥) → word_of g (after w).store.words f k % 2 ≡ 1
      go (did_set a b k) d = q
      go (did_show m) d = q
      go (did_edit {e} l m) d = edit-r g pos x.store r.sound l f k hk q (d e refl)

  -- each file's content is its array, edited where there is an edit
  abbrev pub array_in : Option Edit → ℕ → List ℕ
  array_in u f = elim u [ none ↦ content g x.store f | some e ↦ array_edit g x.store e f ]

  pub effect-content : (o : Op) → first (errors g x o) ≡ 0 → need (counted_after g x o) ≤ g.N → (f : ℕ) → f < g.F
      → content g (effect g x o).store f ≡ array_in (edit_of g x o) f
  unfolding effect edit_of
  effect-content o h room f hf = go ((op-facts o).did h) room
    where
      go : {d : Does} → Did g x (op_number o) d → need (after d).store.words ≤ g.N → content g (after d).store f ≡ array_in (edit_in d) f
      go (did_set a b k) room = refl
      go (did_show m) room = refl
      go (did_edit l m) room = edit-content g pos x.store r.sound l room f hf

  pub effect-current : (o : Op) → first (errors g x o) ≡ 0 → sets_file (op_number o) ≡ false → (effect g x o).current ≡ x.current
  unfolding effect
  effect-current o h n = go ((op-facts o).did h)
    where
      go : {d : Does} → Did g x (op_number o) d → (after d).current ≡ x.current
      go (did_set a b k) = k n
      go (did_show m) = refl
      go (did_edit l m) = refl

  pub body-most : (v : List ℕ) → length v ≡ 8 → (o : Op) → first (errors g x o) ≡ 0 → length (body g v x o) ≤ 2171
  unfolding body
  body-most v hv o h = go ((op-facts o).did h)
    where
      go : {d : Does} → Did g x (op_number o) d → length {A = ℕ} (elim d [ sets a b ↦ [] | shows b ↦ b | edits e b ↦ b v ]) ≤ 2171
      go (did_set a b k) = omega arith
      go (did_show m) = m
      go (did_edit l m) = m v hv

-- ---- ALLOCATE, WRITE and READ without error

module _ (g : Geometry) (wide : 512 ≤ g.B) (x : State) (r : Ready g x) where
  bytes : 0 < g.B
  bytes = omega arith

  -- every slot with a byte in the region is reserved after an ALLOCATE
  pub allocate-done : (i : List ℕ) (o n : ℕ) → first (errors g x (ALLOCATE i o n)) ≡ 0 → (k : ℕ) → k * g.B < o + n → o < k * g.B + g.B
      → word_of g (effect g x (ALLOCATE i o n)).store.words (file_of x.current) k % 2 ≡ 1
  unfolding effect does
  allocate-done i o n h k u l =
      let c = allocate-clear g x i o n h in
      let q = slot_in g bytes o (o + n) (omega (arith, c.some_byte)) c.fits k l u in
      allocate-reserved g bytes x.store r.sound (file_of x.current) o (o + n) (file-ok g.F x.current c.file r.current) (omega (arith, c.some_byte)) c.fits k q.0 q.1

  -- a WRITE of at least one byte inside the file's room has no error
  pub write-passes : (o s : ℕ) (d : List ℕ) → no_file x.current ≡ false → o + length d ≤ g.S * g.B → g.S * g.B < 2 ^ 64
      → first (errors g x (WRITE zero_id o s d)) ≡ 0
  unfolding errors
  write-passes o s d e fits small = rw (e, lt-leb (2 ^ 64) (o + length d) (omega arith), le-ltb (g.S * g.B) (o + length d) fits, and_false)

  -- and has room if its slots are reserved
  pub write_has_room : (i : List ℕ) (o s : ℕ) (d : List ℕ) → file_of x.current < g.F → 0 < length d → o + length d ≤ g.S * g.B
      → ((k : ℕ) → k * g.B < o + length d → o < k * g.B + g.B → word_of g x.store.words (file_of x.current) k % 2 ≡ 1)
      → need (counted_after g x (WRITE i o s d)) ≤ g.N
  unfolding effect does
  write_has_room i o s d hf l fits reserved =
      write-room g bytes x.store r.sound (file_of x.current) o (o + length d) hf (omega arith) fits (λ p. get_or d (p - o) 0)
      (λ q a b. let z = slot_bytes_lem g bytes o (o + length d) (omega arith) fits q a b in reserved q z.1 z.0)

  -- the bytes after a WRITE
  pub write_done : (i : List ℕ) (o s : ℕ) (d : List ℕ) → first (errors g x (WRITE i o s d)) ≡ 0 → need (counted_after g x (WRITE i o s d)) ≤ g.N
      → (p : ℕ) → o ≤ p → p < o + length d
      → (byte_at g (effect g x (WRITE i o s d)).store (file_of x.current) p ≡ get_or d (p - o) 0) × (p < size_of (effect g x (WRITE i o s d)).store (file_of x.current))
  unfolding effect does
  write_done i o s d h room p l u =
      let c = write-clear g x i o s d h in
      let hf = file-ok g.F x.current c.file r.current in
      let fits : o + length d ≤ g.S * g.B = c.fits (omega arith) in
      let f : ℕ = file_of x.current in
      let e : Edit = writing f o (o + length d) (λ p. get_or d (p - o) 0) in
      let s = write_stores g x.store f o (o + length d) (λ p. get_or d (p - o) 0) in (
        stored_bytes g bytes x.store r.sound e s hf (omega arith) fits room p (omega arith) ∙ rw (inside o (o + length d) p l u),
        omega (arith, (stored-edited g bytes x.store r.sound e s hf (omega arith) fits room).size),
      )

  pub read-passes : (o n : ℕ) → no_file x.current ≡ false → first (errors g x (READ zero_id o n)) ≡ 0
  unfolding errors
  read-passes o n e = rw e

  pub read-room : (i : List ℕ) (o n : ℕ) → need (counted_after g x (READ i o n)) ≤ g.N
  unfolding effect does
  read-room i o n = r.sound.room

  -- n bytes from p on, all of them among bytes d that start at o
  pub read-body : (v i : List ℕ) (f o p n : ℕ) (d : List ℕ) → x.current ≡ some f → o ≤ p → p + n ≤ o + length d → n ≤ 2048
      → ((q : ℕ) → o ≤ q → q < o + length d → (byte_at g x.store f q ≡ get_or d (q - o) 0) × (q < size_of x.store f))
      → body g v x (READ i p n) ≡ read_result.write (is_at_end x.store f p n, take n (drop (p - o) d))
  unfolding body does read_reply
  read-body v i f o p n d c lo hi small has = rw (c, all) (ap (λ y. bool (is_at_end x.store f p n) ++ opaque y) same)
    where
      enough : (m : ℕ) → p + m ≤ o + length d → m ≤ size_of x.store f - p
      enough zero h = omega arith
      enough (suc m) h = omega (arith, (has (p + m) (omega arith) (omega arith)).1)

      all : read_count x.store f p n ≡ n
      all = omega (arith, enough n hi)

      same : tabulate (byte_at g x.store f) p n ≡ take n (drop (p - o) d)
      same = ext_get_or 0 _ _
          (length_tab (byte_at g x.store f) n p ∙ sym (length-take n (drop (p - o) d) ∙ rw (length-drop (p - o) d) (omega arith)))
          (λ j h. at_j j (rw (length_tab (byte_at g x.store f) n p) at h))
        where
          at_j : (j : ℕ) → j < n → get_or (tabulate (byte_at g x.store f) p n) j 0 ≡ get_or (take n (drop (p - o) d)) j 0
          at_j j h =
              get_or_tab (byte_at g x.store f) n p j h
              ∙ (has (p + j) (omega arith) (omega arith)).0
              ∙ ap (λ y. get_or d y 0) (place j)
              ∙ sym (get_or-take n (drop (p - o) d) j 0 h ∙ get_or-drop (p - o) d j 0)
            where
              place : (j : ℕ) → p + j - o ≡ p - o + j
              place j = omega arith

-- ---- the answer of an operation, by cases

pub data Performed (c : Config) (x : State) (o : Op) (next : ℕ) : Event → Type 0 where
  refused : (e : ℕ) → first (errors c.geometry x o) ≡ suc e → Performed c x o next (failed (op o next) x (suc e))
  nospc : first (errors c.geometry x o) ≡ 0 → c.geometry.N < need (counted_after c.geometry x o) → Performed c x o next (failed (op o next) x NOSPC)
  done : first (errors c.geometry x o) ≡ 0 → need (counted_after c.geometry x o) ≤ c.geometry.N
      → Performed c x o next (record { item = op o next; before = x; status = 0; after = effect c.geometry x o; body = body c.geometry c.verifier x o })

pub performed : (c : Config) (x : State) (o : Op) (next : ℕ) → Performed c x o next (perform c x o next)
unfolding perform
performed c x o next = go (first (errors g x o)) refl
  where
    g : Geometry
    g = c.geometry

    room : first (errors g x o) ≡ 0 → (t : Bool) → fits_pool g.N (counted_after g x o) ≡ t
        → Performed c x o next (cond t (record { item = op o next; before = x; status = 0; after = effect g x o; body = body g c.verifier x o }) (failed (op o next) x NOSPC))
    room h true e = done h (leb-true (need (counted_after g x o)) g.N e)
    room h false e = nospc h (leb-false (need (counted_after g x o)) g.N e)

    go : (n : ℕ) → first (errors g x o) ≡ n → Performed c x o next (perform c x o next)
    go zero h = rw (h, perform) (room h (fits_pool g.N (counted_after g x o)) refl)
    go (suc e) h = rw (h, perform) (refused e h)

-- without error and with room
pub perform-done : (c : Config) (x : State) (o : Op) (next : ℕ) → first (errors c.geometry x o) ≡ 0 → need (counted_after c.geometry x o) ≤ c.geometry.N
    → perform c x o next ≡ record { item = op o next; before = x; status = 0; after = effect c.geometry x o; body = body c.geometry c.verifier x o }
unfolding perform
perform-done c x o next h room = rw (h, perform) (rw (le-leb _ _ room))

-- its parts, whichever it is
module _ {c : Config} {x : State} {o : Op} {next : ℕ} where
  pub performed-item : {z : Event} → Performed c x o next z → z.item ≡ op o next
  performed-item (refused e h) = refl
  performed-item (nospc h l) = refl
  performed-item (done h l) = refl

  pub performed-before : {z : Event} → Performed c x o next z → z.before ≡ x
  performed-before (refused e h) = refl
  performed-before (nospc h l) = refl
  performed-before (done h l) = refl
