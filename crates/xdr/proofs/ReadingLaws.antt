-- What a field that was read, or its fault, says of the whole.
use Prim.Native.Nat.{ℕ}
use mathlib.Core.Path.{◌≡◌, sym, ap, ◌∙◌}
use mathlib.Core.List.{List}
use Rattle.std.specs.Prelude.{Option, Some, None}
use Rattle.xdr.specs.Decode.{Parsed, got, fault, stop}
use Rattle.xdr.specs.Layout.{Layout, ◌then◌}
use Rattle.xdr.specs.Reading.{parsed, itself}

-- ---- one field

-- t is what a reader answered, u what the rules say, and p where the reader stopped
pub at-fault : {A : Type 0} {t u : Parsed A} {p q : ℕ} → p ≡ stop t → t ≡ u → t ≡ fault q → u ≡ fault p
at-fault h e f = sym e ∙ f ∙ ap fault (sym (h ∙ ap stop f))

-- a field, found or missed by the reader
pub field_found : {X Y : Type 0} (view : X → Y) (at : ℕ) {r : Option X} {u : Parsed Y} {x : X} → parsed view r at ≡ u → r ≡ Some x → u ≡ got (view x) at
field_found view at e g = sym e ∙ ap (λ r. parsed view r at) g

pub field-missed : {X Y : Type 0} (view : X → Y) (at : ℕ) {r : Option X} {u : Parsed Y} {p : ℕ} → p ≡ stop (parsed view r at) → parsed view r at ≡ u → r ≡ None
    → u ≡ fault p
field-missed view at h e g = at-fault h e (ap (λ r. parsed view r at) g)

-- a number
pub word_found : (at : ℕ) {r : Option ℕ} {u : Parsed ℕ} {n : ℕ} → parsed itself r at ≡ u → r ≡ Some n → u ≡ got n at
word_found at e g = field_found itself at e g

pub word-missed : (at : ℕ) {r : Option ℕ} {u : Parsed ℕ} {p : ℕ} → p ≡ stop (parsed itself r at) → parsed itself r at ≡ u → r ≡ None → u ≡ fault p
word-missed at h e g = field-missed itself at h e g

-- ---- one field after another

pub first-fault : {A B : Type 0} (a : Layout A) (b : Layout B) {s : List ℕ} {at p : ℕ} → a.read s at ≡ fault p → (a then b).read s at ≡ fault p
first-fault a b e = rw e

pub next-fault : {A B : Type 0} (a : Layout A) (b : Layout B) {s : List ℕ} {at : ℕ} {x : A} {m p : ℕ} → a.read s at ≡ got x m → b.read s m ≡ fault p
    → (a then b).read s at ≡ fault p
next-fault a b e f = rw (e, f)

pub both-got : {A B : Type 0} (a : Layout A) (b : Layout B) {s : List ℕ} {at : ℕ} {x : A} {m : ℕ} {y : B} {n : ℕ} → a.read s at ≡ got x m → b.read s m ≡ got y n
    → (a then b).read s at ≡ got (x, y) n
both-got a b e f = rw (e, f)

-- a fault in the rest of a layout, from m on, is one of the whole, from `at` on
abbrev pub Fails : {A B : Type 0} → Layout A → List ℕ → ℕ → Layout B → ℕ → Type 0
Fails whole s at rest m = (p : ℕ) → rest.read s m ≡ fault p → whole.read s at ≡ fault p

-- it is so behind a first field that was read
pub next_fails : {A B : Type 0} (a : Layout A) (b : Layout B) {s : List ℕ} {at : ℕ} {x : A} {m : ℕ} → a.read s at ≡ got x m → Fails (a then b) s at b m
next_fails a b e p f = next-fault a b e f
