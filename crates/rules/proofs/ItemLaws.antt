-- What stands in the request: the numbers and statuses of what ends a compound there, and how many items a list has.
use Prim.Native.Nat.{ℕ, zero, suc, ◌≤◌, ◌<◌}
use mathlib.Core.Path.{◌≡◌, refl, sym, ◌∙◌}
use mathlib.Core.Bool.{Bool, true, false, cond, ◌&&◌}
use mathlib.Core.Option.{Option, none, some}
use mathlib.Core.List.{List, [], ◌∷◌}
use mathlib.Core.Logic.{◌≢◌}
use native.Mathlib.Decide.{dec_lt}
use native.Mathlib.Omega.{arith}
use borrow.Author.Tests.{leb-true, ne_eqb}
use lib.ListN.{length}
use lib.Dec.{leb, eqb}
use Rattle.xdr.specs.Decode.{Parsed, got, fault, Reader, number, and_then}
use Rattle.xdr.specs.Layout.{opaque_data, uint, ◌then◌}
use Rattle.xdr.proofs.Bounds.{Reads, opaque-bounded, then-reads}
use Rattle.rules.specs.Operation.{NOSPC, NOTSUPP, SEQUENCE_POS, OP_ILLEGAL, Op, Item, op, bad, args_item, SEQUENCE, ILLEGAL, is_operation, unserved, number_item, readers, find, item_at, items, Header, header_layout, header}
use Rattle.xdr.proofs.BoolLaws.{and_left, and_right}

-- ---- an item that ends the compound

pub record BadKnown (k e : ℕ) : Type 0 where
  pub number : k ≤ 10044
  pub status_some : 1 ≤ e
  pub status_most : e ≤ 10090
  pub not_nospc : e ≢ NOSPC

abbrev pub Known : Item → Type 0
Known (op o next) = Unit {0}
Known (bad k e) = BadKnown k e

known-args : (n : ℕ) → n ≤ 71 → (t : Parsed (Option Op)) → Known (args_item n t)
known-args n h (fault p) = record { number = omega arith; status_some = omega arith; status_most = omega arith; not_nospc = λ q. omega (arith, q) }
known-args n h (got none next) = record { number = omega arith; status_some = omega arith; status_most = omega arith; not_nospc = λ q. omega (arith, q) }
known-args n h (got (some o) next) = tt

known-unserved : (n : ℕ) → Known (unserved n)
known-unserved n = go (eqb n SEQUENCE) (is_operation n) refl
  where
    go : (a b : Bool) → is_operation n ≡ b → Known (cond a (bad SEQUENCE SEQUENCE_POS) (cond b (bad n NOTSUPP) (bad ILLEGAL OP_ILLEGAL)))
    go true b e = record { number = omega arith; status_some = omega arith; status_most = omega arith; not_nospc = λ q. omega (arith, q) }
    go false true e = record {
      number = omega (arith, leb-true n 71 (and_right (leb 3 n) (leb n 71) e));
      status_some = omega arith;
      status_most = omega arith;
      not_nospc = λ q. omega (arith, q);
    }
    go false false e = record { number = omega arith; status_some = omega arith; status_most = omega arith; not_nospc = λ q. omega (arith, q) }

-- no operation above 71 is served
abbrev numbers_to : ℕ → List (ℕ × Reader (Option Op)) → Bool
numbers_to m [] = true
numbers_to m (r ∷ rs) = leb r.0 m && numbers_to m rs

find_none : (m n : ℕ) (rs : List (ℕ × Reader (Option Op))) → numbers_to m rs ≡ true → m < n → find n rs ≡ none
find_none m n [] h l = refl
find_none m n (r ∷ rs) h l =
    let low : r.0 ≤ m = leb-true r.0 m (and_left (leb r.0 m) (numbers_to m rs) h) in
    rw (ne_eqb n r.0 (λ (q : n ≡ r.0). omega arith)) (find_none m n rs (and_right (leb r.0 m) (numbers_to m rs) h) l)

none≢some : {A : Type 0} {a : A} → ◌≡◌ {A = Option A} none (some a) → ⊥
none≢some e = let z : ◌≡◌ {A = ℕ} 0 1 = cc in omega arith

pub item-known : (s : List ℕ) (at : ℕ) → Known (item_at s at)
unfolding item_at
item-known s at = go (number 4 s at)
  where
    go : (t : Parsed ℕ) → Known (number_item s t)
    go (fault p) = record { number = omega arith; status_some = omega arith; status_most = omega arith; not_nospc = λ q. omega (arith, q) }
    go (got n next) = pick (dec_lt 71 n) (find n readers) refl
      where
        pick : Dec (71 < n) → (u : Option (Reader (Option Op))) → find n readers ≡ u → Known (elim u [ none ↦ unserved n | some r ↦ args_item n (r s next) ])
        pick d none e = known-unserved n
        pick (yes l) (some r) e = absurd (none≢some (sym (find_none 71 n readers refl l) ∙ e))
        pick (no d) (some r) e = known-args n (omega (arith, d)) (r s next)

-- ---- the items of a list

abbrev pub AllKnown : List Item → Type 0
AllKnown [] = Unit {0}
AllKnown (i ∷ is) = Known i × AllKnown is

pub all_known : (s : List ℕ) (n at : ℕ) → AllKnown (items s n at)
unfolding items
all_known s zero at = tt
all_known s (suc n) at = go (item_at s at) (item-known s at) (λ next. all_known s n next)
  where
    go : (i : Item) → Known i → ((next : ℕ) → AllKnown (items s n next)) → AllKnown (elim i [ op o next ↦ op o next ∷ items s n next | bad k e ↦ bad k e ∷ [] ])
    go (op o next) f ih = (tt, ih next)
    go (bad k e) f ih = (f, tt)

-- one for each of n operations, or fewer where the last ends the compound
pub items-few : (s : List ℕ) (n at : ℕ) → length (items s n at) ≤ n
unfolding items
items-few s zero at = omega arith
items-few s (suc n) at = go (item_at s at) (λ next. items-few s n next)
  where
    go : (i : Item) → ((next : ℕ) → length (items s n next) ≤ n) → length {A = Item} (elim i [ op o next ↦ op o next ∷ items s n next | bad k e ↦ bad k e ∷ [] ]) ≤ suc n
    go (op o next) ih = omega (arith, ih next)
    go (bad k e) ih = omega arith

-- ---- the header: a tag that was read has at most 1,024 bytes

pub header-reads : (s : List ℕ) (at : ℕ) → Reads (λ (h : Header). length h.tag ≤ 1024) (header s at)
unfolding header
header-reads s at =
    go (header_layout.read s at) (then-reads (opaque_data 1024) (uint then uint) (λ d. length d ≤ 1024) s at (opaque-bounded 1024 s at))
  where
    go : (t : Parsed (List ℕ × (ℕ × ℕ))) → Reads (λ (x : List ℕ × (ℕ × ℕ)). length x.0 ≤ 1024) t
        → Reads (λ (h : Header). length h.tag ≤ 1024) (and_then t (λ a n. got (record { tag = a.0; minor = a.1.0; ops = a.1.1 }) n))
    go (got a n) h = h
    go (fault p) h = tt
