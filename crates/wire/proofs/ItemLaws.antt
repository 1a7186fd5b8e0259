-- An operation by its number and its arguments.
use Prim.Native.Nat.{ℕ}
use mathlib.Core.Path.{◌≡◌, refl, sym}
use mathlib.Core.Bool.{Bool, true, false, cond}
use mathlib.Core.Option.{Option, none, some}
use mathlib.Core.List.{List, [], ◌∷◌}
use lib.Dec.{eqb}
use borrow.Author.Tests.{eqb-true}
use Rattle.xdr.specs.Decode.{Parsed, got, fault, Reader}
use Rattle.rules.specs.Fault.{args_by}
use Rattle.rules.specs.Operation.{NOTSUPP, BADXDR, Op, Item, op, bad, args_item, unserved, number_item, readers, find}

-- what stands there, by what the arguments of number n make
abbrev pub by_read : ℕ → Parsed (Option Op) → Item
by_read n (fault p) = bad n BADXDR
by_read n (got none next) = unserved n
by_read n (got (some o) next) = op o next

-- a row's number is one of the RFCs' operations, and not SEQUENCE
abbrev Known : List (ℕ × Reader (Option Op)) → Type 0
Known [] = Unit {0}
Known (r ∷ rs) = (unserved r.0 ≡ bad r.0 NOTSUPP) × Known rs

same : (n : ℕ) (t : Parsed (Option Op)) → unserved n ≡ bad n NOTSUPP → args_item n t ≡ by_read n t
same n (fault p) k = refl
same n (got none next) k = sym k
same n (got (some o) next) k = refl

by_rows : (n : ℕ) (rs : List (ℕ × Reader (Option Op))) (s : List ℕ) (m : ℕ) → Known rs
    → elim (find n rs) [ none ↦ unserved n | some r ↦ args_item n (r s m) ] ≡ by_read n (args_by (find n rs) s m)
by_rows n [] s m k = refl
by_rows n (r ∷ rs) s m k = go (by_rows n rs s m k.1) (eqb n r.0) refl
  where
    go : elim (find n rs) [ none ↦ unserved n | some q ↦ args_item n (q s m) ] ≡ by_read n (args_by (find n rs) s m) → (t : Bool) → eqb n r.0 ≡ t
        → elim (cond t (some r.1) (find n rs)) [ none ↦ unserved n | some q ↦ args_item n (q s m) ] ≡ by_read n (args_by (cond t (some r.1) (find n rs)) s m)
    go h true e = let i : n ≡ r.0 = eqb-true n r.0 e in same n (r.1 s m) (rw i k.0)
    go h false e = h

pub item_by : (s : List ℕ) (n m : ℕ) → number_item s (got n m) ≡ by_read n (args_by (find n readers) s m)
item_by s n m = by_rows n readers s m (refl, (refl, (refl, (refl, (refl, (refl, (refl, (refl, (refl, (refl, (refl, (refl, (refl, tt)))))))))))))
