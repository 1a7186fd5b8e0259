-- What the tests of an operation find.
use Prim.Native.Nat.{ℕ, ◌+◌, ◌-◌}
use mathlib.Core.Path.{◌≡◌, refl, sym, ap}
use mathlib.Core.List.{List}
use borrow.Author.Tests.{eq-eqb}
use lib.ListN.{length}
use lib.Dec.{eqb}
use Rattle.std.proofs.Common.{Some, None, IfSome, is_some}
use Rattle.std.specs.declared.option.Option as Std
use Rattle.xdr.specs.Decode.{number, value}
use Rattle.xdr.specs.Reading.{parsed, itself}
use Rattle.xdr.proofs.ReadingLaws.{word_found, word-missed}
use Rattle.xdr.proofs.NumberLaws.{no-fault, spelled}
use native.Mathlib.Omega.{arith}
use Rattle.rules.specs.Store.{Geometry, Store}
use Rattle.rules.specs.Attributes.{file_attrs}
use Rattle.rules.specs.Edit.{copying}
use Rattle.rules.specs.Run.{edits}
use Rattle.rules.specs.Operation.{attrs_reply, getattr_reply, copy_reply}
use Rattle.wire.specs.declared.attrs.Asked.{Asked}
use Rattle.wire.specs.Attrs.{asks, AsksAs}

-- COPY: the body of its result by the count that is meant
over : (o n : ℕ) → o + n - o ≡ n
over o n = omega arith

pub copy_does : {f f' to n n' end e e' from : ℕ} → f ≡ f' → e ≡ e' → n ≡ n' → end ≡ to + n
    → edits (copying f to end e from) (λ v. copy_reply (end - to) v) ≡ edits (copying f' to (to + n') e' from) (λ v. copy_reply n' v)
copy_does {f' = f'} {to} {n' = n'} {e' = e'} {from} a b c d =
    rw (d, a, b, c) (ap (λ (m : ℕ). edits (copying f' to (to + n') e' from) (λ v. copy_reply m v)) (over to n'))

-- GETATTR: the attributes that the bitmap asks for
pub attrs_same : (g : Geometry) (st : Store) (f : ℕ) (ws : List ℕ) (a : Asked) → AsksAs ws a → attrs_reply (file_attrs g st f) (asks a) ≡ getattr_reply g st f ws
unfolding getattr_reply
attrs_same g st f ws a h = ap (attrs_reply (file_attrs g st f)) (λ i x. h x i)

-- a number read from bytes that are as many as it has
pub whole-number : (k : ℕ) (r : Std.Option ℕ) (at : ℕ) (v : List ℕ) → length v ≡ k → parsed itself r at ≡ number k v 0
    → (is_some r ≡ eqb (length v) k) × IfSome r (λ n. n ≡ value v)
whole-number k None at v long e = absurd (no-fault k v long 0 refl (word-missed at refl e refl))
whole-number k (Some n) at v long e = (sym (eq-eqb (length v) k long), spelled k v long 0 refl (word_found at e refl))
