-- A number's digits, as std writes them, and the line that a writer wrote.
use Rattle.std.proofs.Common.{◌≡◌, ℕ, zero, suc, ◌+◌, ◌/◌, ◌%◌, ◌^◌, ◌<◌, ◌≤◌, Bool, true, false, List, [], ◌∷◌, ◌++◌, refl, ap, ◌∙◌, append_assoc, arith, length, drop}
use lib.Dec.{ltb}
use borrow.Author.Tests.{lt-ltb, ltb-true, ltb-false}
use Rattle.std.specs.Fmt.{decimal as written}
use Rattle.std.proofs.lemmas.Fmt.{decimal_digit, decimal_step}
use native.Mathlib.Nat.{zero-add}
use Rattle.xdr.specs.Bytes.{splice}
use Rattle.xdr.specs.Writing.{Wrote}
use Rattle.xdr.specs.declared.writer.Writer.{Writer}
use Rattle.xdr.proofs.WritingLaws.{wrote_spliced}
use Rattle.frame.specs.Recording.{decimal_in, decimal}
use Rattle.frame.specs.Printing.{Printed}

digits_in : (f n : ℕ) → n ≤ f → n < 2 ^ 64 → written n ≡ decimal_in (suc f) n
unfolding decimal_in
digits_in zero n h b = rw (lt-ltb n 10 (omega arith)) (decimal_digit n (omega arith))
digits_in (suc f) n h b = go (ltb n 10) refl (digits_in f (n / 10))
  where
    go : (t : Bool) → ltb n 10 ≡ t → (n / 10 ≤ f → n / 10 < 2 ^ 64 → written (n / 10) ≡ decimal_in (suc f) (n / 10)) → written n ≡ decimal_in (suc (suc f)) n
    go true t ih = rw t (decimal_digit n (ltb-true n 10 t))
    go false t ih =
        let ten : 10 ≤ n = ltb-false n 10 t in
        rw (t, lt-ltb (n % 10) 10 (omega arith)) (decimal_step n ten b ∙ ap (λ (ds : List ℕ). ds ++ ((48 + n % 10) ∷ [])) (ih (omega arith) (omega arith)))

pub decimal_is : (n : ℕ) → n < 2 ^ 64 → written n ≡ decimal n
unfolding decimal
decimal_is n b = digits_in n n (omega arith) b

pub ruleset printing = (decimal_is, append_assoc)

-- what is written from the first byte on is printed
pub line_printed : {bs : List ℕ} {x y : Writer} {after : List ℕ} → x.at ≡ 0 → Wrote bs x y → after ≡ y.out.now → Printed bs x.out.now y.at after
unfolding splice
line_printed {bs} {x} s w e = record {
  length_is = omega (arith, w.place, s);
  out_is = e ∙ wrote_spliced w ∙ ap (λ (k : ℕ). splice x.out.now k bs) s ∙ ap (λ (k : ℕ). bs ++ drop k x.out.now) (zero-add (length bs));
}
