-- Records of numbers, one after the other.
use Prim.Native.Nat.{ℕ, zero, suc, ◌+◌, ◌-◌, ◌*◌, ◌/◌, ◌%◌, ◌<◌}
use mathlib.Core.Bool.{Bool, true, false, cond}
use mathlib.Core.Path.{◌≡◌, refl, sym, ap, ◌∙◌}
use mathlib.Core.Option.{Option as Given, none, some}
use mathlib.Core.List.{List, [], ◌∷◌, ◌++◌, append_assoc}
use native.Mathlib.Numerals.{add-one}
use native.Mathlib.Omega.{arith}
use borrow.Author.Tests.{lt-leb, eq-eqb, ne_eqb}
use lib.ListN.{length, set, take}
use lib.Seq.{take-suc-set}
use lib.Dec.{eqb}
use Rattle.std.specs.Prelude.{Option, Some, None}
use Rattle.rules.specs.Operation.{Op}
use Rattle.rules.specs.Client.{request_fits, not_written, wrote}
use Rattle.wire.specs.declared.operation.Operation.{Operation}
use Rattle.client.specs.Records.{record_at, record_op, record_ops, given_records}
use Rattle.client.specs.Given.{given}
use Rattle.client.proofs.RequestLaws.{none≢some, stands, refuses}

-- operations behind others
abbrev pub behind : List Operation → Option (List Operation) → Option (List Operation)
behind l None = None
behind l (Some os) = Some (l ++ os)

-- an operation in front of others
abbrev pub infront : Option Operation → Option (List Operation) → Option (List Operation)
infront u v = elim u [ None ↦ None | Some o ↦ elim v [ None ↦ None | Some os ↦ Some (o ∷ os) ] ]

module _ (ns : List ℕ) where
  -- the next record
  pub records_step : (at n : ℕ) → 0 < n → record_ops ns at n ≡ infront (record_op (record_at ns at)) (record_ops ns (at + 10) (n - 1))
  records_step at zero h = absurd (omega (arith, h))
  records_step at (suc n) h = let e : suc n - 1 ≡ n = omega arith in rw e

  -- one for each
  records_length : (at n : ℕ) (os : List Operation) → record_ops ns at n ≡ Some os → length os ≡ n
  records_length at zero os e = let q : [] ≡ os = cc in ap length (sym q)
  records_length at (suc n) os e = go (record_op (record_at ns at)) (record_ops ns (at + 10) n) (records_length (at + 10) n) e
    where
      go : (u : Option Operation) (v : Option (List Operation)) → ((ps : List Operation) → v ≡ Some ps → length ps ≡ n) → infront u v ≡ Some os → length os ≡ suc n
      go None v ih e = cc
      go (Some o) None ih e = cc
      go (Some o) (Some ps) ih e = let q : o ∷ ps ≡ os = cc in ap length (sym q) ∙ ap suc (ih ps refl)

  -- the loop: operations of the first i records, and the others
  abbrev pub left : List Operation → ℕ → ℕ → Option (List Operation)
  left ops i n = behind (take i ops) (record_ops ns (10 * i) (n - i))

  module _ (ops : List Operation) (i n : ℕ) (h : i < n) where
    one_left : left ops i n ≡ behind (take i ops) (infront (record_op (record_at ns (10 * i))) (record_ops ns (10 * (i + 1)) (n - (i + 1))))
    one_left =
        let at : 10 * i + 10 ≡ 10 * (i + 1) = omega arith in
        let rest : n - i - 1 ≡ n - (i + 1) = omega arith in
        rw (records_step (10 * i) (n - i) (omega (arith, h)), at, rest)

    pub left_none : record_op (record_at ns (10 * i)) ≡ None → left ops i n ≡ None
    left_none e = one_left ∙ rw e

    pub left_more : (o : Operation) → i < length ops → record_op (record_at ns (10 * i)) ≡ Some o → left ops i n ≡ left (set ops i o) (i + 1) n
    left_more o k e = one_left ∙ rw e (go (record_ops ns (10 * (i + 1)) (n - (i + 1))))
      where
        front : take i ops ++ (o ∷ []) ≡ take (i + 1) (set ops i o)
        front = sym (rw (add-one i) (take-suc-set ops i o k))

        go : (u : Option (List Operation)) → behind (take i ops) (infront (Some o) u) ≡ behind (take (i + 1) (set ops i o)) u
        go None = refl
        go (Some os) = ap Some (sym (append_assoc (take i ops) (o ∷ []) os)) ∙ ap (λ l. Some (l ++ os)) front

-- ---- what the numbers stand for

module _ (s tag ns buf : List ℕ) where
  abbrev all : Option (List Operation) → Given (List Op)
  all u = elim u [ None ↦ none | Some os ↦ given s os ]

  pub no_records : (length ns % 10 ≡ 0 → ⊥) → wrote tag (given_records s ns) buf ≡ not_written 11 buf
  no_records h = refuses s tag [] buf (given_records s ns) (λ os e. absurd (none≢some (rw (ne_eqb (length ns % 10) 0 h) at e)))

  pub many_records : 12 < length ns / 10 → wrote tag (given_records s ns) buf ≡ not_written 11 buf
  many_records h = refuses s tag [] buf (given_records s ns) (λ os e. go (eqb (length ns % 10) 0) (record_ops ns 0 (length ns / 10)) refl os e)
    where
      go : (t : Bool) (u : Option (List Operation)) → record_ops ns 0 (length ns / 10) ≡ u → (os : List Op) → cond t (all u) none ≡ some os → request_fits tag os ≡ false
      go false u q os e = absurd (none≢some e)
      go true None q os e = absurd (none≢some e)
      go true (Some xs) q os e =
          let n = (stands s xs os e).many in
          let k = records_length ns 0 (length ns / 10) xs q in
          rw (lt-leb (length os) 12 (omega arith))

  module _ (whole : length ns % 10 ≡ 0) where
    given_is : given_records s ns ≡ all (record_ops ns 0 (length ns / 10))
    given_is = rw (eq-eqb (length ns % 10) 0 whole)

    pub wrong_record : record_ops ns 0 (length ns / 10) ≡ None → wrote tag (given_records s ns) buf ≡ not_written 11 buf
    wrong_record e = refuses s tag [] buf (given_records s ns) (λ os f. absurd (none≢some (sym (given_is ∙ ap all e) ∙ f)))
