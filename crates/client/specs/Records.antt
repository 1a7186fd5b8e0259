-- Operations as records of ten numbers.
use Rattle.std.specs.Prelude.{ℕ, zero, suc, ◌+◌, ◌/◌, ◌%◌, cond, ◌&&◌, List, [], ◌∷◌, length, get_or, eqb, Option, Some, None}
use Rattle.std.proofs.Math.Option as maybe
use Rattle.std.proofs.Math.Option.{none, some}
use Rattle.xdr.specs.Layout.{is_word}
use Rattle.rules.specs.Operation.{Op, find}
use Rattle.wire.specs.declared.operation.CloneArgs.{CloneArgs}
use Rattle.wire.specs.declared.operation.Operation.{Operation}
use Rattle.client.specs.declared.records.OpRecord.{OpRecord}
use Rattle.client.specs.Given.{given}

-- ---- operations

abbrev pub record_at : List ℕ → ℕ → OpRecord
record_at ns at = record {
  number = get_or ns at 0;
  first = record { start = get_or ns (at + 1) 0; len = get_or ns (at + 2) 0 };
  second = record { start = get_or ns (at + 3) 0; len = get_or ns (at + 4) 0 };
  a = get_or ns (at + 5) 0;
  b = get_or ns (at + 6) 0;
  c = get_or ns (at + 7) 0;
  d = get_or ns (at + 8) 0;
  e = get_or ns (at + 9) 0;
}

-- where it is a number of 32 bits
abbrev pub if_word : ℕ → Operation → Option Operation
if_word n o = cond (is_word n) (Some o) None

abbrev pub clone_in : OpRecord → CloneArgs
clone_in r = record { source = r.first; target = r.second; from = r.a; to = r.b; count = r.c }

-- the operations of a record, by number; what an operation has not is not looked at
abbrev pub record_rows : OpRecord → List (ℕ × Option Operation)
record_rows r =
    (9, Some (Operation.GetAttr r.first))
    ∷ (10, Some Operation.GetFh)
    ∷ (22, Some (Operation.PutFh r.first))
    ∷ (25, if_word r.b (Operation.Read (record { stateid = r.first; offset = r.a; count = r.b })))
    ∷ (31, Some Operation.RestoreFh)
    ∷ (32, Some Operation.SaveFh)
    ∷ (38, if_word r.b (Operation.Write (record { stateid = r.first; offset = r.a; stable = r.b; «data» = r.second })))
    ∷ (59, Some (Operation.Allocate (record { stateid = r.first; offset = r.a; length = r.b })))
    ∷ (60, cond (is_word r.d && is_word r.e) (Some (Operation.Copy (record { clone = clone_in r; consecutive = r.d; synchronous = r.e }))) None)
    ∷ (62, Some (Operation.Deallocate (record { stateid = r.first; offset = r.a; length = r.b })))
    ∷ (68, if_word r.b (Operation.ReadPlus (record { stateid = r.first; offset = r.a; count = r.b })))
    ∷ (69, if_word r.b (Operation.Seek (record { stateid = r.first; offset = r.a; count = r.b })))
    ∷ (71, Some (Operation.Clone (clone_in r))) ∷ []

-- none for a number that is not served
abbrev pub record_op : OpRecord → Option Operation
record_op r = elim (find r.number (record_rows r)) [ none ↦ None | some o ↦ o ]

-- n records from place `at` on
abbrev pub record_ops : List ℕ → ℕ → ℕ → Option (List Operation)
record_ops ns at zero = Some []
record_ops ns at (suc n) = elim (record_op (record_at ns at)) [ None ↦ None | Some o ↦ elim (record_ops ns (at + 10) n) [ None ↦ None | Some os ↦ Some (o ∷ os) ] ]

-- the rules' operations that the numbers ns stand for, with data s
abbrev pub given_records : List ℕ → List ℕ → maybe.Option (List Op)
given_records s ns = cond (eqb (length ns % 10) 0) (elim (record_ops ns 0 (length ns / 10)) [ None ↦ none | Some os ↦ given s os ]) none
