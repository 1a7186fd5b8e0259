-- Operations as a client gives them: spans stand for bytes of the lent data.
use Rattle.std.specs.Prelude.{ℕ, ◌+◌, ◌%◌, ◌≡◌, Bool, true, cond, ◌&&◌, List, [], ◌∷◌, length, leb, eqb, Option, Some, None, Result, Ok, Err}
use Rattle.std.proofs.Math.Option as maybe
use Rattle.std.proofs.Math.Option.{none, some}
use Rattle.xdr.specs.declared.bytes.Span.{Span}
use Rattle.xdr.specs.Encode.{concat_map}
use Rattle.xdr.specs.Layout.{every}
use Rattle.rules.specs.Operation.{Op, wire, op_fits, op_bytes}
use Rattle.rules.specs.Client.{Wrote, not_written, wrote}
use Rattle.wire.specs.declared.operation.Operation.{Operation}
use Rattle.wire.specs.Decoded.{meaning}
use Rattle.client.specs.declared.request.Refusal.{Refusal}

-- ---- what they stand for

-- the span lies in the data
abbrev pub lent_in : List ℕ → Span → Bool
lent_in s d = leb (d.start + d.len) (length s)

-- its spans lie in the data, a bitmap has whole words, and what stands for a boolean is 0 or 1
abbrev pub well_given : List ℕ → Operation → Bool
well_given s (Operation.GetAttr d) = lent_in s d && eqb (d.len % 4) 0
well_given s Operation.GetFh = true
well_given s (Operation.PutFh h) = lent_in s h
well_given s (Operation.Read a) = lent_in s a.stateid
well_given s Operation.RestoreFh = true
well_given s Operation.SaveFh = true
well_given s (Operation.Write a) = lent_in s a.stateid && lent_in s a.data
well_given s (Operation.Allocate a) = lent_in s a.stateid
well_given s (Operation.Copy a) = lent_in s a.clone.source && lent_in s a.clone.target && leb a.consecutive 1 && leb a.synchronous 1
well_given s (Operation.Deallocate a) = lent_in s a.stateid
well_given s (Operation.ReadPlus a) = lent_in s a.stateid
well_given s (Operation.Seek a) = lent_in s a.stateid
well_given s (Operation.Clone a) = lent_in s a.source && lent_in s a.target

-- the rules' operations, where each of them stands for one
abbrev pub given : List ℕ → List Operation → maybe.Option (List Op)
given s [] = some []
given s (o ∷ os) = cond (well_given s o) (elim (given s os) [ none ↦ none | some ps ↦ some (meaning s o ∷ ps) ]) none

-- ---- what is written of them

abbrev pub writable : List ℕ → Operation → Bool
writable s o = well_given s o && op_fits (meaning s o)

abbrev pub args_bytes : List ℕ → Operation → List ℕ
args_bytes s o = (wire (meaning s o)).1.bytes

abbrev pub ops_bytes : List ℕ → List Operation → List ℕ
ops_bytes s os = concat_map (λ o. op_bytes (meaning s o)) os

-- how long it is as written, where it can be written
unfoldable pub op_size : List ℕ → Operation → Option ℕ
op_size s o = cond (writable s o) (Some (length (op_bytes (meaning s o)))) None

-- and all of them
abbrev pub ops_size : List ℕ → List Operation → Option ℕ
ops_size s os = cond (every (writable s) os) (Some (length (ops_bytes s os))) None

-- a stateid in the data
abbrev pub stateid_ok : List ℕ → Span → Bool
stateid_ok s d = eqb d.len 16 && lent_in s d

-- ---- a request that is written

abbrev pub refusal_number : Refusal → ℕ
refusal_number Refusal.ShortBuffer = 9
refusal_number Refusal.NotWritable = 11

abbrev pub of_written : Result ℕ Refusal → List ℕ → Wrote
of_written (Ok n) after = record { number = 0; written = n; buffer = after }
of_written (Err e) after = not_written (refusal_number e) after

-- the rules' account of a request written (document 01's numbers, with request K6): the number, the bytes written, and the buffer
abbrev pub WritePromise : (tag : List ℕ) → maybe.Option (List Op) → (before : List ℕ) → Result ℕ Refusal → (after : List ℕ) → Type 0
WritePromise tag ops before r after = of_written r after ≡ wrote tag ops before
