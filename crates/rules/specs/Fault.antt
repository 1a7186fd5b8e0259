-- Where the bytes of a request went wrong (request K5). Places count from 0 at the request's first byte.
use Rattle.std.specs.Prelude.{ℕ, ◌-◌, ◌^◌, List}
use Rattle.std.proofs.Math.Option.{Option, none, some}
use Rattle.xdr.specs.Decode.{Parsed, got, fault, Reader, ret, ◌>>=◌, number}
use Rattle.rules.specs.Operation.{Op, readers, find}

-- the place that is told where there is no fault
abbrev pub NOWHERE : ℕ
NOWHERE = 2 ^ 32 - 1

abbrev pub fault_of : {A : Type 0} → Parsed A → ℕ
fault_of (got a next) = NOWHERE
fault_of (fault p) = p

-- an operation is read by its number and then, where we serve it, its arguments
abbrev pub args_by : Option (Reader (Option Op)) → Reader (Option Op)
args_by none = ret none
args_by (some r) = r

abbrev pub op_reader : Reader (Option Op)
op_reader = do
  n ← number 4
  args_by (find n readers)

-- the fault of the operation at place `at`: a number that is cut off is at its first missing byte
unfoldable pub fault_at : List ℕ → ℕ → ℕ
fault_at s at = fault_of (op_reader s at)
