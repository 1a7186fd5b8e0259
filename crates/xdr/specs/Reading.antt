-- What a reader did: its answer, and the place where it stopped.
use Rattle.std.specs.Prelude.{ℕ, Option, Some, None, Result, Ok, Err}
use Rattle.xdr.specs.Decode.{Parsed, got, fault}

-- an answer seen by `view`, with the place where the reading stopped
abbrev pub parsed : {X Y : Type 0} → (X → Y) → Option X → ℕ → Parsed Y
parsed view (Some x) at = got (view x) at
parsed view None at = fault at

abbrev pub answered : {X Y E : Type 0} → (X → Y) → Result X E → ℕ → Parsed Y
answered view (Ok x) at = got (view x) at
answered view (Err e) at = fault at

abbrev pub itself : {X : Type 0} → X → X
itself x = x
