-- The number of a status, as the rules name it.
use Rattle.std.specs.Prelude.{ℕ}
use Rattle.rules.specs.Operation.{NXIO, INVAL, FBIG, NOSPC, STALE, BADHANDLE, NOTSUPP, NOFILEHANDLE, MINOR_VERS_MISMATCH, BAD_STATEID, BADXDR, OP_ILLEGAL, SEQUENCE_POS, TOO_MANY_OPS, UNION_NOTSUPP}
use Rattle.wire.specs.declared.status.Status.{Status}

abbrev pub number_of : Status → ℕ
number_of Status.Ok = 0
number_of Status.NxIo = NXIO
number_of Status.Inval = INVAL
number_of Status.FBig = FBIG
number_of Status.NoSpace = NOSPC
number_of Status.Stale = STALE
number_of Status.BadHandle = BADHANDLE
number_of Status.NotSupported = NOTSUPP
number_of Status.NoFileHandle = NOFILEHANDLE
number_of Status.MinorVersionMismatch = MINOR_VERS_MISMATCH
number_of Status.BadStateid = BAD_STATEID
number_of Status.BadXdr = BADXDR
number_of Status.OpIllegal = OP_ILLEGAL
number_of Status.SequencePosition = SEQUENCE_POS
number_of Status.TooManyOps = TOO_MANY_OPS
number_of Status.UnionNotSupported = UNION_NOTSUPP
