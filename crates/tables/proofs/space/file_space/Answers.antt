use Prim.Native.Nat.{◌+◌, ◌-◌, ◌*◌}
use mathlib.Core.Path.{◌≡◌}
use native.Mathlib.Omega.{arith}
use Rattle.tables.proofs.SpaceLaws.{slots-known, space-is}
use Rattle.tables.proofs.space.file_space.Goals as goal

pub slots_space-requires : goal.slots_space-requires
slots_space-requires c =
    let e : c.args.file * c.args.geometry.slots + c.args.geometry.slots - c.args.file * c.args.geometry.slots ≡ c.args.geometry.slots = omega arith in
    rw e (slots-known c.requires)

pub returns : goal.returns
returns c =
    let e : c.args.file * c.args.geometry.slots + c.args.geometry.slots - c.args.file * c.args.geometry.slots ≡ c.args.geometry.slots = omega arith in
    space-is c.requires (rw e at c.slots_space.ensures)
