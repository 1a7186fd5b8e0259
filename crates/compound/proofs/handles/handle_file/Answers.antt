use Rattle.std.proofs.Common.{Some, refl, sym}
use Rattle.xdr.proofs.NumberLaws.{no-fault}
use Rattle.compound.proofs.CheckLaws.{whole-number}
use Rattle.compound.proofs.handles.handle_file.Goals as goal

pub returns-in_err-u32-clause-fits : goal.returns-in_err-u32-clause-fits
returns-in_err-u32-clause-fits c =
    let e = rw (c.new.ensures.bytes, c.new.ensures.place) at c.in_err-u32.ensures.value in
    absurd (no-fault 4 c.args.handle.now c.if-handle-ne4.false 0 refl (sym e))

pub returns : goal.returns
returns c =
    let e = rw (c.new.ensures.bytes, c.new.ensures.place) at c.in_ok-u32.ensures.value in
    let k = whole-number 4 (Some c.in_ok-u32.field-0) c.u32.new.self.at c.args.handle.now c.if-handle-ne4.false e in
    record { fits = k.0; file = k.1 }
