use Rattle.std.proofs.Common.{rules, refl, get_or, ◌<◌, ◌≤◌}
use Rattle.xdr.specs.Bytes.{part_of}
use Rattle.rules.specs.Run.{does}
use Rattle.tables.specs.Lent.{geometry_of}
use Rattle.compound.specs.Does.{store_in}
use Rattle.compound.proofs.ErrorLaws.{seek_reads, seek_what, seek_past, seek_none}
use Rattle.compound.proofs.check.Context.seek.Goals as goal

pub returns-in_err-file : goal.returns-in_err-file
returns-in_err-file c =
    let s = c.args.self.now in
    let a = c.args.args in
    let error = seek_reads (geometry_of s.store.now.geometry) s.handles (store_in s) refl (part_of s.request.now a.stateid) a.offset a.count (c.in_err-file.ensures.err 0) c.in_err-file.ensures.failed in
    record { error = search rules; failed = search rules; does = search rules; allowed = search rules }

pub returns-in_err-ensure : goal.returns-in_err-ensure
returns-in_err-ensure c =
    let s = c.args.self.now in
    let a = c.args.args in
    let f = c.in_ok-file.ensures.ok in
    let unknown : 1 < a.count = search rules in
    let error = seek_what (geometry_of s.store.now.geometry) s.handles (store_in s) refl (part_of s.request.now a.stateid) a.offset a.count f.0 f.1 unknown in
    record { error = search rules; failed = search rules; does = search rules; allowed = search rules }

pub returns-in_err-ensure-2 : goal.returns-in_err-ensure-2
returns-in_err-ensure-2 c =
    let s = c.args.self.now in
    let a = c.args.args in
    let f = c.in_ok-file.ensures.ok in
    let known : a.count ≤ 1 = search rules in
    let past : get_or s.store.now.sizes.now c.in_ok-file.file 0 < a.offset = search rules in
    let error = seek_past (geometry_of s.store.now.geometry) s.handles (store_in s) refl (part_of s.request.now a.stateid) a.offset a.count f.0 f.1 known past in
    record { error = search rules; failed = search rules; does = search rules; allowed = search rules }

pub returns : goal.returns
unfolding does
returns c =
    let s = c.args.self.now in
    let a = c.args.args in
    let f = c.in_ok-file.ensures.ok in
    let known : a.count ≤ 1 = search rules in
    let within : a.offset ≤ get_or s.store.now.sizes.now c.in_ok-file.file 0 = search rules in
    let error = seek_none (geometry_of s.store.now.geometry) s.handles (store_in s) refl (part_of s.request.now a.stateid) a.offset a.count f.0 f.1 known within in
    record { error = search rules; failed = search rules; does = search rules; allowed = search rules }
