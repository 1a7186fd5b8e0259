use Rattle.std.proofs.Common.{rules, ◌≡◌, ◌+◌}
use Rattle.rules.specs.Run.{file_of, source_count, errors, does}
use Rattle.compound.specs.Runner.{file_in}
use Rattle.compound.specs.Does.{store_in}
use Rattle.compound.proofs.CheckLaws.{copy_does}
use Rattle.compound.proofs.check.Context.copy.Goals as goal

pub returns : goal.returns
unfolding errors does
returns c =
    let file : c.in_ok-source.file ≡ file_of (file_in c.args.self.now.handles.current) = search rules in
    let source : c.in_ok-source.source ≡ file_of (file_in c.args.self.now.handles.saved) = search rules in
    let count : c.in_ok-n.n ≡ source_count (store_in c.args.self.now) (file_of (file_in c.args.self.now.handles.saved)) c.args.args.clone.from c.args.args.clone.count = search rules in
    let end : c.in_ok-end.end ≡ c.args.args.clone.to + c.in_ok-n.n = search rules in
    record { error = search rules; failed = search rules; does = copy_does file source count end; allowed = search rules }
