use Rattle.std.proofs.Common.{◌≡◌, rules, refl, true, length, arith}
use Rattle.xdr.specs.Layout.{every}
use Rattle.xdr.proofs.WritingLaws.{wrote_then}
use Rattle.client.specs.Given.{writable, ops_bytes}
use Rattle.client.proofs.RequestLaws.{request_written}
use Rattle.client.proofs.request.write_request.Goals as goal

pub returns : goal.returns
returns c =
    let s = c.args.lent.now in
    let ops = c.args.ops.now in
    let all : every (writable s) ops ≡ true = search rules in
    let size : length (ops_bytes s ops) ≡ c.in_ok-size.field-0 = search rules in
    request_written s c.args.tag.now ops c.args.out.now all c.if-ops.false c.if-n.false (omega arith) (omega arith) refl refl
    (wrote_then c.put_header.ensures c.put_operations.ensures) (search rules)
