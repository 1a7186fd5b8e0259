use Rattle.std.proofs.Common.{rules, ◌≡◌, true, false, length, eqb, Err, refl, sym}
use Rattle.rules.specs.Store.{good_geometry, good_lengths}
use Rattle.tables.specs.Lent.{dimensions_of}
use Rattle.tables.specs.Loans.{lent_store}
use Rattle.tables.specs.declared.refusal.Refusal.{Refusal}
use Rattle.compound.specs.declared.served.Refused.{Refused}
use Rattle.compound.proofs.ServeLaws.{refused-made, refused-verifier, refusal-some}
use Rattle.compound.proofs.serving.serve.Goals as goal

pub returns-in_err-geometry-clause-contract : goal.returns-in_err-geometry-clause-contract
returns-in_err-geometry-clause-contract c =
    let r = c.in_err-geometry.field-0.0 in
    let q : c.from_residual.result ≡ Err (Refused.Tables r) = search rules in
    let st = lent_store c.args.lent.now in
    rw q (refused-made (dimensions_of c.args.dimensions) c.args.verifier.now c.args.request.now c.args.reply.now st (Refused.Tables r) refl (refusal-some r)
    (sym (rw c.seen.ensures at c.in_err-geometry.ensures.refusal)))

pub returns-in_err-number-clause-contract : goal.returns-in_err-number-clause-contract
returns-in_err-number-clause-contract c =
    let v = c.in_ok-geometry.field-0 in
    let good : good_geometry (dimensions_of c.args.dimensions) ≡ true = rw c.in_ok-geometry.ensures.geometry at v.geometry.good in
    let fits : good_lengths (dimensions_of c.args.dimensions) (lent_store c.args.lent.now) ≡ true =
    rw (c.in_ok-geometry.ensures.geometry, c.in_ok-geometry.ensures.store, c.seen.ensures) at v.lengths in
    let none : eqb (length c.args.verifier.now) 8 ≡ false = search rules in
    let q : c.from_residual-in_err-number.result ≡ Err (Refused.Tables Refusal.Length) = search rules in
    rw q (refused-verifier (dimensions_of c.args.dimensions) c.args.verifier.now c.args.request.now c.args.reply.now (lent_store c.args.lent.now) good fits none)
