use Rattle.std.proofs.Common.{◌∙◌}
use Rattle.xdr.proofs.WritingLaws.{wrote_then}
use Rattle.rules.specs.Attributes.{attr_value}
use Rattle.wire.specs.Attrs.{asks, attrs_of}
use Rattle.wire.proofs.AttrLaws.{values_all, spelled_u32, spelled_u64}
use Rattle.wire.proofs.attrs.put_values.Goals as goal

pub returns : goal.returns
returns c =
    rw (values_all (asks c.args.a) (attr_value (attrs_of c.args.v)))
    (rw (c.to_be_bytes.ensures ∙ spelled_u64 _, c.to_be_bytes-2.ensures ∙ spelled_u64 _, c.to_be_bytes-3.ensures ∙ spelled_u32 _, c.to_be_bytes-4.ensures ∙ spelled_u64 _) at
    (wrote_then c.put_supported_if.ensures.value
    (wrote_then c.put_if.ensures.value (wrote_then c.put_if-2.ensures.value (wrote_then c.put_if-3.ensures.value c.put_if-4.ensures.value)))))
