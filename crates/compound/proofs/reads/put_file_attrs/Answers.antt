use Rattle.std.proofs.Common.{rules, ◌≡◌, length, arith}
use Rattle.rules.specs.Attributes.{space_used, space_freed}
use Rattle.tables.specs.Lent.{geometry_of}
use Rattle.tables.specs.Space.{SpaceKnown}
use Rattle.compound.proofs.WholeLaws.{limits}
use Rattle.compound.proofs.ReadLaws.{used-small, freed_small}
use Rattle.compound.proofs.reads.put_file_attrs.Goals as goal

pub overflow_mul-attrs : goal.overflow_mul-attrs
overflow_mul-attrs c =
    let t = c.args.store.now in
    let k : SpaceKnown (geometry_of t.geometry) t.words.now t.holders.now c.args.file = search rules in
    let b : length t.holders.now ≡ t.geometry.blocks = search rules in
    omega (arith, used-small (limits t) k b c.space-space.ensures.space)

pub overflow_mul-attrs-2 : goal.overflow_mul-attrs-2
overflow_mul-attrs-2 c =
    let t = c.args.store.now in
    let k : SpaceKnown (geometry_of t.geometry) t.words.now t.holders.now c.args.file = search rules in
    let b : length t.holders.now ≡ t.geometry.blocks = search rules in
    omega (arith, freed_small (limits t) k b c.space-space.ensures.space)

pub returns-clause-wrote : goal.returns-clause-wrote
unfolding space_used space_freed
returns-clause-wrote c = rw (← c.space-space.ensures.space.used_is, ← c.space-space.ensures.space.freed_is) c.put_attrs.ensures
