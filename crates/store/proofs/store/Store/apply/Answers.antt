use mathlib.Core.Path.{◌∙◌}
use Rattle.store.proofs.WholeLaws.{whole_applies, whole_after, whole_stays}
use Rattle.store.proofs.store.Store.apply.Goals as goal

pub apply-requires : goal.apply-requires
apply-requires c =
    let s = c.args.self.now in
    whole_applies _ s.sizes.now s.words.now s.memory.now s.geometry.good s.files s.slots s.bytes s.is_sound s.blocks s.counted c.args.edit.now c.requires.lawful c.requires.act

pub invariant_of-self : goal.invariant_of-self
invariant_of-self c =
    let s = c.args.self.now in
    let a = whole_after _ s.sizes.now s.words.now s.memory.now s.geometry.good s.files s.slots s.bytes s.is_sound s.blocks s.counted c.args.edit.now c.requires.lawful c.apply.ensures in
    record {
      files = a.files;
      slots = a.slots;
      bytes = a.bytes;
      is_sound = whole_stays _ s.sizes.now s.words.now s.memory.now s.geometry.good s.files s.slots s.bytes s.is_sound s.blocks s.counted c.args.edit.now c.requires.lawful c.apply.ensures;
      blocks = c.apply.auto.counts ∙ s.blocks;
      counted = c.apply.ensures.counted;
    }
