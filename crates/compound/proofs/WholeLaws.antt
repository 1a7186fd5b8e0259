-- What a lent store is known to be.
use mathlib.Core.Path.{◌≡◌}
use mathlib.Core.Bool.{true}
use borrow.Author.Tests.{eq-eqb}
use Rattle.xdr.proofs.BoolLaws.{and_both}
use Rattle.rules.specs.Store.{good_geometry, good_lengths}
use Rattle.rules.proofs.GeometryLaws.{Good, block-pos}
use Rattle.rules.proofs.SoundStore.{Sound}
use Rattle.rules.proofs.SoundLaws.{sound-facts}
use Rattle.tables.specs.Lent.{geometry_of}
use Rattle.store.specs.declared.store.Store.{Store}
use Rattle.store.specs.Whole.{whole}

module _ (t : Store) where
  pub good : good_geometry (geometry_of t.geometry) ≡ true
  good = t.geometry.good

  pub limits : Good (geometry_of t.geometry)
  limits = t.geometry.limits

  pub lengths : good_lengths (geometry_of t.geometry) (whole t) ≡ true
  unfolding good_lengths
  lengths = and_both _ _ (and_both _ _ (eq-eqb _ _ t.files) (eq-eqb _ _ t.slots)) (eq-eqb _ _ t.bytes)

  pub facts : Sound (geometry_of t.geometry) (whole t)
  facts = sound-facts (geometry_of t.geometry) (block-pos limits) (whole t) lengths t.is_sound
