-- A sound store before and after an edit.
use Prim.Native.Nat.{ℕ, ◌*◌, ◌<◌}
use mathlib.Core.Path.{◌≡◌, refl}
use mathlib.Core.Bool.{Bool, true, false}
use mathlib.Core.List.{List}
use borrow.Author.Tests.{leb-true, eq-eqb}
use lib.ListN.{length}
use Rattle.rules.specs.Store.{Geometry, good_geometry, good_lengths, size_of, sound, fits_pool}
use Rattle.rules.specs.Edit.{edited}
use Rattle.rules.proofs.GeometryLaws.{good, block-pos}
use Rattle.rules.proofs.SoundStore.{Sound}
use Rattle.rules.proofs.SoundLaws.{sound-facts, sound_test}
use Rattle.rules.proofs.EditLaws.{Lawful, lawful-file, lawful-fits, edit_change}
use Rattle.tables.specs.Lent.{tables}
use Rattle.tables.specs.Tables.{TableTrue}
use Rattle.store.specs.declared.edit.Edit as CodeEdit
use Rattle.store.specs.EditPromises.{EditPromise}
use Rattle.store.specs.Edits.{edit_from, ActKnown, Applies}
use Rattle.store.specs.Readable.{Placed}
use Rattle.xdr.proofs.BoolLaws.{and_both}

module _ (g : Geometry) (sizes words mem : List ℕ) (geo : good_geometry g ≡ true) (files : length sizes ≡ g.F) (slots : length words ≡ g.F * g.S)
    (bytes : length mem ≡ g.N * g.B) (snd : sound g (tables sizes words mem) ≡ true) where
  lengths : good_lengths g (tables sizes words mem) ≡ true
  unfolding good_lengths
  lengths = and_both _ _ (and_both _ _ (eq-eqb _ _ files) (eq-eqb _ _ slots)) (eq-eqb _ _ bytes)

  whole_sound : Sound g (tables sizes words mem)
  whole_sound = sound-facts g (block-pos (good g geo)) (tables sizes words mem) lengths snd

  -- a file's places below its size
  pub whole_placed : {f : ℕ} → f < g.F → Placed g words f (size_of (tables sizes words mem) f)
  whole_placed {f} h = record { geometry = geo; slots = slots; file = h; fits = whole_sound.fits f h }

  module _ {cs : List ℕ} (blocks : length cs ≡ g.N) (counted : TableTrue words cs) (e : CodeEdit.Edit) (l : Lawful g (tables sizes words mem) (edit_from e)) where
    -- what `apply` asks
    pub whole_applies : ActKnown g (tables sizes words mem) e.file e.off e.end e.act → Applies g (tables sizes words mem) cs e
    whole_applies a = record {
      known = record {
        shaped = record { geometry = geo; lengths = lengths };
        sound = snd;
        counted = counted;
        blocks = blocks;
        file = lawful-file l;
      };
      fits = lawful-fits whole_sound l;
      act = a;
    }

    -- what it leaves is sound
    pub whole_after : {done : Bool} {sizes' words' mem' cs' : List ℕ}
        → EditPromise g (tables sizes words mem) (edited g (tables sizes words mem) (edit_from e)) done (tables sizes' words' mem') cs'
        → Sound g (tables sizes' words' mem')
    whole_after {sizes' = s} {words' = w} {mem' = m} p = go (fits_pool g.N (edited g (tables sizes words mem) (edit_from e)).words) refl
      where
        go : (t : Bool) → fits_pool g.N (edited g (tables sizes words mem) (edit_from e)).words ≡ t → Sound g (tables s w m)
        go true q =
            rw (rw q at p.sizes_are, rw q at p.words_are, rw q at p.mem_is)
            (edit_change g (block-pos (good g geo)) (tables sizes words mem) whole_sound l (leb-true _ _ q)).sound
        go false q = rw (rw q at p.sizes_are, rw q at p.words_are, rw q at p.mem_is) whole_sound

    pub whole_stays : {done : Bool} {sizes' words' mem' cs' : List ℕ}
        → EditPromise g (tables sizes words mem) (edited g (tables sizes words mem) (edit_from e)) done (tables sizes' words' mem') cs'
        → sound g (tables sizes' words' mem') ≡ true
    whole_stays {sizes' = s} {words' = w} {mem' = m} p = sound_test g (block-pos (good g geo)) (tables s w m) (whole_after p)
