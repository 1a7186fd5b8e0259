-- What the code's account of attributes says.
use Rattle.std.specs.Prelude.{ℕ, ◌≡◌, Bool, List}
use Rattle.xdr.specs.Encode.{array, concat_map}
use Rattle.rules.specs.Attributes.{Attr, SUPPORTED_ATTRS, SIZE, SPACE_USED, CLONE_BLKSIZE, SPACE_FREED, attr_number, supported, select, asks_for, bitmap, FileAttrs, attr_value}
use Rattle.wire.specs.declared.attrs.Asked.{Asked}
use Rattle.wire.specs.declared.attrs.FileAttrs as Code

-- which attributes are asked for
abbrev pub asks : Asked → Attr → Bool
asks a SUPPORTED_ATTRS = a.supported_attrs
asks a SIZE = a.size
asks a SPACE_USED = a.space_used
asks a CLONE_BLKSIZE = a.clone_blksize
asks a SPACE_FREED = a.space_freed

-- they are those of a bitmap of words ws
abbrev pub AsksAs : List ℕ → Asked → Type 0
AsksAs ws a = (x : Attr) → asks a x ≡ asks_for ws (attr_number x)

abbrev pub attrs_of : Code.FileAttrs → FileAttrs
attrs_of v = record { size = v.size; space_used = v.space_used; clone_blksize = v.clone_blksize; space_freed = v.space_freed }

-- their bitmap and their values as bytes
abbrev pub bitmap_bytes : Asked → List ℕ
bitmap_bytes a = array (bitmap (select (asks a) supported))

abbrev pub value_bytes : Asked → Code.FileAttrs → List ℕ
value_bytes a v = concat_map (attr_value (attrs_of v)) (select (asks a) supported)
