-- The bodies of results: what a view shows, and what an edit that was done answers.
use Rattle.std.specs.Prelude.{ℕ, ◌-◌, List, []}
use Rattle.xdr.specs.Encode.{u32, opaque}
use Rattle.rules.specs.Store.{Geometry, Store}
use Rattle.rules.specs.Attributes.{file_attrs}
use Rattle.rules.specs.Operation.{attrs_reply, read_reply, read_plus_reply, seek_reply, write_reply, copy_reply}
use Rattle.store.specs.declared.edit.Act.{Act}
use Rattle.store.specs.declared.edit.Edit.{Edit}
use Rattle.wire.specs.Attrs.{asks}
use Rattle.compound.specs.declared.reads.View.{View}

-- the bytes that a view shows of file f
abbrev pub view_bytes : Geometry → Store → ℕ → View → List ℕ
view_bytes g st f (View.Attrs a) = attrs_reply (file_attrs g st f) (asks a)
view_bytes g st f View.Handle = opaque (u32 f)
view_bytes g st f (View.Read a) = read_reply g st f a.offset a.count
view_bytes g st f (View.ReadPlus a) = read_plus_reply g st f a.offset a.count
view_bytes g st f (View.Seek a) = seek_reply g st f a.offset a.count

-- the body of the result of an act on n bytes, from the verifier
abbrev pub act_bytes : Act → ℕ → List ℕ → List ℕ
act_bytes (Act.Write d) n v = write_reply n v
act_bytes (Act.Copy s) n v = copy_reply n v
act_bytes (Act.Clone s) n v = []
act_bytes Act.Allocate n v = []
act_bytes Act.Deallocate n v = []

abbrev pub edit_bytes : Edit → List ℕ → List ℕ
edit_bytes e v = act_bytes e.act (e.end - e.off) v
