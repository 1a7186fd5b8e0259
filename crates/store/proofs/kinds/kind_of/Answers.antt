use Rattle.store.proofs.KindLaws.{kind-write, kind-clone, kind-allocate, kind-cut}
use Rattle.store.proofs.kinds.kind_of.Goals as goal

pub returns-in-Write : goal.returns-in-Write
returns-in-Write c = kind-write c.in-Write.is

pub returns-in-Clone : goal.returns-in-Clone
returns-in-Clone c =
    kind-clone c.requires.0 c.in-Clone.is

pub returns-in-Allocate : goal.returns-in-Allocate
returns-in-Allocate c = kind-allocate c.in-Allocate.is

pub returns-in-Deallocate : goal.returns-in-Deallocate
returns-in-Deallocate c = kind-cut c.in-Deallocate.is c.cut_kind.ensures
