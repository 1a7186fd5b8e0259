-- What a view shows.
use Rattle.rules.specs.Store.{Store}
use Rattle.tables.specs.Lent.{tables}
use Rattle.tables.specs.declared.lent.View.{View}

abbrev pub view_store : View → Store
view_store v = tables v.sizes.now v.words.now v.memory.now
