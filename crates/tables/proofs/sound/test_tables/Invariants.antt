use Rattle.tables.specs.Lent.{geometry_of}
use Rattle.tables.specs.Viewed.{view_store}
use Rattle.tables.proofs.SurveyLaws.{Testing}
use Rattle.tables.proofs.sound.test_tables.Given as goal

abbrev pub invariant-loop-file : goal.invariant-loop-file
invariant-loop-file l = Testing (geometry_of l.view.geometry) (view_store l.view) l.counts l.file l.held l.reserved
