use Rattle.tables.proofs.WordLaws.{stored}
use Rattle.tables.proofs.words.set_word.Goals as goal

pub returns : goal.returns
returns c =
    rw (c.note.ensures, c.forget.ensures) (stored _ _ c.requires.0 c.args.i c.requires.1.0 c.args.word c.requires.1.1)
