use Rattle.store.proofs.KindLaws.{changed-stays, changed-given, changed-cleared, changed-shares, changed-reserved}
use Rattle.store.proofs.planner.change_slot.Goals as goal
use Rattle.store.proofs.planner.change_slot.Goals.{in-Given, in-Cleared, in-Shares, in-Reserved}

pub returns-in-Stays : goal.returns-in-Stays
returns-in-Stays c =
    rw c.in-Stays.is (changed-stays c.requires.counted c.requires.low)

pub returns : goal.returns
returns c = elim c.match-kind.branch [
  | in-Given w ↦ rw w.in-Given.is (changed-given (rw w.w-is at c.set_word.ensures))
  | in-Cleared w ↦ rw w.in-Cleared.is (changed-cleared (rw w.w-is at c.set_word.ensures))
  | in-Shares w ↦ rw w.in-Shares.is (changed-shares (rw w.w-is at c.set_word.ensures))
  | in-Reserved w ↦ rw w.in-Reserved.is (changed-reserved (rw w.w-is at c.set_word.ensures))
]
