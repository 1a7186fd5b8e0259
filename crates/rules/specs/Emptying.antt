-- What emptying a file gives back: the meaning of space_freed (request K4).
use Rattle.std.specs.Prelude.{ℕ, pred, ◌+◌, ◌/◌, ◌≤◌, ◌≡◌, Bool, ◌&&◌, not, List, ltb, eqb}
use Rattle.rules.specs.Lists.{count}
use Rattle.rules.specs.Store.{Geometry, size_of, is_hole, is_reserved, holders, need}
use Rattle.rules.specs.Attributes.{slots_of, others_of, space_freed}
use Rattle.rules.specs.Operation.{DEALLOCATE}
use Rattle.rules.specs.Run.{Event}
use Rattle.rules.specs.Claim.{Entry, OK, Is, EveryEvent}

-- a reserved slot with word w, one of others, shares its block with slots of `own` alone
abbrev pub shares_alone : List ℕ → List ℕ → ℕ → Bool
shares_alone own others w =
    let b = pred (w / 2) in
    is_reserved w && not (is_hole w) && eqb (holders b others) 1 && ltb 0 (holders b own)

-- other files' reserved slots that share a block with file f alone: they owe one now, and none once it is theirs alone
unfoldable pub owed_for_file : Geometry → List ℕ → ℕ → ℕ
owed_for_file g ws f = let others = others_of g ws f in count (shares_alone (slots_of g ws f) others) others

-- z empties file f: a DEALLOCATE of the whole of it, answered OK
pub record Empties (z : Event) (f : ℕ) : Type 0 where
  pub id : List ℕ
  pub n : ℕ
  pub deallocate : Is z (DEALLOCATE id 0 n) f
  pub whole : size_of z.before.store f ≤ n
  pub done : OK z

-- used + owed, before and after file f was emptied: smaller by at least space_freed / B, and by more only for slots of other files
pub record GivesBackRoom (g : Geometry) (before after : List ℕ) (f : ℕ) : Type 0 where
  pub at_least : need after + space_freed g before f / g.B ≤ need before
  pub exactly : need before ≡ need after + space_freed g before f / g.B + owed_for_file g before f

-- of every DEALLOCATE of a whole file that a list of calls reaches, as in the claim
abbrev pub EmptyingClaim : Entry → Type 0
EmptyingClaim E = EveryEvent E (λ g z. (f : ℕ) → Empties z f → GivesBackRoom g z.before.store.words z.after.store.words f)
