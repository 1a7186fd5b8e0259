-- What the exported calls promise where the numbers that they set are lent: what the rules say of the calls below, and those numbers in their order.
use Rattle.std.specs.Prelude.{ℕ, ◌≡◌, List, [], ◌∷◌, length}
use Rattle.rules.specs.Lists.{bit}
use Rattle.rules.specs.Store.{Geometry, Store}
use Rattle.rules.specs.Calls.{store_refusal, used_count, owed_count, slot_refusal, slot_view, slot_is_hole, slot_start, Call, answer}

-- used and owed blocks (document 01, "The store"): zero on a refusal
pub record SurveyedPromise (g : Geometry) (st : Store) (number : ℕ) (counts : List ℕ) : Type 0 where
  pub number_is : number ≡ store_refusal g st
  pub counts_are : counts ≡ used_count g st ∷ owed_count g st ∷ []

-- a slot's part (document 01, "The store"): 1 where it is of the page, which a refusal shows too, else 0; its start and its length
pub record ShownPromise (g : Geometry) (st : Store) (page : List ℕ) (f k number : ℕ) (shown : List ℕ) : Type 0 where
  pub number_is : number ≡ slot_refusal g st page f k
  pub shown_is : shown ≡ bit (slot_is_hole g st page f k) ∷ slot_start g st page f k ∷ length (slot_view g st page f k) ∷ []

-- the rules' answer to a call (document 01, "The compound", with request K5): the number, the bytes read and written and the place of a fault,
-- the reply buffer and every table
pub record ServePromise (c : Call) (st : Store) (number : ℕ) (told reply : List ℕ) (after : Store) : Type 0 where
  pub number_is : number ≡ (answer c st).number
  pub told_is : told ≡ (answer c st).read ∷ (answer c st).written ∷ (answer c st).place ∷ []
  pub reply_is : reply ≡ (answer c st).reply
  pub sizes_are : after.sizes ≡ (answer c st).store.sizes
  pub words_are : after.words ≡ (answer c st).store.words
  pub mem_is : after.mem ≡ (answer c st).store.mem
