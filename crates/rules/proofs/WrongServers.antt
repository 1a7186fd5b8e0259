-- Wrong servers (document 01, "Promises that mean something"): the contract of the call leaves none of them.
-- Each fact says what any outcome that meets the contract has at one call.
use mathlib.Core.Path.{◌≡◌, refl, ap, ◌∙◌}
use Prim.Native.Nat.{ℕ}
use mathlib.Core.List.{List, [], ◌∷◌, ◌++◌}
use lib.ListN.{take, replicate}
use Rattle.xdr.specs.Encode.{u32}
use Rattle.rules.specs.Store.{Store}
use Rattle.rules.specs.Operation.{READ, WRITE, DEALLOCATE, CLONE, SAVEFH, op_bytes, header_layout}
use Rattle.rules.specs.Run.{zero_id, config}
use Rattle.rules.specs.Calls.{SurveyPromise, Call, Outcome, answer, Contract}
use Rattle.rules.proofs.Script.{geometry, empty, call, on, allocate, write, replied, result, put, wrote, rules}

-- after P1: file 0 has reserved both blocks of the pool
abbrev reserved : Store
reserved = (answer (call 2 (allocate 1024)) (empty 2)).store

-- a call with these bytes as its request
abbrev asked : List ℕ → Call
asked s = record { config = config (geometry 2) (replicate 8 0); request = s; buffer = replicate 32768 0 }

-- one that refuses everything: this call is served
pub refuses_everything : (o : Outcome Store) → Contract (call 2 (allocate 1024)) (empty 2) o → o.number ≡ 0
unfolding rules
refuses_everything o h = h.number ∙ refl

-- one that says OK to everything: this WRITE to another file answers NOSPC
pub ok_to_everything : (o : Outcome Store) → Contract (call 2 (write 1 (7 ∷ []))) reserved o → take 28 o.reply ≡ replied 28 (put ∷ result 38 28 [] ∷ [])
unfolding rules
ok_to_everything o h = ap (take 28) h.reply ∙ refl

-- one that never edits: this WRITE gives the file a size, a block and a byte
pub never_edits : (o : Outcome Store) → Contract (call 2 (write 0 (7 ∷ []))) (empty 2) o
    → (o.store.sizes ≡ 1 ∷ 0 ∷ 0 ∷ 0 ∷ []) × (take 1 o.store.words ≡ 2 ∷ []) × (take 2 o.store.mem ≡ 7 ∷ 0 ∷ [])
unfolding rules
never_edits o h = (h.sizes ∙ refl, ap (take 1) h.words ∙ refl, ap (take 2) h.mem ∙ refl)

-- one that runs the first operation and echoes OK for the rest: this ALLOCATE of no bytes is INVAL
pub echoes_ok : (o : Outcome Store) → Contract (call 2 (allocate 0)) (empty 2) o → take 28 o.reply ≡ replied 22 (put ∷ result 59 22 [] ∷ [])
unfolding rules
echoes_ok o h = ap (take 28) h.reply ∙ refl

-- and is refused by its bytes: the READ behind this WRITE gives the byte written
pub ok_without_bytes : (o : Outcome Store) → Contract (call 2 (on 0 ∷ WRITE zero_id 0 2 (7 ∷ []) ∷ READ zero_id 0 1 ∷ [])) (empty 2) o
    → take 64 o.reply ≡ replied 0 (put ∷ wrote 1 ∷ result 25 0 (u32 1 ++ u32 1 ++ (7 ∷ 0 ∷ 0 ∷ 0 ∷ [])) ∷ [])
unfolding rules
ok_without_bytes o h = ap (take 64) h.reply ∙ refl

-- one with made-up counts: after P1 the count call answers 0, none used and two owed
pub made_up_counts : (number used_told owed_told : ℕ) → SurveyPromise (geometry 2) reserved number used_told owed_told → (number ≡ 0) × (used_told ≡ 0) × (owed_told ≡ 2)
unfolding rules
made_up_counts number used_told owed_told h = (h.number_is ∙ refl, h.used_is ∙ refl, h.owed_is ∙ refl)

-- one that counts bytes of an operation that can't be read: of this GETFH, whose number is cut off, none is counted
pub counts_unread : (o : Outcome Store) → Contract (asked (header_layout.write ([], (2, 1)) ++ (0 ∷ 0 ∷ []))) (empty 2) o → o.read ≡ 12
unfolding rules
counts_unread o h = h.read ∙ refl

-- one that refuses an edge copy although the edit's own middle frees a block: this DEALLOCATE in a full pool answers OK
pub edge_refused : (o : Outcome Store)
    → Contract (call 3 (on 0 ∷ DEALLOCATE zero_id 100 1000 ∷ []))
    (answer (call 3 (on 0 ∷ WRITE zero_id 0 2 (replicate 1200 5) ∷ SAVEFH ∷ on 1 ∷ CLONE zero_id zero_id 0 0 512 ∷ [])) (empty 3)).store o
    → take 28 o.reply ≡ replied 0 (put ∷ result 62 0 [] ∷ [])
unfolding rules
edge_refused o h = ap (take 28) h.reply ∙ refl

-- one that tells the place of the length where the pad is wrong: this handle's second pad byte is no zero, and the third is missing
pub pad-at-length : (o : Outcome Store) → Contract (asked (header_layout.write ([], (2, 1)) ++ u32 22 ++ u32 1 ++ (97 ∷ 0 ∷ 1 ∷ []))) (empty 2) o → o.place ≡ 22
unfolding rules
pad-at-length o h = h.place ∙ refl

-- one that tells a place where the status is not BADXDR: this PUTFH of no file is answered STALE, and what stands behind it is cut off
pub place_kept : (o : Outcome Store) → Contract (asked (header_layout.write ([], (2, 2)) ++ op_bytes (on 9) ++ (0 ∷ []))) (empty 2) o → o.place ≡ 4294967295
unfolding rules
place_kept o h = h.place ∙ refl

-- one that tells the first missing byte of a tag that is too long: its length is read first
pub long-tag : (o : Outcome Store) → Contract (asked (u32 1025)) (empty 2) o → (o.number ≡ 6) × (o.place ≡ 0)
unfolding rules
long-tag o h = (h.number ∙ refl, h.place ∙ refl)
