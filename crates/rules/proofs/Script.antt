-- Calls and replies of worked examples: F 4, S 16, B 512, no tag, a zero verifier.
use Prim.Native.Nat.{ℕ}
use mathlib.Core.List.{List, [], ◌∷◌, ◌++◌, map}
use lib.ListN.{length, take, replicate}
use Rattle.xdr.specs.Encode.{u32, concat_map, be, u64, bool, opaque, array}
use Rattle.xdr.specs.Bytes.{part_of, splice}
use Rattle.xdr.specs.Decode.{fixed_at, fixed, number, up_to, padded, opaque_at, opaque_up_to, array_at, array_up_to}
use Rattle.rules.specs.Store.{Geometry, good_block_size, good_geometry, Store, good_lengths, empty_store, used, owed, lowest_free, byte_at, sound_file, sound}
use Rattle.rules.specs.Edit.{covers, from_holes, clears, kind_of, owned, become, pass, plan, store_slot, fill_slot, edit_bytes, edited}
use Rattle.rules.specs.Read.{join, pieces, seek_from}
use Rattle.rules.specs.Attributes.{space_used, freed_blocks, space_freed}
use Rattle.rules.specs.Operation.{Op, PUTFH, SAVEFH, WRITE, ALLOCATE, CLONE, item_at, items, header, request_bytes, getattr_reply, read_reply, read_plus_reply, seek_reply}
use Rattle.rules.specs.Fault.{fault_at}
use Rattle.rules.specs.Run.{zero_id, errors, does, edit_of, effect, body, perform, reached}
use Rattle.rules.specs.Calls.{compound, reply_bytes, Call, Outcome, served, refusal, answer_no_place, last_fault, place_of, answer, make_refusal, made_store, store_refusal, used_count, owed_count, slot_refusal, slot_view, slot_is_hole}
use Rattle.rules.specs.Claim.{ran_call, serving, machine, events, history, edit_done, extend, array_write, array_zero, array_act, array_edit, array_after}
use Rattle.rules.specs.Emptying.{owed_for_file}

-- a pool of n blocks
abbrev pub geometry : ℕ → Geometry
geometry n = record { F = 4; S = 16; N = n; B = 512 }

abbrev pub empty : ℕ → Store
empty n = empty_store (geometry n)

abbrev pub call : ℕ → List Op → Call
call n os = record { config = record { geometry = geometry n; verifier = replicate 8 0 }; request = request_bytes [] os; buffer = replicate 32768 0 }

-- ---- operations, with the all-zero stateid

abbrev pub on : ℕ → Op
on f = PUTFH (u32 f)

-- the first n bytes of file 0
abbrev pub allocate : ℕ → List Op
allocate n = on 0 ∷ ALLOCATE zero_id 0 n ∷ []

abbrev pub write : ℕ → List ℕ → List Op
write f d = on f ∷ WRITE zero_id 0 2 d ∷ []

-- the first n bytes of file 0 to file 1
abbrev pub clone : ℕ → List Op
clone n = on 0 ∷ SAVEFH ∷ on 1 ∷ CLONE zero_id zero_id 0 0 n ∷ []

-- ---- replies

-- the status, no tag, and the results
abbrev pub replied : ℕ → List (List ℕ) → List ℕ
replied status results = u32 status ++ u32 0 ++ u32 (length results) ++ concat_map (λ r. r) results

-- operation number, status and body
abbrev pub result : ℕ → ℕ → List ℕ → List ℕ
result n status b = u32 n ++ u32 status ++ b

abbrev pub put : List ℕ
put = result 22 0 []

-- WRITE's body: count, FILE_SYNC4, verifier
abbrev pub wrote : ℕ → List ℕ
wrote n = result 38 0 (u32 n ++ u32 2 ++ replicate 8 0)

abbrev pub cloned : ℕ → List ℕ
cloned status = replied status (put ∷ result 32 0 [] ∷ put ∷ result 71 status [] ∷ [])

-- ---- runs

-- what is told of a call: its reply, and the counts after it
pub record Told : Type 0 where
  pub reply : List ℕ
  pub used_told : ℕ
  pub owed_told : ℕ

abbrev pub told : Outcome Store → Told
told o = record { reply = take o.written o.reply; used_told = used o.store.words; owed_told = owed o.store.words }

-- a pool, a list of calls from an empty store, and what is to be told of each
pub record Run : Type 0 where
  pub pool : ℕ
  pub calls : List (List Op)
  pub answers : List Told

abbrev pub machine_told : Run → List Told
machine_told r = map told (machine serving (empty r.pool) (map (call r.pool) r.calls))

-- ---- computing: `unfolding rules` opens every definition of the rules

unfoldable pub rules : Unit {0}
unfolding part_of splice be u32 u64 bool opaque array fixed_at fixed number up_to padded opaque_at opaque_up_to array_at array_up_to good_block_size good_geometry good_lengths empty_store used owed lowest_free byte_at sound_file sound covers from_holes clears kind_of owned become pass plan store_slot fill_slot edit_bytes edited join pieces seek_from space_used freed_blocks space_freed item_at items header request_bytes getattr_reply read_reply read_plus_reply seek_reply errors does edit_of effect body perform reached compound reply_bytes served refusal answer_no_place fault_at last_fault place_of answer make_refusal made_store store_refusal used_count owed_count slot_refusal slot_view slot_is_hole ran_call machine events history edit_done extend array_write array_zero array_act array_edit array_after owed_for_file
rules = tt
