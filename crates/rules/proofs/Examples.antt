-- Further examples by computation, under one claim: a DEALLOCATE in a full pool whose middle frees the block that its edge takes,
-- READ_PLUS over a hole, COPY across a slot's end, and a file that shares with itself.
use Prim.Native.Nat.{ℕ}
use mathlib.Core.Path.{◌≡◌, refl}
use mathlib.Core.Bool.{true, false}
use mathlib.Core.List.{List, [], ◌∷◌, ◌++◌, map}
use lib.ListN.{replicate}
use Rattle.xdr.specs.Encode.{u32, u64}
use Rattle.rules.specs.Operation.{SAVEFH, READ, READ_PLUS, WRITE, DEALLOCATE, COPY, CLONE, Op}
use Rattle.rules.specs.Run.{zero_id}
use Rattle.rules.proofs.Script.{Told, Run, machine_told, on, replied, result, put, rules}

-- file 0 has three blocks, and file 1 shares the first
abbrev base : List Op
base = on 0 ∷ WRITE zero_id 0 2 (5 ∷ []) ∷ WRITE zero_id 600 2 (6 ∷ []) ∷ WRITE zero_id 1199 2 (7 ∷ []) ∷ SAVEFH ∷ on 1 ∷ CLONE zero_id zero_id 0 0 512 ∷ []

abbrev one : List ℕ
one = result 38 0 (u32 1 ++ u32 2 ++ replicate 8 0)

abbrev based : Told
based = record { reply = replied 0 (put ∷ one ∷ one ∷ one ∷ result 32 0 [] ∷ put ∷ result 71 0 [] ∷ []); used_told = 3; owed_told = 0 }

-- bytes 100 to 1,100 of file 0: slot 1 and the edges in slots 0 and 2
abbrev cut : List Op
cut = on 0 ∷ DEALLOCATE zero_id 100 1000 ∷ []

abbrev cut_told : Told
cut_told = record { reply = replied 0 (put ∷ result 62 0 [] ∷ []); used_told = 3; owed_told = 0 }

abbrev runs : List Run
runs =
    -- no block is free until slot 1 is given back; then three pieces: 4 bytes of data, the hole, 4 bytes of data
    record {
      pool = 3;
      calls = base ∷ cut ∷ (on 0 ∷ READ_PLUS zero_id 508 520 ∷ []) ∷ [];
      answers =
          based ∷ cut_told
          ∷ record {
            reply = replied 0 (put ∷ result 68 0 (
                u32 0 ++ u32 3 ++ (u32 0 ++ u64 508 ++ u32 4 ++ replicate 4 0) ++ (u32 1 ++ u64 512 ++ u64 512) ++ (u32 0 ++ u64 1024 ++ u32 4 ++ replicate 4 0)) ∷ []);
            used_told = 3;
            owed_told = 0;
          } ∷ [];
    }
    -- 20 bytes of file 1 stand at 500 of file 2, across the end of slot 0; READ tells eof and 22 bytes
    ∷ record {
      pool = 5;
      calls = base ∷ (on 1 ∷ SAVEFH ∷ on 2 ∷ COPY zero_id zero_id 0 500 20 false true ∷ READ zero_id 498 30 ∷ []) ∷ [];
      answers =
          based
          ∷ record {
            reply = replied 0 (put ∷ result 32 0 [] ∷ put ∷ result 60 0 (u32 0 ++ u64 20 ++ u32 2 ++ replicate 8 0 ++ u32 1 ++ u32 1)
                ∷ result 25 0 (u32 1 ++ u32 22 ++ (0 ∷ 0 ∷ 5 ∷ []) ++ replicate 19 0 ++ (0 ∷ 0 ∷ [])) ∷ []);
            used_told = 5;
            owed_told = 0;
          } ∷ [];
    }
    -- two slots of file 0 share a block with nobody else: a WRITE over both takes one block and keeps the other
    ∷ record {
      pool = 2;
      calls =
          (on 0 ∷ WRITE zero_id 0 2 (replicate 512 3) ∷ SAVEFH ∷ CLONE zero_id zero_id 0 512 512 ∷ [])
          ∷ (on 0 ∷ WRITE zero_id 511 2 (8 ∷ 9 ∷ []) ∷ READ zero_id 510 4 ∷ []) ∷ [];
      answers =
          record { reply = replied 0 (put ∷ result 38 0 (u32 512 ++ u32 2 ++ replicate 8 0) ∷ result 32 0 [] ∷ result 71 0 [] ∷ []); used_told = 1; owed_told = 0 }
          ∷ record {
            reply = replied 0 (put ∷ result 38 0 (u32 2 ++ u32 2 ++ replicate 8 0) ∷ result 25 0 (u32 0 ++ u32 4 ++ (3 ∷ 8 ∷ 9 ∷ 3 ∷ [])) ∷ []);
            used_told = 2;
            owed_told = 0;
          } ∷ [];
    }
    ∷ []

pub examples_hold : map machine_told runs ≡ map (λ r. r.answers) runs
unfolding rules
examples_hold = refl
