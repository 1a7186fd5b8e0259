-- P1 to P10 (document 01, "Both sides of the line"): lists of calls, as request bytes through the machine, under one claim.
use mathlib.Core.Path.{◌≡◌, refl}
use mathlib.Core.List.{List, [], ◌∷◌, ◌++◌, map}
use lib.ListN.{replicate}
use Rattle.xdr.specs.Encode.{u32, u64}
use Rattle.rules.specs.Operation.{READ, SEEK}
use Rattle.rules.specs.Run.{zero_id}
use Rattle.rules.proofs.Script.{Run, machine_told, on, allocate, write, clone, replied, result, put, wrote, cloned, rules}

abbrev runs : List Run
runs =
    record {
      pool = 2;
      calls = allocate 1024 ∷ write 1 (7 ∷ []) ∷ write 0 (7 ∷ []) ∷ clone 512 ∷ [];
      answers =
          -- P1
          record { reply = replied 0 (put ∷ result 59 0 [] ∷ []); used_told = 0; owed_told = 2 }
          -- P2
          ∷ record { reply = replied 28 (put ∷ result 38 28 [] ∷ []); used_told = 0; owed_told = 2 }
          -- P3
          ∷ record { reply = replied 0 (put ∷ wrote 1 ∷ []); used_told = 1; owed_told = 1 }
          -- P4
          ∷ record { reply = cloned 28; used_told = 1; owed_told = 1 } ∷ [];
    }
    ∷ record {
      pool = 3;
      calls = allocate 1024 ∷ write 0 (7 ∷ []) ∷ clone 512 ∷ write 0 (9 ∷ []) ∷ [];
      answers =
          record { reply = replied 0 (put ∷ result 59 0 [] ∷ []); used_told = 0; owed_told = 2 }
          ∷ record { reply = replied 0 (put ∷ wrote 1 ∷ []); used_told = 1; owed_told = 1 }
          -- P5
          ∷ record { reply = cloned 0; used_told = 1; owed_told = 2 }
          -- P6
          ∷ record { reply = replied 0 (put ∷ wrote 1 ∷ []); used_told = 2; owed_told = 1 } ∷ [];
    }
    ∷ record {
      pool = 2;
      calls = allocate 0 ∷ allocate 512 ∷ (on 0 ∷ SEEK zero_id 0 0 ∷ []) ∷ (on 0 ∷ READ zero_id 512 0 ∷ []) ∷ [];
      answers =
          -- P7
          record { reply = replied 22 (put ∷ result 59 22 [] ∷ []); used_told = 0; owed_told = 0 }
          ∷ record { reply = replied 0 (put ∷ result 59 0 [] ∷ []); used_told = 0; owed_told = 1 }
          -- P8
          ∷ record { reply = replied 0 (put ∷ result 69 0 (u32 1 ++ u64 512) ∷ []); used_told = 0; owed_told = 1 }
          -- P9
          ∷ record { reply = replied 0 (put ∷ result 25 0 (u32 1 ++ u32 0) ∷ []); used_told = 0; owed_told = 1 } ∷ [];
    }
    ∷ record {
      pool = 2;
      calls = write 0 (replicate 200 5) ∷ clone 100 ∷ clone 200 ∷ [];
      answers =
          record { reply = replied 0 (put ∷ wrote 200 ∷ []); used_told = 1; owed_told = 0 }
          -- P10
          ∷ record { reply = cloned 22; used_told = 1; owed_told = 0 }
          ∷ record { reply = cloned 0; used_told = 1; owed_told = 0 } ∷ [];
    }
    ∷ []

pub points_hold : map machine_told runs ≡ map (λ r. r.answers) runs
unfolding rules
points_hold = refl
