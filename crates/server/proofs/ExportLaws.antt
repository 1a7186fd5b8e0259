-- From what an exported call does back to the claim's step.
use Prim.Native.Nat.{ℕ}
use mathlib.Core.Path.{ap}
use mathlib.Core.List.{List}
use lib.ListN.{get_or}
use Rattle.rules.specs.Store.{Store}
use Rattle.rules.specs.Calls.{Call, Contract}
use Rattle.server.specs.Exports.{ServePromise}

-- a call of the exported function is a step of the claim's list
pub step_of : (c : Call) (st after : Store) (n : ℕ) (told reply : List ℕ) → ServePromise c st n told reply after
    → Contract c st (record { number = n; read = get_or told 0 0; written = get_or told 1 0; place = get_or told 2 0; reply = reply; store = after })
step_of c st after n told reply p = record {
  number = p.number_is;
  read = ap (λ (l : List ℕ). get_or l 0 0) p.told_is;
  written = ap (λ (l : List ℕ). get_or l 1 0) p.told_is;
  place = ap (λ (l : List ℕ). get_or l 2 0) p.told_is;
  reply = p.reply_is;
  sizes = p.sizes_are;
  words = p.words_are;
  mem = p.mem_is;
}
