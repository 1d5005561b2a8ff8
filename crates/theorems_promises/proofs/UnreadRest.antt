-- "hands back the unread rest of the caller's tape": it is the tape's end, so a caller who is told how many bytes it has, as a caller
-- from C is, knows where it starts.
use mathlib.Core.Path.{◌≡◌}
use mathlib.Core.List.{List}
use Prim.Native.Nat.{ℕ, ◌-◌}
use lib.ListN.{length, drop}
use Rattle.outcome.specs.Tape.{Tape}
use Rattle.theorems_promises.proofs.RunCounts.{counts_records}
use Rattle.theorems_promises.proofs.TapeEnd.{behind_records}

pub rest-is-the-end :
    (allowance : ℕ) (words bytes tape : List ℕ) (stop refusal handled written : ℕ) (rest words' bytes' : List ℕ)
    → Tape allowance words bytes tape stop refusal handled written rest words' bytes'
    → rest ≡ drop (length tape - length rest) tape
rest-is-the-end allowance words bytes tape stop refusal handled written rest words' bytes' h =
    behind_records handled tape rest (counts_records words bytes tape stop refusal handled written rest words' bytes' allowance h)
