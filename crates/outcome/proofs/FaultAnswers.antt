-- The answer to the question why a table is damaged, in numbers.
use mathlib.Core.Path.{◌≡◌}
use Prim.Native.Nat.{ℕ}
use Rattle.std.specs.Prelude.{Option}
use Rattle.rules.specs.declared.fault.Fault.{Fault}
use Rattle.outcome.specs.FaultInNumbers.{ToldFault}

-- another answer, the same numbers
pub told_same_fault : (a b : Option Fault) (rule slot : ℕ) → a ≡ b → ToldFault a rule slot → ToldFault b rule slot
told_same_fault a b rule slot e h = rw e at h
