-- The question why a table is damaged (ticket 5 of 02): `first_fault` is what the public call promises, for any words.
use mathlib.Core.Path.{◌≡◌}
use mathlib.Core.Logic.{◌↔◌}
use Prim.Native.Nat.{ℕ}
use lib.Dec.{T}
use Rattle.table.specs.Table.{Table}
use Rattle.rules.specs.declared.fault.Rule.{Rule}
use Rattle.rules.specs.Sound.{sound}
use Rattle.rules.specs.Fault.{no_fault, fault_at, first_fault}
use Rattle.theorems_soundness.specs.Faults.{FailsFirst}
use Rattle.theorems_soundness.proofs.FaultLaws.{none→sound, sound→none, named→fails, fails→named}

module _ (t : Table) where
  -- "It answers sound exactly for a sound table."
  pub sound_exactly : (first_fault t ≡ no_fault) ↔ T (sound t)
  sound_exactly = (none→sound t, sound→none t)

  -- a rule and a slot are named exactly where `FailsFirst` says that they come first
  pub named_exactly : (r : Rule) (n : ℕ) → (first_fault t ≡ fault_at r n) ↔ FailsFirst t r n
  named_exactly r n = (named→fails t r n, fails→named t r n)
