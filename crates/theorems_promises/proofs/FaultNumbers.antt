-- A fault is determined by its two numbers.
use mathlib.Core.Path.{◌≡◌, refl, ap}
use native.Mathlib.Omega.{arith}
use lib.Dec.{T}
use Rattle.table.specs.Table.{Table}
use Rattle.rules.specs.declared.fault.Rule.{Rule}
use Rattle.rules.specs.declared.fault.Fault.{Fault}
use Rattle.std.specs.Prelude.{Option, None, Some}
use Rattle.rules.specs.Sound.{sound}
use Rattle.rules.specs.Fault.{rule_number, no_fault, fault_at, first_fault}
use Rattle.outcome.specs.FaultInNumbers.{fault_rule, fault_slot}
use Rattle.theorems_soundness.specs.Faults.{FailsFirst}
use Rattle.theorems_soundness.proofs.FaultLaws.{one_number, some_number}
use Rattle.theorems_soundness.proofs.FirstFault.{sound_exactly, named_exactly}

no_rule : (f : Option Fault) → fault_rule f ≡ 0 → f ≡ no_fault
no_rule None e = refl
no_rule (Some f) e = let l = some_number f.rule in absurd (omega arith)

of_rule : (f : Option Fault) (r : Rule) → fault_rule f ≡ rule_number r → f ≡ fault_at r (fault_slot f)
of_rule None r e = let l = some_number r in absurd (omega arith)
of_rule (Some f) r e = ap (λ (p : Rule). fault_at p f.slot.0) (one_number f.rule r e)

module _ (t : Table) where
  pub rule_0_sound : fault_rule (first_fault t) ≡ 0 → T (sound t)
  rule_0_sound e = (sound_exactly t).0 (no_rule (first_fault t) e)

  pub sound_rule_0 : T (sound t) → fault_rule (first_fault t) ≡ 0
  sound_rule_0 s = ap fault_rule ((sound_exactly t).1 s)

  pub sound_slot_0 : T (sound t) → fault_slot (first_fault t) ≡ 0
  sound_slot_0 s = ap fault_slot ((sound_exactly t).1 s)

  pub rule_fails : (r : Rule) → fault_rule (first_fault t) ≡ rule_number r → FailsFirst t r (fault_slot (first_fault t))
  rule_fails r e = (named_exactly t r (fault_slot (first_fault t))).0 (of_rule (first_fault t) r e)
