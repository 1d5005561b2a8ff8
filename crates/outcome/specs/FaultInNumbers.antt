-- The answer to the question why a table is damaged, told in numbers (ticket 5 of 02).
use Rattle.std.specs.Prelude.{◌≡◌, ℕ, Option, None, Some}
use Rattle.rules.specs.declared.fault.Fault.{Fault}
use Rattle.rules.specs.Fault.{rule_number}

-- 0 for a sound table, or the number of the rule, 1 to 8
abbrev pub fault_rule : Option Fault → ℕ
fault_rule None = 0
fault_rule (Some f) = rule_number f.rule

-- the slot; 0 for a sound table
abbrev pub fault_slot : Option Fault → ℕ
fault_slot None = 0
fault_slot (Some f) = f.slot.0

abbrev pub ToldFault : Option Fault → ℕ → ℕ → Type 0
ToldFault f rule slot = (rule ≡ fault_rule f) × (slot ≡ fault_slot f)
