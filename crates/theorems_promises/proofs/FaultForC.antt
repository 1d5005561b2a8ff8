-- The question why a table is damaged, as the call for C tells it: what its two numbers say of the words, whatever they are.
use mathlib.Core.Path.{◌≡◌, sym, subst, ◌∙◌}
use mathlib.Core.Logic.{◌↔◌}
use mathlib.Core.List.{List}
use Prim.Native.Nat.{ℕ}
use lib.Dec.{T}
use Rattle.table.specs.Words.{table_of}
use Rattle.rules.specs.declared.fault.Rule.{Rule}
use Rattle.rules.specs.Sound.{sound}
use Rattle.rules.specs.Fault.{rule_number, first_fault}
use Rattle.outcome.specs.FaultInNumbers.{ToldFault}
use Rattle.theorems_soundness.specs.Faults.{FailsFirst}
use Rattle.theorems_promises.proofs.FaultNumbers.{rule_0_sound, sound_rule_0, sound_slot_0, rule_fails}

module _ (words : List ℕ) (rule slot : ℕ) (told : ToldFault (first_fault (table_of words)) rule slot) where
  pub rule_0_exactly : (rule ≡ 0) ↔ T (sound (table_of words))
  rule_0_exactly = (λ e. rule_0_sound (table_of words) (sym told.0 ∙ e), λ s. told.0 ∙ sound_rule_0 (table_of words) s)

  pub slot_0_if_sound : T (sound (table_of words)) → slot ≡ 0
  slot_0_if_sound s = told.1 ∙ sound_slot_0 (table_of words) s

  pub first_at_slot : (r : Rule) → rule ≡ rule_number r → FailsFirst (table_of words) r slot
  first_at_slot r e = subst (λ (n : ℕ). FailsFirst (table_of words) r n) (sym told.1) (rule_fails (table_of words) r (sym told.0 ∙ e))
