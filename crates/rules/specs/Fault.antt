-- Why a table is damaged (ticket 5 of 02): one of the rules S1 to S8 and a slot, or none. Which slots break a rule is said in Sound, rule by rule.
use Rattle.std.specs.Prelude.{ℕ, zero, suc, List, [], ◌∷◌, Option, None, Some}
use Rattle.lists.specs.Choice.{pick}
use Rattle.table.specs.Table.{Table}
use Rattle.rules.specs.declared.fault.Rule.{Rule}
use Rattle.rules.specs.declared.fault.Rule.TheVariants.{S1, S2, S3, S4, S5, S6, S7, S8}
use Rattle.rules.specs.declared.fault.Fault.{Fault}
use Rattle.rules.specs.Sound.{holds, rules}

abbrev pub rule_number : Rule → ℕ
rule_number S1 = 1
rule_number S2 = 2
rule_number S3 = 3
rule_number S4 = 4
rule_number S5 = 5
rule_number S6 = 6
rule_number S7 = 7
rule_number S8 = 8

abbrev pub no_fault : Option Fault
no_fault = None

abbrev pub fault_at : Rule → ℕ → Option Fault
fault_at r n = Some (record { rule = r; slot = record { 0 = n } })

-- the first of two faults, if there is one
abbrev pub or_else : Option Fault → Option Fault → Option Fault
or_else None g = g
or_else (Some f) g = Some f

-- the lowest slot from n on at which r fails, k slots in all
unfoldable pub lowest_fault : Rule → Table → ℕ → ℕ → Option Fault
lowest_fault r t zero n = no_fault
lowest_fault r t (suc k) n = let rest = lowest_fault r t k (suc n) in pick (holds r t n) rest (fault_at r n)

-- "the first in document 01's order that fails, and the slot is the lowest at which it fails"
unfoldable pub first_fault_of : List Rule → Table → Option Fault
first_fault_of [] t = no_fault
first_fault_of (r ∷ rs) t = let rest = first_fault_of rs t in or_else (lowest_fault r t 256 0) rest

abbrev pub first_fault : Table → Option Fault
first_fault t = first_fault_of rules t
