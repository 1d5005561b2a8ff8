-- The fault found so far, or else the first of the rules that are left, is the first of all.
use Rattle.std.proofs.Common.{◌≡◌, drop}
use Rattle.table.specs.Words.{table_of}
use Rattle.rules.specs.Sound.{rules}
use Rattle.rules.specs.Fault.{or_else, first_fault_of, first_fault}
use Rattle.fault.proofs.first_fault.Given as goal

abbrev pub invariant-loop-rule : goal.invariant-loop-rule
invariant-loop-rule l = or_else l.found (first_fault_of (drop l.rule-index rules) (table_of l.t)) ≡ first_fault (table_of l.t)
