-- The lowest fault from here on is the lowest of all.
use Rattle.std.proofs.Common.{◌≡◌, ◌-◌}
use Rattle.table.specs.Words.{table_of}
use Rattle.rules.specs.Fault.{lowest_fault}
use Rattle.fault.proofs.lowest_fault.Given as goal

abbrev pub invariant-loop-i : goal.invariant-loop-i
invariant-loop-i l = lowest_fault l.rule (table_of l.t) (256 - l.i) l.i ≡ lowest_fault l.rule (table_of l.t) 256 0
