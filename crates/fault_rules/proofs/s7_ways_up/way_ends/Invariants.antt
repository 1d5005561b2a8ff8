-- What is left of the way up decides what the whole way decides.
use Rattle.std.proofs.Common.{◌≡◌, ◌-◌}
use Rattle.table.specs.Words.{table_of}
use Rattle.rules.specs.Slots.{up}
use Rattle.rules.specs.Walk.{ends}
use Rattle.fault_rules.proofs.s7_ways_up.way_ends.Given as goal

abbrev pub invariant-loop : goal.invariant-loop
invariant-loop l = ends (257 - l.counter) (up (table_of l.t)) l.here.0 ≡ ends 257 (up (table_of l.t)) l.fn.n.0
