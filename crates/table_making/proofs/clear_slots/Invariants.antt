-- What is still to be emptied, done from where the loop stands, is what was asked for.
use Rattle.std.proofs.Common.{◌-◌, ◌≡◌}
use Rattle.table.specs.Words.{table_of}
use Rattle.table_making.specs.Cleared.{cleared}
use Rattle.table_making.proofs.clear_slots.Given as goal

abbrev pub invariant-loop-i : goal.invariant-loop-i
invariant-loop-i l = cleared (l.to - l.i) l.i (table_of l.t) ≡ cleared (l.to - l.from) l.from (table_of l.initial.t)
