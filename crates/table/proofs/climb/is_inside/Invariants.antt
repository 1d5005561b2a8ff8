use Rattle.std.proofs.Common.{◌≡◌, ◌-◌}
use Rattle.table.specs.Words.{table_of}
use Rattle.table.specs.Climb.{inside_within}
use Rattle.table.proofs.climb.is_inside.Given as goal

abbrev pub invariant-loop : goal.invariant-loop
invariant-loop l = inside_within (256 - l.counter) (table_of l.t) l.x.0 l.here.0 ≡ inside_within 256 (table_of l.t) l.x.0 l.fn.n.0
