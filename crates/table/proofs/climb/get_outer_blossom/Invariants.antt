use Rattle.std.proofs.Common.{◌≡◌, ◌<◌}
use Rattle.table.specs.Words.{table_of}
use Rattle.table.specs.Climb.{outer_blossom_within}
use Rattle.table.proofs.climb.get_outer_blossom.Given as goal

abbrev pub invariant-loop-here : goal.invariant-loop-here
invariant-loop-here l = (0 < l.left) × (outer_blossom_within l.left (table_of l.t) l.here.0 ≡ outer_blossom_within 256 (table_of l.t) l.initial.here.0)

abbrev pub decreases-loop-here : goal.decreases-loop-here
decreases-loop-here l = l.left
