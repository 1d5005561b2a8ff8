use Rattle.std.proofs.Common.{◌≡◌, ◌<◌}
use Rattle.table.specs.Words.{table_of}
use Rattle.table.specs.Climb.{second_outer_within}
use Rattle.table.proofs.climb.get_second_outer_blossom.Given as goal

abbrev pub invariant-loop-here : goal.invariant-loop-here
invariant-loop-here l =
    (0 < l.left)
    × (second_outer_within l.left (table_of l.t) l.below.0 l.here.0 ≡ second_outer_within 256 (table_of l.t) l.initial.below.0 l.initial.here.0)

abbrev pub decreases-loop-here : goal.decreases-loop-here
decreases-loop-here l = l.left
