-- What is left of the way up gives what the whole way gives.
use Rattle.std.proofs.Common.{◌≡◌, ◌-◌}
use Rattle.table.specs.Words.{table_of}
use Rattle.sound_walks.specs.Depths.{recorded}
use Rattle.sound_walks.proofs.depths.note_way.Given as goal

abbrev pub invariant-loop-step : goal.invariant-loop-step
invariant-loop-step l =
    recorded (table_of l.t) (l.depth - l.step) l.here.0 l.deep ≡ recorded (table_of l.t) l.depth l.fn.n.0 l.fn.deep
