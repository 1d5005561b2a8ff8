-- The climb from where the ends stand, within the turns that are left, comes to what the climb asked for does.
use Rattle.std.proofs.Common.{◌≡◌, ◌-◌}
use Rattle.table.specs.Words.{table_of}
use Rattle.requests.specs.Meeting.{in_turn}
use Rattle.requests.proofs.meeting.climb_in_turn.Given as goal

abbrev pub invariant-loop-turns : goal.invariant-loop-turns
invariant-loop-turns l = in_turn (512 - l.turns) (table_of l.t) l.passed l.here.0 l.waiting.0 ≡ in_turn 512 (table_of l.t) l.initial.passed l.fn.a.0 l.fn.b.0

abbrev pub decreases-loop-turns : goal.decreases-loop-turns
decreases-loop-turns l = 512 - l.turns
