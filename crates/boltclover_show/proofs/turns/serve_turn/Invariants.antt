-- What is left of the turn's bytes is no longer than they are, and each record that was read takes some of it.
use Rattle.std.proofs.Common.{◌≤◌, length}
use Rattle.boltclover_show.proofs.turns.serve_turn.Given as goal

abbrev pub invariant-loop-request : goal.invariant-loop-request
invariant-loop-request g l = length l.rest ≤ length l.bytes

abbrev pub decreases-loop-request : goal.decreases-loop-request
decreases-loop-request g l = length l.rest
