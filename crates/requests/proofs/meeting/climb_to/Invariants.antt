-- The climb from where the loop stands, within what is left, comes to what the climb asked for does, whatever the test is.
use Rattle.std.proofs.Common.{◌≡◌, ℕ, Bool, ◌-◌}
use Rattle.table.specs.Words.{table_of}
use Rattle.requests.specs.Meeting.{IsTest, first_above}
use Rattle.requests.proofs.meeting.climb_to.Given as goal

abbrev pub invariant-loop : goal.invariant-loop
invariant-loop g l =
    (holds : ℕ → Bool)
    → IsTest (goal.F-post g l.test) holds
    → first_above (256 - l.counter) (table_of l.t) holds l.here.0 ≡ first_above 256 (table_of l.t) holds l.fn.n.0
