use Rattle.std.proofs.Common.{◌≡◌, ◌-◌}
use Rattle.table.specs.Words.{table_of}
use Rattle.rules.specs.Blossom.{ring_up}
use Rattle.request_blossom.proofs.Ring.ring_up.Given as goal

abbrev pub invariant-loop : goal.invariant-loop
invariant-loop l =
    ring_up (256 - l.counter) l.self.blossom.0 l.self.meeting.0 l.here.0 (table_of l.t)
    ≡ ring_up 256 l.self.blossom.0 l.self.meeting.0 l.self.x.0 (table_of l.initial.t)
