use Rattle.std.proofs.Common.{◌≡◌, ◌-◌}
use Rattle.table.specs.Words.{table_of}
use Rattle.rules.specs.Blossom.{last_below}
use Rattle.request_blossom.proofs.Ring.last_below.Given as goal

abbrev pub invariant-loop : goal.invariant-loop
invariant-loop l =
    last_below (256 - l.counter) l.self.meeting.0 l.below.0 l.here.0 (table_of l.t)
    ≡ last_below 256 l.self.meeting.0 l.fn.n.0 l.fn.n.0 (table_of l.t)
