use Rattle.std.proofs.Common.{◌≡◌, ◌-◌}
use Rattle.slot.specs.Slot.{link_of}
use Rattle.table.specs.Words.{table_of}
use Rattle.rules.specs.Blossom.{ring_down}
use Rattle.request_blossom.proofs.Ring.ring_down.Given as goal

abbrev pub invariant-loop : goal.invariant-loop
invariant-loop l =
    ring_down (256 - l.counter) l.self.blossom.0 l.self.meeting.0 l.after.0 (link_of l.after_link) l.here.0 (table_of l.t)
    ≡ ring_down 256 l.self.blossom.0 l.self.meeting.0 l.self.x.0 (link_of l.self.link) l.self.y.0 (table_of l.initial.t)
