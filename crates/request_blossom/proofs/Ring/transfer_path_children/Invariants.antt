use Rattle.std.proofs.Common.{◌≡◌, ◌-◌}
use Rattle.table.specs.Words.{table_of}
use Rattle.rules.specs.Blossom.{moved_up_to}
use Rattle.request_blossom.proofs.Ring.transfer_path_children.Given as goal

abbrev pub invariant-loop : goal.invariant-loop
invariant-loop l =
    moved_up_to (256 - l.counter) l.self.blossom.0 l.self.meeting.0 l.below.0 l.here.0 (table_of l.t)
    ≡ moved_up_to 256 l.self.blossom.0 l.self.meeting.0 l.fn.n.0 l.fn.n.0 (table_of l.initial.t)
