use Rattle.std.proofs.Common.{◌≡◌, ◌-◌}
use Rattle.table.specs.Words.{table_of}
use Rattle.rules.specs.Blossom.{moved}
use Rattle.request_blossom.proofs.transfer.transfer_children_except_for_two.Given as goal

abbrev pub invariant-loop : goal.invariant-loop
invariant-loop l = moved (256 - l.counter) l.b.0 l.x.0 l.y.0 l.here.0 (table_of l.t) ≡ moved 256 l.b.0 l.x.0 l.y.0 l.fn.c.0 (table_of l.initial.t)
