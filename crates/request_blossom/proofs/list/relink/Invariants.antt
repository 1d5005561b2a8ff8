use Rattle.std.proofs.Common.{◌≡◌, ◌-◌}
use Rattle.table.specs.Words.{table_of}
use Rattle.rules.specs.Blossom.{relinked}
use Rattle.request_blossom.proofs.list.relink.Given as goal

abbrev pub invariant-loop : goal.invariant-loop
invariant-loop l = relinked (256 - l.counter) l.here.0 l.from.0 l.to.0 (table_of l.t) ≡ relinked 256 l.fn.first.0 l.from.0 l.to.0 (table_of l.initial.t)
