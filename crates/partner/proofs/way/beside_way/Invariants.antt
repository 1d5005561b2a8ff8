-- The climb from where the loop stands, within what is left, ends where the climb asked for does.
use Rattle.std.proofs.Common.{◌≡◌, ◌-◌}
use Rattle.table.specs.Words.{table_of}
use Rattle.partner.specs.Way.{beside_way}
use Rattle.partner.proofs.way.beside_way.Given as goal

abbrev pub invariant-loop : goal.invariant-loop
invariant-loop l = beside_way (256 - l.counter) (table_of l.t) l.below l.here.0 ≡ beside_way 256 (table_of l.t) l.below l.fn.n.0
