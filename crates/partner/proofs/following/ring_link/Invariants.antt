-- The link from where the loop stands, within what is left, is the one asked for.
use Rattle.std.proofs.Common.{◌≡◌, ◌-◌}
use Rattle.table.specs.Words.{table_of}
use Rattle.rules.specs.Partner.{link_in_twos}
use Rattle.partner.proofs.following.ring_link.Given as goal

abbrev pub invariant-loop : goal.invariant-loop
invariant-loop l = link_in_twos (128 - l.counter) (table_of l.t) l.first.0 l.x.0 ≡ link_in_twos 128 (table_of l.t) l.fn.n.0 l.x.0
