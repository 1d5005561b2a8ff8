-- The climb from where the loop stands, within what is left, ends where the climb asked for does, and notes the same in all.
use Rattle.std.proofs.Common.{◌≡◌, ◌-◌}
use Rattle.table.specs.Words.{table_of}
use Rattle.table.specs.Climb.{outer_blossom_within}
use Rattle.partner.specs.Way.{noted}
use Rattle.partner.proofs.way.note_way.Given as goal

abbrev pub invariant-loop : goal.invariant-loop
invariant-loop l =
    record {
      outer : outer_blossom_within (256 - l.counter) (table_of l.t) l.here.0 ≡ outer_blossom_within 256 (table_of l.t) l.fn.d.0;
      way : noted (256 - l.counter) (table_of l.t) l.here.0 l.below ≡ noted 256 (table_of l.t) l.fn.d.0 l.initial.below;
    }
