-- What is still to be listed, written from where the loop stands, is what was asked for.
use Rattle.std.proofs.Common.{◌-◌, ◌≡◌}
use Rattle.table.specs.Words.{table_of}
use Rattle.record.specs.Writing.{write_all}
use Rattle.record_fields.specs.Outputs.{out_at, SameBytes}
use Rattle.rules.specs.Listing.{slots_listed}
use Rattle.request_listing.proofs.list_slots.Given as goal

abbrev pub invariant-loop-i : goal.invariant-loop-i
invariant-loop-i l =
    record {
      listed :
          write_all (out_at l.out) (slots_listed (l.to - l.i) l.i (table_of l.t))
          ≡ write_all (out_at l.initial.out) (slots_listed (l.to - l.from) l.from (table_of l.t));
      same : SameBytes l.initial.out l.out;
    }
