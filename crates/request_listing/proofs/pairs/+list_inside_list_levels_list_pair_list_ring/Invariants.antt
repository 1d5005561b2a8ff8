-- Every call goes with a budget that falls; `list_inside` passes its own on to `list_levels`. What a walk has still to list, written from
-- where it stands, is what its call was asked for.
use Rattle.std.proofs.Common.{◌≡◌, ◌+◌, ◌*◌}
use Rattle.table.specs.Words.{table_of}
use Rattle.record.specs.Writing.{write_all}
use Rattle.record_fields.specs.Outputs.{out_at, SameBytes}
use Rattle.rules.specs.Listing.{levels_listed, ring_listed}
use Rattle.request_listing.proofs.pairs.+list_inside_list_levels_list_pair_list_ring.Given as goal

abbrev pub decreases-list_inside : goal.decreases-list_inside
decreases-list_inside l = 2 * l.left + 1

abbrev pub decreases-list_levels : goal.decreases-list_levels
decreases-list_levels l = 2 * l.left

abbrev pub decreases-list_pair : goal.decreases-list_pair
decreases-list_pair l = 2 * l.left

abbrev pub decreases-list_ring : goal.decreases-list_ring
decreases-list_ring l = 2 * l.left

abbrev pub invariant-list_levels-loop-still : goal.invariant-list_levels-loop-still
invariant-list_levels-loop-still l =
    record {
      listed :
          write_all (out_at l.out) (levels_listed l.still l.b.0 l.here.0 (table_of l.t))
          ≡ write_all (out_at l.initial.out) (levels_listed l.left l.b.0 l.fn.touched.0 (table_of l.t));
      same : SameBytes l.initial.out l.out;
    }

abbrev pub invariant-list_ring-loop-still : goal.invariant-list_ring-loop-still
invariant-list_ring-loop-still l =
    record {
      listed :
          write_all (out_at l.out) (ring_listed l.still l.touched.0 l.here.0 (table_of l.t))
          ≡ write_all (out_at l.initial.out) (ring_listed l.left l.touched.0 l.fn.n.0 (table_of l.t));
      same : SameBytes l.initial.out l.out;
    }
