-- "Reset empties all slots and zeroes both counts": a table as made is sound.
use mathlib.Core.Path.{◌≡◌, ap}
use Prim.Native.Nat.{ℕ, ◌≤◌, ◌<◌}
use native.Mathlib.Decide.{dec_lt}
use native.Mathlib.Omega.{arith}
use lib.Dec.{T}
use lib.ListN.{length-replicate, get_or-replicate}
use Rattle.slot.specs.Slot.{Slot, empty_slot}
use Rattle.table.specs.Table.{Table, at, Full}
use Rattle.table.proofs.TableLaws.{at_out}
use Rattle.table.specs.Making.{fresh, emptied}
use Rattle.table.specs.Nodes.{present}
use Rattle.theorems_soundness.specs.Facts.{Sizes, Pointers}
use Rattle.theorems_soundness.specs.FactsOfBlossoms.{Touches}
use Rattle.theorems_soundness.proofs.ReflectSlots.{outer-present, inner-present}
use Rattle.theorems_soundness.specs.RuleFacts.{Whole}
use Rattle.theorems_soundness.proofs.Renewing.{of_none}

pub fresh_full : (b : ℕ) → Full (fresh b)
unfolding fresh
fresh_full b = length-replicate 256 empty_slot

fresh_below : (b n : ℕ) → n < 256 → at (fresh b) n ≡ empty_slot
unfolding at fresh
fresh_below b n l = get_or-replicate 256 n empty_slot empty_slot l

pub fresh_at : (b n : ℕ) → at (fresh b) n ≡ empty_slot
fresh_at b n = elim (dec_lt n 256) [ yes l ↦ fresh_below b n l | no g ↦ at_out (fresh b) n (fresh_full b) (omega arith) ]

fresh_absent : (b n : ℕ) → ¬ T (present (fresh b) n)
fresh_absent b n p = rw (fresh_at b n) at p

fresh_sizes : (b : ℕ) → 1 ≤ b → b ≤ 256 → Sizes (fresh b)
unfolding fresh
fresh_sizes b low high = record { some_defect = low; begin_fits = high; defects_fit = omega arith; blossoms_fit = omega arith }

fresh_pointers : (b n : ℕ) → Pointers (fresh b) (at (fresh b) n)
fresh_pointers b n = rw (fresh_at b n) (record { parent = of_none; child = of_none; sibling = of_none; ring = of_none })

fresh_touches : (b n : ℕ) → Touches (fresh b) n
fresh_touches b n = record { touch = rw (fresh_at b n) of_none; peer_touch = λ d. absurd (d (ap (λ (s : Slot). s.link.peer_touch) (fresh_at b n))) }

pub fresh_whole : (b : ℕ) → 1 ≤ b → b ≤ 256 → Whole (fresh b)
fresh_whole b low high =
    record {
      full = fresh_full b;
      core =
          record {
            kind = λ n o. absurd (fresh_absent b n (outer-present (at (fresh b) n).state o));
            children = λ n o. absurd (fresh_absent b n (outer-present (at (fresh b) n).state o));
            upward = λ n o. absurd (fresh_absent b n (outer-present (at (fresh b) n).state o));
          };
      rest =
          record {
            sizes = fresh_sizes b low high;
            undamaged = λ n e. fresh_absent b n (rw e tt);
            given = λ n p. absurd (fresh_absent b n p);
            bare = λ n _. fresh_at b n;
            ring_owner = λ n d. absurd (d (ap (λ (s : Slot). s.ring) (fresh_at b n)));
            pointers = fresh_pointers b;
            rings = λ n p. absurd (fresh_absent b n p.there);
            inners = λ n i. absurd (fresh_absent b n (inner-present (at (fresh b) n).state i));
            touches = fresh_touches b;
          };
    }

pub reset_keeps : (t : Table) → Whole t → Whole (emptied t)
reset_keeps t w = fresh_whole t.begin w.rest.sizes.some_defect w.rest.sizes.begin_fits
