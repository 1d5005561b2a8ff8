-- What the listing writes, one slot after another.
use mathlib.Core.Path.{◌≡◌}
use Prim.Native.Nat.{ℕ, ◌+◌, ◌-◌, ◌≤◌, ◌<◌}
use native.Mathlib.Numerals.{add-one}
use native.Mathlib.Nat.{sub-zero}
use Rattle.lists.proofs.Budget.{one_left, none_left}
use Rattle.table.specs.Table.{Table}
use Rattle.table.specs.Counts.{blossom_end}
use Rattle.record.specs.Writing.{Out, write_all}
use Rattle.rules.specs.Listing.{slot_listed, slots_listed}
use Rattle.record.proofs.Written.{write_all_append}
use Rattle.request_listing.specs.Given.{given_listed}
use Rattle.request_listing.proofs.PairsSteps.{nothing_written}

module _ (t : Table) (o : Out) where
  -- the next slot, and what is left after it
  pub slots_more : (i to : ℕ) → i < to → write_all o (slots_listed (to - i) i t) ≡ write_all (write_all o (slot_listed i t)) (slots_listed (to - (i + 1)) (i + 1) t)
  unfolding slots_listed
  slots_more i to h = rw (one_left i to h, write_all_append, add-one)

  pub slots_done : (i to : ℕ) → to ≤ i → write_all o (slots_listed (to - i) i t) ≡ o
  unfolding slots_listed
  slots_done i to h = rw (none_left i to h, nothing_written)

  -- the defects given out, and then the blossoms
  pub all_given : write_all o (given_listed t) ≡ write_all (write_all o (slots_listed (t.defects - 0) 0 t)) (slots_listed (blossom_end t - t.begin) t.begin t)
  unfolding given_listed
  all_given = rw (sub-zero, write_all_append)

pub ruleset slots = (slots_more, slots_done)

pub ruleset given = (all_given)
