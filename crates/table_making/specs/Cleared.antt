-- Slots emptied, one after another.
use Rattle.std.specs.Prelude.{ℕ, zero, suc}
use Rattle.slot.specs.Slot.{empty_slot}
use Rattle.table.specs.Table.{Table, put}

-- k slots, from n on
unfoldable pub cleared : ℕ → ℕ → Table → Table
cleared zero n t = t
cleared (suc k) n t = cleared k (suc n) (put t n empty_slot)
