-- begin and the two counts: "`count_defects` is one more than the highest defect named; `count_blossoms` counts all slots given out since the last reset."
use Rattle.std.specs.Prelude.{ℕ, ◌+◌, leb}
use Rattle.lists.specs.Choice.{pick}
use Rattle.table.specs.Table.{Table}

-- one of the three counts replaced
unfoldable pub with_begin : Table → ℕ → Table
with_begin t n = record { slots = t.slots; begin = n; defects = t.defects; blossoms = t.blossoms }

unfoldable pub with_defects : Table → ℕ → Table
with_defects t n = record { slots = t.slots; begin = t.begin; defects = n; blossoms = t.blossoms }

unfoldable pub with_blossoms : Table → ℕ → Table
with_blossoms t n = record { slots = t.slots; begin = t.begin; defects = t.defects; blossoms = n }

-- one past the last blossom slot given out, 256 at the most
unfoldable pub blossom_end : Table → ℕ
blossom_end t = pick (leb 256 (t.begin + t.blossoms)) 256 (t.begin + t.blossoms)
