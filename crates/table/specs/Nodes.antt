-- What a slot of the table says of its node.
use Rattle.std.specs.Prelude.{ℕ, Bool, ◌&&◌, leb, ltb}
use Rattle.slot.specs.State.{is_outer, is_inner, is_present}
use Rattle.table.specs.Table.{Table, at}

-- "Slots below `blossom_begin` are defects, the others blossoms."
abbrev pub is_blossom : Table → ℕ → Bool
is_blossom t n = leb t.begin n

abbrev pub is_defect : Table → ℕ → Bool
is_defect t n = ltb n t.begin

-- "a presence mark"
abbrev pub present : Table → ℕ → Bool
present t n = is_present (at t n).state

-- a defect that has a node: "Slots below `blossom_begin` are defects", and its slot is not empty
abbrev pub is_present_defect : Table → ℕ → Bool
is_present_defect t n = is_defect t n && present t n

-- "A node is outer if it has a state."
abbrev pub outer : Table → ℕ → Bool
outer t n = is_outer (at t n).state

-- "none for a node inside a blossom"
abbrev pub inner : Table → ℕ → Bool
inner t n = is_inner (at t n).state
