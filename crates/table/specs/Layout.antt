-- Where the words of a table stand: the one place that numbers them, as src/layout has them.
use Rattle.std.specs.Prelude.{ℕ}
use Rattle.table.specs.declared.storing.Pointer.{Pointer}
use Rattle.table.specs.declared.storing.Pointer.TheVariants.{Parent, FirstChild, Sibling}

-- mark, parent, first child, sibling, first blossom child, and six words of the link
abbrev pub slot_size : ℕ
slot_size = 11

-- the word of each pointer that rules set alone
abbrev pub pointer_place : Pointer → ℕ
pointer_place Parent = 1
pointer_place FirstChild = 2
pointer_place Sibling = 3

-- where the link begins in its slot
abbrev pub link_place : ℕ
link_place = 5

-- behind the 256 slots
abbrev pub begin_place : ℕ
begin_place = 2816

abbrev pub defects_place : ℕ
defects_place = 2817

abbrev pub blossoms_place : ℕ
blossoms_place = 2818

abbrev pub table_size : ℕ
table_size = 2819
