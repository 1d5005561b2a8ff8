-- What an outer node is to the conflict table: free, matched to a peer, matched to a virtual vertex, or in a tree.
use Rattle.std.specs.Prelude.{Bool, not, ◌||◌, eqb}
use Rattle.lists.specs.Choice.{pick}
use Rattle.slot.specs.Number.{none}
use Rattle.slot.specs.Slot.{Slot}
use Rattle.table.specs.declared.place.Place.{Place}
use Rattle.table.specs.declared.place.Place.TheVariants.{Free, Paired, Virtual, Tree}

-- a parent or a child
abbrev pub in_tree : Slot → Bool
in_tree s = not (eqb s.parent none) || not (eqb s.first_child none)

-- a matched node has a touch, with or without a sibling; a free one has none
unfoldable pub place : Slot → Place
place s =
    pick (in_tree s) Tree
    (pick (eqb s.link.touch none) Free
    (pick (eqb s.sibling none) Virtual (Paired (record { 0 = s.sibling }))))
