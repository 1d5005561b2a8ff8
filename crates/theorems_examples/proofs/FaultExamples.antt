-- S1 to S4, sentence by sentence: tables that break one of its clauses and no earlier rule, and then tables with several faults.
use mathlib.Core.Path.{refl}
use Rattle.slot.specs.declared.state.State.TheVariants as S
use Rattle.slot.specs.Number.{none, no_vertex}
use Rattle.slot.specs.Slot.{new_node}
use Rattle.table.specs.Table.{put}
use Rattle.table.specs.Making.{fresh}
use Rattle.table.specs.Counts.{with_defects, with_blossoms}
use Rattle.rules.specs.declared.fault.Rule.TheVariants.{S1, S2, S3, S4}
use Rattle.rules.specs.Act.{alter}
use Rattle.rules.specs.Slots.{with_state, with_parent, with_first_child, with_sibling}
use Rattle.rules.proofs.Script.{all_rules}
use Rattle.theorems_examples.proofs.FaultTables.{Named, with_ring, with_touch, with_through, with_peer_touch, with_peer_through, pair, tree, minus}

-- ---- S1

-- "begin is 1 to 256, `count_defects` ≤ begin, begin + `count_blossoms` ≤ 256", at slot 0
sizes : Named (fresh 0) S1 0 × Named (fresh 257) S1 0 × Named (with_defects (fresh 128) 129) S1 0 × Named (with_blossoms (fresh 128) 129) S1 0
unfolding all_rules
sizes = (refl, refl, refl, refl)

-- "Slots past each count are empty"
past_counts : Named (put pair 3 new_node) S1 3 × Named (put pair 128 new_node) S1 128
unfolding all_rules pair
past_counts = (refl, refl)

-- "an empty slot stores none throughout"
empty-stores :
    Named (alter 9 (with_parent 0) pair) S1 9
    × Named (alter 9 (with_first_child 0) pair) S1 9
    × Named (alter 9 (with_sibling 0) pair) S1 9
    × Named (alter 200 (with_ring 0) pair) S1 200
    × Named (alter 9 (with_touch 0) pair) S1 9
    × Named (alter 9 (with_through 0) pair) S1 9
    × Named (alter 9 (with_peer_touch 0) pair) S1 9
    × Named (alter 9 (with_peer_through 0) pair) S1 9
unfolding all_rules pair
empty-stores = (refl, refl, refl, refl, refl, refl, refl, refl)

-- "Only present blossoms have a first blossom child."
ring_of_a_defect : Named (alter 1 (with_ring 0) pair) S1 1
unfolding all_rules pair
ring_of_a_defect = refl

-- no rule of 01 allows another mark than the five: such a slot breaks S1
damaged_mark : Named (alter 1 (with_state S.Damaged) pair) S1 1 × Named (alter 77 (with_state S.Damaged) pair) S1 77
unfolding all_rules pair
damaged_mark = (refl, refl)

-- ---- S2

-- "Each stored parent, child, sibling and first blossom child names a present slot."
pointers :
    Named (alter 2 (with_parent 5) pair) S2 2
    × Named (alter 0 (with_first_child 300) pair) S2 0
    × Named (alter 1 (with_sibling 128) pair) S2 1
    × Named (with_blossoms (put pair 128 (with_ring 7 new_node)) 1) S2 128
unfolding all_rules pair
pointers = (refl, refl, refl, refl)

-- ---- S3

-- "free (Grow, the rest none)"
free-stores :
    Named (alter 2 (with_state S.Grow) pair) S3 2
    × Named (with_defects (put (fresh 128) 0 (with_sibling 0 new_node)) 1) S3 0
    × Named (with_defects (put (fresh 128) 0 (with_through 10 new_node)) 1) S3 0
unfolding all_rules pair
free-stores = (refl, refl, refl)

-- "Stay, with touch and both throughs"
matched-lacks :
    Named (alter 2 (with_state S.Shrink) pair) S3 2
    × Named (alter 2 (with_touch none) pair) S3 2
    × Named (alter 2 (with_through no_vertex) pair) S3 2
    × Named (alter 2 (with_peer_through no_vertex) pair) S3 2
unfolding all_rules pair
matched-lacks = (refl, refl, refl, refl)

-- "either a sibling, another matched node, pointing back": itself, also by a link that is its own mirror; a node that is matched to another,
-- one that points elsewhere with the mirrored link, a free one, one with a child, one that does not stay
sibling-elsewhere :
    Named (alter 0 (with_sibling 0) pair) S3 0
    × Named (put (alter 0 (λ s. with_sibling 0 (with_peer_touch 0 (with_peer_through 10 s))) pair) 1 new_node) S3 0
    × Named (alter 1 (with_sibling 2) pair) S3 0
    × Named (alter 2 (λ s. with_sibling 0 (with_peer_touch 0 s)) pair) S3 2
    × Named (put pair 1 new_node) S3 0
    × Named (alter 1 (with_first_child 2) pair) S3 0
    × Named (alter 1 (with_state S.Grow) pair) S3 0
unfolding all_rules pair
sibling-elsewhere = (refl, refl, refl, refl, refl, refl, refl)

-- "with the mirrored link and a peer touch": whichever of the two was damaged, 0 is named, since neither link is the other's mirror; in the
-- last each is, and neither has what it needs of the other's touch
not-mirrored :
    Named (alter 0 (with_through 55) pair) S3 0
    × Named (alter 1 (with_through 55) pair) S3 0
    × Named (alter 1 (with_touch 0) pair) S3 0
    × Named (alter 0 (with_peer_touch none) (alter 1 (with_touch none) pair)) S3 0
unfolding all_rules pair
not-mirrored = (refl, refl, refl, refl)

-- "or sibling and peer touch none (matched to the virtual vertex in peer through)"
virtual_touched : Named (alter 2 (with_peer_touch 2) pair) S3 2 × Named (alter 0 (with_sibling none) pair) S3 0
unfolding all_rules pair
virtual_touched = (refl, refl)

-- ---- S4

-- "a root (Grow, a child, no parent, no sibling, empty link)"
roots : Named (alter 4 (with_sibling 1) tree) S4 4 × Named (alter 4 (with_through 7) tree) S4 4 × Named (alter 4 (with_state S.Stay) tree) S4 0
unfolding all_rules tree
roots = (refl, refl, refl)

-- "a − node (Shrink, full link, Grow parent, exactly one child)": a second child is one that the first has for a sibling, and any Grow
-- node will do for the parent
minus-nodes :
    Named (alter 0 (with_state S.Grow) tree) S4 0
    × Named (alter 2 (with_peer_touch none) tree) S4 2
    × Named (alter 2 (with_parent 0) tree) S4 2
    × Named (alter 2 (with_first_child none) tree) S4 2
    × Named (alter 3 (with_sibling 1) tree) S4 2
unfolding all_rules tree
minus-nodes = (refl, refl, refl, refl, refl)

-- "another + node (Grow, full link, no sibling, a − node as parent)"
plus-nodes :
    Named (alter 3 (with_touch none) tree) S4 3
    × Named (alter 1 (with_sibling 3) tree) S4 0
    × Named (alter 3 (with_parent 4) tree) S4 3
    × Named (alter 4 (with_parent 3) tree) S4 4
    × Named (alter 3 (with_sibling 4) minus) S4 3
unfolding all_rules tree minus
plus-nodes = (refl, refl, refl, refl, refl)

-- ---- several faults

-- the lowest slot of the first rule that fails
lowest : Named (alter 9 (with_sibling 0) (alter 40 (with_sibling 0) (alter 7 (with_state S.Damaged) pair))) S1 7
unfolding all_rules pair
lowest = refl

-- an earlier rule is named before a later one, though its slot is higher
earlier_rule : Named (alter 200 (with_ring 0) (alter 0 (with_sibling 0) (alter 1 (with_first_child 300) pair))) S1 200 × Named (alter 0 (with_sibling 0) (alter 1 (with_first_child 300) pair)) S2 1
unfolding all_rules pair
earlier_rule = (refl, refl)
