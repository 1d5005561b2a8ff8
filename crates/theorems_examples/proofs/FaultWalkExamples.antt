-- S5 to S8, sentence by sentence: tables that break one of its clauses and no earlier rule.
use mathlib.Core.Path.{refl}
use Prim.Native.Nat.{ℕ}
use Rattle.slot.specs.declared.state.State.TheVariants as S
use Rattle.slot.specs.Number.{none, no_vertex}
use Rattle.slot.specs.Slot.{new_node}
use Rattle.table.specs.Table.{Table, at, put}
use Rattle.table.specs.Making.{fresh}
use Rattle.table.specs.Counts.{with_defects}
use Rattle.rules.specs.declared.fault.Rule.TheVariants.{S5, S6, S7, S8}
use Rattle.rules.specs.Act.{alter}
use Rattle.rules.specs.Slots.{with_parent, with_first_child, with_sibling, shaped}
use Rattle.rules.specs.Script.{after}
use Rattle.rules.specs.Scenarios.{nested}
use Rattle.rules.proofs.Script.{all_rules}
use Rattle.theorems_examples.proofs.FaultTables.{Named, with_ring, with_touch, with_through, with_peer_touch, with_peer_through, pair, tree, minus}

-- ---- S5, at the node whose child list it is

-- "to the end": the list of 4 goes round
list_goes_round : Named (alter 0 (with_sibling 2) tree) S5 4
unfolding all_rules tree
list_goes_round = refl

-- "are exactly the outer nodes naming it as parent": 2 is left out of the list of 4; 1, on the list of 0, names 2, and S4 holds of 2, whose
-- first child has no sibling; the list of 4 comes to 0, which is inside a blossom
list_not_exact : Named (alter 4 (with_first_child 0) tree) S5 4 × Named (alter 1 (with_parent 2) tree) S5 0 × Named (alter 4 (with_first_child 0) minus) S5 4
unfolding all_rules tree minus
list_not_exact = (refl, refl, refl)

-- ---- S6

-- "from its first blossom child along siblings and back", at the blossom: none to begin with, one without a sibling, a ring that comes
-- back to another node than the first
ring_not_closed : Named (alter 128 (with_ring none) minus) S6 128 × Named (alter 1 (with_sibling none) minus) S6 128 × Named (alter 1 (with_sibling 0) minus) S6 128
unfolding all_rules minus
ring_not_closed = (refl, refl, refl)

-- "is exactly the inner nodes naming it as parent, once each": 1 skipped, an outer node first, 0 naming 4, and a fourth node, 5, beside the
-- ring of three
beside : Table
unfolding minus
beside = put (with_defects minus 6) 5 (at minus 1)

ring-not-exact :
    Named (alter 0 (with_sibling 2) minus) S6 128
    × Named (alter 128 (with_ring 4) minus) S6 128
    × Named (alter 0 (with_parent 4) minus) S6 128
    × Named beside S6 128
unfolding all_rules minus beside
ring-not-exact = (refl, refl, refl, refl)

-- "odd, at least 3": 0 alone, and four nodes, of which 5 follows 1
ring_of_one : Table
unfolding minus
ring_of_one = put (put (alter 0 (with_sibling 0) (alter 128 (with_ring 0) minus)) 1 new_node) 2 new_node

ring_of_four : Table
unfolding beside
ring_of_four = alter 1 (with_sibling 5) beside

ring_size : Named ring_of_one S6 128 × Named ring_of_four S6 128
unfolding all_rules minus beside ring_of_one ring_of_four
ring_size = (refl, refl)

-- "Inner nodes have full links and no child", at the inner node and not at its blossom
inner-nodes :
    Named (alter 1 (with_touch none) minus) S6 1
    × Named (alter 1 (with_through no_vertex) minus) S6 1
    × Named (alter 1 (with_peer_touch none) minus) S6 1
    × Named (alter 1 (with_peer_through no_vertex) minus) S6 1
    × Named (alter 1 (with_first_child 0) minus) S6 1
unfolding all_rules minus
inner-nodes = (refl, refl, refl, refl, refl)

-- ---- S7

-- "Parents of tree nodes reach a root within 256 steps": a + node and a − node, each the parent and the only child of the other
circle : Table
circle = alter 0 (λ s. shaped S.Grow 1 1 none s.link s) (alter 1 (λ s. shaped S.Shrink 0 0 none s.link s) pair)

-- .. and 4 and 2, each the other's parent, with 0 below 4: it is 0 that is named, which is not on the circle but leads into it
hanging : Table
unfolding tree
hanging = put (alter 2 (with_first_child 4) (alter 4 (λ s. shaped S.Grow 2 s.first_child none (at tree 3).link s) tree)) 3 new_node

ways_up : Named circle S7 0 × Named hanging S7 0
unfolding all_rules pair tree circle hanging
ways_up = (refl, refl)

-- "An inner node's parent is a blossom": 1 inside the defect 0, and inside nothing
inside_of : ℕ → Table
inside_of n = alter 1 (λ s. shaped S.Inner n none none s.link s) (put pair 0 new_node)

-- .. and 0 inside the defect 2, whose number is larger
inside_larger : Table
inside_larger = alter 0 (λ s. shaped S.Inner 2 none none s.link s) (put pair 1 new_node)

-- ".. with a larger number": the table of `nested` with 128 and 129 in one another's place, so that 129 is a ring of 2, 0, 1 and 128 one
-- of 129, 3, 4
swapped : Table → Table
swapped t =
    alter 0 (with_parent 129)
    (alter 1 (with_parent 129)
    (alter 2 (with_parent 129)
    (alter 3 (with_parent 128)
    (alter 4 (λ s. with_parent 128 (with_sibling 129 s))
    (put (put t 128 (with_ring 129 (at t 129))) 129 (with_parent 128 (at t 128)))))))

inner_parents : Named (inside_of 0) S7 1 × Named (inside_of none) S7 1 × Named inside_larger S7 0 × Named (swapped (after nested (fresh 128))) S7 129
unfolding all_rules pair inside_of inside_larger swapped nested
inner_parents = (refl, refl, refl, refl)

-- ---- S8, each touch at the slot that stores it

-- "A link's touch is a defect inside its node": a blossom, and a defect outside
touches : Named (alter 128 (with_touch 128) minus) S8 128 × Named (alter 128 (with_touch 3) minus) S8 128
unfolding all_rules minus
touches = (refl, refl)

-- "Its peer touch is a defect inside the matched peer, the tree parent or the ring's next node": of the pair 0 and 1 the touch of 1 is
-- damaged and with it the peer touch of 0, where it is named; then a tree node's, a ring node's, and one that is a blossom
peer-touches :
    Named (alter 0 (with_peer_touch 2) (alter 1 (with_touch 2) pair)) S8 0
    × Named (alter 128 (with_peer_touch 3) minus) S8 128
    × Named (alter 2 (with_peer_touch 1) minus) S8 2
    × Named (alter 3 (with_peer_touch 128) minus) S8 3
unfolding all_rules pair minus
peer-touches = (refl, refl, refl, refl)
