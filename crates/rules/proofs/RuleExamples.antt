-- Worked examples about single rules. Each pins something that the examples of 01 leave open, and what it says was compared with the
-- original. That each of these requests is accepted, and what it leaves is sound, is computed in `theorems_examples/proofs/RulesApply`.
use mathlib.Core.Path.{◌≡◌, refl}
use mathlib.Core.List.{[], ◌∷◌, ◌++◌}
use Prim.Native.Nat.{ℕ}
use Rattle.slot.specs.Number.{none}
use Rattle.slot.specs.Slot.{Link}
use Rattle.table.specs.Table.{at}
use Rattle.record.specs.declared.request.Request.TheVariants as Q
use Rattle.rules.specs.Act.{expand}
use Rattle.rules.specs.Sound.{children, ring_of}
use Rattle.rules.specs.Listing.{pair_entry, virtual_entry}
use Rattle.rules.specs.Script.{meet, join, border, open_up, after, rule_says, stays, grows, shrinks}
use Rattle.rules.specs.Scenarios.{start, branches, bushy, ring_of_five, nested}
use Rattle.rules.proofs.Script.{all_rules}

link : ℕ → ℕ → ℕ → ℕ → Link
link t v p w = record { touch = t; through = v; peer_touch = p; peer_through = w }

-- ---- rows of the conflict table

-- a node matched to a virtual vertex is no free node: the free one is matched first, though it is named second
virtual_is_not_free : rule_says (border 0 0 10 99 ∷ []) (join 0 1) start ≡ stays 1 ∷ stays 0 ∷ []
unfolding all_rules start
virtual_is_not_free = refl

-- a tree node and a node matched to a virtual vertex: the matched one first, whichever is named first
tree_with_virtual : rule_says (join 0 1 ∷ join 2 0 ∷ border 3 3 13 99 ∷ []) (join 1 3) start ≡ stays 1 ∷ stays 0 ∷ stays 0 ∷ stays 2 ∷ stays 3 ∷ stays 1 ∷ []
unfolding all_rules start
tree_with_virtual = refl

virtual_with_tree : rule_says (join 0 1 ∷ join 2 0 ∷ border 3 3 13 99 ∷ []) (join 3 1) start ≡ stays 1 ∷ stays 0 ∷ stays 0 ∷ stays 2 ∷ stays 3 ∷ stays 1 ∷ []
unfolding all_rules start
virtual_with_tree = refl

-- two trees: node_1's is augmented first
two_trees : rule_says (join 0 1 ∷ join 2 0 ∷ join 3 4 ∷ join 5 3 ∷ []) (join 1 5) start ≡ stays 1 ∷ stays 0 ∷ stays 0 ∷ stays 2 ∷ stays 4 ∷ stays 3 ∷ stays 1 ∷ stays 5 ∷ []
unfolding all_rules start
two_trees = refl

-- ---- augmenting

-- virtual at a − node's child: the − node is matched to it, then to the root, then the child to the virtual vertex; the sibling
-- that the first match left behind is cleared
virtual_below : (rule_says (join 0 1 ∷ join 2 0 ∷ []) (border 1 1 11 99) start ≡ stays 1 ∷ stays 0 ∷ stays 0 ∷ stays 2 ∷ stays 1 ∷ []) × ((at (after (join 0 1 ∷ join 2 0 ∷ border 1 1 11 99 ∷ []) start) 1).sibling ≡ none)
unfolding all_rules start
virtual_below = (refl, refl)

-- a pair hung later stands first in the child list, and is augmented first
child_list_order : (children (after (join 0 1 ∷ join 2 3 ∷ join 4 0 ∷ join 4 2 ∷ []) start) 4 ≡ 2 ∷ 0 ∷ []) × (rule_says (join 0 1 ∷ join 2 3 ∷ join 4 0 ∷ join 4 2 ∷ []) (join 5 4) start ≡ stays 3 ∷ stays 2 ∷ stays 1 ∷ stays 0 ∷ stays 5 ∷ stays 4 ∷ [])
unfolding all_rules start
child_list_order = (refl, refl)

-- augmented at the + node in the middle
augment-in-the-middle :
    rule_says branches (join 1 5) start
    ≡ stays 9 ∷ stays 8 ∷ stays 7 ∷ stays 6 ∷ stays 3 ∷ stays 2 ∷ stays 1 ∷ stays 0 ∷ stays 0 ∷ stays 4 ∷ stays 1 ∷ stays 5 ∷ []
unfolding all_rules start branches
augment-in-the-middle = refl

-- ---- making a blossom

-- both paths and the meeting node have children off the paths
children-moved :
    (ring_of (after bushy start) 128 ≡ 1 ∷ 6 ∷ 7 ∷ 3 ∷ 2 ∷ [])
    × (children (after bushy start) 128 ≡ 8 ∷ 12 ∷ 10 ∷ 14 ∷ [])
    × (children (after bushy start) 0 ≡ 128 ∷ [])
unfolding all_rules start bushy
children-moved = (refl, refl, refl)

-- the blossom stands where the meeting node stood, by the same link
meeting_link : (at (after bushy start) 128).link ≡ link 1 11 0 10
unfolding all_rules start bushy link
meeting_link = refl

-- ---- taking a blossom apart

-- two steps from P to C
opened_even :
    (rule_says (ring_of_five 6 3) (open_up 128) start ≡ expand 128 ∷ stays 2 ∷ stays 1 ∷ shrinks 6 ∷ grows 7 ∷ shrinks 3 ∷ [])
    × (children (after (ring_of_five 6 3 ++ open_up 128 ∷ []) start) 21 ≡ 22 ∷ 6 ∷ [])
unfolding all_rules start ring_of_five
opened_even = (refl, refl)

-- three steps from P to C
opened_odd :
    (rule_says (ring_of_five 6 2) (open_up 128) start ≡ expand 128 ∷ stays 7 ∷ stays 3 ∷ shrinks 2 ∷ grows 1 ∷ shrinks 6 ∷ [])
    × (children (after (ring_of_five 6 2 ++ open_up 128 ∷ []) start) 21 ≡ 22 ∷ 6 ∷ [])
unfolding all_rules start ring_of_five
opened_odd = (refl, refl)

-- P and C are one node
opened-at-one :
    rule_says (ring_of_five 3 3) (open_up 128) start ≡ expand 128 ∷ stays 2 ∷ stays 1 ∷ stays 6 ∷ stays 7 ∷ shrinks 3 ∷ []
unfolding all_rules start ring_of_five
opened-at-one = refl

-- ---- listing

-- touched in the inner blossom: its level first, then the level above
listed-from-below :
    rule_says (nested ++ border 129 0 40 99 ∷ []) Q.List start
    ≡ pair_entry (link 1 11 2 12) ∷ pair_entry (link 3 13 4 14) ∷ virtual_entry (link 0 40 none 99) ∷ []
unfolding all_rules start nested link
listed-from-below = refl

-- touched beside it: the inner blossom is opened for a ring pair
listed-through-a-pair :
    rule_says (nested ++ border 129 4 40 99 ∷ []) Q.List start
    ≡ pair_entry (link 2 12 0 10) ∷ pair_entry (link 1 11 3 13) ∷ virtual_entry (link 4 40 none 99) ∷ []
unfolding all_rules start nested link
listed-through-a-pair = refl

-- two blossoms matched to one another: the pairs inside the smaller number, then inside its peer, then the entry
listed-blossom-pair :
    rule_says (nested ++ join 20 21 ∷ join 22 20 ∷ join 22 21 ∷ meet 130 129 20 3 50 51 ∷ []) Q.List start
    ≡ pair_entry (link 0 10 1 11)
    ∷ pair_entry (link 4 14 2 12)
    ∷ pair_entry (link 21 31 22 32)
    ∷ pair_entry (link 3 51 20 50)
    ∷ []
unfolding all_rules start nested link
listed-blossom-pair = refl
