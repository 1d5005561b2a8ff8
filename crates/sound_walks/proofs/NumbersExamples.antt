-- Numbers on small tables: a blossom in a blossom, and rings and parents that are no sound table's.
use Rattle.std.proofs.Common.{◌≡◌, ℕ, true, false, [], ◌∷◌, replicate, refl}
use Rattle.slot.specs.declared.state.State.{State}
use Rattle.slot.specs.declared.state.State.TheVariants.{Inner, Grow}
use Rattle.slot.specs.Number.{none}
use Rattle.slot.specs.Slot.{Slot, no_link}
use Rattle.table.specs.Table.{Table, at, put}
use Rattle.table.specs.Making.{fresh}
use Rattle.sound_slots.specs.Links.{is_held}
use Rattle.sound_walks.specs.Numbers.{Numbers, numbers_of, blossom_by, node_by, ring_from, outer_numbered, outers_numbered}

-- parent, sibling and first blossom child
node : State → ℕ → ℕ → ℕ → Slot
node s p n r = record { state = s; parent = p; first_child = none; sibling = n; ring = r; link = no_link }

-- defects 0 to 4; 5 is a ring of 2, 0, 1, and 6 one of 3, 5, 4
nested : Table
nested =
    put (put (put (put (put (put (put (fresh 5)
    0 (node Inner 5 1 none))
    1 (node Inner 5 2 none))
    2 (node Inner 5 0 none))
    3 (node Inner 6 5 none))
    4 (node Inner 6 3 none))
    5 (node Inner 6 4 2))
    6 (node Grow none none 3)

numbers : Table → Numbers
numbers t = outers_numbered t 2 5 (numbers_of (replicate 7 0) (replicate 7 0) 1)

nested_lo : (numbers nested).lo ≡ 3 ∷ 4 ∷ 2 ∷ 1 ∷ 5 ∷ 2 ∷ 1 ∷ []
unfolding numbers nested node outers_numbered outer_numbered blossom_by node_by ring_from at put fresh
nested_lo = refl

nested_hi : (numbers nested).hi ≡ 0 ∷ 0 ∷ 0 ∷ 0 ∷ 0 ∷ 5 ∷ 6 ∷ []
unfolding numbers nested node outers_numbered outer_numbered blossom_by node_by ring_from at put fresh
nested_hi = refl

-- 1 is inside 5, and 4 is not
held_inside : is_held nested (numbers nested).lo (numbers nested).hi 5 1 ≡ true
unfolding numbers nested node outers_numbered outer_numbered blossom_by node_by ring_from is_held at put fresh
held_inside = refl

held_not : is_held nested (numbers nested).lo (numbers nested).hi 5 4 ≡ false
unfolding numbers nested node outers_numbered outer_numbered blossom_by node_by ring_from is_held at put fresh
held_not = refl

nested_free : (numbers nested).free ≡ 6
unfolding numbers nested node outers_numbered outer_numbered blossom_by node_by ring_from at put fresh
nested_free = refl

-- a ring of four
even : Table
even = put (put nested 4 (node Inner 6 0 none)) 0 (node Inner 6 3 none)

even_broken : (numbers even).free ≡ 0
unfolding even numbers nested node outers_numbered outer_numbered blossom_by node_by ring_from at put fresh
even_broken = refl

-- the ring of 6 goes round without its first node: 3, 4, 5, 4, ..
looping : Table
looping = put (put nested 3 (node Inner 6 4 none)) 4 (node Inner 6 5 none)

looping_broken : (numbers looping).free ≡ 0
unfolding looping numbers nested node outers_numbered outer_numbered blossom_by node_by ring_from at put fresh
looping_broken = refl

-- 5 and 6 each name the other as parent: no outer blossom is there to begin from
circle : Table
circle = put nested 6 (node Inner 5 none 3)

circle_lo : (numbers circle).lo ≡ replicate 7 0
unfolding circle numbers nested node outers_numbered outer_numbered blossom_by node_by ring_from at put fresh
circle_lo = refl
