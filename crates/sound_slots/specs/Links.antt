-- What the code asks of a slot's link and pointers.
use Rattle.std.specs.Prelude.{ℕ, Bool, not, ◌&&◌, ◌||◌, List, eqb, leb, ltb, get_or}
use Rattle.slot.specs.Slot.{Link, Slot, mirror}
use Rattle.table.specs.Table.{Table, at}
use Rattle.table.specs.Nodes.{is_blossom, is_defect}
use Rattle.rules.specs.Slots.{is_some, is_vertex, same_link, is_stay, next}
use Rattle.rules.specs.Sound.{◌⇒◌}

-- both throughs; a touch that is a defect is not none
abbrev pub is_through : Link → Bool
is_through l = is_vertex l.through && is_vertex l.peer_through

-- a defect that is x, or whose number lies in x's stretch: where the other rules hold, a defect inside x
unfoldable pub is_held : Table → List ℕ → List ℕ → ℕ → ℕ → Bool
is_held t lo hi x n = is_defect t n && (eqb n x || (leb (get_or lo x 0) (get_or lo n 0) && ltb (get_or lo n 0) (get_or hi x 0)))

-- a node that a ring was found to hold has a number
abbrev pub is_numbered : List ℕ → ℕ → Bool
is_numbered lo n = not (eqb (get_or lo n 0) 0)

-- S8, with the far end of the link; a node and a touch are held against one another by a test
unfoldable pub touches_hold : (ℕ → ℕ → Bool) → ℕ → ℕ → Link → Bool
touches_hold held n far l = held n l.touch && held far l.peer_touch

-- S1
abbrev pub ring_placed : Table → ℕ → ℕ → Bool
ring_placed t n ring = is_some ring ⇒ is_blossom t n

unfoldable pub points_back : Table → ℕ → ℕ → Bool
points_back t n peer = is_stay (at t peer).state && eqb (next t peer) n

-- a smaller peer has judged the link
unfoldable pub pair_holds : Table → ℕ → Slot → Bool
pair_holds t n s =
    points_back t n s.sibling
    && (ltb s.sibling n || (not (eqb s.sibling n) && same_link (at t s.sibling).link (mirror s.link)))
