-- The two rules that walk in many ways, making a blossom and taking one apart, with k for the budget of every walk. Each definition
-- is the one of rules/specs that its name begins with, where k is 256. That none of these budgets is used up on a sound table says
-- that with every larger k the rules do and say the same.
use Rattle.std.specs.Prelude.{ℕ, zero, suc, ◌+◌, ◌%◌, false, eqb}
use Rattle.slot.specs.Slot.{Link, Slot, empty_slot}
use Rattle.table.specs.Table.{Table, at, put}
use Rattle.table.specs.Climb.{second_outer_within}
use Rattle.table.specs.Counts.{with_blossoms}
use Rattle.rules.specs.Act.{Act, skip, say, change, ◌then◌, look, read, choose, alter, same, create, expand}
use Rattle.rules.specs.Slots.{with_parent, with_first_child, with_sibling, is_none, up, next}
use Rattle.rules.specs.Walk.{walk, first_shared}
use Rattle.rules.specs.Blossom.{lacks_blossom_slot, relinked, moved, last_below, ring_up, ring_down, new_blossom}
use Rattle.rules.specs.Expansion.{steps_to, match_chain, attach_down, attach_up}

-- ---- a child replaced in its parent's list, as both rules do

unfoldable pub relisted_within : ℕ → ℕ → ℕ → ℕ → Table → Table
relisted_within k p from to t =
    choose (eqb (at t p).first_child from) (alter p (with_first_child to)) (relinked k (at t p).first_child from to) t

unfoldable pub replace_child_within : ℕ → ℕ → ℕ → ℕ → Table → Table
replace_child_within k p from to t = let u = relisted_within k p from to t in alter to (with_sibling (next u from)) u

-- ---- making a blossom

-- "The meeting node is the first node that both upward paths share"
abbrev pub meeting_by : ℕ → Table → ℕ → ℕ → ℕ
meeting_by k t x y = first_shared (walk (suc k) (up t) x) (walk (suc k) (up t) y)

-- the blossom in the meeting node's place
unfoldable pub blossom_placed_by : ℕ → ℕ → ℕ → Table → Table
blossom_placed_by k b m t = choose (is_none (up t m)) same (replace_child_within k (up t m) m b) (put t b (new_blossom m (at t m)))

-- "Children off the two paths move to the front of its list one by one": along a path, `lists` for the child lists
unfoldable pub moved_up_to_by : ℕ → ℕ → ℕ → ℕ → ℕ → ℕ → Table → Table
moved_up_to_by lists zero b m below n t = t
moved_up_to_by lists (suc k) b m below n t =
    choose (eqb n m) same (λ u. moved_up_to_by lists k b m n (up u n) (moved lists b below below (at u n).first_child u)) t

-- .. along both paths, and at the meeting node
unfoldable pub gathered_by : ℕ → ℕ → ℕ → ℕ → ℕ → Table → Table
gathered_by k b m x y t =
    let after-x = moved_up_to_by k k b m x x t in
    let after-y = moved_up_to_by k k b m y y after-x in
    moved k b (last_below k m x x t) (last_below k m y y t) (at after-y m).first_child after-y

-- the ring, and its links
unfoldable pub ringed_by : ℕ → ℕ → ℕ → ℕ → ℕ → Link → Table → Table
ringed_by k b m x y l t = ring_down k b m x l y (ring_up k b m x t)

unfoldable pub create_blossom_by : ℕ → ℕ → ℕ → ℕ → ℕ → ℕ → Link → Act
create_blossom_by k b given m x y l =
    change (λ t. with_blossoms t given)
    then change (blossom_placed_by k b m)
    then change (gathered_by k b m x y)
    then change (ringed_by k b m x y l)
    then say (create b)

-- the row "one tree", as `blossom_in_tree`
unfoldable pub blossom_in_tree_by : ℕ → ℕ → ℕ → Link → Act
blossom_in_tree_by k x y l =
    read λ t.
    choose (lacks_blossom_slot t) skip (create_blossom_by k (t.begin + t.blossoms) (t.blossoms + 1) (meeting_by k t x y) x y l)

-- ---- taking a blossom apart

-- "d the number of siblings stepped from P to C": which ring nodes are matched and which are attached
unfoldable pub ring_opened_within : ℕ → ℕ → ℕ → ℕ → ℕ → Link → Act
ring_opened_within k p c above below l =
    read λ t.
    choose (eqb (steps_to k c p t % 2) 0)
    (match_chain k p (next t c) then attach_down k c below false above l p)
    (match_chain k c (next t p) then attach_up k p above l false below c)

-- the blossom leaves the tree, and its slot is emptied
unfoldable pub disposed_within : ℕ → ℕ → ℕ → ℕ → ℕ → ℕ → Table → Table
disposed_within k b p c above below t = put (alter below (with_parent c) (replace_child_within k above b p t)) b empty_slot

unfoldable pub expand_blossom_within : ℕ → ℕ → Slot → ℕ → ℕ → Act
expand_blossom_within k b s p c =
    say (expand b)
    then ring_opened_within k p c s.parent s.first_child s.link
    then change (disposed_within k b p c s.parent s.first_child)

-- the rule, as `expansion`
unfoldable pub expansion_within : ℕ → ℕ → Act
expansion_within k b =
    look b λ s. look s.first_child λ child.
    read λ t. expand_blossom_within k b s (second_outer_within k t s.link.touch s.link.touch) (second_outer_within k t child.link.peer_touch child.link.peer_touch)
