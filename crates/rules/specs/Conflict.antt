-- What a conflict and a virtual conflict do.
use Rattle.std.specs.Prelude.{ℕ, ◌+◌}
use Rattle.slot.specs.declared.state.State.TheVariants as S
use Rattle.slot.specs.Number.{none}
use Rattle.slot.specs.Slot.{Link, Slot, mirror}
use Rattle.record.specs.declared.answer.Speed.TheVariants as P
use Rattle.record.specs.declared.request.Conflict.{Conflict}
use Rattle.record.specs.declared.request.VirtualConflict.{VirtualConflict}
use Rattle.rules.specs.Act.{Act, skip, say, change, ◌then◌, look, read, choose, alter, speed}
use Rattle.rules.specs.Slots.{with_first_child, with_state, shaped}
use Rattle.table.specs.declared.place.Place.{Place}
use Rattle.table.specs.declared.place.Place.TheVariants.{Free, Paired, Virtual, Tree}
use Rattle.table.specs.Place.{place}
use Rattle.rules.specs.Trees.{loaded, same_tree, meeting}
use Rattle.rules.specs.Matching.{temporary_match, temporary_match_virtual, augment_whole_tree}
use Rattle.rules.specs.Blossom.{lacks_blossom_slot, create_blossom}

-- the conflict's link as node_1 sees it
abbrev pub conflict_link : Conflict → Link
conflict_link c = record { touch = c.touch_1.0; through = c.vertex_1.0; peer_touch = c.touch_2.0; peer_through = c.vertex_2.0 }

-- "peer is its child with its old link"
abbrev pub leaf_below : ℕ → Slot → Slot
leaf_below parent s = shaped S.Grow parent s.first_child none s.link s

-- "free is root, matched its child"
abbrev pub root_above : ℕ → Slot → Slot
root_above child s = with_first_child child (with_state S.Grow s)

-- the matched node as a − node: "A node hung into a tree takes the conflict's link, seen from itself."
abbrev pub minus_below : ℕ → ℕ → ℕ → Link → Slot → Slot
minus_below parent peer sibling l s = shaped S.Shrink parent peer sibling l s

-- "free Grow, matched Shrink, its peer Grow; free is root, matched its child, peer the grandchild with its old link"; l as the matched node sees it
unfoldable pub grow_tree : ℕ → Link → ℕ → ℕ → Act
grow_tree root l matched peer =
    say (speed root P.Grow)
    then say (speed matched P.Shrink)
    then say (speed peer P.Grow)
    then change (alter root (root_above matched))
    then change (alter matched (minus_below root peer none l))
    then change (alter peer (leaf_below matched))

-- "matched Shrink, peer Grow; matched goes first in the + node's child list, peer is its child with its old link"
unfoldable pub hang_pair : ℕ → Link → ℕ → ℕ → Act
hang_pair plus l matched peer =
    say (speed matched P.Shrink)
    then say (speed peer P.Grow)
    then look plus
    λ s. change (alter plus (with_first_child matched))
    then change (alter matched (minus_below plus peer s.first_child l))
    then change (alter peer (leaf_below matched))

-- "one tree": "The new blossom takes slot begin + `count_blossoms`"; where none is left, refusal 8 comes first
unfoldable pub blossom_in_tree : ℕ → ℕ → Link → Act
blossom_in_tree x y l =
    read λ t.
    choose (lacks_blossom_slot t) skip (create_blossom (t.begin + t.blossoms) (t.blossoms + 1) (meeting t x y) x y l)

-- "two trees | augment at node_1, then node_2; match node_1, node_2", "one tree | make a blossom"
unfoldable pub trees_meet : ℕ → ℕ → Link → Act
trees_meet x y l =
    read λ t.
    choose (same_tree t x y)
    (blossom_in_tree x y l)
    (augment_whole_tree x then augment_whole_tree y then temporary_match x l y)

-- the table of "What a conflict does", a clause a row, either way round. l is as x sees it. Two matched nodes are refused.
abbrev pub row_of : Place → Place → ℕ → ℕ → Link → Act
row_of Free Free x y l = temporary_match x l y
row_of Free (Paired p) x y l = grow_tree x (mirror l) y p.0
row_of Free Virtual x y l = temporary_match x l y
row_of Free Tree x y l = augment_whole_tree y then temporary_match x l y
row_of (Paired p) Free x y l = grow_tree y l x p.0
row_of (Paired p) (Paired q) x y l = skip
row_of (Paired p) Virtual x y l = skip
row_of (Paired p) Tree x y l = hang_pair y l x p.0
row_of Virtual Free x y l = temporary_match y (mirror l) x
row_of Virtual (Paired q) x y l = skip
row_of Virtual Virtual x y l = skip
row_of Virtual Tree x y l = augment_whole_tree y then temporary_match x l y
row_of Tree Free x y l = augment_whole_tree x then temporary_match x l y
row_of Tree (Paired q) x y l = hang_pair x (mirror l) y q.0
row_of Tree Virtual x y l = augment_whole_tree x then temporary_match y (mirror l) x
row_of Tree Tree x y l = trees_meet x y l

unfoldable pub resolved : ℕ → ℕ → Link → Act
resolved x y l = look x λ s. look y λ r. row_of (place s) (place r) x y l

-- a conflict that is accepted
unfoldable pub conflict : Conflict → Act
conflict c =
    change (loaded c.node_1.0)
    then change (loaded c.node_2.0)
    then resolved c.node_1.0 c.node_2.0 (conflict_link c)

-- "augment if in a tree, then the node is set to Stay, matched to the virtual vertex"
abbrev pub freed : Place → ℕ → Act
freed Free n = skip
freed (Paired p) n = skip
freed Virtual n = skip
freed Tree n = augment_whole_tree n

-- a virtual conflict that is accepted
unfoldable pub virtual_conflict : VirtualConflict → Act
virtual_conflict c =
    change (loaded c.node.0)
    then look c.node.0
    λ s. freed (place s) c.node.0
    then temporary_match_virtual c.node.0 c.touch.0 c.vertex.0 c.virtual_vertex.0
