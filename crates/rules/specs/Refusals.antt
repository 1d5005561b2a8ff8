-- "Numbers given back": which refusals each call has, in which order, when each applies, and at which side (ticket 1 of 02).
use Rattle.std.specs.Prelude.{ℕ, zero, suc, ◌+◌, ◌*◌, Bool, not, ◌&&◌, ◌||◌, List, [], ◌∷◌, eqb, leb, ltb, Ok, Err}
use Rattle.lists.specs.Choice.{pick}
use Rattle.slot.specs.Number.{no_vertex}
use Rattle.slot.specs.State.{is_outer, is_present}
use Rattle.table.specs.Table.{Table, at}
use Rattle.table.specs.Nodes.{is_blossom, is_present_defect}
use Rattle.refusal.specs.declared.Refusal.{Refusal}
use Rattle.refusal.specs.declared.Refusal.TheVariants.{NotSound, NoSuchNode, NotOuter, SameNode, TouchOutside, NotGrowing, NoBlossomSlot, NoCommandRoom, NoListingRoom, NotExpandable}
use Rattle.refusal.specs.declared.Side.{Side}
use Rattle.refusal.specs.declared.Side.TheVariants.{Neither, First, Second}
use Rattle.refusal.specs.Refusal.{at_side, Verdict}
use Rattle.record.specs.declared.request.Conflict.{Conflict}
use Rattle.record.specs.declared.request.VirtualConflict.{VirtualConflict}
use Rattle.record.specs.declared.request.Expansion.{Expansion}
use Rattle.rules.specs.Slots.{is_grow, is_shrink}
use Rattle.rules.specs.Sound.{sound, is_defect_inside}
use Rattle.rules.specs.Blossom.{lacks_blossom_slot}
use Rattle.table.specs.Place.{in_tree}
use Rattle.rules.specs.Trees.{seen, same_tree}

-- a test, the refusal that is given where it is true, and the side that the refusal is for
pub record Check : Type 0 where
  pub applies : Bool
  pub refusal : Refusal
  pub side : Side

-- the check of one named node
infix 68 ◌on◌when◌
abbrev pub ◌on◌when◌ : Refusal → Side → Bool → Check
r on s when b = record { applies = b; refusal = r; side = s }

-- .. and one that is for neither side
infix 68 ◌when◌
abbrev pub ◌when◌ : Refusal → Bool → Check
r when b = record { applies = b; refusal = r; side = Neither }

-- "The first that applies is given."
abbrev pub first_of : List Check → Verdict
first_of [] = Ok tt
first_of (c ∷ cs) = pick c.applies (Err (at_side c.refusal c.side)) (first_of cs)

-- ---- the tests

-- 9: "command room below 4,096 bytes"
abbrev pub lacks_command_room : ℕ → Bool
lacks_command_room room = ltb room 4096

-- 3: "a named node is ≥ 256 or an empty blossom slot"
abbrev pub is_no_node : Table → ℕ → Bool
is_no_node t n = leb 256 n || not (is_present (seen t n).state)

-- ".. or a vertex is none"
abbrev pub is_no_vertex : ℕ → Bool
is_no_vertex v = eqb v no_vertex

-- 3 at one side: of its node, or of its vertex
abbrev pub is_no_side : Table → ℕ → ℕ → Bool
is_no_side t n v = is_no_node t n || is_no_vertex v

-- 4: "a named node is not outer"
abbrev pub is_not_outer : Table → ℕ → Bool
is_not_outer t n = not (is_outer (seen t n).state)

-- 6: "a touch is not a defect inside its node"
abbrev pub is_outside : Table → ℕ → ℕ → Bool
is_outside t n touch = not (is_defect_inside t n touch)

-- 7: "a node is −"; "no named node is Grow"
abbrev pub is_minus_node : Table → ℕ → Bool
is_minus_node t n = is_shrink (seen t n).state

abbrev pub is_growing : Table → ℕ → Bool
is_growing t n = is_grow (seen t n).state

-- a conflict of two nodes of one tree: "a blossom is to be made"
abbrev pub makes_blossom : Table → ℕ → ℕ → Bool
makes_blossom t x y = in_tree (seen t x) && in_tree (seen t y) && same_tree t x y

-- 1 for a present defect
unfoldable pub defect_at : Table → ℕ → ℕ
defect_at t n = pick (is_present_defect t n) 1 0

-- the present defects below n
unfoldable pub defects_below : ℕ → Table → ℕ
defects_below zero t = 0
defects_below (suc n) t = defects_below n t + defect_at t n

abbrev pub present_defects : Table → ℕ
present_defects t = defects_below 256 t

-- 10: "listing room below 16 bytes for each present defect"
abbrev pub lacks_listing_room : Table → ℕ → Bool
lacks_listing_room t room = ltb room (16 * present_defects t)

-- 11: "node to expand is not a present − blossom"
abbrev pub is_not_expandable : Table → ℕ → Bool
is_not_expandable t n = not (is_blossom t n && is_shrink (at t n).state)

-- ---- the calls, each with its numbers in 01's order; each number is tried on both nodes before the next, and "[w]hen both sides
-- fail the same check, side 1 is named"

abbrev pub conflict_not_growing : Table → Conflict → Bool
conflict_not_growing t c =
    is_minus_node t c.node_1.0
    || is_minus_node t c.node_2.0
    || not (is_growing t c.node_1.0 || is_growing t c.node_2.0)

abbrev pub conflict_lacks_slot : Table → Conflict → Bool
conflict_lacks_slot t c = makes_blossom t c.node_1.0 c.node_2.0 && lacks_blossom_slot t

-- "3, 4, 5, 6, 7, 8", of which 3, 4 and 6 name a side
unfoldable pub conflict_node_checks : Table → Conflict → List Check
conflict_node_checks t c =
    NoSuchNode on First when is_no_side t c.node_1.0 c.vertex_1.0
    ∷ NoSuchNode on Second when is_no_side t c.node_2.0 c.vertex_2.0
    ∷ NotOuter on First when is_not_outer t c.node_1.0
    ∷ NotOuter on Second when is_not_outer t c.node_2.0
    ∷ SameNode when eqb c.node_1.0 c.node_2.0
    ∷ TouchOutside on First when is_outside t c.node_1.0 c.touch_1.0
    ∷ TouchOutside on Second when is_outside t c.node_2.0 c.touch_2.0
    ∷ NotGrowing when conflict_not_growing t c
    ∷ NoBlossomSlot when conflict_lacks_slot t c
    ∷ []

-- "Conflict order: 1, 9, 3, 4, 5, 6, 7, 8."
abbrev pub conflict_checks : Table → ℕ → Conflict → List Check
conflict_checks t room c = NotSound when not (sound t) ∷ NoCommandRoom when lacks_command_room room ∷ conflict_node_checks t c

-- "3, 4, 6, 7": of one node, "a node is −, or no named node is Grow" says that it is not Grow; the side is "for a virtual conflict
-- always 1", of its virtual vertex too
unfoldable pub virtual_node_checks : Table → VirtualConflict → List Check
virtual_node_checks t c =
    NoSuchNode on First when is_no_side t c.node.0 c.vertex.0
    ∷ NoSuchNode on First when is_no_vertex c.virtual_vertex.0
    ∷ NotOuter on First when is_not_outer t c.node.0
    ∷ TouchOutside on First when is_outside t c.node.0 c.touch.0
    ∷ NotGrowing when not (is_growing t c.node.0)
    ∷ []

-- "Virtual: 1, 9, 3, 4, 6, 7."
abbrev pub virtual_checks : Table → ℕ → VirtualConflict → List Check
virtual_checks t room c = NotSound when not (sound t) ∷ NoCommandRoom when lacks_command_room room ∷ virtual_node_checks t c

-- "11"
unfoldable pub expansion_node_checks : Table → Expansion → List Check
expansion_node_checks t e = NotExpandable when is_not_expandable t e.node.0 ∷ []

-- "Expansion: 1, 9, 11."
abbrev pub expansion_checks : Table → ℕ → Expansion → List Check
expansion_checks t room e = NotSound when not (sound t) ∷ NoCommandRoom when lacks_command_room room ∷ expansion_node_checks t e

-- "Reset: 1."
abbrev pub reset_checks : Table → List Check
reset_checks t = NotSound when not (sound t) ∷ []

-- "Listing: 1, 10."
abbrev pub list_checks : Table → ℕ → List Check
list_checks t room = NotSound when not (sound t) ∷ NoListingRoom when lacks_listing_room t room ∷ []

-- "Refusals: 1, then 3 for a number that is no present defect" (ticket 3 of 02)
abbrev pub defect_checks : Table → ℕ → List Check
defect_checks t d = NoSuchNode when not (is_present_defect t d) ∷ []

abbrev pub partner_checks : Table → ℕ → List Check
partner_checks t d = NotSound when not (sound t) ∷ defect_checks t d
