-- What ticket 1 of 02 says of sides: "refusal 3, 4 or 6", "[t]he check of one named node".
use Rattle.std.specs.Prelude.{ℕ, Bool, true, false}
use Rattle.table.specs.Table.{Table}
use Rattle.refusal.specs.declared.Refusal.{Refusal}
use Rattle.refusal.specs.declared.Refusal.TheVariants.{NotSound, NoRecordRoom, NoSuchNode, NotOuter, SameNode, TouchOutside, NotGrowing, NoBlossomSlot, NoCommandRoom, NoListingRoom, NotExpandable, BadRecord, BadBegin}
use Rattle.record.specs.declared.request.Request.{Request}
use Rattle.record.specs.declared.request.Request.TheVariants as Q
use Rattle.record.specs.declared.request.Conflict.{Conflict}
use Rattle.rules.specs.Refusals.{is_no_side, is_not_outer, is_outside}

-- the requests whose named nodes are sides: a conflict has two, a virtual conflict one
abbrev pub has_sides : Request → Bool
has_sides (Q.Conflict c) = true
has_sides (Q.VirtualConflict c) = true
has_sides (Q.Expansion e) = false
has_sides Q.Reset = false
has_sides Q.List = false

-- the numbers that are asked of one named node: 3, 4 and 6
abbrev pub is_of_one_node : Refusal → Bool
is_of_one_node NotSound = false
is_of_one_node NoRecordRoom = false
is_of_one_node NoSuchNode = true
is_of_one_node NotOuter = true
is_of_one_node SameNode = false
is_of_one_node TouchOutside = true
is_of_one_node NotGrowing = false
is_of_one_node NoBlossomSlot = false
is_of_one_node NoCommandRoom = false
is_of_one_node NoListingRoom = false
is_of_one_node NotExpandable = false
is_of_one_node BadRecord = false
is_of_one_node BadBegin = false

-- whether the check of a number fails at a named node, with its touch and its vertex
abbrev pub fails_at : Refusal → Table → ℕ → ℕ → ℕ → Bool
fails_at NotSound t n touch v = false
fails_at NoRecordRoom t n touch v = false
fails_at NoSuchNode t n touch v = is_no_side t n v
fails_at NotOuter t n touch v = is_not_outer t n
fails_at SameNode t n touch v = false
fails_at TouchOutside t n touch v = is_outside t n touch
fails_at NotGrowing t n touch v = false
fails_at NoBlossomSlot t n touch v = false
fails_at NoCommandRoom t n touch v = false
fails_at NoListingRoom t n touch v = false
fails_at NotExpandable t n touch v = false
fails_at BadRecord t n touch v = false
fails_at BadBegin t n touch v = false

-- .. at node_1 of a conflict, and at node_2
abbrev pub fails_at_first : Refusal → Table → Conflict → Bool
fails_at_first n t c = fails_at n t c.node_1.0 c.touch_1.0 c.vertex_1.0

abbrev pub fails_at_second : Refusal → Table → Conflict → Bool
fails_at_second n t c = fails_at n t c.node_2.0 c.touch_2.0 c.vertex_2.0
