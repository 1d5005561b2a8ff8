-- Links and slots as definitions have them, every pointer a plain number; `link_of` and `slot_of` read the code's values so.
use Rattle.std.specs.Prelude.{ℕ}
use Rattle.slot.specs.declared.state.State.{State}
use Rattle.slot.specs.declared.state.State.TheVariants.{Empty, Grow}
use Rattle.slot.specs.declared.link.Link as code-link
use Rattle.slot.specs.declared.value.Slot as code-slot
use Rattle.slot.specs.Number.{none, no_vertex}

-- "a link: touch, through, peer touch, peer through. Touches are defects, throughs vertices."
pub record Link : Type 0 where
  pub touch : ℕ
  pub through : ℕ
  pub peer_touch : ℕ
  pub peer_through : ℕ

-- "A present slot has a state [..], parent, first child, sibling, and a link"; `ring` is a blossom's first blossom child
pub record Slot : Type 0 where
  pub state : State
  pub parent : ℕ
  pub first_child : ℕ
  pub sibling : ℕ
  pub ring : ℕ
  pub link : Link

abbrev pub no_link : Link
no_link = record { touch = none; through = no_vertex; peer_touch = none; peer_through = no_vertex }

-- a link seen from its other end
abbrev pub mirror : Link → Link
mirror l = record { touch = l.peer_touch; through = l.peer_through; peer_touch = l.touch; peer_through = l.through }

-- "an empty slot stores none throughout"
abbrev pub empty_slot : Slot
empty_slot = record { state = Empty; parent = none; first_child = none; sibling = none; ring = none; link = no_link }

-- "A new node is Grow with all else none."
abbrev pub new_node : Slot
new_node = record { state = Grow; parent = none; first_child = none; sibling = none; ring = none; link = no_link }

abbrev pub link_of : code-link.Link → Link
link_of l = record { touch = l.touch.0; through = l.through.0; peer_touch = l.peer_touch.0; peer_through = l.peer_through.0 }

abbrev pub slot_of : code-slot.Slot → Slot
slot_of s =
    record {
      state = s.state;
      parent = s.parent.0;
      first_child = s.first_child.0;
      sibling = s.sibling.0;
      ring = s.ring.0;
      link = link_of s.link;
    }
