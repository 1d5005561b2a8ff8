-- A slot with one pointer replaced.
use Rattle.std.specs.Prelude.{ℕ}
use Rattle.slot.specs.Slot.{Slot}
use Rattle.table.specs.declared.storing.Pointer.{Pointer}
use Rattle.table.specs.declared.storing.Pointer.TheVariants.{Parent, FirstChild, Sibling}

abbrev pub parent_replaced : ℕ → Slot → Slot
parent_replaced n s = record { state = s.state; parent = n; first_child = s.first_child; sibling = s.sibling; ring = s.ring; link = s.link }

abbrev pub first_child_replaced : ℕ → Slot → Slot
first_child_replaced n s = record { state = s.state; parent = s.parent; first_child = n; sibling = s.sibling; ring = s.ring; link = s.link }

abbrev pub sibling_replaced : ℕ → Slot → Slot
sibling_replaced n s = record { state = s.state; parent = s.parent; first_child = s.first_child; sibling = n; ring = s.ring; link = s.link }

abbrev pub pointer_replaced : Pointer → ℕ → Slot → Slot
pointer_replaced Parent = parent_replaced
pointer_replaced FirstChild = first_child_replaced
pointer_replaced Sibling = sibling_replaced
