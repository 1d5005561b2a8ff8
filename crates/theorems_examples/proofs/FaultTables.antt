-- What the examples of faults share: sound tables, ways to replace one field, and the words in which a fault is stated.
use mathlib.Core.Path.{◌≡◌, refl}
use mathlib.Core.Bool.{true}
use mathlib.Core.List.{List, [], ◌∷◌}
use Prim.Native.Nat.{ℕ}
use Rattle.slot.specs.Slot.{Link, Slot}
use Rattle.table.specs.Table.{Table}
use Rattle.table.specs.Making.{fresh}
use Rattle.table.specs.Counts.{with_defects}
use Rattle.record.specs.declared.request.Request.{Request}
use Rattle.rules.specs.Act.{alter}
use Rattle.rules.specs.Slots.{with_sibling}
use Rattle.rules.specs.Script.{meet, join, border, after, accepted_in_turn}
use Rattle.rules.specs.declared.fault.Rule.{Rule}
use Rattle.rules.specs.Fault.{no_fault, fault_at, first_fault}
use Rattle.rules.proofs.Script.{all_rules}
use Rattle.outcome.specs.Handled.{later_verdict}
use Rattle.outcome.specs.FaultInNumbers.{ToldFault}
use Rattle.theorems_examples.proofs.InTurn.{accepted_later, played}

-- ---- a fault

-- what is named for a table
abbrev pub Named : Table → Rule → ℕ → Type 0
Named t r n = first_fault t ≡ fault_at r n

-- ---- one field replaced

abbrev pub with_ring : ℕ → Slot → Slot
with_ring n s = record { state = s.state; parent = s.parent; first_child = s.first_child; sibling = s.sibling; ring = n; link = s.link }

abbrev pub with_link : (Link → Link) → Slot → Slot
with_link f s = record { state = s.state; parent = s.parent; first_child = s.first_child; sibling = s.sibling; ring = s.ring; link = f s.link }

abbrev pub with_touch : ℕ → Slot → Slot
with_touch n = with_link (λ l. record { touch = n; through = l.through; peer_touch = l.peer_touch; peer_through = l.peer_through })

abbrev pub with_through : ℕ → Slot → Slot
with_through v = with_link (λ l. record { touch = l.touch; through = v; peer_touch = l.peer_touch; peer_through = l.peer_through })

abbrev pub with_peer_touch : ℕ → Slot → Slot
with_peer_touch n = with_link (λ l. record { touch = l.touch; through = l.through; peer_touch = n; peer_through = l.peer_through })

abbrev pub with_peer_through : ℕ → Slot → Slot
with_peer_through v = with_link (λ l. record { touch = l.touch; through = l.through; peer_touch = l.peer_touch; peer_through = v })

-- ---- sound tables

-- 0 and 1 matched, 2 matched to a virtual vertex
to_pair : List Request
to_pair = join 0 1 ∷ border 2 2 12 99 ∷ []

-- 4 a root with 2 and 0 below it, 3 and 1 below those
to_tree : List Request
to_tree = join 0 1 ∷ join 2 3 ∷ join 4 0 ∷ join 4 2 ∷ []

-- 2, 0, 1 in the blossom 128, a − node between the root 4 and the + node 3
to_minus : List Request
to_minus = join 0 1 ∷ join 2 0 ∷ join 2 1 ∷ meet 128 3 1 3 11 13 ∷ meet 4 128 4 0 14 10 ∷ []

accepted : (accepted_in_turn to_pair (fresh 128) ≡ true) × (accepted_in_turn to_tree (fresh 128) ≡ true) × (accepted_in_turn to_minus (fresh 128) ≡ true)
unfolding all_rules later_verdict accepted_later to_pair to_tree to_minus
accepted = (played 128 _ tt tt, played 128 _ tt tt, played 128 _ tt tt)

unfoldable pub pair : Table
unfolding to_pair
pair = after to_pair (fresh 128)

unfoldable pub tree : Table
unfolding to_tree
tree = after to_tree (fresh 128)

unfoldable pub minus : Table
unfolding to_minus
minus = after to_minus (fresh 128)

-- no fault
all_sound : (first_fault (fresh 1) ≡ no_fault) × (first_fault (fresh 256) ≡ no_fault) × (first_fault pair ≡ no_fault) × (first_fault tree ≡ no_fault) × (first_fault minus ≡ no_fault)
unfolding all_rules pair tree minus
all_sound = (refl, refl, refl, refl, refl)

-- .. which is told as rule 0 and slot 0, and another as the rule's number and the slot
told : ToldFault (first_fault pair) 0 0 × ToldFault (first_fault (with_defects (fresh 128) 129)) 1 0 × ToldFault (first_fault (alter 2 (with_sibling 7) pair)) 2 2
unfolding all_rules pair
told = ((refl, refl), (refl, refl), (refl, refl))
