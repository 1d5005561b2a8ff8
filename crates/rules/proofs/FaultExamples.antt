-- Worked examples of the rule and the slot that are named for a damaged table (ticket 5 of 02): the lowest slot, the first rule, and where
-- S5 and S6 are judged. A table for each sentence of S1 to S8 stands in `theorems_examples`.
use mathlib.Core.Path.{◌≡◌, refl}
use mathlib.Core.List.{List, [], ◌∷◌}
use Rattle.record.specs.declared.request.Request.{Request}
use Rattle.rules.specs.declared.fault.Rule.TheVariants.{S1, S2, S5, S6}
use Rattle.rules.specs.Act.{alter}
use Rattle.rules.specs.Slots.{with_first_child, with_sibling}
use Rattle.rules.specs.Fault.{no_fault, fault_at, first_fault}
use Rattle.rules.specs.Script.{join, after}
use Rattle.rules.specs.Scenarios.{start}
use Rattle.rules.proofs.Script.{all_rules}

sound_table : first_fault start ≡ no_fault
unfolding all_rules start
sound_table = refl

-- an empty slot that stores something, at 7 and at 9; and at 9 alone with a pointer to nothing at 0, which a later rule judges
lowest_slot : first_fault (alter 9 (with_sibling 0) (alter 7 (with_sibling 0) start)) ≡ fault_at S1 7
unfolding all_rules start
lowest_slot = refl

first-rule :
    let t = alter 0 (with_first_child 300) (after (join 0 1 ∷ []) start) in
    (first_fault t ≡ fault_at S2 0) × (first_fault (alter 9 (with_sibling 0) t) ≡ fault_at S1 9)
unfolding all_rules start
first-rule = (refl, refl)

-- 4 is a root with the children 2 and 0; without 2 on its list S5 fails at 4, and neither at 2 nor at 0
at_the_parent : first_fault (alter 4 (with_first_child 0) (after (join 0 1 ∷ join 2 3 ∷ join 4 0 ∷ join 4 2 ∷ []) start)) ≡ fault_at S5 4
unfolding all_rules start
at_the_parent = refl

-- 2, 0, 1 is the ring of 128: a ring that lacks a node fails at 128, a ring node with a child at that node
ring : List Request
ring = join 0 1 ∷ join 2 0 ∷ join 2 1 ∷ []

at_the_blossom : first_fault (alter 0 (with_sibling 2) (after ring start)) ≡ fault_at S6 128
unfolding all_rules start ring
at_the_blossom = refl

at_the_inner_node : first_fault (alter 1 (with_first_child 0) (after ring start)) ≡ fault_at S6 1
unfolding all_rules start ring
at_the_inner_node = refl
