-- What a request concerns, on a table with trees 2, 0, 1 and 5, 3, 4, the pair 6, 7, node 8 matched to a virtual vertex and the free
-- blossom 128 of 12, 10, 11. That the requests which make it are accepted is computed in `theorems_examples/proofs/RulesApply`.
use mathlib.Core.Path.{◌≡◌, refl}
use mathlib.Core.Bool.{true, false}
use mathlib.Core.List.{List, [], ◌∷◌}
use Prim.Native.Nat.{ℕ}
use Rattle.lists.specs.Choice.{pick}
use Rattle.table.specs.Table.{Table}
use Rattle.table.specs.Making.{fresh}
use Rattle.record.specs.declared.request.Request.{Request}
use Rattle.rules.specs.Concerns.{concerns, is_making}
use Rattle.rules.specs.Script.{join, border, open_up, after}
use Rattle.rules.specs.Scenarios.{mixture}
use Rattle.rules.proofs.Script.{all_rules}

mixed : Table
unfolding all_rules mixture
mixed = after mixture (fresh 128)

-- which of some nodes a request concerns
unfoldable among : Request → List ℕ → List ℕ
among r [] = []
among r (m ∷ ms) = pick (concerns r mixed m) (m ∷ among r ms) (among r ms)

unfoldable concerned : Request → List ℕ
concerned r = among r (0 ∷ 1 ∷ 2 ∷ 3 ∷ 4 ∷ 5 ∷ 6 ∷ 7 ∷ 8 ∷ 9 ∷ 10 ∷ 11 ∷ 12 ∷ 128 ∷ 129 ∷ [])

-- a tree is concerned whole, and no other
in_a_tree : concerned (border 1 1 11 99) ≡ 0 ∷ 1 ∷ 2 ∷ []
unfolding all_rules mixed among concerned
in_a_tree = refl

-- of a pair, both nodes
in_a_pair : concerned (border 7 7 17 99) ≡ 6 ∷ 7 ∷ []
unfolding all_rules mixed among concerned
in_a_pair = refl

-- a node matched to a virtual vertex, a free node and one that is not loaded yet: that node alone
single : concerned (border 8 8 18 99) ≡ 8 ∷ []
unfolding all_rules mixed among concerned
single = refl

free_blossom : concerned (border 128 10 20 99) ≡ 128 ∷ []
unfolding all_rules mixed among concerned
free_blossom = refl

not_loaded : concerned (border 9 9 19 99) ≡ 9 ∷ []
unfolding all_rules mixed among concerned
not_loaded = refl

-- a conflict concerns what either of its nodes does
of_both : concerned (join 4 6) ≡ 3 ∷ 4 ∷ 5 ∷ 6 ∷ 7 ∷ []
unfolding all_rules mixed among concerned
of_both = refl

-- two + nodes of one tree make a blossom; + nodes of two trees, and a + node with a pair, make none
making : (is_making (join 1 2) mixed ≡ true) × (is_making (join 1 5) mixed ≡ false) × (is_making (join 1 6) mixed ≡ false) × (is_making (open_up 128) mixed ≡ false)
unfolding all_rules mixed
making = (refl, refl, refl, refl)
