-- Worked examples of the climb in turn, in a tree with two branches at the root and two below: 4 is the root, 0 and 2 stand below it,
-- 1 below 0 and 3 below 2, 6 and 8 below 1, 7 below 6 and 9 below 8. Beside it stands the tree 22, 20, 21.
use mathlib.Core.Path.{◌≡◌, refl}
use mathlib.Core.List.{[], ◌∷◌, ◌++◌}
use Rattle.std.specs.Prelude.{Some, None}
use Rattle.table.specs.Table.{Table}
use Rattle.table.specs.Marks.{marked}
use Rattle.rules.specs.Trees.{meeting}
use Rattle.rules.specs.Script.{join, after}
use Rattle.rules.specs.Scenarios.{start, branches}
use Rattle.rules.proofs.Script.{all_rules}
use Rattle.requests.specs.Meeting.{first_above, in_turn, met_in_turn}

unfoldable grown : Table
grown = after (branches ++ (join 20 21 ∷ join 22 20 ∷ [])) start

-- both ends are equally far from the meeting node, and it is no root
level : (met_in_turn grown 7 9 ≡ Some 1) × (meeting grown 7 9 ≡ 1)
unfolding all_rules start branches grown marked first_above in_turn met_in_turn
level = (refl, refl)

-- one is farther, either way round: the nearer end has gone past the meeting node by then
uneven : (met_in_turn grown 8 7 ≡ Some 1) × (met_in_turn grown 7 8 ≡ Some 1) × (meeting grown 7 8 ≡ 1)
unfolding all_rules start branches grown marked first_above in_turn met_in_turn
uneven = (refl, refl, refl)

-- .. or waits at it, the root
waiting : (met_in_turn grown 7 3 ≡ Some 4) × (met_in_turn grown 3 7 ≡ Some 4) × (meeting grown 3 7 ≡ 4)
unfolding all_rules start branches grown marked first_above in_turn met_in_turn
waiting = (refl, refl, refl)

-- one stands above the other: it is the meeting node itself, though its end climbs on
above : (met_in_turn grown 1 9 ≡ Some 1) × (met_in_turn grown 9 1 ≡ Some 1) × (meeting grown 1 9 ≡ 1)
unfolding all_rules start branches grown marked first_above in_turn met_in_turn
above = (refl, refl, refl)

-- a root
root : (met_in_turn grown 4 9 ≡ Some 4) × (met_in_turn grown 9 4 ≡ Some 4)
unfolding all_rules start branches grown marked first_above in_turn met_in_turn
root = (refl, refl)

-- two trees
two_trees : (met_in_turn grown 1 21 ≡ None) × (met_in_turn grown 21 9 ≡ None) × (met_in_turn grown 4 21 ≡ None) × (met_in_turn grown 9 22 ≡ None)
unfolding all_rules start branches grown marked first_above in_turn met_in_turn
two_trees = (refl, refl, refl, refl)
