-- Which side a refusal is for, computed: 3, 4 and 6 at node_1, at node_2, and at both. No other number names a side.
use mathlib.Core.Path.{◌≡◌, refl}
use mathlib.Core.List.{[], ◌∷◌}
use Prim.Native.Nat.{ℕ}
use Rattle.std.specs.Prelude.{Ok, Err}
use Rattle.slot.specs.Number.{no_vertex}
use Rattle.table.specs.Table.{Table}
use Rattle.refusal.specs.declared.Side.TheVariants.{Neither, First, Second}
use Rattle.refusal.specs.declared.Refusal.TheVariants.{NoSuchNode, NotOuter, SameNode, TouchOutside, NotGrowing}
use Rattle.refusal.specs.Refusal.{Verdict, at_side}
use Rattle.record.specs.Records.{conflict_from, virtual_from}
use Rattle.rules.specs.Refusals.{first_of, conflict_node_checks, virtual_node_checks}
use Rattle.rules.specs.Script.{join, after}
use Rattle.rules.specs.Scenarios.{start}
use Rattle.rules.proofs.Script.{all_rules}

-- the verdict of a conflict's checks past 9: nodes, touches, vertices
abbrev met : Table → ℕ → ℕ → ℕ → ℕ → ℕ → ℕ → Verdict
met t x y tx ty vx vy = first_of (conflict_node_checks t (conflict_from (x ∷ y ∷ tx ∷ ty ∷ vx ∷ vy ∷ [])))

abbrev bordered : Table → ℕ → ℕ → ℕ → ℕ → Verdict
bordered t n touch v w = first_of (virtual_node_checks t (virtual_from (n ∷ touch ∷ v ∷ w ∷ [])))

-- 2, 0 and 1 in the blossom 128
ringed : Table
ringed = after (join 0 1 ∷ join 2 0 ∷ join 2 1 ∷ []) start

-- 3: by the node, by the vertex; at both, where one side fails by its vertex and the other by its node
no_such_node :
    (met start 256 1 0 1 10 11 ≡ Err (at_side NoSuchNode First))
    × (met start 0 256 0 1 10 11 ≡ Err (at_side NoSuchNode Second))
    × (met start 0 1 0 1 no_vertex 11 ≡ Err (at_side NoSuchNode First))
    × (met start 0 1 0 1 10 no_vertex ≡ Err (at_side NoSuchNode Second))
    × (met start 256 300 0 1 10 11 ≡ Err (at_side NoSuchNode First))
    × (met start 0 256 0 1 no_vertex 11 ≡ Err (at_side NoSuchNode First))
unfolding all_rules start
no_such_node = (refl, refl, refl, refl, refl, refl)

-- 4: at both too; and 3 at node_2 comes before 4 at node_1
not_outer :
    (met ringed 0 3 0 3 10 13 ≡ Err (at_side NotOuter First))
    × (met ringed 3 0 3 0 13 10 ≡ Err (at_side NotOuter Second))
    × (met ringed 0 1 0 1 10 11 ≡ Err (at_side NotOuter First))
    × (met ringed 0 256 0 3 10 13 ≡ Err (at_side NoSuchNode Second))
unfolding all_rules start ringed
not_outer = (refl, refl, refl, refl)

-- 6: at both too; and 4 at node_2 comes before 6 at node_1
touch_outside :
    (met start 0 1 2 1 10 11 ≡ Err (at_side TouchOutside First))
    × (met start 0 1 0 2 10 11 ≡ Err (at_side TouchOutside Second))
    × (met start 0 1 1 0 10 11 ≡ Err (at_side TouchOutside First))
    × (met ringed 3 0 5 0 13 10 ≡ Err (at_side NotOuter Second))
unfolding all_rules start ringed
touch_outside = (refl, refl, refl, refl)

-- "for a virtual conflict always 1", of its virtual vertex too
always-first :
    (bordered start 128 0 10 99 ≡ Err (at_side NoSuchNode First))
    × (bordered start 0 0 no_vertex 99 ≡ Err (at_side NoSuchNode First))
    × (bordered start 0 0 10 no_vertex ≡ Err (at_side NoSuchNode First))
    × (bordered ringed 0 0 10 99 ≡ Err (at_side NotOuter First))
    × (bordered start 0 1 10 99 ≡ Err (at_side TouchOutside First))
unfolding all_rules start ringed
always-first = (refl, refl, refl, refl, refl)

-- "0 after any other number", also where one node alone is to blame
neither :
    (met start 3 3 3 3 13 13 ≡ Err (at_side SameNode Neither))
    × (met (after (join 0 1 ∷ join 2 0 ∷ []) start) 0 3 0 3 10 13 ≡ Err (at_side NotGrowing Neither))
    × (bordered (after (join 0 1 ∷ []) start) 0 0 10 99 ≡ Err (at_side NotGrowing Neither))
    × (met start 0 1 0 1 10 11 ≡ Ok tt)
unfolding all_rules start
neither = (refl, refl, refl, refl)
