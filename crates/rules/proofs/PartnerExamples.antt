-- Worked examples of the link by which a node is paired (ticket 3 of 02): each line of the definition decides one of them.
use mathlib.Core.Path.{◌≡◌, refl}
use mathlib.Core.List.{List, [], ◌∷◌, ◌++◌}
use Prim.Native.Nat.{ℕ}
use Rattle.slot.specs.Number.{none}
use Rattle.slot.specs.Slot.{Link, no_link}
use Rattle.record.specs.declared.request.Request.{Request}
use Rattle.rules.specs.Partner.{holder, link_in_twos, paired_within, entry}
use Rattle.rules.specs.Script.{join, border, after}
use Rattle.rules.specs.Scenarios.{start, nested}
use Rattle.rules.proofs.Script.{all_rules}

link : ℕ → ℕ → ℕ → ℕ → Link
link t v p w = record { touch = t; through = v; peer_touch = p; peer_through = w }

unfoldable asking : Unit {0}
unfolding all_rules start holder link_in_twos paired_within link
asking = tt

-- outer nodes: a pair, a virtual match, a free node; in a tree the − node 0 stores a link, and is not matched
outer-nodes :
    let t = after (join 3 4 ∷ border 5 5 15 99 ∷ join 0 1 ∷ join 2 0 ∷ []) start in
    (entry t 3 ≡ link 3 13 4 14) × (entry t 4 ≡ link 4 14 3 13) × (entry t 5 ≡ link 5 15 none 99) × (entry t 0 ≡ no_link) × (entry t 1 ≡ no_link) × (entry t 2 ≡ no_link)
unfolding asking
outer-nodes = (refl, refl, refl, refl, refl, refl)

-- 128 is the ring 1, 6, 7, 3, 2, matched at 6: 6 has the blossom's link; after it come 7 with 3, and 2 with 1
ring_of_five : List Request
ring_of_five = join 2 3 ∷ join 6 7 ∷ join 1 2 ∷ join 1 6 ∷ join 3 7 ∷ border 128 6 40 99 ∷ []

two_by_two_lem :
    let t = after ring_of_five start in
    (entry t 128 ≡ link 6 40 none 99)
    × (entry t 6 ≡ link 6 40 none 99)
    × (entry t 7 ≡ link 7 17 3 13)
    × (entry t 3 ≡ link 3 13 7 17)
    × (entry t 2 ≡ link 2 12 1 11)
    × (entry t 1 ≡ link 1 11 2 12)
unfolding asking ring_of_five
two_by_two_lem = (refl, refl, refl, refl, refl, refl)

-- 128 is the ring 2, 0, 1, and 129 the ring 128, 3, 4, matched at 4: 128 is paired with 3, at 1, and so inside it 2 is paired with 0
in_a_pair :
    let t = after (nested ++ border 129 4 40 99 ∷ []) start in
    (entry t 4 ≡ link 4 40 none 99)
    × (entry t 128 ≡ link 1 11 3 13)
    × (entry t 3 ≡ link 3 13 1 11)
    × (entry t 1 ≡ link 1 11 3 13)
    × (entry t 2 ≡ link 2 12 0 10)
    × (entry t 0 ≡ link 0 10 2 12)
unfolding asking nested
in_a_pair = (refl, refl, refl, refl, refl, refl)

-- .. and in a free blossom nobody is paired
in_a_free_blossom : let t = after nested start in (entry t 129 ≡ no_link) × (entry t 128 ≡ no_link) × (entry t 0 ≡ no_link) × (entry t 3 ≡ no_link)
unfolding asking nested
in_a_free_blossom = (refl, refl, refl, refl)
