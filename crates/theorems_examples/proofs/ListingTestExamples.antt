-- Worked examples of the calls that a listing makes, and of its test of a touched node's state (ticket 6 of 02): false on sound tables,
-- where a listing without it is the same, and true on two that are not sound, where it leaves out what is inside a blossom.
use mathlib.Core.Path.{◌≡◌, refl}
use mathlib.Core.Bool.{Bool, true, false}
use mathlib.Core.List.{List, [], ◌∷◌, ◌++◌}
use lib.ListN.{length}
use Prim.Native.Nat.{ℕ}
use lib.Dec.{T, ltb→lt}
use Rattle.slot.specs.declared.state.State.TheVariants as S
use Rattle.slot.specs.Number.{none}
use Rattle.slot.specs.Slot.{Link}
use Rattle.table.specs.Table.{Table}
use Rattle.table.specs.Nodes.{outer}
use Rattle.record.specs.declared.request.Request.{Request}
use Rattle.rules.specs.Act.{alter}
use Rattle.rules.specs.Slots.{with_state}
use Rattle.rules.specs.declared.fault.Rule.TheVariants.{S4, S8}
use Rattle.rules.specs.Listing.{pair_entry, virtual_entry, listing}
use Rattle.rules.specs.Script.{meet, join, border, after, accepted_in_turn}
use Rattle.rules.specs.Scenarios.{start, nested}
use Rattle.rules.proofs.Script.{all_rules}
use Rattle.outcome.specs.Handled.{later_verdict}
use Rattle.theorems_requests.specs.Named.{named_in}
use Rattle.theorems_requests.specs.ListingCalls.{pair, level, ring, Made, of_a_pair, of_a_virtual_match, inside_node, inside_peer, ring_rule, level_above, two_of_ring, behind_two}
use Rattle.theorems_requests.specs.ListingWithoutTest.{pair_untested, levels_untested, ring_untested, slot_untested, slots_untested, listing_without_test}
use Rattle.theorems_soundness.proofs.Reflect.{not_eqb↔}
use Rattle.theorems_examples.proofs.InTurn.{accepted_later, played}
use Rattle.theorems_examples.proofs.FaultTables.{Named, with_touch, with_peer_touch}

link : ℕ → ℕ → ℕ → ℕ → Link
link t v p w = record { touch = t; through = v; peer_touch = p; peer_through = w }

-- (e) of 01: 2, 0, 1 in 128, which is matched to the virtual vertex 99 at 0
one_blossom : List Request
one_blossom = join 0 1 ∷ join 2 0 ∷ join 2 1 ∷ border 128 0 30 99 ∷ []

-- 128 in 129, which is matched to 99 at a defect d
two_levels : ℕ → List Request
two_levels d = nested ++ border 129 d 40 99 ∷ []

-- 128 matched to 3 at 1, and 4 to 5
three_pairs : List Request
three_pairs = join 0 1 ∷ join 2 0 ∷ join 2 1 ∷ meet 128 3 1 3 11 13 ∷ join 4 5 ∷ []

accepted : (accepted_in_turn one_blossom start ≡ true) × (accepted_in_turn (two_levels 0) start ≡ true) × (accepted_in_turn (two_levels 4) start ≡ true) × (accepted_in_turn three_pairs start ≡ true)
unfolding all_rules later_verdict accepted_later start nested one_blossom two_levels three_pairs
accepted = (played 128 _ tt tt, played 128 _ tt tt, played 128 _ tt tt, played 128 _ tt tt)

-- opens the definitions without the test
unfoldable testing : Unit {0}
unfolding pair_untested levels_untested ring_untested slot_untested slots_untested link one_blossom two_levels three_pairs
testing = tt

by_true : (b : Bool) → b ≡ true → T b
by_true b e = rw e tt

-- ---- sound tables

-- one level: the ring nodes after 0 are 1 and 2, and then comes 0 again
calls_of_one :
    let t = after one_blossom start in
    Made t (level 128 0) × Made t (ring 0 1) × Made t (pair 1 2 (link 1 11 2 12)) × Made t (ring 0 0) × (outer t 0 ≡ false)
unfolding all_rules start testing
calls_of_one =
    let m : Made (after one_blossom start) (level 128 0) = of_a_virtual_match tt refl tt in
    let round : Made (after one_blossom start) (ring 0 1) = ring_rule m in
    let other = (not_eqb↔ 1 0).0 tt in
    (m, round, two_of_ring round other, behind_two round other, refl)

listed_of_one :
    let t = after one_blossom start in
    (listing t ≡ pair_entry (link 1 11 2 12) ∷ virtual_entry (link 0 30 none 99) ∷ [])
    × (listing_without_test t ≡ pair_entry (link 1 11 2 12) ∷ virtual_entry (link 0 30 none 99) ∷ [])
unfolding all_rules start testing
listed_of_one = (refl, refl)

-- two levels: at 0, and at 128, which is inner too
calls_of_two : let t = after (two_levels 0) start in Made t (level 129 0) × Made t (level 129 128) × (outer t 0 ≡ false) × (outer t 128 ≡ false)
unfolding all_rules start nested testing
calls_of_two =
    let m : Made (after (two_levels 0) start) (level 129 0) = of_a_virtual_match {n = 129} (by_true _ refl) refl (by_true _ refl) in
    (m, level_above m ((not_eqb↔ 128 129).0 tt), refl, refl)

listed_of_two : let t = after (two_levels 0) start in (named_in (listing t) ≡ 1 ∷ 2 ∷ 3 ∷ 4 ∷ 0 ∷ []) × (named_in (listing_without_test t) ≡ 1 ∷ 2 ∷ 3 ∷ 4 ∷ 0 ∷ [])
unfolding all_rules start nested testing
listed_of_two = (refl, refl)

-- one level at 4, the pair of 128 and 3 in its ring, and inside 128 a level at the touch of that pair
level_at_4 : Made (after (two_levels 4) start) (level 129 4)
unfolding all_rules start nested testing
level_at_4 = of_a_virtual_match {n = 129} (by_true _ refl) refl (by_true _ refl)

pair_in_ring : Made (after (two_levels 4) start) (pair 128 3 (link 1 11 3 13))
unfolding all_rules start nested testing
pair_in_ring = two_of_ring (ring_rule level_at_4) ((not_eqb↔ 128 4).0 tt)

level_inside : Made (after (two_levels 4) start) (level 128 1) × (outer (after (two_levels 4) start) 1 ≡ false)
unfolding all_rules start nested testing
level_inside = (inside_node pair_in_ring tt, refl)

-- ---- tables that are not sound

-- a touch outside its node: 128 is matched to 3 at 4, which is matched to 5
outside : Table
outside = alter 3 (with_peer_touch 4) (alter 128 (with_touch 4) (after three_pairs start))

-- the test is true at 4, and nothing inside 128 is listed; without it the pair of 4 and 5 would be listed there, again and again
true_at_4 :
    Named outside S8 3
    × Made outside (level 128 4)
    × (outer outside 4 ≡ true)
    × (named_in (listing outside) ≡ 3 ∷ 4 ∷ 4 ∷ 5 ∷ [])
    × (length (listing_without_test outside) ≡ 255)
unfolding all_rules start testing outside
true_at_4 = (refl, inside_peer (of_a_pair tt refl (ltb→lt 3 128 tt)) tt, refl, refl, refl)

-- a ring node with the state of a matched one
stay_in_ring : Table
stay_in_ring = alter 0 (with_state S.Stay) (after one_blossom start)

-- the test is true at 0, and the two listings differ: what is proved of sound tables does not hold of all
true_at_0 :
    Named stay_in_ring S4 0
    × Made stay_in_ring (level 128 0)
    × (outer stay_in_ring 0 ≡ true)
    × (listing stay_in_ring ≡ virtual_entry (link 0 30 none 99) ∷ [])
    × (listing_without_test stay_in_ring ≡ pair_entry (link 1 11 2 12) ∷ virtual_entry (link 0 30 none 99) ∷ [])
unfolding all_rules start testing stay_in_ring
true_at_0 = (refl, of_a_virtual_match tt refl tt, refl, refl, refl)
