-- Every refusal of a request just past its limit and just within it, with its side, and the order of each two that can apply together.
use mathlib.Core.Path.{◌≡◌, refl, ap, ◌∙◌}
use mathlib.Core.Bool.{true}
use mathlib.Core.List.{List, [], ◌∷◌}
use Prim.Native.Nat.{ℕ}
use Rattle.slot.specs.Slot.{new_node}
use Rattle.table.specs.Table.{Table, put}
use Rattle.table.specs.Making.{fresh}
use Rattle.record.specs.declared.request.Request.{Request}
use Rattle.record.specs.declared.request.Request.TheVariants as Q
use Rattle.rules.specs.Sound.{sound}
use Rattle.rules.specs.Script.{meet, join, border, open_up, after, accepted_in_turn}
use Rattle.outcome.specs.Handled.{later_verdict}
use Rattle.outcome.proofs.Verdicts.{sound-verdict}
use Rattle.rules.proofs.Script.{all_rules}
use Rattle.theorems_examples.specs.Told.{Gives, numbers, numbers_on}
use Rattle.theorems_examples.proofs.InTurn.{accepted_later, played}

-- 0 and 1 matched; then 2 a root, 0 its − node, 1 below; then all three in the blossom 128
pair : List Request
pair = join 0 1 ∷ []

tree : List Request
tree = join 0 1 ∷ join 2 0 ∷ []

blossom : List Request
blossom = join 0 1 ∷ join 2 0 ∷ join 2 1 ∷ []

-- 128 a − node, between the root 4 and 3; the three above are what this one begins with
minus : List Request
minus = join 0 1 ∷ join 2 0 ∷ join 2 1 ∷ meet 128 3 1 3 11 13 ∷ meet 4 128 4 0 14 10 ∷ []

accepted : (accepted_in_turn minus (fresh 128) ≡ true) × (accepted_in_turn tree (fresh 256) ≡ true) × (accepted_in_turn tree (fresh 255) ≡ true)
unfolding all_rules later_verdict accepted_later minus tree
accepted = (played 128 _ tt tt, played 256 _ tt tt, played 255 _ tt tt)

-- These tables are sound, which is computed once for each. So the numbers are those of the later checks.
later : ℕ → List Request → Request → ℕ × ℕ
later room rs r = numbers (later_verdict r (after rs (fresh 128)) room)

given : (rs : List Request) → sound (after rs (fresh 128)) ≡ true → {room : ℕ} {r : Request} {n s : ℕ} → later room rs r ≡ (n, s) → Gives room rs r n s
unfolding later
given rs h {room} {r} e = record { given = ap numbers (sound-verdict r (after rs (fresh 128)) room h) ∙ e }

on_fresh : {room : ℕ} {r : Request} {n s : ℕ} → later room [] r ≡ (n, s) → Gives room [] r n s
unfolding all_rules
on_fresh = given [] refl

on_pair : {room : ℕ} {r : Request} {n s : ℕ} → later room pair r ≡ (n, s) → Gives room pair r n s
unfolding all_rules pair
on_pair = given pair refl

on_tree : {room : ℕ} {r : Request} {n s : ℕ} → later room tree r ≡ (n, s) → Gives room tree r n s
unfolding all_rules tree
on_tree = given tree refl

on_blossom : {room : ℕ} {r : Request} {n s : ℕ} → later room blossom r ≡ (n, s) → Gives room blossom r n s
unfolding all_rules blossom
on_blossom = given blossom refl

on_minus : {room : ℕ} {r : Request} {n s : ℕ} → later room minus r ≡ (n, s) → Gives room minus r n s
unfolding all_rules minus
on_minus = given minus refl

-- a node past its count
unsound : Table
unsound = put (fresh 128) 0 new_node

-- 1: on the table above, for each request
not_sound : (numbers_on unsound 4096 (join 1 2) ≡ (1, 0)) × (numbers_on unsound 4096 (border 1 1 11 99) ≡ (1, 0)) × (numbers_on unsound 4096 (open_up 128) ≡ (1, 0)) × (numbers_on unsound 4096 Q.Reset ≡ (1, 0)) × (numbers_on unsound 4096 Q.List ≡ (1, 0)) × (numbers_on (fresh 128) 0 Q.Reset ≡ (0, 0))
unfolding all_rules numbers_on unsound
not_sound = (refl, refl, refl, refl, refl, refl)

-- 3: the first blossom slot, empty, and the last defect; past the table; a vertex that is none
no_such_node : (Gives 4096 [] (join 0 128) 3 2) × (Gives 4096 [] (join 0 127) 0 0) × (Gives 4096 [] (join 256 0) 3 1) × (Gives 4096 [] (meet 0 65535 0 1 10 11) 3 2) × (Gives 4096 [] (meet 0 1 0 1 4294967295 11) 3 1) × (Gives 4096 [] (meet 0 1 0 1 10 4294967295) 3 2) × (Gives 4096 [] (meet 0 1 0 1 4294967294 11) 0 0)
unfolding all_rules later later_verdict
no_such_node = (on_fresh refl, on_fresh refl, on_fresh refl, on_fresh refl, on_fresh refl, on_fresh refl, on_fresh refl)

no_such_node_virtual : (Gives 4096 [] (border 128 0 10 99) 3 1) × (Gives 4096 [] (border 0 0 4294967295 99) 3 1) × (Gives 4096 [] (border 0 0 10 4294967295) 3 1) × (Gives 4096 [] (border 127 127 10 99) 0 0)
unfolding all_rules later later_verdict
no_such_node_virtual = (on_fresh refl, on_fresh refl, on_fresh refl, on_fresh refl)

-- .. on both sides, by node and by vertex
no_such_nodes : (Gives 4096 [] (join 256 300) 3 1) × (Gives 4096 [] (meet 0 256 0 1 4294967295 11) 3 1) × (Gives 4096 [] (meet 256 1 0 1 10 4294967295) 3 1)
unfolding all_rules later later_verdict
no_such_nodes = (on_fresh refl, on_fresh refl, on_fresh refl)

-- 4: a node inside a blossom, on either side, and on both
not_outer : (Gives 4096 blossom (join 0 3) 4 1) × (Gives 4096 blossom (join 3 0) 4 2) × (Gives 4096 blossom (join 0 1) 4 1) × (Gives 4096 blossom (border 0 0 10 99) 4 1) × (Gives 4096 blossom (meet 128 3 0 3 10 13) 0 0)
unfolding all_rules later later_verdict blossom
not_outer = (on_blossom refl, on_blossom refl, on_blossom refl, on_blossom refl, on_blossom refl)

-- 5
same_node : (Gives 4096 [] (join 3 3) 5 0) × (Gives 4096 [] (join 3 4) 0 0)
unfolding all_rules later later_verdict
same_node = (on_fresh refl, on_fresh refl)

-- 6: another defect, loaded or not; a blossom as its own touch; past the table; a defect inside
touch_outside : (Gives 4096 pair (meet 2 0 2 1 12 10) 6 2) × (Gives 4096 [] (meet 0 1 2 1 10 11) 6 1) × (Gives 4096 blossom (meet 128 3 128 3 10 13) 6 1) × (Gives 4096 [] (meet 0 1 0 256 10 11) 6 2) × (Gives 4096 blossom (meet 128 3 3 3 10 13) 6 1) × (Gives 4096 blossom (meet 128 3 2 3 10 13) 0 0) × (Gives 4096 [] (border 0 1 10 99) 6 1)
unfolding all_rules later later_verdict pair blossom
touch_outside = (on_pair refl, on_fresh refl, on_blossom refl, on_fresh refl, on_blossom refl, on_blossom refl, on_fresh refl)

-- .. on both sides
touches_outside : (Gives 4096 [] (meet 0 1 1 0 10 11) 6 1) × (Gives 4096 blossom (meet 3 128 4 128 13 10) 6 1)
unfolding all_rules later later_verdict blossom
touches_outside = (on_fresh refl, on_blossom refl)

-- 7: a − node with a free one; two matched nodes; a matched one alone; a + node
not_growing : (Gives 4096 tree (join 0 3) 7 0) × (Gives 4096 tree (join 3 0) 7 0) × (Gives 4096 pair (join 0 1) 7 0) × (Gives 4096 pair (border 0 0 10 99) 7 0) × (Gives 4096 tree (border 0 0 10 99) 7 0) × (Gives 4096 tree (border 1 1 11 99) 0 0) × (Gives 4096 pair (join 0 2) 0 0)
unfolding all_rules later later_verdict pair tree
not_growing = (on_tree refl, on_tree refl, on_pair refl, on_pair refl, on_tree refl, on_tree refl, on_pair refl)

-- 8: one slot left is enough
no_blossom_slot : (numbers_on (after tree (fresh 256)) 4096 (join 2 1) ≡ (8, 0)) × (numbers_on (after tree (fresh 255)) 4096 (join 2 1) ≡ (0, 0))
unfolding all_rules numbers_on tree
no_blossom_slot = (refl, refl)

-- 9
no_command_room : (Gives 4095 [] (border 0 0 10 99) 9 0) × (Gives 4096 [] (border 0 0 10 99) 0 0) × (Gives 4095 minus (open_up 128) 9 0) × (Gives 4096 minus (open_up 128) 0 0)
unfolding all_rules later later_verdict minus
no_command_room = (on_fresh refl, on_fresh refl, on_minus refl, on_minus refl)

-- 10: two present defects; none
no_listing-room : (Gives 31 pair Q.List 10 0) × (Gives 32 pair Q.List 0 0) × (Gives 0 [] Q.List 0 0)
unfolding all_rules later later_verdict pair
no_listing-room = (on_pair refl, on_pair refl, on_fresh refl)

-- 11: a blossom that grows, a − defect, an empty slot, none; a − blossom
not_expandable : (Gives 4096 blossom (open_up 128) 11 0) × (Gives 4096 tree (open_up 0) 11 0) × (Gives 4096 tree (open_up 200) 11 0) × (Gives 4096 tree (open_up 65535) 11 0) × (Gives 4096 minus (open_up 128) 0 0)
unfolding all_rules later later_verdict blossom tree minus
not_expandable = (on_blossom refl, on_tree refl, on_tree refl, on_tree refl, on_minus refl)

-- ---- which of two is given

sound_before_room : numbers_on unsound 0 (join 0 0) ≡ (1, 0)
unfolding all_rules numbers_on unsound
sound_before_room = refl

room_before_node : (Gives 0 [] (join 300 0) 9 0) × (Gives 0 [] (border 300 0 10 99) 9 0) × (Gives 0 [] (open_up 0) 9 0)
unfolding all_rules later later_verdict
room_before_node = (on_fresh refl, on_fresh refl, on_fresh refl)

-- each number is tried on both nodes before the next
node_before_outer : (Gives 4096 blossom (join 0 300) 3 2) × (Gives 4096 blossom (meet 0 256 0 3 10 13) 3 2) × (Gives 4096 blossom (meet 0 3 0 3 10 4294967295) 3 2)
unfolding all_rules later later_verdict blossom
node_before_outer = (on_blossom refl, on_blossom refl, on_blossom refl)

outer_before_same : Gives 4096 blossom (join 0 0) 4 1
unfolding all_rules later later_verdict blossom
outer_before_same = on_blossom refl

outer_before_touch : Gives 4096 blossom (meet 3 0 5 0 13 10) 4 2
unfolding all_rules later later_verdict blossom
outer_before_touch = on_blossom refl

same_before_touch : Gives 4096 [] (meet 0 0 5 6 10 11) 5 0
unfolding all_rules later later_verdict
same_before_touch = on_fresh refl

touch_before_growing : (Gives 4096 tree (meet 0 3 0 5 10 13) 6 2) × (Gives 4096 tree (border 0 5 10 99) 6 1)
unfolding all_rules later later_verdict tree
touch_before_growing = (on_tree refl, on_tree refl)

growing_before_slot : numbers_on (after tree (fresh 256)) 4096 (join 2 0) ≡ (7, 0)
unfolding all_rules numbers_on tree
growing_before_slot = refl

sound_before_listing-room : numbers_on unsound 0 Q.List ≡ (1, 0)
unfolding all_rules numbers_on unsound
sound_before_listing-room = refl
