-- Where the ways up from two nodes meet, as the code finds it: a climb of two ends in turn, which leave marks.
use Rattle.std.specs.Prelude.{◌≡◌, ℕ, zero, suc, Bool, List, Option, Some, None, option_map, eqb, leb, set}
use Rattle.lists.specs.Choice.{pick}
use Rattle.slot.specs.declared.number.Node.{Node}
use Rattle.table.specs.Table.{Table}
use Rattle.table.specs.Marks.{unmarked, marked}
use Rattle.rules.specs.Slots.{up}
use Rattle.rules.specs.Trees.{same_tree, meeting}

-- a node that the code found, if it found one, as a number
abbrev pub found : Option Node → Option ℕ
found n = option_map (λ (m : Node). m.0) n

-- what the code's test of a node gives is what this test says of its number
abbrev pub IsTest : (Node → Bool → Type 0) → (ℕ → Bool) → Type 0
IsTest gives test = (n : Node) (b : Bool) → gives n b → b ≡ test n.0

-- no slot is above n; on a sound table n then has no parent (S2)
abbrev pub is_top : Table → ℕ → Bool
is_top t n = leb 256 (up t n)

-- the first node above n of which a test holds, if one is there; at most k steps
unfoldable pub first_above : ℕ → Table → (ℕ → Bool) → ℕ → Option ℕ
first_above zero t test n = None
first_above (suc k) t test n =
    let further = first_above k t test (up t n) in
    pick (is_top t n) None (pick (test (up t n)) (Some (up t n)) further)

-- a's end takes a step, and then it is b's turn: a marked node is where they meet, any other is marked. At its top a's end leaves the
-- rest of the climb to b's.
unfoldable pub in_turn : ℕ → Table → List ℕ → ℕ → ℕ → Option ℕ
in_turn zero t ms a b = None
in_turn (suc k) t ms a b =
    let further = in_turn k t (set ms (up t a) 1) b (up t a) in
    let alone = first_above 256 t (marked ms) b in
    pick (is_top t a) alone (pick (marked ms (up t a)) (Some (up t a)) further)

-- 256 turns each, both starting on a marked node; where one starts at its top, the other has only that node to come to
unfoldable pub met_in_turn : Table → ℕ → ℕ → Option ℕ
met_in_turn t a b =
    let climbed = in_turn 512 t (set (set unmarked a 1) b 1) a b in
    pick (is_top t a) (first_above 256 t (eqb a) b) (pick (is_top t b) (first_above 256 t (eqb b) a) climbed)

-- what that is for two different outer nodes of a sound table: 01's meeting node, or none where there are two trees
abbrev pub meeting_or_none : Table → ℕ → ℕ → Option ℕ
meeting_or_none t a b = pick (same_tree t a b) (Some (meeting t a b)) None
