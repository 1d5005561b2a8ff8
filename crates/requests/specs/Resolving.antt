-- What the rows of the conflict table may rely on, and the row of two tree nodes as the code does it.
use Rattle.std.specs.Prelude.{ℕ, ◌+◌, ◌≡◌, true, false, ◌≢◌, Option, None}
use Rattle.lists.specs.Choice.{pick}
use Rattle.slot.specs.Slot.{Link}
use Rattle.table.specs.Table.{Table}
use Rattle.table.specs.Nodes.{outer}
use Rattle.record.specs.declared.request.Conflict.{Conflict}
use Rattle.rules.specs.Act.{Act, skip, read, choose}
use Rattle.rules.specs.Sound.{sound}
use Rattle.rules.specs.Trees.{loaded, same_tree}
use Rattle.rules.specs.Blossom.{lacks_blossom_slot, create_blossom}
use Rattle.requests.specs.Meeting.{met_in_turn}

-- two nodes of a sound table that the checks have passed: both outer (4), not one (5), and, if they are in one tree, with a slot left for
-- a blossom (8)
abbrev pub Checked : Table → ℕ → ℕ → Type 0
Checked t x y = (sound t ≡ true) × (outer t x ≡ true) × (outer t y ≡ true) × (x ≢ y) × (same_tree t x y ≡ true → lacks_blossom_slot t ≡ false)

-- .. once both are loaded
abbrev pub CheckedOnceLoaded : Conflict → Table → Type 0
CheckedOnceLoaded c t = Checked (loaded c.node_2.0 (loaded c.node_1.0 t)) c.node_1.0 c.node_2.0

-- where no slot is left there are two trees, and nothing is climbed
abbrev pub met_with_slot : Table → ℕ → ℕ → Option ℕ
met_with_slot t x y = pick (lacks_blossom_slot t) None (met_in_turn t x y)

-- the blossom of two nodes that meet at m
unfoldable pub blossom_at : ℕ → ℕ → ℕ → Link → Act
blossom_at m x y l =
    read λ t.
    choose (lacks_blossom_slot t) skip (create_blossom (t.begin + t.blossoms) (t.blossoms + 1) m x y l)
