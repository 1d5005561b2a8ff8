-- Loading a node, and the trees that nodes stand in.
use Rattle.std.specs.Prelude.{ℕ, zero, suc, max, Bool, not, ◌&&◌, List, eqb}
use Rattle.lists.specs.Choice.{pick}
use Rattle.slot.specs.Number.{none}
use Rattle.slot.specs.Slot.{Slot, new_node}
use Rattle.table.specs.Table.{Table, at, put}
use Rattle.table.specs.Counts.{with_defects}
use Rattle.table.specs.Nodes.{is_defect, present}
use Rattle.rules.specs.Act.{choose, same}
use Rattle.rules.specs.Slots.{is_none, is_some, up}
use Rattle.rules.specs.Walk.{walk, first_shared}

-- "An empty defect slot named here or in a virtual conflict becomes a new node first"
abbrev pub is_unloaded : Table → ℕ → Bool
is_unloaded t n = is_defect t n && not (present t n)

-- `count_defects` "is one more than the highest defect named"
unfoldable pub loaded : ℕ → Table → Table
loaded n t = choose (is_unloaded t n) (λ u. with_defects (put u n new_node) (max u.defects (suc n))) same t

-- "the checks read it as that free node"
abbrev pub seen : Table → ℕ → Slot
seen t n = pick (is_unloaded t n) new_node (at t n)

-- ---- trees

-- n and the nodes above it, to the root
abbrev pub upward : Table → ℕ → List ℕ
upward t n = walk 257 (up t) n

-- the node without a parent that the way up from n comes to within k steps, or none
unfoldable pub root_within : ℕ → Table → ℕ → ℕ
root_within zero t n = pick (is_none (up t n)) n none
root_within (suc k) t n = let above = root_within k t (up t n) in pick (is_none (up t n)) n above

abbrev pub root : Table → ℕ → ℕ
root t n = root_within 256 t n

abbrev pub same_tree : Table → ℕ → ℕ → Bool
same_tree t a b = is_some (root t a) && eqb (root t a) (root t b)

-- "The meeting node is the first node that both upward paths share."
abbrev pub meeting : Table → ℕ → ℕ → ℕ
meeting t a b = first_shared (upward t a) (upward t b)
