-- What the code does in its last pass, with the marks of lists and a list of depths, 0 where the depth is not known.
use Rattle.std.specs.Prelude.{ℕ, zero, suc, ◌+◌, true, false, List, ◌==◌, nat_le, slice_index, slice_set}
use Rattle.lists.specs.Choice.{pick}
use Rattle.slot.specs.Number.{none}
use Rattle.table.specs.Table.{Table}
use Rattle.table.specs.Nodes.{inner}
use Rattle.rules.specs.Slots.{is_none, up}
use Rattle.table.specs.Marks.{marked}
use Rattle.sound_walks.specs.Marks.{Judged, judged_of}

-- c more than the steps from n along parents to none; none if there are more than k to a node whose depth is known
unfoldable pub measured : Table → List ℕ → ℕ → ℕ → ℕ → ℕ
measured t l zero n c = pick (is_none n) c (pick (slice_index l n == 0) none (c + slice_index l n))
measured t l (suc k) n c =
    let rest = measured t l k (up t n) (c + 1) in
    pick (is_none n) c (pick (slice_index l n == 0) rest (c + slice_index l n))

-- the depths on the way up from n, whose depth is d, to a node whose depth is known
unfoldable pub recorded : Table → ℕ → ℕ → List ℕ → List ℕ
recorded t zero n l = l
recorded t (suc d) n l = let rest = recorded t d (up t n) (slice_set l n (suc d)) in pick (slice_index l n == 0) rest l

-- a node without a parent is at the top
unfoldable pub depth_step : Table → ℕ → List ℕ → Judged
depth_step t n l =
    pick (is_none (up t n)) (judged_of true l)
    (pick (nat_le (measured t l 257 n 0) 257) (judged_of true (recorded t (measured t l 257 n 0) n l)) (judged_of false l))

-- an outer node with a parent is marked in l, by child lists, and the way up from it ends
unfoldable pub way_step : Table → List ℕ → ℕ → List ℕ → Judged
way_step t l n deep =
    pick (is_none (up t n)) (judged_of true deep)
    (pick (inner t n) (judged_of true deep)
    (pick (marked l n) (depth_step t n deep) (judged_of false deep)))
