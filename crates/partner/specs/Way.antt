-- The way up from a defect, as the code notes it: a number for each slot, the node below on the way, or none.
use Rattle.std.specs.Prelude.{ℕ, zero, suc, Bool, not, List, eqb, set, get_or}
use Rattle.lists.specs.Choice.{pick}
use Rattle.slot.specs.Number.{none}
use Rattle.table.specs.Table.{Table}
use Rattle.table.specs.Nodes.{inner}
use Rattle.rules.specs.Slots.{up}

-- the climb from n: each node above another is noted with it
unfoldable pub noted : ℕ → Table → ℕ → List ℕ → List ℕ
noted zero t n w = w
noted (suc k) t n w = let above = noted k t (up t n) (set w (up t n) n) in pick (inner t n) above w

-- (past the last slot every number reads as noted; no climb on a sound table comes there)
abbrev pub is_noted : List ℕ → ℕ → Bool
is_noted w n = not (eqb (get_or w n 0) none)

-- the first node of the climb from n whose parent is noted
unfoldable pub beside_way : ℕ → Table → List ℕ → ℕ → ℕ
beside_way zero t w n = n
beside_way (suc k) t w n = let above = beside_way k t w (up t n) in pick (is_noted w (up t n)) n above
