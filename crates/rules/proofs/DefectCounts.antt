-- No more present defects than slots looked at: at most 256.
use mathlib.Core.Bool.{Bool, true, false, ◌&&◌}
use Prim.Native.Nat.{ℕ, zero, suc, ◌≤◌}
use native.Mathlib.Omega.{arith}
use Rattle.lists.specs.Choice.{pick}
use Rattle.table.specs.Table.{Table}
use Rattle.table.specs.Nodes.{is_defect, present}
use Rattle.rules.specs.Refusals.{defect_at, defects_below}

-- 1 or 0, by a test
pub bit_most : (b : Bool) → pick {A = ℕ} b 1 0 ≤ 1
bit_most true = omega arith
bit_most false = omega arith

pub defect_most : (t : Table) (n : ℕ) → defect_at t n ≤ 1
unfolding defect_at
defect_most t n = bit_most (is_defect t n && present t n)

pub defects_most : (n : ℕ) (t : Table) → defects_below n t ≤ n
unfolding defects_below
defects_most zero t = omega arith
defects_most (suc n) t = omega (arith, defects_most n t, defect_most t n)
