-- The present defects, counted slot by slot.
use mathlib.Core.Path.{◌≡◌, refl}
use mathlib.Core.Bool.{true, false}
use Prim.Native.Nat.{ℕ, ◌+◌}
use native.Mathlib.Numerals.{add-one}
use native.Mathlib.Nat.{add-zero}
use Rattle.table.specs.Table.{Table}
use Rattle.table.specs.Nodes.{is_present_defect}
use Rattle.rules.specs.Refusals.{defect_at, defects_below}

module _ (t : Table) where
  pub none_yet : defects_below 0 t ≡ 0
  unfolding defects_below
  none_yet = refl

  pub one_more : (n : ℕ) → is_present_defect t n ≡ true → defects_below (n + 1) t ≡ defects_below n t + 1
  unfolding defects_below defect_at
  one_more n d = rw (add-one, d)

  pub no_more : (n : ℕ) → is_present_defect t n ≡ false → defects_below (n + 1) t ≡ defects_below n t
  unfolding defects_below defect_at
  no_more n d = rw (add-one, d, add-zero)

pub ruleset defects = (none_yet, one_more, no_more)
