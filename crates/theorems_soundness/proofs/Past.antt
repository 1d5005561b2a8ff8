-- Past the last slot, as at none, nothing is present; so what is present has a number below 256.
use mathlib.Core.Path.{◌≡◌, ap}
use mathlib.Core.Logic.{◌≢◌}
use Prim.Native.Nat.{ℕ, ◌≤◌, ◌<◌}
use native.Mathlib.Decide.{dec_lt}
use native.Mathlib.Omega.{arith}
use lib.Dec.{T}
use Rattle.slot.specs.declared.state.State.TheVariants as S
use Rattle.slot.specs.Number.{none}
use Rattle.slot.specs.Slot.{Slot, empty_slot}
use Rattle.table.specs.Table.{Table, at, Full}
use Rattle.table.proofs.TableLaws.{at_out}
use Rattle.table.specs.Nodes.{present, outer, inner}
use Rattle.theorems_soundness.proofs.ReflectSlots.{outer-present, inner-present}

module _ (t : Table) (full : Full t) where
  pub at_none : at t none ≡ empty_slot
  at_none = at_out t none full (omega arith)

  pub empty_past : (n : ℕ) → 256 ≤ n → (at t n).state ≡ S.Empty
  empty_past n h = ap (λ (s : Slot). s.state) (at_out t n full h)

  pub present_below : (n : ℕ) → T (present t n) → n < 256
  present_below n p = elim (dec_lt n 256) [ yes l ↦ l | no g ↦ absurd (rw (empty_past n (omega arith)) at p) ]

  pub outer_below : (n : ℕ) → T (outer t n) → n < 256
  outer_below n o = present_below n (outer-present (at t n).state o)

  pub inner_below : (n : ℕ) → T (inner t n) → n < 256
  inner_below n i = present_below n (inner-present (at t n).state i)

  pub present_some : (n : ℕ) → T (present t n) → n ≢ none
  present_some n p = omega (arith, present_below n p)
