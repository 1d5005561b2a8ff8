-- "Slots past each count are empty; an empty slot stores none throughout": which slots can hold anything.
use mathlib.Core.Path.{◌≡◌, refl}
use mathlib.Core.Bool.{Bool, true, false}
use mathlib.Core.Logic.{inl, inr}
use Prim.Native.Nat.{ℕ, ◌+◌}
use native.Mathlib.Omega.{arith}
use lib.Dec.{leb}
use borrow.Author.Tests.{leb-true}
use Rattle.lists.specs.Choice.{pick}
use Rattle.slot.specs.Slot.{empty_slot}
use Rattle.table.specs.Table.{Table, at}
use Rattle.table.specs.Counts.{blossom_end}
use Rattle.table.specs.Nodes.{present}
use Rattle.theorems_soundness.specs.Facts.{Sound, Given}
use Rattle.theorems_soundness.proofs.Reflect.{test_case}
use Rattle.theorems_soundness.proofs.ReflectSlots.{not_present↔}

module _ (t : Table) (s : Sound t) where
  pub end_of_blossoms : blossom_end t ≡ t.begin + t.blossoms
  unfolding blossom_end
  end_of_blossoms = go (leb 256 (t.begin + t.blossoms)) refl
    where
      go : (b : Bool) → leb 256 (t.begin + t.blossoms) ≡ b → pick b 256 (t.begin + t.blossoms) ≡ t.begin + t.blossoms
      go true e = omega (arith, leb-true 256 (t.begin + t.blossoms) e, s.rest.sizes.blossoms_fit)
      go false e = refl

  -- a slot that was not given out stores nothing
  pub not_given : (n : ℕ) → (Given t n → ⊥) → at t n ≡ empty_slot
  not_given n h =
      elim (test_case (present t n)) [
        | inl p ↦ absurd (h (s.rest.given n p))
        | inr q ↦ s.rest.bare n ((not_present↔ (at t n).state).0 q)
      ]
