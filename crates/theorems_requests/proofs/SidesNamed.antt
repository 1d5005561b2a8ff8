-- Which side a refusal names, in the words of ticket 1 of 02, whatever the table and the room. The work is in SideChecks.
use mathlib.Core.Path.{◌≡◌}
use mathlib.Core.Bool.{true, false}
use Prim.Native.Nat.{ℕ}
use Rattle.std.specs.Prelude.{Err}
use Rattle.lists.specs.Choice.{pick}
use Rattle.table.specs.Table.{Table}
use Rattle.refusal.specs.declared.Side.{Side}
use Rattle.refusal.specs.declared.Side.TheVariants.{Neither, First, Second}
use Rattle.refusal.specs.declared.Refusal.{Refusal}
use Rattle.refusal.specs.Refusal.{at_side}
use Rattle.record.specs.declared.request.Conflict.{Conflict}
use Rattle.record.specs.declared.request.VirtualConflict.{VirtualConflict}
use Rattle.record.specs.declared.request.Request.{Request}
use Rattle.record.specs.declared.request.Request.TheVariants as Q
use Rattle.rules.specs.Calls.{verdict}
use Rattle.theorems_requests.specs.Sides.{is_of_one_node, fails_at_first, fails_at_second, has_sides}
use Rattle.theorems_requests.proofs.SideChecks.{conflict-at_its_side, virtual_always_first, other_no_side}

module _ (t : Table) (room : ℕ) (n : Refusal) where
  -- ---- a conflict

  -- side 1: its check fails
  pub first_fails : (c : Conflict) → verdict (Q.Conflict c) t room ≡ Err (at_side n First) → (is_of_one_node n ≡ true) × (fails_at_first n t c ≡ true)
  first_fails c e = rw e at (conflict-at_its_side t room c)

  -- side 2: its check fails, and the same check of side 1 does not; so "[w]hen both sides fail the same check, side 1 is named"
  pub second-alone-fails :
      (c : Conflict)
      → verdict (Q.Conflict c) t room ≡ Err (at_side n Second)
      → (is_of_one_node n ≡ true) × (fails_at_second n t c ≡ true) × (fails_at_first n t c ≡ false)
  second-alone-fails c e = rw e at (conflict-at_its_side t room c)

  -- "0 after any other number": no side with any number but 3, 4 and 6
  pub neither_with_others : (c : Conflict) → verdict (Q.Conflict c) t room ≡ Err (at_side n Neither) → is_of_one_node n ≡ false
  neither_with_others c e = rw e at (conflict-at_its_side t room c)

  -- ---- the other requests

  -- "for a virtual conflict always 1", with 3, 4 and 6
  pub virtual_first : (c : VirtualConflict) (s : Side) → verdict (Q.VirtualConflict c) t room ≡ Err (at_side n s) → s ≡ pick (is_of_one_node n) First Neither
  virtual_first c s e = rw e at (virtual_always_first t room c)

  -- an expansion, a reset and a listing name none
  pub no_side : (r : Request) (s : Side) → has_sides r ≡ false → verdict r t room ≡ Err (at_side n s) → s ≡ Neither
  no_side r s h e = rw e at (other_no_side r h t room)
