-- A sound table is sound after every call: making, each request accepted or refused, reset, and a run of any length.
use mathlib.Core.Path.{◌≡◌}
use Prim.Native.Nat.{ℕ, ◌≤◌}
use lib.Dec.{T}
use Rattle.std.specs.Prelude.{Ok}
use Rattle.table.specs.Table.{Table, Full}
use Rattle.table.specs.Making.{fresh, emptied}
use Rattle.record.specs.declared.request.Conflict.{Conflict}
use Rattle.record.specs.declared.request.VirtualConflict.{VirtualConflict}
use Rattle.record.specs.declared.request.Expansion.{Expansion}
use Rattle.record.specs.declared.request.Request.{Request}
use Rattle.record.specs.declared.request.Request.TheVariants as Q
use Rattle.rules.specs.Act.{World}
use Rattle.rules.specs.Sound.{sound}
use Rattle.rules.specs.Conflict.{conflict, virtual_conflict}
use Rattle.rules.specs.Expansion.{expansion}
use Rattle.rules.specs.Calls.{verdict, answered}
use Rattle.rules.specs.Run.{Progress, served, run_from}
use Rattle.theorems_soundness.proofs.Wholes.{to_whole, from_whole}
use Rattle.theorems_soundness.proofs.Accepting.{virtual_keeps}
use Rattle.theorems_soundness.proofs.Expanding.{expansion_keeps}
use Rattle.theorems_soundness.proofs.Resetting.{fresh_whole, reset_keeps}
use Rattle.theorems_soundness.proofs.Keeping.{conflict_keeps, answered_keeps}
use Rattle.theorems_soundness.proofs.Serving.{served_whole, run_whole}

-- "begin is 1 to 256": a table as made
pub made_sound : (begin : ℕ) → 1 ≤ begin → begin ≤ 256 → T (sound (fresh begin))
made_sound begin low high = from_whole (fresh begin) (fresh_whole begin low high)

module _ (t : Table) (full : Full t) (s : T (sound t)) where
  -- each rule, where the request is accepted
  pub conflict_keeps_sound : (room : ℕ) (c : Conflict) → verdict (Q.Conflict c) t room ≡ Ok tt → T (sound (conflict c t).table)
  conflict_keeps_sound room c e = from_whole (conflict c t).table (conflict_keeps t room c (to_whole t full s) e)

  pub virtual_conflict_keeps_sound : (room : ℕ) (c : VirtualConflict) → verdict (Q.VirtualConflict c) t room ≡ Ok tt → T (sound (virtual_conflict c t).table)
  virtual_conflict_keeps_sound room c e = from_whole (virtual_conflict c t).table (virtual_keeps t room c (to_whole t full s) e)

  pub expansion_keeps_sound : (room : ℕ) (e : Expansion) → verdict (Q.Expansion e) t room ≡ Ok tt → T (sound (expansion e.node.0 t).table)
  expansion_keeps_sound room e a = from_whole (expansion e.node.0 t).table (expansion_keeps t room e (to_whole t full s) a)

  pub reset_keeps_sound : T (sound (emptied t))
  reset_keeps_sound = from_whole (emptied t) (reset_keeps t (to_whole t full s))

  -- any request with any room, refused or accepted; and there are still 256 slots
  pub answered_keeps_sound : (r : Request) (room : ℕ) → T (sound (answered r room t).table)
  answered_keeps_sound r room = from_whole (answered r room t).table (answered_keeps r room t (to_whole t full s))

  pub answered_keeps_full : (r : Request) (room : ℕ) → Full (answered r room t).table
  answered_keeps_full r room = (answered_keeps r room t (to_whole t full s)).full

-- one record of a run
pub served_keeps_sound : (r : Request) (w : World) → Full w.table → T (sound w.table) → T (sound (served r w).table)
served_keeps_sound r w full s = from_whole (served r w).table (served_whole r w (to_whole w.table full s))

-- a run, wherever it stands, with any allowance
pub run_keeps_sound : (allowance : ℕ) (p : Progress) → Full p.world.table → T (sound p.world.table) → T (sound (run_from allowance p).progress.world.table)
run_keeps_sound allowance p full s = from_whole (run_from allowance p).progress.world.table (run_whole allowance p (to_whole p.world.table full s))
