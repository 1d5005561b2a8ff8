-- Every request, accepted or refused, keeps a sound table sound: the rows without a blossom, making one, taking one apart, reset.
use mathlib.Core.Path.{◌≡◌, refl}
use Prim.Native.Nat.{ℕ}
use Rattle.refusal.specs.Refusal.{Verdict}
use Rattle.std.specs.Prelude.{Ok, Err}
use Rattle.table.specs.Table.{Table}
use Rattle.record.specs.declared.request.Conflict.{Conflict}
use Rattle.record.specs.declared.request.Request.{Request}
use Rattle.record.specs.declared.request.Request.TheVariants as Q
use Rattle.rules.specs.Act.{skip, change}
use Rattle.rules.specs.Conflict.{conflict_link, conflict}
use Rattle.rules.specs.Calls.{list, act_of, act_by, verdict, answered}
use Rattle.theorems_soundness.specs.RuleFacts.{Whole}
use Rattle.theorems_soundness.proofs.Making.{blossom_keeps}
use Rattle.theorems_soundness.proofs.Accepting.{conflict_keeps_by, virtual_keeps}
use Rattle.theorems_soundness.proofs.Expanding.{expansion_keeps}
use Rattle.theorems_soundness.proofs.Resetting.{reset_keeps}

pub conflict_keeps : (t : Table) (room : ℕ) (c : Conflict) → Whole t → verdict (Q.Conflict c) t room ≡ Ok tt → Whole (conflict c t).table
conflict_keeps t room c w e = conflict_keeps_by t room c w e (blossom_keeps c.node_1.0 c.node_2.0 (conflict_link c))

pub act_keeps : (r : Request) (room : ℕ) (t : Table) → Whole t → verdict r t room ≡ Ok tt → Whole (act_of r t).table
unfolding change list
act_keeps (Q.Conflict c) room t w e = conflict_keeps t room c w e
act_keeps (Q.VirtualConflict c) room t w e = virtual_keeps t room c w e
act_keeps (Q.Expansion x) room t w e = expansion_keeps t room x w e
act_keeps Q.Reset room t w e = reset_keeps t w
act_keeps Q.List room t w e = w

by_verdict : (r : Request) (room : ℕ) (t : Table) → Whole t → (v : Verdict) → verdict r t room ≡ v → Whole (act_by v r t).table
unfolding skip
by_verdict r room t w (Ok u) e = act_keeps r room t w e
by_verdict r room t w (Err x) e = w

pub answered_keeps : (r : Request) (room : ℕ) (t : Table) → Whole t → Whole (answered r room t).table
unfolding answered
answered_keeps r room t w = by_verdict r room t w (verdict r t room) refl
