-- A run handles record after record, and each leaves a sound table sound: so the table at its end is sound, and so is each on the
-- way.
use Prim.Native.Nat.{ℕ}
use Rattle.record.specs.declared.request.Request.{Request}
use Rattle.rules.specs.Act.{World}
use Rattle.rules.specs.Run.{Progress, room, served, run_from}
use Rattle.rules.proofs.RunInduction.{run_induction}
use Rattle.theorems_soundness.specs.RuleFacts.{Whole}
use Rattle.theorems_soundness.proofs.Keeping.{answered_keeps}

pub served_whole : (q : Request) (w : World) → Whole w.table → Whole (served q w).table
unfolding served
served_whole q w h = answered_keeps q (room w) w.table h

pub run_whole : (k : ℕ) (p : Progress) → Whole p.world.table → Whole (run_from k p).progress.world.table
run_whole =
    run_induction (λ n p e. Whole p.world.table → Whole e.progress.world.table)
    (λ s p w. w)
    (λ n p q size e r fits ih w. ih (served_whole q p.world w))
