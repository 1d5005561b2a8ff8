use Rattle.outcome.proofs.Outcomes.{accepted-by}
use Rattle.primal.proofs.Resets.{reset_accepted, reset-world}
use Rattle.primal.proofs.Served.{handled_sound}
use Rattle.primal.proofs.serving.answer_of.Goals as goal

pub invariant_of-t : goal.invariant_of-t
invariant_of-t c = record { is_sound = handled_sound _ _ _ _ c.args.t.now.is_sound _ _ _ (c.conflict.ensures c.args.t.now.is_sound) }

pub invariant_of-t-in-VirtualConflict : goal.invariant_of-t-in-VirtualConflict
invariant_of-t-in-VirtualConflict c = record { is_sound = handled_sound _ _ _ _ c.args.t.now.is_sound _ _ _ c.virtual_conflict.ensures }

pub invariant_of-t-in-Expansion : goal.invariant_of-t-in-Expansion
invariant_of-t-in-Expansion c = record { is_sound = handled_sound _ _ _ _ c.args.t.now.is_sound _ _ _ c.expand.ensures }

pub returns-in-Reset : goal.returns-in-Reset
returns-in-Reset c =
    (rw c.in-Reset.is (accepted-by _ _ _ _ _ _ _ _ (reset_accepted _ _) (reset-world _ _ _ _ c.reset.ensures.0)), c.reset.ensures.1)
