use Rattle.std.proofs.Common.{◌∙◌}
use Rattle.std.proofs.lemmas.Result.{err_from_is_err_and}
use Rattle.table.proofs.WordsOfSlots.{slots_length}
use Rattle.outcome.proofs.Outcomes.{refused_by, accepted-by, judged_no_room, judged_nodes, conflict_judged}
use Rattle.requests.proofs.ConflictsSteps.{checked-once-loaded}
use Rattle.requests.proofs.conflicts.conflict.Goals as goal

pub returns-then-room-lt-COMMAND_ROOM : goal.returns-then-room-lt-COMMAND_ROOM
returns-then-room-lt-COMMAND_ROOM c s =
    rw c.into.ensures
    (refused_by _ _ _ _ _ _ (conflict_judged _ _ _ ∙ judged_no_room _ _ _ c.room.ensures c.if-room-lt-COMMAND_ROOM.true))

pub returns-in_err-judge_conflict : goal.returns-in_err-judge_conflict
returns-in_err-judge_conflict c s =
    let p = err_from_is_err_and c.from_residual.result c.from_residual.ensures.1 in
    rw (p.1, p.2)
    (refused_by _ _ _ _ _ _
    (conflict_judged _ _ _ ∙ judged_nodes _ _ _ _ c.room.ensures c.if-room-lt-COMMAND_ROOM.false c.in_err-judge_conflict.ensures))

pub returns : goal.returns
returns c s =
    let e = conflict_judged _ _ _ ∙ judged_nodes _ _ _ _ c.room.ensures c.if-room-lt-COMMAND_ROOM.false c.in_ok-judge_conflict.ensures in
    accepted-by _ _ _ _ _ _ _ _ e (c.resolve_conflict.ensures (checked-once-loaded _ _ _ (slots_length _) s e))
