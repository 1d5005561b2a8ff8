use Rattle.std.proofs.Common.{◌∙◌}
use Rattle.std.proofs.lemmas.Result.{err_from_is_err_and}
use Rattle.outcome.proofs.Outcomes.{refused_by, judged_nodes, expansion_judged}
use Rattle.request_expansion.proofs.expand.Goals as goal

pub returns-in_err-judge_expansion : goal.returns-in_err-judge_expansion
returns-in_err-judge_expansion c =
    let p = err_from_is_err_and c.from_residual.result c.from_residual.ensures.1 in
    rw (p.1, p.2)
    (refused_by _ _ _ _ _ _
    (expansion_judged _ _ _ ∙ judged_nodes _ _ _ _ c.room.ensures c.if-room-lt-COMMAND_ROOM.false c.in_err-judge_expansion.ensures))
