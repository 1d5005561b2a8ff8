use Rattle.outcome.proofs.FaultAnswers.{told_same_fault}
use Rattle.primal_c.proofs.boltclover_fault.Goals as goal

pub returns : goal.returns
returns c = told_same_fault _ _ _ _ c.fault-answer.ensures c.tell.ensures
