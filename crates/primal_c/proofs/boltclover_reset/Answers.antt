use Rattle.primal_c.proofs.Telling.{told-reset}
use Rattle.primal_c.proofs.boltclover_reset.Goals as goal

pub returns : goal.returns
returns c = told-reset _ _ _ _ c.reset-answer.ensures c.answer_number.ensures
