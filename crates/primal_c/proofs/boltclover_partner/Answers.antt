use Rattle.outcome.proofs.PartnerAnswers.{told_same}
use Rattle.primal_c.proofs.boltclover_partner.Goals as goal

pub returns : goal.returns
returns c = told_same _ _ _ _ _ _ _ c.partner-answer.ensures c.tell.ensures
