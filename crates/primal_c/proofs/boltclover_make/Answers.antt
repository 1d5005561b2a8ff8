use Rattle.primal_c.proofs.Telling.{told-made}
use Rattle.primal_c.proofs.boltclover_make.Goals as goal

pub returns : goal.returns
returns c = told-made _ _ c.args.begin c.make-answer.result _ c.make-answer.ensures c.answer_number.ensures
