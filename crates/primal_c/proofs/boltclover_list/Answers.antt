use Rattle.primal_c.proofs.Telling.{told}
use Rattle.primal_c.proofs.boltclover_list.Goals as goal

pub returns : goal.returns
returns c = told _ _ c.args.out.now _ _ _ _ _ c.list-answer.ensures c.tell.ensures
