use Rattle.record.specs.declared.request.Request.TheVariants as Q
use Rattle.primal_c.proofs.Telling.{told-as}
use Rattle.primal_c.proofs.boltclover_expand.Goals as goal

pub returns : goal.returns
returns c = told-as Q.Expansion _ _ c.expansion-request.ensures _ c.args.out.now _ _ _ _ _ c.expand-answer.ensures c.tell.ensures
