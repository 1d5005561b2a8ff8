use Rattle.record.specs.declared.request.Request.TheVariants as Q
use Rattle.primal_c.proofs.Telling.{told-with-side}
use Rattle.primal_c.proofs.boltclover_virtual_conflict.Goals as goal

pub returns : goal.returns
returns c =
    told-with-side Q.VirtualConflict _ _ c.virtual_conflict-request.ensures _ c.args.out.now _ _ _ _ _ _ c.virtual_conflict-answer.ensures c.tell.ensures
    c.tell_side.ensures
