use Rattle.boltclover_show.proofs.turns.serve_turn.Goals as goal
use Rattle.record.proofs.Theorems.{read_promised}
use Rattle.boltclover_show.proofs.Laws.{whole}

pub slice_bounds-serve-end : goal.slice_bounds-serve-end
slice_bounds-serve-end g c =
    whole c.loop-request.rest.now c.read_record.result c.in-Ok.request c.in-Ok.size ((read_promised c.loop-request.rest.now c.read_record.result).0 c.read_record.ensures) c.in-Ok.is
