use Rattle.std.proofs.Common.{arith}
use Rattle.table.proofs.BlossomEnd.{blossoms_fit}
use Rattle.requests.proofs.resolving.blossom_at.Goals as goal

pub overflow_add-given : goal.overflow_add-given
overflow_add-given c = omega (arith, blossoms_fit _ _ _ c.blossom_end-next.ensures c.if-next-eq256.false c.count_blossoms-given.ensures)
