use Rattle.table.proofs.BlossomEnd.{is_last}
use Rattle.request_judging.proofs.checks.lacks_blossom_slot.Goals as goal

pub returns : goal.returns
returns c = is_last _ _ c.blossom_end.ensures
