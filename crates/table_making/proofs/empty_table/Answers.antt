use Rattle.table_making.proofs.Fresh.{empty-step}
use Rattle.table_making.proofs.empty_table.Goals as goal

pub returns : goal.returns
returns c = empty-step _ _ _ _ c.clear_slots.ensures c.set_count_defects.ensures c.set_count_blossoms.ensures
