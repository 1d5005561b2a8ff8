use Rattle.table_making.proofs.Cleared.{cleared_step, cleared_done}
use Rattle.table_making.proofs.clear_slots.Goals as goal

pub loop-i-preserved : goal.loop-i-preserved
loop-i-preserved c = cleared_step _ _ _ _ _ _ c.loop-i-test.true c.loop-i.invariant c.empty.ensures c.store.ensures

pub returns : goal.returns
returns c = cleared_done _ _ _ _ c.loop-i-test.false c.loop-i.invariant
