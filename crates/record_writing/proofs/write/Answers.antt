use Rattle.record.proofs.Written.{wrote_none, wrote_done, written_pos}
use Rattle.record_writing.proofs.write.Goals as goal

pub returns-then-end-pos : goal.returns-then-end-pos
returns-then-end-pos g c =
    rw c.into.ensures (wrote_none _ _ _ _ _ (g.met.R.Recorded.some c.args.what) c.put_at-end.ensures c.if-end-pos.true)

pub returns : goal.returns
returns g c = wrote_done _ _ _ _ _ (g.met.R.Recorded.some c.args.what) c.put_at-end.ensures c.if-end-pos.false

pub overflow_sub-result : goal.overflow_sub-result
overflow_sub-result g c = written_pos _ _ _ _ _ (g.met.R.Recorded.some c.args.what) c.put_at-end.ensures
