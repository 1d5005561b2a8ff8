use Rattle.std.proofs.Common.{rules, refl, arith}
use Rattle.record.specs.Writing.{placed}
use Rattle.record_fields.proofs.Words.{word_more}
use Rattle.record_fields.proofs.output.place.Goals as goal

pub loop-i-init : goal.loop-i-init
unfolding placed
loop-i-init g c = (refl, refl)

pub loop-i-preserved : goal.loop-i-preserved
loop-i-preserved g c = (
  rw c.to_le_bytes.ensures (word_more _ _ _ _ _ c.loop-i.invariant.0 (omega arith)),
  search rules,
)
