use Rattle.std.proofs.Common.{refl, arith}
use Rattle.record_fields.proofs.Words.{words_none, words_written}
use Rattle.record_fields.proofs.output.Output.put.Goals as goal

pub returns-then-saturating_sub-size : goal.returns-then-saturating_sub-size
returns-then-saturating_sub-size g c = (words_none _ _ g.row.N _ (omega arith) _ _ (omega arith), refl)

pub returns : goal.returns
returns g c = (
  words_written _ _ g.row.N _ (omega arith) _ _ _ _ _ _ c.length.ensures c.from.ensures c.place.ensures c.place-2.ensures (omega arith),
  refl,
)
