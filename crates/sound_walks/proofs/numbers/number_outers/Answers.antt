use Rattle.std.proofs.Common.{refl, ◌∙◌}
use Rattle.sound_walks.proofs.NumbersSteps.{outers_end, outers_pass, outers_stop, outers_more}
use Rattle.sound_walks.proofs.numbers.number_outers.Goals as goal
use Rattle.sound_walks.proofs.numbers.number_outers.Goals.{then-is_outer+in_ok-k, else-is_outer}

pub returns-in_err-k-clause-numbers : goal.returns-in_err-k-clause-numbers
returns-in_err-k-clause-numbers c =
    rw c.from_residual.ensures
    (outers_stop _ _ _ _ c.loop-i-test.true c.if-is_outer.ensures _ c.in_err-k.ensures.numbers refl ∙ c.loop-i.invariant.0)

pub loop-i-preserved : goal.loop-i-preserved
loop-i-preserved c = elim c.if-is_outer.branch [
  | then-is_outer+in_ok-k w ↦ rw (w.s-is, w.k-is) (outers_more _ _ _ _ c.loop-i-test.true w.if-is_outer.ensures _ w.in_ok-k.ensures.numbers w.in_ok-k.ensures.some ∙ c.loop-i.invariant.0, w.in_ok-k.ensures.some)
  | else-is_outer w ↦ rw (w.s-is, w.k-is) (outers_pass _ _ _ _ c.loop-i-test.true w.if-is_outer.ensures c.loop-i.invariant.1 ∙ c.loop-i.invariant.0, c.loop-i.invariant.1)
]

pub returns-clause-numbers : goal.returns-clause-numbers
returns-clause-numbers c = outers_end _ _ _ _ c.loop-i-test.false ∙ c.loop-i.invariant.0
