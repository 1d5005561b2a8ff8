use Rattle.std.proofs.Common.{◌∙◌, arith}
use Rattle.sound_walks.proofs.DepthSteps.{recorded_end, recorded_known, recorded_more}
use Rattle.sound_walks.proofs.depths.note_way.Goals as goal

pub returns-then-number_of-ne0 : goal.returns-then-number_of-ne0
returns-then-number_of-ne0 c =
    recorded_known _ _ _ _ c.number_of.ensures _ (omega (arith, c.loop-step-test.true)) c.if-number_of-ne0.true ∙ c.loop-step.invariant

pub loop-step-preserved : goal.loop-step-preserved
loop-step-preserved c =
    recorded_more _ _ _ _ c.number_of.ensures _ _ _ _ c.loop-step-test.true c.if-number_of-ne0.false c.set_number.ensures c.parent-here.ensures
    ∙ c.loop-step.invariant

pub returns : goal.returns
returns c = recorded_end _ _ _ _ (omega (arith, c.loop-step-test.false)) ∙ c.loop-step.invariant
