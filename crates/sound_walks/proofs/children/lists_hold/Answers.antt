use Rattle.std.proofs.Common.{refl, ◌∙◌}
use Rattle.sound_walks.proofs.SoundMarksSteps.{sweep_end, sweep_stop, sweep_more}
use Rattle.sound_walks.proofs.children.lists_hold.Goals as goal

pub returns-then-not-list_step : goal.returns-then-not-list_step
returns-then-not-list_step c = sweep_stop _ _ _ _ _ _ c.loop-i-test.true c.if-not-list_step.ensures refl ∙ c.loop-i.invariant

pub loop-i-preserved : goal.loop-i-preserved
loop-i-preserved c = sweep_more _ _ _ _ _ _ c.loop-i-test.true c.if-not-list_step.ensures refl ∙ c.loop-i.invariant

pub returns : goal.returns
returns c = sweep_end _ _ _ _ c.loop-i-test.false ∙ c.loop-i.invariant
