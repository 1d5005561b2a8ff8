use Rattle.std.proofs.Common.{◌∙◌}
use Rattle.sound.specs.Given.{numbers_from}
use Rattle.sound.proofs.SoundSteps.{rings_break, numbers_decide}
use Rattle.sound.proofs.numbered_hold.Goals as goal

pub returns-then-is_some : goal.returns-then-is_some
unfolding numbers_from
returns-then-is_some c =
    numbers_decide _ _ _ _ _ _ _ _ (rw (c.none-inside.ensures.lo, c.none-inside.ensures.hi) at c.number_outers.ensures.numbers) c.number_outers.ensures.some c.if-is_some.ensures (rw (c.as_slice.ensures, c.as_slice-then-is_some.ensures) at c.each_holds.ensures)

pub returns-else-is_some : goal.returns-else-is_some
unfolding numbers_from
returns-else-is_some c =
    c.if-is_some.false ∙ rings_break _ _ _ _ _ _ _ (rw (c.none-inside.ensures.lo, c.none-inside.ensures.hi) at c.number_outers.ensures.numbers) c.if-is_some.ensures
