use Rattle.std.proofs.Common.{◌≡◌, ℕ, ap, ◌∙◌, arith}
use Rattle.sound_walks.specs.Marks.{walked_of}
use Rattle.sound_walks.proofs.SoundMarksSteps.{marking_end, marking_spent, marking_alien, marking-more}
use Rattle.sound_walks.proofs.marking.walk_lent.Goals as goal

pub returns-then-is_none-clause-walked : goal.returns-then-is_none-clause-walked
returns-then-is_none-clause-walked g c = λ along own next mine.
    marking_end along own _ _ _ _ c.if-is_none.ensures ∙ c.loop-count.invariant along own next mine

pub returns-then-not-mine-clause-walked : goal.returns-then-not-mine-clause-walked
returns-then-not-mine-clause-walked g c = λ along own next mine.
    marking_alien along own _ _ _ c.if-is_none.ensures _ (mine _ _ c.if-not-mine.ensures) ∙ c.loop-count.invariant along own next mine

pub loop-count-preserved : goal.loop-count-preserved
loop-count-preserved g c = λ along own next mine.
    rw (next _ _ c.next-here.ensures, c.mark.ensures)
    (marking-more along own _ _ _ c.if-is_none.ensures 256 c.loop-count-test.true (mine _ _ c.if-not-mine.ensures))
    ∙ c.loop-count.invariant along own next mine

pub returns-then-is_none-2-clause-walked : goal.returns-then-is_none-2-clause-walked
returns-then-is_none-2-clause-walked g c = λ along own next mine.
    let whole : 256 ≡ c.loop-count.count = omega (arith, c.loop-count-test.false, c.loop-count.auto.count-end) in
    ap (λ (k : ℕ). walked_of k c.loop-count.seen) whole
    ∙ marking_end along own _ _ _ _ c.if-is_none-2.ensures
    ∙ c.loop-count.invariant along own next mine

pub returns-clause-walked : goal.returns-clause-walked
returns-clause-walked g c = λ along own next mine.
    marking_spent along own _ _ _ c.if-is_none-2.ensures 256 c.loop-count-test.false ∙ c.loop-count.invariant along own next mine
