use Rattle.std.proofs.Common.{◌-◌, sym, ◌∙◌, arith, eqb-true}
use borrow.Author.Tests.{eqb-false}
use Rattle.sound_walks.proofs.DepthSteps.{measured_end, measured_known, measured_spent, measured_more}
use Rattle.sound_walks.proofs.depths.measure.Goals as goal

pub returns-then-is_none : goal.returns-then-is_none
returns-then-is_none c = (
  measured_end _ _ _ _ _ (eqb-true _ _ (sym c.if-is_none.ensures)) ∙ c.loop-count.invariant.0 (omega (arith, c.loop-count-test.true)),
  omega (arith, c.loop-count-test.true),
)

pub returns-then-known-count : goal.returns-then-known-count
returns-then-known-count c = (
  measured_known _ _ _ _ (eqb-false _ _ (sym c.if-is_none.ensures)) _ c.number_of-known.ensures _ c.if-known-ne0.true
      ∙ c.loop-count.invariant.0 (omega (arith, c.loop-count-test.true)),
  omega (arith, c.loop-count-test.true, c.if-known-count.true),
)

pub returns-else-known-count : goal.returns-else-known-count
returns-else-known-count c =
    let whole =
    measured_known _ _ _ _ (eqb-false _ _ (sym c.if-is_none.ensures)) _ c.number_of-known.ensures _ c.if-known-ne0.true
    ∙ c.loop-count.invariant.0 (omega (arith, c.loop-count-test.true)) in
    omega (arith, whole, c.if-known-count.false)

pub loop-count-preserved : goal.loop-count-preserved
loop-count-preserved c =
    let some = eqb-false _ _ (sym c.if-is_none.ensures) in (
      λ h.
          measured_more _ _ _ _ some _ c.number_of-known.ensures 257 _ c.if-known-ne0.false (omega (arith, h)) c.parent-here.ensures
          ∙ c.loop-count.invariant.0 (omega (arith, h)),
      λ h.
          let whole =
          measured_spent _ _ _ _ some _ c.number_of-known.ensures (257 - c.loop-count.count) c.if-known-ne0.false (omega (arith, h))
          ∙ c.loop-count.invariant.0 (omega (arith, c.loop-count-test.true)) in
          omega (arith, whole),
    )

pub returns : goal.returns
returns c = c.loop-count.invariant.1 (omega (arith, c.loop-count-test.false))
