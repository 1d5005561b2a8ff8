-- A depth that is known already, of the node itself or of its parent.
use Rattle.std.proofs.Common.{sym}
use borrow.Author.Tests.{eqb-false}
use Rattle.sound_walks.proofs.DepthSteps.{depth_own, depth_below, depth_too_deep}
use Rattle.sound_walks.proofs.depths.depth_step.Goals as goal

pub returns-then-own-ne0 : goal.returns-then-own-ne0
returns-then-own-ne0 c = depth_own _ _ _ _ c.parent-above.ensures (eqb-false _ _ (sym c.if-is_none.ensures)) _ c.number_of-own.ensures c.if-own-ne0.true

pub returns-then-known-gt256 : goal.returns-then-known-gt256
returns-then-known-gt256 c =
    depth_too_deep _ _ _ _ c.parent-above.ensures (eqb-false _ _ (sym c.if-is_none.ensures)) _ c.number_of-own.ensures c.if-own-ne0.false _ c.number_of-known.ensures
    c.if-known-ne0.true c.if-known-gt256.true

pub returns-then-known-ne0 : goal.returns-then-known-ne0
returns-then-known-ne0 c =
    depth_below _ _ _ _ c.parent-above.ensures (eqb-false _ _ (sym c.if-is_none.ensures)) _ c.number_of-own.ensures c.if-own-ne0.false _ c.number_of-known.ensures
    c.if-known-ne0.true _ c.if-known-gt256.false c.set_number.ensures
