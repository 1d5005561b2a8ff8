use Rattle.std.proofs.Common.{sym, ◌∙◌}
use Rattle.table.proofs.Climbs.{some_left, second_spent, second_stop, second_more}
use Rattle.table.proofs.climb.get_second_outer_blossom.Goals as goal

pub returns-then-not-is_inner : goal.returns-then-not-is_inner
returns-then-not-is_inner c = sym (second_stop _ _ _ _ (sym c.is_inner.ensures ∙ c.if-not-is_inner.true)) ∙ c.loop-here.invariant.1

pub returns-then-left-eq0 : goal.returns-then-left-eq0
returns-then-left-eq0 c =
    sym (second_spent _ _ _ _ c.if-left-eq0.true)
    ∙ second_more _ _ _ _ _ c.loop-here.invariant.0 (sym c.is_inner.ensures ∙ c.if-not-is_inner.false) c.parent-here.ensures
    ∙ c.loop-here.invariant.1

pub loop-here-preserved : goal.loop-here-preserved
loop-here-preserved c = (
  some_left _ c.if-left-eq0.false,
  second_more _ _ _ _ _ c.loop-here.invariant.0 (sym c.is_inner.ensures ∙ c.if-not-is_inner.false) c.parent-here.ensures ∙ c.loop-here.invariant.1,
)
