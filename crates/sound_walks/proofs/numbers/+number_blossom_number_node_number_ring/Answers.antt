use Rattle.std.proofs.Common.{refl, ◌∙◌}
use Rattle.sound_walks.proofs.NumbersSteps.{ring_spent, ring_alien, ring_fails, ring_odd, ring_even, ring-more}
use Rattle.sound_walks.proofs.numbers.+number_blossom_number_node_number_ring.Goals as goal

pub number_ring-returns-clause-numbers : goal.number_ring-returns-clause-numbers
number_ring-returns-clause-numbers t c = ring_spent _ _ _ _ _ _ _ c.loop-count-test.false ∙ c.loop-count.invariant

pub number_ring-returns-then-not-is_next-clause-numbers : goal.number_ring-returns-then-not-is_next-clause-numbers
number_ring-returns-then-not-is_next-clause-numbers t c =
    ring_alien _ _ _ _ _ _ _ c.loop-count-test.true c.if-not-is_next.ensures ∙ c.loop-count.invariant

pub number_ring-returns-in_err-next-clause-numbers : goal.number_ring-returns-in_err-next-clause-numbers
number_ring-returns-in_err-next-clause-numbers t c =
    rw c.from_residual.ensures
    (ring_fails _ _ _ _ _ _ _ c.loop-count-test.true c.if-not-is_next.ensures _ c.in_err-next.ensures.numbers refl ∙ c.loop-count.invariant)

pub number_ring-returns-then-is_odd_ring-clause-numbers : goal.number_ring-returns-then-is_odd_ring-clause-numbers
number_ring-returns-then-is_odd_ring-clause-numbers t c =
    ring_odd _ _ _ _ _ _ _ c.loop-count-test.true c.if-not-is_next.ensures _ c.in_ok-next.ensures.numbers c.in_ok-next.ensures.some
    (rw c.sibling-after.ensures at c.if-eq.ensures) c.if-is_odd_ring.ensures
    ∙ c.loop-count.invariant

pub number_ring-returns-else-is_odd_ring-clause-numbers : goal.number_ring-returns-else-is_odd_ring-clause-numbers
number_ring-returns-else-is_odd_ring-clause-numbers t c =
    ring_even _ _ _ _ _ _ _ c.loop-count-test.true c.if-not-is_next.ensures _ c.in_ok-next.ensures.numbers c.in_ok-next.ensures.some
    (rw c.sibling-after.ensures at c.if-eq.ensures) c.if-is_odd_ring.ensures
    ∙ c.loop-count.invariant

pub number_ring-loop-count-preserved : goal.number_ring-loop-count-preserved
number_ring-loop-count-preserved t c =
    rw c.sibling-after.ensures
    (ring-more _ _ _ _ _ _ _ c.loop-count-test.true c.if-not-is_next.ensures _ c.in_ok-next.ensures.numbers c.in_ok-next.ensures.some
    (rw c.sibling-after.ensures at c.if-eq.ensures)
    ∙ c.loop-count.invariant)
