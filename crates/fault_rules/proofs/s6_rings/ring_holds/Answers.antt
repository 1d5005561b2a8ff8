use Rattle.std.proofs.Common.{refl, sym, ◌∙◌, arith}
use Rattle.fault_rules.proofs.RingSteps.{ring_broken, ring_even, ring_whole}
use Rattle.fault_rules.proofs.s6_rings.ring_holds.Goals as goal

pub returns-in_default : goal.returns-in_default
returns-in_default c = ring_broken _ _ _ c.get_first_blossom_child-first.ensures _ _ c.in_default.ensures.walked refl

pub returns-else-is_odd_ring : goal.returns-else-is_odd_ring
returns-else-is_odd_ring c =
    c.if-is_odd_ring.false
    ∙ ring_even _ _ _ c.get_first_blossom_child-first.ensures _ _ c.in-Some.ensures.walked (λ e. omega (arith, e, c.in-Some.ensures.few))
    (sym (rw c.from.ensures at c.if-is_odd_ring.ensures))

pub returns-then-is_odd_ring : goal.returns-then-is_odd_ring
returns-then-is_odd_ring c =
    ring_whole _ _ _ c.get_first_blossom_child-first.ensures _ _ c.in-Some.ensures.walked (λ e. omega (arith, e, c.in-Some.ensures.few)) _
    (sym (rw c.from.ensures at c.if-is_odd_ring.ensures)) c.all_on_ring.ensures
