-- The verdicts of 01's checks, test by test in the code's order, on the states that the code reads.
use mathlib.Core.Path.{◌≡◌, refl, ◌∙◌}
use mathlib.Core.Bool.{Bool, true, false, not, ◌||◌}
use lib.Dec.{eqb}
use Rattle.std.specs.Prelude.{Ok, Err}
use Rattle.lists.specs.Choice.{pick}
use Rattle.slot.specs.declared.state.State.{State}
use Rattle.slot.specs.State.{is_present, is_outer}
use Rattle.table.specs.Table.{Table}
use Rattle.refusal.specs.declared.Refusal.{Refusal}
use Rattle.refusal.specs.declared.Refusal.TheVariants.{NoSuchNode, NotOuter, SameNode, TouchOutside, NotGrowing, NoBlossomSlot, NotExpandable}
use Rattle.refusal.specs.declared.Side.{Side}
use Rattle.refusal.specs.declared.Side.TheVariants.{Neither, First, Second}
use Rattle.refusal.specs.Refusal.{Verdict, at_side}
use Rattle.record.specs.declared.request.Conflict.{Conflict}
use Rattle.record.specs.declared.request.VirtualConflict.{VirtualConflict}
use Rattle.record.specs.declared.request.Expansion.{Expansion}
use Rattle.rules.specs.Slots.{is_grow}
use Rattle.rules.specs.Trees.{seen}
use Rattle.rules.specs.Refusals.{first_of, is_no_vertex, is_not_outer, is_outside, is_growing, is_not_expandable, conflict_not_growing, conflict_lacks_slot, conflict_node_checks, virtual_node_checks, expansion_node_checks}
use Rattle.request_judging.specs.Seen.{seen_state, none_growing, elsewhere}
use Rattle.request_judging.proofs.SeenLaws.{side_seen, state_seen, outside-elsewhere}

abbrev accepted : Verdict
accepted = Ok tt

abbrev refused : Refusal → Side → Verdict
refused n s = Err (at_side n s)

-- ---- what is read of a node once, and asked at each test

-- what follows a test counts only where the test is false
under : (b : Bool) (x v w : Verdict) → (b ≡ false → v ≡ w) → pick b x v ≡ pick b x w
under true x v w h = refl
under false x v w h = h refl

-- one test and the next, each asked in another way: the next where the first is false
same_tests :
    (a a' : Bool) (x v v' : Verdict)
    → a ≡ a'
    → (a ≡ false → v ≡ v')
    → pick a x v ≡ pick a' x v'
same_tests a a' x v v' p q = under a x v v' q ∙ rw p

module _ (t : Table) (c : Conflict) where
  abbrev last : Verdict
  last = pick (conflict_lacks_slot t c) (refused NoBlossomSlot Neither) accepted

  -- the tests as the code tries them, on the states that it read
  abbrev tried : State → State → Verdict
  tried s u =
      pick (not (is_outer s)) (refused NotOuter First)
      (pick (not (is_outer u)) (refused NotOuter Second)
      (pick (eqb c.node_1.0 c.node_2.0) (refused SameNode Neither)
      (pick (elsewhere t c.node_1.0 c.touch_1.0) (refused TouchOutside First)
      (pick (elsewhere t c.node_2.0 c.touch_2.0) (refused TouchOutside Second) (pick (none_growing s u) (refused NotGrowing Neither) last)))))

  -- .. and as 01 has them
  abbrev asked : Verdict
  asked =
      pick (is_not_outer t c.node_1.0) (refused NotOuter First)
      (pick (is_not_outer t c.node_2.0) (refused NotOuter Second)
      (pick (eqb c.node_1.0 c.node_2.0) (refused SameNode Neither)
      (pick (is_outside t c.node_1.0 c.touch_1.0) (refused TouchOutside First)
      (pick (is_outside t c.node_2.0 c.touch_2.0) (refused TouchOutside Second) (pick (conflict_not_growing t c) (refused NotGrowing Neither) last)))))

  asked_as_tried : (s u : State) → s ≡ (seen t c.node_1.0).state → u ≡ (seen t c.node_2.0).state → asked ≡ tried s u
  asked_as_tried s u p q =
      let first : is_not_outer t c.node_1.0 ≡ not (is_outer s) = rw p in
      let second : is_not_outer t c.node_2.0 ≡ not (is_outer u) = rw q in
      let growing : conflict_not_growing t c ≡ none_growing s u = rw (p, q) in
      same_tests _ _ _ _ _ first (λ a.
      same_tests _ _ _ _ _ second (λ b.
      under (eqb c.node_1.0 c.node_2.0) (refused SameNode Neither) _ _ (λ _.
      same_tests _ _ _ _ _ (outside-elsewhere t c.node_1.0 c.touch_1.0 a) (λ _.
      same_tests _ _ _ _ _ (outside-elsewhere t c.node_2.0 c.touch_2.0 b) (λ _.
      same_tests _ _ _ _ _ growing (λ _. refl))))))

  pub conflict_tried :
      first_of (conflict_node_checks t c)
      ≡ pick (not (is_present (seen_state t c.node_1.0)) || is_no_vertex c.vertex_1.0) (refused NoSuchNode First)
      (pick (not (is_present (seen_state t c.node_2.0)) || is_no_vertex c.vertex_2.0) (refused NoSuchNode Second)
      (tried (seen_state t c.node_1.0) (seen_state t c.node_2.0)))
  unfolding conflict_node_checks
  conflict_tried =
      same_tests _ _ _ _ _ (side_seen t c.node_1.0 c.vertex_1.0) (λ a.
      same_tests _ _ _ _ _ (side_seen t c.node_2.0 c.vertex_2.0) (λ b.
      asked_as_tried _ _ (state_seen t c.node_1.0 c.vertex_1.0 a) (state_seen t c.node_2.0 c.vertex_2.0 b)))

module _ (t : Table) (c : VirtualConflict) where
  asked_as_tried-virtual :
      (s : State)
      → s ≡ (seen t c.node.0).state
      → pick (is_not_outer t c.node.0) (refused NotOuter First)
      (pick (is_outside t c.node.0 c.touch.0) (refused TouchOutside First) (pick (not (is_growing t c.node.0)) (refused NotGrowing Neither) accepted))
      ≡ pick (not (is_outer s)) (refused NotOuter First)
      (pick (elsewhere t c.node.0 c.touch.0) (refused TouchOutside First) (pick (not (is_grow s)) (refused NotGrowing Neither) accepted))
  asked_as_tried-virtual s p =
      let outer : is_not_outer t c.node.0 ≡ not (is_outer s) = rw p in
      let growing : not (is_growing t c.node.0) ≡ not (is_grow s) = rw p in
      same_tests _ _ _ _ _ outer (λ a.
      same_tests _ _ _ _ _ (outside-elsewhere t c.node.0 c.touch.0 a) (λ _.
      same_tests _ _ _ _ _ growing (λ _. refl)))

  pub virtual_tried :
      first_of (virtual_node_checks t c)
      ≡ pick (not (is_present (seen_state t c.node.0)) || is_no_vertex c.vertex.0) (refused NoSuchNode First)
      (pick (is_no_vertex c.virtual_vertex.0) (refused NoSuchNode First)
      (pick (not (is_outer (seen_state t c.node.0))) (refused NotOuter First)
      (pick (elsewhere t c.node.0 c.touch.0) (refused TouchOutside First)
      (pick (not (is_grow (seen_state t c.node.0))) (refused NotGrowing Neither) accepted))))
  unfolding virtual_node_checks
  virtual_tried =
      same_tests _ _ _ _ _ (side_seen t c.node.0 c.vertex.0) (λ a.
      under (is_no_vertex c.virtual_vertex.0) (refused NoSuchNode First) _ _ (λ _.
      asked_as_tried-virtual _ (state_seen t c.node.0 c.vertex.0 a)))

pub expansion_tried : (t : Table) (e : Expansion) → first_of (expansion_node_checks t e) ≡ pick (is_not_expandable t e.node.0) (refused NotExpandable Neither) accepted
unfolding expansion_node_checks
expansion_tried t e = refl
