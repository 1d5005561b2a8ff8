-- What an accepted request says of the nodes that it names: none of its checks applies.
use mathlib.Core.Path.{◌≡◌, refl}
use mathlib.Core.Logic.{◌≢◌}
use mathlib.Core.Bool.{Bool, true, false, not, ◌&&◌, ◌||◌}
use mathlib.Core.List.{List, [], ◌∷◌}
use Prim.Native.Nat.{ℕ, ◌≤◌}
use native.Mathlib.Omega.{arith}
use lib.Dec.{T, eqb}
use borrow.Author.Tests.{eqb-false}
use Rattle.std.specs.Prelude.{Ok, Err}
use Rattle.lists.specs.Choice.{pick}
use Rattle.slot.specs.declared.state.State.TheVariants as S
use Rattle.slot.specs.State.{is_outer}
use Rattle.slot.specs.Number.{no_vertex}
use Rattle.table.specs.Table.{Table, at}
use Rattle.table.specs.Nodes.{is_blossom, is_defect}
use Rattle.table.specs.Climb.{inside}
use Rattle.refusal.specs.declared.Side.{Side}
use Rattle.refusal.specs.declared.Refusal.{Refusal}
use Rattle.refusal.specs.Refusal.{Verdict, at_side}
use Rattle.record.specs.declared.request.Conflict.{Conflict}
use Rattle.record.specs.declared.request.VirtualConflict.{VirtualConflict}
use Rattle.record.specs.declared.request.Expansion.{Expansion}
use Rattle.record.specs.declared.request.Request.TheVariants as Q
use Rattle.rules.specs.Slots.{is_shrink}
use Rattle.rules.specs.Sound.{is_defect_inside}
use Rattle.rules.specs.Trees.{seen}
use Rattle.rules.specs.Blossom.{lacks_blossom_slot}
use Rattle.rules.specs.Refusals.{Check, first_of, conflict_checks, virtual_checks, expansion_checks, is_outside, is_minus_node, is_growing, is_no_node, makes_blossom, is_no_vertex, conflict_node_checks, virtual_node_checks, expansion_node_checks}
use Rattle.rules.specs.Calls.{verdict}
use Rattle.theorems_soundness.specs.FactsOfBlossoms.{DefectInside}
use Rattle.theorems_soundness.proofs.Reflect.{and→, tests}
use Rattle.theorems_soundness.proofs.ReflectSlots.{grow↔, shrink↔}
use Rattle.theorems_soundness.proofs.Climbing.{inside→}

-- ---- "The first that applies is given": none applies

passed : (b : Bool) (r : Refusal) (s : Side) (v : Verdict) → pick b (Err (at_side r s)) v ≡ Ok tt → (b ≡ false) × (v ≡ Ok tt)
passed true r s v e = let z : ◌≡◌ {A = ℕ} 0 1 = cc in absurd (omega arith)
passed false r s v e = (refl, e)

-- each test in turn
abbrev pub AllPassed : List Check → Type 0
AllPassed [] = Unit {0}
AllPassed (c ∷ cs) = (c.applies ≡ false) × AllPassed cs

pub all_passed : (cs : List Check) → first_of cs ≡ Ok tt → AllPassed cs
all_passed [] e = tt
all_passed (c ∷ cs) e = let r = passed c.applies c.refusal c.side (first_of cs) e in (r.0, all_passed cs r.1)

pub or_no : (a b : Bool) → (a || b) ≡ false → (a ≡ false) × (b ≡ false)
or_no true b e = let z : ◌≡◌ {A = ℕ} 0 1 = cc in absurd (omega arith)
or_no false b e = (refl, e)

pub not_no : (b : Bool) → not b ≡ false → T b
not_no true e = tt
not_no false e = let z : ◌≡◌ {A = ℕ} 0 1 = cc in absurd (omega arith)

pub no_test : (b : Bool) → b ≡ false → ¬ T b
no_test b e h = rw e at h

defect_inside : (t : Table) (n touch : ℕ) → is_outside t n touch ≡ false → DefectInside t n touch
defect_inside t n touch e =
    let r = and→ (is_defect t touch) (inside t n touch) (not_no (is_defect_inside t n touch) e) in
    record { defect = simp tests at r.0; inside = inside→ t n touch r.1 }

vertex_some : (v : ℕ) → is_no_vertex v ≡ false → v ≢ no_vertex
vertex_some v e = eqb-false v no_vertex e

-- ---- a conflict

pub record Acceptable (t : Table) (c : Conflict) : Type 0 where
  pub outer_1 : T (is_outer (seen t c.node_1.0).state)
  pub outer_2 : T (is_outer (seen t c.node_2.0).state)
  pub two : c.node_1.0 ≢ c.node_2.0
  pub inside_1 : DefectInside t c.node_1.0 c.touch_1.0
  pub inside_2 : DefectInside t c.node_2.0 c.touch_2.0
  pub vertex_1 : c.vertex_1.0 ≢ no_vertex
  pub vertex_2 : c.vertex_2.0 ≢ no_vertex
  pub not_minus_1 : (seen t c.node_1.0).state ≢ S.Shrink
  pub not_minus_2 : (seen t c.node_2.0).state ≢ S.Shrink
  pub slot : (makes_blossom t c.node_1.0 c.node_2.0 && lacks_blossom_slot t) ≡ false

pub acceptable : (t : Table) (room : ℕ) (c : Conflict) → verdict (Q.Conflict c) t room ≡ Ok tt → Acceptable t c
unfolding verdict conflict_node_checks
acceptable t room c e =
    let x = c.node_1.0 in
    let y = c.node_2.0 in
    let v = c.vertex_1.0 in
    let u = c.vertex_2.0 in
    let r = (all_passed (conflict_checks t room c) e).1.1 in
    let touches = r.1.1.1.1.1 in
    let first = or_no (is_no_node t x) (is_no_vertex v) r.0 in
    let second = or_no (is_no_node t y) (is_no_vertex u) r.1.0 in
    let growing = or_no (is_minus_node t x || is_minus_node t y) (not (is_growing t x || is_growing t y)) touches.1.1.0 in
    let minus = or_no (is_minus_node t x) (is_minus_node t y) growing.0 in
    record {
      outer_1 = not_no (is_outer (seen t x).state) r.1.1.0;
      outer_2 = not_no (is_outer (seen t y).state) r.1.1.1.0;
      two = λ q. no_test (eqb x y) r.1.1.1.1.0 (simp tests q);
      inside_1 = defect_inside t x c.touch_1.0 touches.0;
      inside_2 = defect_inside t y c.touch_2.0 touches.1.0;
      vertex_1 = vertex_some v first.1;
      vertex_2 = vertex_some u second.1;
      not_minus_1 = λ q. no_test (is_minus_node t x) minus.0 ((shrink↔ (seen t x).state).1 q);
      not_minus_2 = λ q. no_test (is_minus_node t y) minus.1 ((shrink↔ (seen t y).state).1 q);
      slot = touches.1.1.1.0;
    }

-- ---- a virtual conflict

pub record AcceptableVirtual (t : Table) (c : VirtualConflict) : Type 0 where
  pub outer : T (is_outer (seen t c.node.0).state)
  pub inside : DefectInside t c.node.0 c.touch.0
  pub vertex : c.vertex.0 ≢ no_vertex
  pub virtual : c.virtual_vertex.0 ≢ no_vertex
  pub grows : (seen t c.node.0).state ≡ S.Grow

pub acceptable_virtual : (t : Table) (room : ℕ) (c : VirtualConflict) → verdict (Q.VirtualConflict c) t room ≡ Ok tt → AcceptableVirtual t c
unfolding verdict virtual_node_checks
acceptable_virtual t room c e =
    let x = c.node.0 in
    let v = c.vertex.0 in
    let u = c.virtual_vertex.0 in
    let r = (all_passed (virtual_checks t room c) e).1.1 in
    let first = or_no (is_no_node t x) (is_no_vertex v) r.0 in
    record {
      outer = not_no (is_outer (seen t x).state) r.1.1.0;
      inside = defect_inside t x c.touch.0 r.1.1.1.0;
      vertex = vertex_some v first.1;
      virtual = vertex_some u r.1.0;
      grows = (grow↔ (seen t x).state).0 (not_no (is_growing t x) r.1.1.1.1.0);
    }

-- ---- an expansion

-- 11: "node to expand is [..] a present − blossom"
pub record AcceptableExpansion (t : Table) (e : Expansion) : Type 0 where
  pub blossom : t.begin ≤ e.node.0
  pub shrinks : (at t e.node.0).state ≡ S.Shrink

pub acceptable_expansion : (t : Table) (room : ℕ) (e : Expansion) → verdict (Q.Expansion e) t room ≡ Ok tt → AcceptableExpansion t e
unfolding verdict expansion_node_checks
acceptable_expansion t room e a =
    let n = e.node.0 in
    let r = all_passed (expansion_checks t room e) a in
    let q = and→ (is_blossom t n) (is_shrink (at t n).state) (not_no (is_blossom t n && is_shrink (at t n).state) r.1.1.0) in
    record { blossom = simp tests at q.0; shrinks = (shrink↔ (at t n).state).0 q.1 }
