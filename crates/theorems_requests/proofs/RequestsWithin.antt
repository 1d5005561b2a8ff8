-- An accepted request does the same on every table that is alike in its area, and is accepted there if that table is sound.
use mathlib.Core.Path.{◌≡◌, refl, ap, ap₂, sym, ◌∙◌}
use mathlib.Core.Logic.{◌≢◌, inl, inr}
use mathlib.Core.Bool.{Bool, true, false, not, ◌&&◌, ◌||◌}
use mathlib.Core.List.{List, ◌∷◌}
use Prim.Native.Nat.{ℕ, ◌+◌}
use lib.Dec.{T, leb}
use Rattle.std.specs.Prelude.{Ok}
use Rattle.slot.specs.State.{is_outer, is_present}
use Rattle.slot.specs.Slot.{Slot}
use Rattle.table.specs.Table.{Table, at}
use Rattle.table.specs.Nodes.{outer}
use Rattle.table.specs.Place.{in_tree}
use Rattle.refusal.specs.declared.Refusal.TheVariants as N
use Rattle.refusal.specs.declared.Refusal.{Refusal}
use Rattle.refusal.specs.declared.Side.{Side}
use Rattle.record.specs.declared.request.Conflict.{Conflict}
use Rattle.record.specs.declared.request.VirtualConflict.{VirtualConflict}
use Rattle.record.specs.declared.request.Expansion.{Expansion}
use Rattle.record.specs.declared.request.Request.{Request}
use Rattle.record.specs.declared.request.Request.TheVariants as Q
use Rattle.rules.specs.Slots.{is_grow, is_shrink, up}
use Rattle.rules.specs.Sound.{sound}
use Rattle.rules.specs.Blossom.{lacks_blossom_slot}
use Rattle.theorems_soundness.specs.FactsOfBlossoms.{Inside}
use Rattle.rules.specs.Refusals.{Check, first_of, ◌when◌, ◌on◌when◌, lacks_command_room, is_no_vertex, is_no_side, is_not_outer, is_outside, conflict_not_growing, makes_blossom, conflict_node_checks, virtual_node_checks, expansion_node_checks}
use Rattle.rules.specs.Calls.{act_of, verdict}
use Rattle.rules.specs.Concerns.{is_making}
use Rattle.theorems_soundness.proofs.ChildLaws.{first_child_lem, shrink_is_minus, child_of_shrink}
use Rattle.theorems_soundness.proofs.TouchLaws.{touch_inside, peer_touch_tree}
use Rattle.theorems_soundness.proofs.ChildLaws.{outer_some}
use Rattle.theorems_requests.proofs.Within.{Alike, Acted}
use Rattle.theorems_requests.proofs.ReadingWithin.{seen_alike, defect_inside_alike, same_tree_alike}
use Rattle.theorems_requests.proofs.ConflictWithin.{conflict-acted, virtual_acts}
use Rattle.theorems_requests.proofs.ExpansionWithin.{expansion-acted}
use Rattle.theorems_soundness.specs.RuleFacts.{Whole}
use Rattle.theorems_soundness.proofs.AcceptedRequests.{acceptable, acceptable_virtual, acceptable_expansion}
use Rattle.rules.specs.Commands.{gives_commands}
use Rattle.theorems_requests.proofs.Areas.{InArea, fresh, named_concerned, named_in, inside_in}

-- ---- what is done

module _ (t : Table) (room : ℕ) (w : Whole t) (u : Table) where
  expansion-alike :
      (e : Expansion)
      → verdict (Q.Expansion e) t room ≡ Ok tt
      → Alike (InArea (Q.Expansion e) t) t u
      → Acted (InArea (Q.Expansion e) t) false t u (act_of (Q.Expansion e) t) (act_of (Q.Expansion e) u)
  expansion-alike e ok a =
      let r = Q.Expansion e in
      let b = e.node.0 in
      let q = acceptable_expansion t room e ok in
      let o : T (outer t b) = rw q.shrinks tt in
      let minus = shrink_is_minus t w.full w.core b q.shrinks in
      let child = first_child_lem t w.full w.core b o minus.has_child in
      let plus = child_of_shrink t w.full w.core b (at t b).first_child o q.shrinks child in
      let c = (at t b).first_child in
      let above : up t c ≢ _ = λ z. outer_some t w.full w.core b o (sym child.1 ∙ z) in
      let here = named_concerned r t room w ok b (inl refl) in
      let far : Inside t b (at t c).link.peer_touch = rw child.1 at (peer_touch_tree t w.full w.rest c child.0 above plus.linked.has_peer_touch).inside in
      expansion-acted (InArea r t) false a.closed.nothing b t u a (named_in r t room w ok b (inl refl))
      (inside_in r t room w ok b (at t b).link.touch here (touch_inside t w.full w.rest b minus.linked.has_touch))
      (inside_in r t room w ok b (at t c).link.peer_touch here far)

  pub request-acted :
      (r : Request)
      → T (gives_commands r)
      → verdict r t room ≡ Ok tt
      → Alike (InArea r t) t u
      → (T (is_making r t) → t.blossoms ≡ u.blossoms)
      → Acted (InArea r t) (is_making r t) t u (act_of r t) (act_of r u)
  request-acted (Q.Conflict c) one ok a same =
      let r = Q.Conflict c in
      conflict-acted (InArea r t) (is_making r t) a.closed.nothing t u a w c (named_in r t room w ok c.node_1.0 (inl refl)) (named_in r t room w ok c.node_2.0 (inr (inl refl)))
      (acceptable t room c ok).two (λ m. (m, fresh m refl, same m))
  request-acted (Q.VirtualConflict c) one ok a same =
      let r = Q.VirtualConflict c in
      virtual_acts (InArea r t) false a.closed.nothing c (named_in r t room w ok c.node.0 (inl refl)) t u a
  request-acted (Q.Expansion e) one ok a same = expansion-alike e ok a
  request-acted Q.Reset one ok a same = absurd one
  request-acted Q.List one ok a same = absurd one

-- ---- what is answered

-- lists of checks are alike if their tests are, one by one
check_alike : {b b' : Bool} {r : Refusal} {s : Side} {cs cs' : List Check} → b ≡ b' → cs ≡ cs' → ◌≡◌ {A = List Check} (r on s when b ∷ cs) (r on s when b' ∷ cs')
check_alike e f = rw (e, f)

-- the tests read what the checks see of the named nodes, and climb from the touches
module _ (S : ℕ → Type 0) (t u : Table) (a : Alike S t u) where
  pub makes_alike : (x y : ℕ) → S x → S y → makes_blossom t x y ≡ makes_blossom u x y
  makes_alike x y p q =
      ap₂ (λ (b c : Bool). b && c) (ap₂ (λ (s r : Slot). in_tree s && in_tree r) (seen_alike S t u a x p) (seen_alike S t u a y q)) (same_tree_alike S t u a x y p q)

  lacks_alike : (x y : ℕ) → S x → S y → (T (makes_blossom t x y) → t.blossoms ≡ u.blossoms) → (makes_blossom t x y && lacks_blossom_slot t) ≡ (makes_blossom u x y && lacks_blossom_slot u)
  lacks_alike x y p q h = rw (← makes_alike x y p q) (go (makes_blossom t x y) h)
    where
      go : (b : Bool) → (T b → t.blossoms ≡ u.blossoms) → (b && lacks_blossom_slot t) ≡ (b && lacks_blossom_slot u)
      go true k = ap₂ (λ (x y : ℕ). leb 256 (x + y)) a.begin (k tt)
      go false k = refl

  no_side_alike : (n v : ℕ) → S n → is_no_side t n v ≡ is_no_side u n v
  no_side_alike n v p = ap (λ (s : Slot). (leb 256 n || not (is_present s.state)) || is_no_vertex v) (seen_alike S t u a n p)

  not_outer_alike : (n : ℕ) → S n → is_not_outer t n ≡ is_not_outer u n
  not_outer_alike n p = ap (λ (s : Slot). not (is_outer s.state)) (seen_alike S t u a n p)

  outside_alike : (n touch : ℕ) → S touch → is_outside t n touch ≡ is_outside u n touch
  outside_alike n touch m = ap not (defect_inside_alike S t u a n touch m)

  not_growing_alike : (c : Conflict) → S c.node_1.0 → S c.node_2.0 → conflict_not_growing t c ≡ conflict_not_growing u c
  not_growing_alike c p q =
      ap₂ (λ (s r : Slot). is_shrink s.state || is_shrink r.state || not (is_grow s.state || is_grow r.state))
      (seen_alike S t u a c.node_1.0 p) (seen_alike S t u a c.node_2.0 q)

  conflict-checks-alike :
      (c : Conflict)
      → S c.node_1.0
      → S c.node_2.0
      → S c.touch_1.0
      → S c.touch_2.0
      → (T (makes_blossom t c.node_1.0 c.node_2.0) → t.blossoms ≡ u.blossoms)
      → conflict_node_checks t c ≡ conflict_node_checks u c
  unfolding conflict_node_checks
  conflict-checks-alike c p q m n h =
      let x = c.node_1.0 in
      let y = c.node_2.0 in
      check_alike (no_side_alike x c.vertex_1.0 p)
      (check_alike (no_side_alike y c.vertex_2.0 q)
      (check_alike (not_outer_alike x p)
      (check_alike (not_outer_alike y q)
      (check_alike refl
      (check_alike (outside_alike x c.touch_1.0 m)
      (check_alike (outside_alike y c.touch_2.0 n)
      (check_alike (not_growing_alike c p q)
      (check_alike (lacks_alike x y p q h) refl))))))))

  virtual_checks_alike : (c : VirtualConflict) → S c.node.0 → S c.touch.0 → virtual_node_checks t c ≡ virtual_node_checks u c
  unfolding virtual_node_checks
  virtual_checks_alike c p m =
      let x = c.node.0 in
      check_alike (no_side_alike x c.vertex.0 p)
      (check_alike refl
      (check_alike (not_outer_alike x p)
      (check_alike (outside_alike x c.touch.0 m)
      (check_alike (ap (λ (s : Slot). not (is_grow s.state)) (seen_alike S t u a x p)) refl))))

  expansion_checks_alike : (e : Expansion) → S e.node.0 → expansion_node_checks t e ≡ expansion_node_checks u e
  unfolding expansion_node_checks
  expansion_checks_alike e p = check_alike (ap₂ (λ (b : ℕ) (s : Slot). not (leb b e.node.0 && is_shrink s.state)) a.begin (a.agree e.node.0 p)) refl

module _ (t : Table) (room : ℕ) (w : Whole t) (u : Table) where
  -- on two sound tables and with one room, the node tests decide
  decided : (x y : Bool) (cs ds : List Check) → T x → T y → cs ≡ ds → first_of (N.NotSound when not x ∷ N.NoCommandRoom when lacks_command_room room ∷ cs) ≡ first_of (N.NotSound when not y ∷ N.NoCommandRoom when lacks_command_room room ∷ ds)
  decided true true cs ds p q e = ap (λ (l : List Check). first_of (N.NoCommandRoom when lacks_command_room room ∷ l)) e
  decided true false cs ds p q e = absurd q
  decided false y cs ds p q e = absurd p

  pub request-verdict :
      (r : Request)
      → T (gives_commands r)
      → verdict r t room ≡ Ok tt
      → T (sound t)
      → T (sound u)
      → Alike (InArea r t) t u
      → (T (is_making r t) → t.blossoms ≡ u.blossoms)
      → verdict r t room ≡ verdict r u room
  unfolding verdict
  request-verdict (Q.Conflict c) one ok s v a same =
      let r = Q.Conflict c in
      let q = acceptable t room c ok in
      let x = c.node_1.0 in
      let y = c.node_2.0 in
      decided (sound t) (sound u) (conflict_node_checks t c) (conflict_node_checks u c) s v
      (conflict-checks-alike (InArea r t) t u a c (named_in r t room w ok x (inl refl)) (named_in r t room w ok y (inr (inl refl)))
      (inside_in r t room w ok x c.touch_1.0 (named_concerned r t room w ok x (inl refl)) q.inside_1.inside)
      (inside_in r t room w ok y c.touch_2.0 (named_concerned r t room w ok y (inr (inl refl))) q.inside_2.inside) same)
  request-verdict (Q.VirtualConflict c) one ok s v a same =
      let r = Q.VirtualConflict c in
      let q = acceptable_virtual t room c ok in
      let x = c.node.0 in
      decided (sound t) (sound u) (virtual_node_checks t c) (virtual_node_checks u c) s v
      (virtual_checks_alike (InArea r t) t u a c (named_in r t room w ok x (inl refl)) (inside_in r t room w ok x c.touch.0 (named_concerned r t room w ok x (inl refl)) q.inside.inside))
  request-verdict (Q.Expansion e) one ok s v a same =
      decided (sound t) (sound u) (expansion_node_checks t e) (expansion_node_checks u e) s v
      (expansion_checks_alike (InArea (Q.Expansion e) t) t u a e (named_in (Q.Expansion e) t room w ok e.node.0 (inl refl)))
  request-verdict Q.Reset one ok s v a same = absurd one
  request-verdict Q.List one ok s v a same = absurd one
