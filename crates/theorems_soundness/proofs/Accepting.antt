-- An accepted conflict and an accepted virtual conflict keep a sound table sound.
use mathlib.Core.Path.{◌≡◌, refl, ap, ap₂, sym, ◌∙◌}
use mathlib.Core.Logic.{◌≢◌, ◌⊎◌, inl, inr}
use mathlib.Core.Bool.{Bool, true, false, not, ◌&&◌}
use Prim.Native.Nat.{ℕ, zero, suc, ◌+◌, ◌≤◌}
use native.Mathlib.Omega.{arith}
use lib.Dec.{T, eqb, ltb}
use Rattle.std.specs.Prelude.{Ok}
use Rattle.lists.specs.Choice.{pick}
use Rattle.slot.specs.declared.number.Node.{Node}
use Rattle.slot.specs.declared.state.State.TheVariants as S
use Rattle.slot.specs.State.{is_present}
use Rattle.slot.specs.Number.{none}
use Rattle.slot.specs.Slot.{Slot, new_node}
use Rattle.table.specs.Table.{Table, at}
use Rattle.table.specs.Nodes.{outer}
use Rattle.table.specs.declared.place.Place.TheVariants as P
use Rattle.table.specs.Place.{in_tree, place}
use Rattle.record.specs.declared.request.Conflict.{Conflict}
use Rattle.record.specs.declared.request.VirtualConflict.{VirtualConflict}
use Rattle.record.specs.declared.request.Request.TheVariants as Q
use Rattle.rules.specs.Act.{change, ◌then◌, look}
use Rattle.rules.specs.Slots.{is_none, is_some, up}
use Rattle.rules.specs.Trees.{is_unloaded, loaded, seen, root_within, same_tree}
use Rattle.rules.specs.Matching.{temporary_match_virtual}
use Rattle.rules.specs.Conflict.{conflict_link, blossom_in_tree, resolved, conflict, freed, virtual_conflict}
use Rattle.rules.specs.Blossom.{lacks_blossom_slot}
use Rattle.rules.specs.Refusals.{makes_blossom}
use Rattle.rules.specs.Calls.{verdict}
use Rattle.theorems_soundness.specs.FactsOfBlossoms.{DefectInside}
use Rattle.theorems_soundness.proofs.Reflect.{→and, tests, same_or_not, test_case, test_true, test_false, not↔}
use Rattle.theorems_soundness.proofs.ReflectSlots.{grow_shrink}
use Rattle.theorems_soundness.specs.RuleFacts.{Whole, RightLink, OneTree}
use Rattle.theorems_soundness.proofs.AcceptedRequests.{no_test, Acceptable, acceptable, acceptable_virtual}
use Rattle.theorems_soundness.proofs.Renewing.{Kept, kept_then}
use Rattle.theorems_soundness.proofs.Matches.{right_kept}
use Rattle.theorems_soundness.proofs.Loading.{Loaded, unloaded→, load_does}
use Rattle.theorems_soundness.proofs.Resolving.{spot, resolved-whole, freed_whole}

pub touch_some : (t : Table) → Whole t → (n touch : ℕ) → DefectInside t n touch → touch ≢ none
touch_some t w n touch d = omega (arith, d.defect, w.rest.sizes.begin_fits)

-- ---- both nodes loaded

-- what the checks see in a slot, of begin and what stands there
abbrev pub seen_by : ℕ → Slot → ℕ → Slot
seen_by begin s n = pick (ltb n begin && not (is_present s.state)) new_node s

pub seen_same : (t u : Table) (n : ℕ) → u.begin ≡ t.begin → at u n ≡ at t n → seen u n ≡ seen t n
seen_same t u n e f = ap₂ (λ (b : ℕ) (s : Slot). seen_by b s n) e f

-- loading changes no parent
loaded-up : (t : Table) (n : ℕ) (u : Table) → Whole t → Loaded t n u → (j : ℕ) → up u j ≡ up t j
loaded-up t n u w r j = go (same_or_not j n)
  where
    here : T (is_unloaded t n) ⊎ T (not (is_unloaded t n)) → (seen t n).parent ≡ (at t n).parent
    here (inl h) = rw (test_true (is_unloaded t n) h) (sym (ap (λ (s : Slot). s.parent) (w.rest.bare n (unloaded→ t n h).1)))
    here (inr h) = rw (test_false (is_unloaded t n) ((not↔ (is_unloaded t n)).0 h))

    go : (j ≡ n) ⊎ (j ≢ n) → up u j ≡ up t j
    go (inl e) = rw (e, up, r.here) (here (test_case (is_unloaded t n)))
    go (inr d) = rw (up, r.other j d)

root-same : (t u : Table) → ((j : ℕ) → up u j ≡ up t j) → (k n : ℕ) → root_within k u n ≡ root_within k t n
unfolding root_within
root-same t u h zero n = ap (λ (p : ℕ). pick (is_none p) n none) (h n)
root-same t u h (suc k) n = ap₂ (λ (p r : ℕ). pick (is_none p) n r) (h n) (root-same t u h k (up u n) ∙ ap (root_within k t) (h n))

same_tree_same : (t u : Table) → ((j : ℕ) → up u j ≡ up t j) → (x y : ℕ) → same_tree u x y ≡ same_tree t x y
same_tree_same t u h x y = ap₂ (λ (p q : ℕ). is_some p && eqb p q) (root-same t u h 256 x) (root-same t u h 256 y)

-- who is read as in a tree has a parent or a child
pick_tree : (a b c : Bool) (peer : Node) → pick a P.Tree (pick b P.Free (pick c P.Virtual (P.Paired peer))) ≡ P.Tree → T a
pick_tree true b c peer e = tt
pick_tree false true c peer e = let z : ◌≡◌ {A = ℕ} 0 1 = cc in absurd (omega arith)
pick_tree false false true peer e = let z : ◌≡◌ {A = ℕ} 0 1 = cc in absurd (omega arith)
pick_tree false false false peer e = let z : ◌≡◌ {A = ℕ} 0 1 = cc in absurd (omega arith)

pub place_tree : (s : Slot) → place s ≡ P.Tree → T (in_tree s)
unfolding place
place_tree s e = pick_tree (in_tree s) (eqb s.link.touch none) (eqb s.sibling none) (record { 0 = s.sibling }) e

conflict_table : (t : Table) (c : Conflict) → (conflict c t).table ≡ (resolved c.node_1.0 c.node_2.0 (conflict_link c) (loaded c.node_2.0 (loaded c.node_1.0 t))).table
unfolding conflict change ◌then◌
conflict_table t c = refl

-- what the row of one tree is asked for: that it keeps a table sound in which a blossom slot is left
abbrev pub BlossomKeeps : Conflict → Type 0
BlossomKeeps c =
    (u : Table)
    → OneTree u c.node_1.0 c.node_2.0 (conflict_link c)
    → ¬ T (lacks_blossom_slot u)
    → Whole (blossom_in_tree c.node_1.0 c.node_2.0 (conflict_link c) u).table

module _ (t : Table) (c : Conflict) (w : Whole t) (ok : Acceptable t c) where
  abbrev x : ℕ
  x = c.node_1.0

  abbrev y : ℕ
  y = c.node_2.0

  abbrev t₁ : Table
  t₁ = loaded x t

  abbrev t₂ : Table
  t₂ = loaded y t₁

  first : Loaded t x t₁
  first = load_does t x w

  second : Loaded t₁ y t₂
  second = load_does t₁ y first.whole

  t₂_x : at t₂ x ≡ seen t x
  t₂_x = second.other x ok.two ∙ first.here

  t₂_y : at t₂ y ≡ seen t y
  t₂_y = second.here ∙ seen_same t t₁ y first.kept.begin (first.other y (λ e. ok.two (sym e)))

  ups : (j : ℕ) → up t₂ j ≡ up t j
  ups j = loaded-up t₁ y t₂ first.whole second j ∙ loaded-up t x t₁ w first j

  right : RightLink t x (conflict_link c) y
  right =
      record {
        linked = record { has_touch = touch_some t w x c.touch_1.0 ok.inside_1; has_through = ok.vertex_1; has_peer_touch = touch_some t w y c.touch_2.0 ok.inside_2; has_peer_through = ok.vertex_2 };
        touch = ok.inside_1;
        peer_touch = ok.inside_2;
      }

  kept : Kept t t₂
  kept = kept_then t t₁ t₂ first.kept second.kept

  -- "one tree", as the checks see it
  makes_in_tree : T (in_tree (at t₂ x)) → T (in_tree (at t₂ y)) → T (same_tree t₂ x y) → T (makes_blossom t x y)
  makes_in_tree p q r =
      let a : T (in_tree (seen t x)) = rw t₂_x at p in
      let b : T (in_tree (seen t y)) = rw t₂_y at q in
      let s : T (same_tree t x y) = rw (same_tree_same t t₂ ups x y) at r in
      →and (in_tree (seen t x) && in_tree (seen t y)) (same_tree t x y) (→and (in_tree (seen t x)) (in_tree (seen t y)) a b) s

  makes : OneTree t₂ x y (conflict_link c) → T (makes_blossom t x y)
  makes h = makes_in_tree (place_tree (at t₂ x) h.place_1) (place_tree (at t₂ y) h.place_2) h.same

  slot_left : T (makes_blossom t x y) → ¬ T (lacks_blossom_slot t₂)
  slot_left m h =
      let e : t₂.blossoms ≡ t.blossoms = second.blossoms ∙ first.blossoms in
      let l : 256 ≤ t₂.begin + t₂.blossoms = simp tests at h in
      let q : T (lacks_blossom_slot t) = simp tests (omega (arith, l, e, kept.begin)) in
      no_test (makes_blossom t x y && lacks_blossom_slot t) ok.slot (→and (makes_blossom t x y) (lacks_blossom_slot t) m q)

  conflict_whole : (OneTree t₂ x y (conflict_link c) → Whole (blossom_in_tree x y (conflict_link c) t₂).table) → Whole (conflict c t).table
  conflict_whole h =
      rw (conflict_table t c)
      (resolved-whole t₂ x y (conflict_link c) second.whole ok.two (right_kept t t₂ x (conflict_link c) y kept right)
      (rw t₂_x ok.outer_1) (rw t₂_y ok.outer_2) (rw t₂_x ok.not_minus_1) (rw t₂_y ok.not_minus_2) h)

-- the two nodes once they are loaded: on a sound table, outer, and with a slot left where one tree makes a blossom
pub record BothLoaded (t : Table) (x y : ℕ) : Type 0 where
  pub whole : Whole t
  pub two : x ≢ y
  pub outer_1 : T (outer t x)
  pub outer_2 : T (outer t y)
  pub slot : T (in_tree (at t x)) → T (in_tree (at t y)) → T (same_tree t x y) → ¬ T (lacks_blossom_slot t)

pub both-loaded :
    (t : Table) (room : ℕ) (c : Conflict)
    → Whole t
    → verdict (Q.Conflict c) t room ≡ Ok tt
    → BothLoaded (loaded c.node_2.0 (loaded c.node_1.0 t)) c.node_1.0 c.node_2.0
both-loaded t room c w e =
    let ok = acceptable t room c e in
    record {
      whole = (second t c w ok).whole;
      two = ok.two;
      outer_1 = rw (t₂_x t c w ok) ok.outer_1;
      outer_2 = rw (t₂_y t c w ok) ok.outer_2;
      slot = λ p q s. slot_left t c w ok (makes_in_tree t c w ok p q s);
    }

-- every row, if making a blossom keeps a sound table sound
pub conflict_keeps_by : (t : Table) (room : ℕ) (c : Conflict) → Whole t → verdict (Q.Conflict c) t room ≡ Ok tt → BlossomKeeps c → Whole (conflict c t).table
conflict_keeps_by t room c w e h =
    let ok = acceptable t room c e in
    conflict_whole t c w ok (λ o. h (loaded c.node_2.0 (loaded c.node_1.0 t)) o (slot_left t c w ok (makes t c w ok o)))

-- every row but that of one tree
pub conflict_keeps :
    (t : Table) (room : ℕ) (c : Conflict)
    → Whole t
    → verdict (Q.Conflict c) t room ≡ Ok tt
    → ¬ T (makes_blossom t c.node_1.0 c.node_2.0)
    → Whole (conflict c t).table
conflict_keeps t room c w e d = let ok = acceptable t room c e in conflict_whole t c w ok (λ o. absurd (d (makes t c w ok o)))

-- ---- a virtual conflict

virtual-conflict-table :
    (t : Table) (c : VirtualConflict)
    → (virtual_conflict c t).table ≡ ((freed (place (at (loaded c.node.0 t) c.node.0)) c.node.0 then temporary_match_virtual c.node.0 c.touch.0 c.vertex.0 c.virtual_vertex.0) (loaded c.node.0 t)).table
unfolding virtual_conflict change ◌then◌ look
virtual-conflict-table t c = refl

pub virtual_keeps : (t : Table) (room : ℕ) (c : VirtualConflict) → Whole t → verdict (Q.VirtualConflict c) t room ≡ Ok tt → Whole (virtual_conflict c t).table
virtual_keeps t room c w e =
    let x = c.node.0 in
    let ok = acceptable_virtual t room c e in
    let r = load_does t x w in
    let grows : (at (loaded x t) x).state ≡ S.Grow = rw r.here ok.grows in
    let inside = r.kept.inside x c.touch.0 ok.inside in
    rw (virtual-conflict-table t c)
    (freed_whole (loaded x t) x c.touch.0 c.vertex.0 c.virtual_vertex.0 r.whole grows inside (touch_some t w x c.touch.0 ok.inside) ok.vertex ok.virtual (place (at (loaded x t) x))
    (spot (loaded x t) r.whole x (rw grows tt) (λ q. grow_shrink grows q)))
