-- How many commands an accepted conflict and an accepted virtual conflict give.
use mathlib.Core.Path.{◌≡◌, refl, sym, ◌∙◌}
use Prim.Native.Nat.{ℕ, ◌≤◌}
use Rattle.std.specs.Prelude.{Ok}
use Rattle.table.specs.Table.{Table, at}
use Rattle.table.specs.Place.{place}
use Rattle.record.specs.declared.request.Conflict.{Conflict}
use Rattle.record.specs.declared.request.VirtualConflict.{VirtualConflict}
use Rattle.record.specs.declared.request.Request.TheVariants as Q
use Rattle.rules.specs.Act.{change, ◌then◌, look}
use Rattle.rules.specs.Trees.{loaded, seen}
use Rattle.rules.specs.Matching.{temporary_match_virtual}
use Rattle.rules.specs.Conflict.{conflict_link, resolved, conflict, freed, virtual_conflict}
use Rattle.rules.specs.Calls.{verdict}
use Rattle.theorems_soundness.specs.RuleFacts.{Whole}
use Rattle.theorems_soundness.proofs.AcceptedRequests.{acceptable, acceptable_virtual}
use Rattle.theorems_soundness.proofs.Accepting.{seen_same}
use Rattle.theorems_soundness.proofs.Loading.{load_does}
use Rattle.theorems_requests.proofs.SubtreeCommands.{commands}
use Rattle.theorems_requests.proofs.RowCommands.{resolved_commands, freed_commands}

-- ---- loading says nothing

conflict-said :
    (t : Table) (c : Conflict)
    → commands (conflict c) t ≡ commands (resolved c.node_1.0 c.node_2.0 (conflict_link c)) (loaded c.node_2.0 (loaded c.node_1.0 t))
unfolding conflict change ◌then◌
conflict-said t c = refl

virtual-said :
    (t : Table) (c : VirtualConflict)
    → commands (virtual_conflict c) t ≡ commands (freed (place (at (loaded c.node.0 t) c.node.0)) c.node.0 then temporary_match_virtual c.node.0 c.touch.0 c.vertex.0 c.virtual_vertex.0) (loaded c.node.0 t)
unfolding virtual_conflict change look ◌then◌
virtual-said t c = refl

module _ (t : Table) (room : ℕ) (w : Whole t) where
  pub conflict_most : (c : Conflict) → verdict (Q.Conflict c) t room ≡ Ok tt → commands (conflict c) t ≤ 510
  conflict_most c e =
      let x = c.node_1.0 in
      let y = c.node_2.0 in
      let ok = acceptable t room c e in
      let first = load_does t x w in
      let t₁ = loaded x t in
      let second = load_does t₁ y first.whole in
      let t₂ = loaded y t₁ in
      let at_x : at t₂ x ≡ seen t x = second.other x ok.two ∙ first.here in
      let at_y : at t₂ y ≡ seen t y = second.here ∙ seen_same t t₁ y first.kept.begin (first.other y (λ q. ok.two (sym q))) in
      rw (conflict-said t c)
      (resolved_commands t₂ x y (conflict_link c) second.whole (rw at_x ok.outer_1) (rw at_y ok.outer_2) (rw at_x ok.not_minus_1) (rw at_y ok.not_minus_2))

  pub virtual_most : (c : VirtualConflict) → verdict (Q.VirtualConflict c) t room ≡ Ok tt → commands (virtual_conflict c) t ≤ 509
  virtual_most c e =
      let x = c.node.0 in
      let r = load_does t x w in
      rw (virtual-said t c)
      (freed_commands (loaded x t) x r.whole (rw r.here (acceptable_virtual t room c e).grows) c.touch.0 c.vertex.0 c.virtual_vertex.0 (place (at (loaded x t) x)))
