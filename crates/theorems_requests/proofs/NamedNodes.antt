-- Each node that an accepted request names is seen as an outer node.
use mathlib.Core.Path.{◌≡◌}
use mathlib.Core.Logic.{inl, inr}
use Prim.Native.Nat.{ℕ}
use lib.Dec.{T}
use Rattle.std.specs.Prelude.{Ok}
use Rattle.slot.specs.State.{is_outer}
use Rattle.table.specs.Table.{Table}
use Rattle.table.specs.Nodes.{outer}
use Rattle.record.specs.declared.request.Request.{Request}
use Rattle.record.specs.declared.request.Request.TheVariants as Q
use Rattle.rules.specs.Trees.{seen}
use Rattle.theorems_soundness.specs.Chain.{◌∈◌}
use Rattle.rules.specs.Calls.{verdict}
use Rattle.rules.specs.Concerns.{named}
use Rattle.theorems_soundness.proofs.AcceptedRequests.{acceptable, acceptable_virtual, acceptable_expansion}
use Rattle.theorems_requests.proofs.ConcernedNodes.{seen-outer}

module _ (t : Table) (room : ℕ) where
  -- every node named is seen as outer
  pub named-outer : (r : Request) → verdict r t room ≡ Ok tt → (n : ℕ) → n ∈ named r → T (is_outer (seen t n).state)
  named-outer (Q.Conflict c) e n (inl q) = rw q (acceptable t room c e).outer_1
  named-outer (Q.Conflict c) e n (inr (inl q)) = rw q (acceptable t room c e).outer_2
  named-outer (Q.Conflict c) e n (inr (inr z)) = absurd z
  named-outer (Q.VirtualConflict c) e n (inl q) = rw q (acceptable_virtual t room c e).outer
  named-outer (Q.VirtualConflict c) e n (inr z) = absurd z
  named-outer (Q.Expansion x) e n (inl q) =
      let s = (acceptable_expansion t room x e).shrinks in
      let o : T (outer t x.node.0) = rw s tt in
      rw (q, seen-outer t x.node.0 o) o
  named-outer (Q.Expansion x) e n (inr z) = absurd z
  named-outer Q.Reset e n z = absurd z
  named-outer Q.List e n z = absurd z
