-- An accepted request stores into no empty defect slot but those that it names for loading.
use mathlib.Core.Path.{◌≡◌, refl}
use mathlib.Core.Logic.{inl, inr}
use mathlib.Core.Bool.{true}
use Prim.Native.Nat.{ℕ, ◌≤◌, ◌<◌}
use native.Mathlib.Omega.{arith}
use lib.Dec.{T}
use Rattle.std.specs.Prelude.{Ok}
use Rattle.slot.specs.Number.{none}
use Rattle.table.specs.Table.{Table, at}
use Rattle.table.specs.Nodes.{present}
use Rattle.record.specs.declared.request.Conflict.{Conflict}
use Rattle.record.specs.declared.request.VirtualConflict.{VirtualConflict}
use Rattle.record.specs.declared.request.Expansion.{Expansion}
use Rattle.record.specs.declared.request.Request.{Request}
use Rattle.record.specs.declared.request.Request.TheVariants as Q
use Rattle.rules.specs.Conflict.{conflict, virtual_conflict}
use Rattle.rules.specs.Expansion.{expansion}
use Rattle.rules.specs.Calls.{verdict}
use Rattle.theorems_soundness.specs.Chain.{◌∈◌}
use Rattle.theorems_soundness.specs.FactsOfBlossoms.{InnerChild, DefectInside}
use Rattle.theorems_soundness.specs.Facts.{Names}
use Rattle.theorems_soundness.proofs.Reflect.{same_or_not}
use Rattle.theorems_soundness.proofs.ReflectSlots.{inner-present}
use Rattle.theorems_soundness.proofs.InsideLaws.{inside-present}
use Rattle.theorems_soundness.specs.RuleFacts.{Whole}
use Rattle.theorems_soundness.proofs.AcceptedRequests.{acceptable, acceptable_expansion}
use Rattle.theorems_soundness.proofs.Expanding.{top_held, bottom_held}
use Rattle.theorems_requests.proofs.Within.{Closed, Alike, Moved, alike_itself}
use Rattle.theorems_requests.proofs.ConflictWithin.{conflict-acted, virtual_acts}
use Rattle.theorems_requests.proofs.ExpansionWithin.{expansion-acted}
use Rattle.theorems_promises.specs.Loaded.{named_for_loading}

-- where a request may store: in blossom slots, in present slots, and at the nodes that it names for loading
pub data InReach (q : Request) (t : Table) (j : ℕ) : Type 0 where
  blossom : t.begin ≤ j → InReach q t j
  there : T (present t j) → InReach q t j
  named : j ∈ named_for_loading q → InReach q t j

pub out_of_reach : (q : Request) (t : Table) (j : ℕ) → j < t.begin → ¬ T (present t j) → ¬ (j ∈ named_for_loading q) → ¬ InReach q t j
out_of_reach q t j l p n (blossom g) = omega arith
out_of_reach q t j l p n (there h) = p h
out_of_reach q t j l p n (named h) = n h

module _ (q : Request) (t : Table) (w : Whole t) where
  nothing_in : InReach q t none
  nothing_in = blossom (omega (arith, w.rest.sizes.begin_fits))

  -- S2: what is stored names a present slot
  pointer_in : (n : ℕ) → Names t n → InReach q t n
  pointer_in n h = elim (same_or_not n none) [ inl e ↦ rw e nothing_in | inr d ↦ there (h d) ]

  reach_closed : Closed (InReach q t) t
  reach_closed =
      record {
        nothing = nothing_in;
        pointers = λ n _.
            let p = w.rest.pointers n in
            record { parent = pointer_in (at t n).parent p.parent; child = pointer_in (at t n).first_child p.child; sibling = pointer_in (at t n).sibling p.sibling };
      }

  alike_in_reach : Alike (InReach q t) t t
  alike_in_reach = alike_itself (InReach q t) t w.full reach_closed

module _ (t : Table) (room : ℕ) (w : Whole t) where
  pub conflict_reaches : (c : Conflict) → verdict (Q.Conflict c) t room ≡ Ok tt → Moved (InReach (Q.Conflict c) t) true t t (conflict c t).table (conflict c t).table
  conflict_reaches c ok =
      let q = Q.Conflict c in
      (conflict-acted (InReach q t) true (nothing_in q t w) t t (alike_in_reach q t w) w c (named (inl refl)) (named (inr (inl refl))) (acceptable t room c ok).two
      (λ m. (tt, blossom (omega arith), refl))).moved

  pub virtual_reaches : (c : VirtualConflict) → Moved (InReach (Q.VirtualConflict c) t) true t t (virtual_conflict c t).table (virtual_conflict c t).table
  virtual_reaches c = let q = Q.VirtualConflict c in (virtual_acts (InReach q t) true (nothing_in q t w) c (named (inl refl)) t t (alike_in_reach q t w)).moved

  -- a defect that a ring node holds is present
  held_present : (b x n : ℕ) → InnerChild t b x × DefectInside t x n → T (present t n)
  held_present b x n h = inside-present t w.full w.rest x n (inner-present (at t x).state h.0.0) h.1.inside

  pub expansion_reaches : (e : Expansion) → verdict (Q.Expansion e) t room ≡ Ok tt → Moved (InReach (Q.Expansion e) t) true t t (expansion e.node.0 t).table (expansion e.node.0 t).table
  expansion_reaches e ok =
      let q = Q.Expansion e in
      let b = e.node.0 in
      let k = acceptable_expansion t room e ok in
      (expansion-acted (InReach q t) true (nothing_in q t w) b t t (alike_in_reach q t w) (blossom k.blossom)
      (there (held_present b _ _ (top_held t w b k.blossom k.shrinks))) (there (held_present b _ _ (bottom_held t w b k.blossom k.shrinks)))).moved
