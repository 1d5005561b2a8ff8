-- What follows from S6 and S7 for rings and inner nodes.
use mathlib.Core.Path.{◌≡◌, refl, sym, ◌∙◌}
use mathlib.Core.Logic.{◌≢◌, ◌⊎◌, inl, inr}
use mathlib.Core.List.{List, [], ◌∷◌}
use Prim.Native.Nat.{ℕ, ◌≤◌, ◌<◌}
use native.Mathlib.Omega.{arith}
use lib.Dec.{T}
use lib.ListN.{length}
use Rattle.slot.specs.Number.{none}
use Rattle.table.specs.Table.{Table, at, Full}
use Rattle.table.specs.Nodes.{present, inner}
use Rattle.rules.specs.Slots.{up, next}
use Rattle.rules.specs.Sound.{next_in_ring}
use Rattle.theorems_soundness.specs.Chain.{◌∈◌, NoDup, Chain}
use Rattle.theorems_soundness.specs.FactsOfBlossoms.{InnerChild, Ring}
use Rattle.theorems_soundness.specs.Facts.{Rest}
use Rattle.theorems_soundness.proofs.Reflect.{eqb_yes, eqb_no, same_or_not}
use Rattle.theorems_soundness.proofs.Chains.{end_of, chain_nodup, chain_some, chain_next, chain_before, chain_end, chain_injective}
use Rattle.theorems_soundness.proofs.Past.{present_below}

-- where the ring goes on: to the next node, and after the last to none
module _ (t : Table) (first n : ℕ) where
  pub ring_goes_on : next t n ≢ first → next_in_ring t first n ≡ next t n
  ring_goes_on d = rw (eqb_no (next t n) first d)

  pub ring_comes_back : next t n ≡ first → next_in_ring t first n ≡ none
  ring_comes_back e = rw (eqb_yes (next t n) first e)

module _ (t : Table) (b : ℕ) (r : Ring t b) where
  -- the first node, named by its blossom
  pub ring_first : (at t b).ring ∈ r.list
  ring_first = go r.list r.chain r.at_least_three
    where
      go : (cs : List ℕ) → Chain (next_in_ring t (at t b).ring) (at t b).ring cs → 3 ≤ length cs → (at t b).ring ∈ cs
      go [] c l = absurd (omega arith)
      go (x ∷ cs) c l = inl c.0

  pub ring_some : (at t b).ring ≢ none
  ring_some = chain_some (next_in_ring t (at t b).ring) (at t b).ring r.list r.chain (at t b).ring ring_first

  pub ring_once : NoDup r.list
  ring_once = chain_nodup (next_in_ring t (at t b).ring) (at t b).ring r.list r.chain

  -- the next node of a ring node is in the ring
  pub ring_next : (j : ℕ) → j ∈ r.list → next t j ∈ r.list
  ring_next j m = elim (same_or_not (next t j) first) [ inl e ↦ rw e ring_first | inr d ↦ within (ring_goes_on t first j d) ]
    where
      first : ℕ
      first = (at t b).ring

      within : next_in_ring t first j ≡ next t j → next t j ∈ r.list
      within e = rw e at (chain_next (next_in_ring t first) first r.list r.chain j m (λ z. r.closes j m (sym e ∙ z)))

  -- only from the last is the next the first
  ring_last : (j : ℕ) → j ∈ r.list → next_in_ring t (at t b).ring j ≡ none → next t j ≡ (at t b).ring
  ring_last j m e =
      elim (same_or_not (next t j) (at t b).ring) [ inl q ↦ q | inr d ↦ absurd (r.closes j m (sym (ring_goes_on t (at t b).ring j d) ∙ e)) ]

  ring_inward : (j i : ℕ) → j ≢ none → next_in_ring t (at t b).ring i ≡ j → next t i ≡ j
  ring_inward j i d e =
      elim (same_or_not (next t i) (at t b).ring)
      [ inl q ↦ absurd (d (sym e ∙ ring_comes_back t (at t b).ring i q)) | inr k ↦ sym (ring_goes_on t (at t b).ring i k) ∙ e ]

  -- a ring node stands after another
  pub ring_before : (j : ℕ) → j ∈ r.list → (i : ℕ) × (i ∈ r.list) × (next t i ≡ j)
  ring_before j m = go (chain_before along first r.list r.chain j m)
    where
      first : ℕ
      first = (at t b).ring

      along : ℕ → ℕ
      along = next_in_ring t first

      go : (j ≡ first) ⊎ ((i : ℕ) × (i ∈ r.list) × (along i ≡ j)) → (i : ℕ) × (i ∈ r.list) × (next t i ≡ j)
      go (inl e) =
          let last = chain_end along first r.list r.chain ring_some in
          (end_of r.list, last.0, ring_last (end_of r.list) last.0 last.1 ∙ sym e)
      go (inr q) = (q.0, q.1, ring_inward j q.0 (chain_some along first r.list r.chain j m) q.2)

  -- .. and after one only
  pub ring_injective : (i j : ℕ) → i ∈ r.list → j ∈ r.list → next t i ≡ next t j → i ≡ j
  ring_injective i j m n e = chain_injective (next_in_ring t (at t b).ring) (at t b).ring r.list r.chain i j m n (rw e)

module _ (t : Table) (full : Full t) (rest : Rest t) where
  -- "An inner node's parent is a blossom with a larger number", present, and so below 256
  pub inner_parent_present : (n : ℕ) → T (inner t n) → T (present t (up t n))
  inner_parent_present n i = (rest.inners n i).parent.there

  pub inner_parent_below : (n : ℕ) → T (inner t n) → up t n < 256
  inner_parent_below n i = present_below t full (up t n) (inner_parent_present n i)

  -- the ring that an inner node is in
  pub ring_around : (n : ℕ) → T (inner t n) → Ring t (up t n)
  ring_around n i = rest.rings (up t n) (rest.inners n i).parent

  pub in_ring_lem : (n : ℕ) (i : T (inner t n)) → n ∈ (ring_around n i).list
  in_ring_lem n i = ((ring_around n i).exact n).1 (i, refl)

  -- the next node of an inner node is inner, in the same blossom
  pub inner-next : (n : ℕ) → T (inner t n) → InnerChild t (up t n) (next t n)
  inner-next n i = let r = ring_around n i in (r.exact (next t n)).0 (ring_next t (up t n) r n (in_ring_lem n i))

  -- a defect has no ring
  pub defect_ringless : (n : ℕ) → n < t.begin → (at t n).ring ≡ none
  defect_ringless n l = elim (same_or_not (at t n).ring none) [ inl e ↦ e | inr d ↦ absurd (omega (arith, (rest.ring_owner n d).blossom)) ]
