-- The whole listing: it tells every defect whose outer node is matched; of the others the rule says that they are paired with nobody.
use mathlib.Core.Path.{◌≡◌, sym, ap, ◌∙◌}
use mathlib.Core.Logic.{◌≢◌, ◌⊎◌, inl, inr}
use mathlib.Core.List.{[], ◌∷◌, ◌++◌}
use Prim.Native.Nat.{ℕ, zero, suc, ◌+◌, ◌≤◌, ◌<◌}
use native.Mathlib.Omega.{arith}
use lib.Dec.{T}
use Rattle.slot.specs.declared.state.State.TheVariants as S
use Rattle.slot.specs.Slot.{Link, no_link}
use Rattle.table.specs.Table.{Table, at, Full}
use Rattle.table.specs.Nodes.{present, outer, inner}
use Rattle.table.specs.Climb.{outer_blossom}
use Rattle.rules.specs.Slots.{up, next}
use Rattle.rules.specs.Listing.{virtual_entry, slot_listed, slots_listed, listing}
use Rattle.rules.specs.Partner.{entry}
use Rattle.theorems_soundness.specs.Chain.{Steps}
use Rattle.theorems_soundness.specs.FactsOfNodes.{Virtual, Paired}
use Rattle.theorems_soundness.specs.FactsOfBlossoms.{Inside, DefectInside}
use Rattle.theorems_soundness.specs.Facts.{Sound}
use Rattle.theorems_soundness.proofs.Reflect.{same_or_not}
use Rattle.theorems_soundness.proofs.Past.{outer_below}
use Rattle.theorems_soundness.proofs.KindLaws.{paired_back}
use Rattle.theorems_soundness.proofs.InsideLaws.{outer_blossom_outer, outer_blossom_holds}
use Rattle.theorems_requests.proofs.InsideCounts.{nodes_fit}
use Rattle.theorems_requests.proofs.ListingLaws.{inside_listed}
use Rattle.theorems_requests.proofs.SlotsListed.{SlotCase, unlisted, alone, smaller, larger, slot_case, smaller_listed, matched_joined, virtual_touch, matched_fits}
use Rattle.theorems_partner.proofs.EntryLaws.{matched_entry, unmatched_entry, nobody_inside}
use Rattle.theorems_partner.proofs.EntryTouches.{not_none}
use Rattle.theorems_partner.proofs.EntriesListed.{Tells, tells_before, tells_behind, tells_virtual, at_touch, pair_tells, inside_tells}

module _ (t : Table) (full : Full t) (facts : Sound t) where
  -- a matched node is touched inside
  pub matched_touch : (n : ℕ) → (at t n).state ≡ S.Stay → DefectInside t n (at t n).link.touch
  matched_touch n s = by (slot_case t full facts n)
    where
      by : SlotCase t n → DefectInside t n (at t n).link.touch
      by (unlisted d q) = absurd (d s)
      by (alone v q) = virtual_touch t full facts n v
      by (smaller p l q) = (matched_joined t full facts n (next t n) p).touch
      by (larger p l q) = (matched_joined t full facts n (next t n) p).touch

  -- ---- nobody

  nobody_down : (j x h : ℕ) → Steps (inner t) (up t) j x h → entry t h ≡ no_link → entry t x ≡ no_link
  nobody_down zero x h p e = ap (entry t) p ∙ e
  nobody_down (suc j) x h p e = nobody_inside t full facts.rest x p.0 (nobody_down j (up t x) h p.1 e)

  pub paired_with_nobody : (x : ℕ) → T (present t x) → (at t (outer_blossom t x)).state ≢ S.Stay → entry t x ≡ no_link
  paired_with_nobody x there d =
      let h = outer_blossom t x in
      let w = outer_blossom_holds t full facts.rest x there in
      nobody_down w.steps x h w.climb (unmatched_entry t h (outer_blossom_outer t full facts.rest x there) d)

  -- ---- a slot's part of the listing

  among_slots : (e m k n : ℕ) → n ≤ m → m < n + k → Tells t e (slot_listed m t) → Tells t e (slots_listed k n t)
  unfolding slots_listed
  among_slots e m zero n l u h = absurd (omega arith)
  among_slots e m (suc k) n l u h =
      elim (same_or_not m n) [
        | inl z ↦ tells_before t e (slot_listed n t) (slots_listed k (suc n) t) (rw z at h)
        | inr d ↦ tells_behind t e (slot_listed n t) (slots_listed k (suc n) t) (among_slots e m k (suc n) (omega arith) (omega arith) h)
      ]

  module _ (e : ℕ) (defect : e < t.begin) where
    whole : (m : ℕ) → T (outer t m) → Tells t e (slot_listed m t) → Tells t e (listing t)
    whole m o h = let top = outer_below t full m o in among_slots e m 256 0 (omega arith) (omega arith) h

    of_two : (n : ℕ) → Paired t n (next t n) → n < next t n → Inside t n e ⊎ Inside t (next t n) e → Tells t e (listing t)
    of_two n p l side =
        let peer = next t n in
        let told = pair_tells t full facts.rest e defect 256 n peer (matched_joined t full facts n peer p) (matched_fits t full facts n peer p)
        (matched_entry t n p.here.stays) (matched_entry t peer p.there.stays ∙ p.mirrored) side in
        whole n (rw p.here.stays tt) (rw (smaller_listed t full n p l) told)

    of_one : (n : ℕ) → Virtual (at t n) → slot_listed n t ≡ inside_listed 256 n (at t n).link.touch t ++ (virtual_entry (at t n).link ∷ []) → Inside t n e → Tells t e (listing t)
    of_one n v q i =
        let held = virtual_touch t full facts n v in
        let own = matched_entry t n v.stays in
        let touch = ap (λ (l : Link). l.touch) own in
        let inside = inside_listed 256 n (at t n).link.touch t in
        let some = not_none t full facts.rest n (at t n).link.touch held in
        whole n (rw v.stays tt) (rw q (elim (same_or_not e (at t n).link.touch) [
          | inl z ↦ tells_virtual t e (at t n).link inside some v.no_peer_touch (at_touch t full facts.rest e defect n i (z ∙ sym touch) ∙ own) (sym z)
          | inr d ↦
              let few = nodes_fit t full facts.rest n in
              tells_before t e inside (virtual_entry (at t n).link ∷ []) (inside_tells t full facts.rest e defect 256 n (at t n).link.touch (rw v.stays tt) held (omega arith) held touch i d)
        ]))

    pub matched_tells : (n : ℕ) → (at t n).state ≡ S.Stay → Inside t n e → Tells t e (listing t)
    matched_tells n s i = by (slot_case t full facts n)
      where
        by : SlotCase t n → Tells t e (listing t)
        by (unlisted d q) = absurd (d s)
        by (alone v q) = of_one n v q i
        by (smaller p l q) = of_two n p l (inl i)
        by (larger p l q) =
            let back = p.points_back in
            let turned : Paired t (next t n) (next t (next t n)) = rw back (paired_back t n (next t n) p) in
            of_two (next t n) turned (omega (arith, back)) (inr (rw back i))
