-- The conflict table's "matched to peer" and "matched to virtual", and the facts that they stand for: an outer node is Stay exactly
-- where it is one of them.
use mathlib.Core.Path.{◌≡◌, refl, sym, ap, ◌∙◌}
use mathlib.Core.Logic.{◌↔◌, ◌⊎◌, inl, inr}
use Prim.Native.Nat.{ℕ, suc}
use native.Mathlib.Omega.{arith}
use Rattle.slot.specs.declared.state.State.TheVariants as S
use Rattle.table.specs.Table.{Table, at, Full}
use Rattle.table.specs.declared.place.Place.{Place}
use Rattle.table.specs.declared.place.Place.TheVariants as P
use Rattle.table.specs.Place.{place}
use Rattle.rules.specs.Act.{node_of}
use Rattle.rules.specs.Slots.{next}
use Rattle.theorems_soundness.specs.FactsOfNodes.{Virtual, Paired, Kind, free_node, virtual_node, paired_node, root_node, minus_node, plus_node}
use Rattle.theorems_soundness.proofs.ReflectSlots.{stay_grow, stay_shrink}
use Rattle.theorems_soundness.proofs.KindLaws.{kind_place, kind_place_lem}

-- places told apart by numbers
abbrev paired_number : Place → ℕ
paired_number P.Free = 0
paired_number (P.Paired peer) = suc peer.0
paired_number P.Virtual = 0
paired_number P.Tree = 0

abbrev virtual_number : Place → ℕ
virtual_number P.Free = 0
virtual_number (P.Paired peer) = 0
virtual_number P.Virtual = 1
virtual_number P.Tree = 0

module _ (t : Table) (n : ℕ) where
  kind_paired : (peer : ℕ) (k : Kind t n) → kind_place k ≡ P.Paired (node_of peer) → Paired t n peer
  kind_paired peer (free_node f) e = absurd (omega (arith, ap paired_number e))
  kind_paired peer (virtual_node v) e = absurd (omega (arith, ap paired_number e))
  kind_paired peer (paired_node p) e = let q : next t n ≡ peer = omega (arith, ap paired_number e) in rw q at p
  kind_paired peer (root_node r) e = absurd (omega (arith, ap paired_number e))
  kind_paired peer (minus_node m) e = absurd (omega (arith, ap paired_number e))
  kind_paired peer (plus_node p) e = absurd (omega (arith, ap paired_number e))

  kind_virtual : (k : Kind t n) → kind_place k ≡ P.Virtual → Virtual (at t n)
  kind_virtual (free_node f) e = absurd (omega (arith, ap virtual_number e))
  kind_virtual (virtual_node v) e = v
  kind_virtual (paired_node p) e = absurd (omega (arith, ap virtual_number e))
  kind_virtual (root_node r) e = absurd (omega (arith, ap virtual_number e))
  kind_virtual (minus_node m) e = absurd (omega (arith, ap virtual_number e))
  kind_virtual (plus_node p) e = absurd (omega (arith, ap virtual_number e))

-- matched to the virtual vertex, or to a peer
abbrev pub MatchedPlace : Place → Type 0
MatchedPlace p = (p ≡ P.Virtual) ⊎ ((peer : ℕ) × (p ≡ P.Paired (node_of peer)))

module _ (t : Table) (full : Full t) (n : ℕ) (k : Kind t n) where
  pub place_paired : (peer : ℕ) → place (at t n) ≡ P.Paired (node_of peer) → Paired t n peer
  place_paired peer e = kind_paired t n peer k (sym (kind_place_lem t full n k) ∙ e)

  pub place_virtual : place (at t n) ≡ P.Virtual → Virtual (at t n)
  place_virtual e = kind_virtual t n k (sym (kind_place_lem t full n k) ∙ e)

  matched_stays : MatchedPlace (place (at t n)) → (at t n).state ≡ S.Stay
  matched_stays (inl e) = (place_virtual e).stays
  matched_stays (inr r) = (place_paired r.0 r.1).here.stays

  pub stay↔matched : ((at t n).state ≡ S.Stay) ↔ MatchedPlace (place (at t n))
  stay↔matched = (λ s. rw (kind_place_lem t full n k) (go k s), matched_stays)
    where
      go : (c : Kind t n) → (at t n).state ≡ S.Stay → MatchedPlace (kind_place c)
      go (free_node f) s = absurd (stay_grow s f.grows)
      go (virtual_node v) s = inl refl
      go (paired_node p) s = inr (next t n, refl)
      go (root_node r) s = absurd (stay_grow s r.grows)
      go (minus_node m) s = absurd (stay_shrink s m.shrinks)
      go (plus_node p) s = absurd (stay_grow s p.grows)
