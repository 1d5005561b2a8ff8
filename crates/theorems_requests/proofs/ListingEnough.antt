-- The calls that the listing makes at outer slots list the same with every larger budget.
use mathlib.Core.Path.{◌≡◌, sym, ap, ◌∙◌}
use Prim.Native.Nat.{ℕ, ◌+◌, ◌-◌, ◌≤◌}
use native.Mathlib.Omega.{arith}
use lib.Dec.{T, leb→le}
use Rattle.table.specs.Table.{Table, at, Full}
use Rattle.table.specs.Nodes.{is_blossom, outer}
use Rattle.table.specs.declared.place.Place.TheVariants as P
use Rattle.table.specs.Place.{place}
use Rattle.rules.specs.Act.{node_of}
use Rattle.rules.specs.Listing.{pair_listed, levels_listed}
use Rattle.theorems_soundness.specs.Facts.{Sound}
use Rattle.theorems_requests.proofs.MatchedPlaces.{place_paired, place_virtual}
use Rattle.theorems_requests.proofs.InsideCounts.{nodes_fit}
use Rattle.theorems_requests.proofs.ListingLaws.{inside_blossom_listed}
use Rattle.theorems_requests.proofs.ListingBudget.{pair_enough, inside_enough}
use Rattle.theorems_requests.proofs.SlotsListed.{matched_joined, virtual_touch, matched_fits}

module _ (t : Table) (full : Full t) (sound : Sound t) (k : ℕ) (large : 256 ≤ k) (n : ℕ) (o : T (outer t n)) where
  by_rest : k ≡ (k - 256) + 256
  by_rest = omega arith

  pub pair_budget : (peer : ℕ) → place (at t n) ≡ P.Paired (node_of peer) → pair_listed k n peer (at t n).link t ≡ pair_listed 256 n peer (at t n).link t
  pair_budget peer e =
      let p = place_paired t full n (sound.core.kind n o) peer e in
      ap (λ (m : ℕ). pair_listed m n peer (at t n).link t) by_rest
      ∙ pair_enough t full sound.rest 256 (k - 256) n peer (matched_joined t full sound n peer p) (matched_fits t full sound n peer p)

  pub virtual_budget : place (at t n) ≡ P.Virtual → T (is_blossom t n) → levels_listed k n (at t n).link.touch t ≡ levels_listed 256 n (at t n).link.touch t
  virtual_budget e b =
      let v = place_virtual t full n (sound.core.kind n o) e in
      let d = (at t n).link.touch in
      let l = leb→le t.begin n b in
      let same = inside_enough t full sound.rest 256 (k - 256) n d (rw v.stays tt) (virtual_touch t full sound n v) (omega (arith, nodes_fit t full sound.rest n)) in
      ap (λ (m : ℕ). levels_listed m n d t) by_rest
      ∙ sym (inside_blossom_listed t (k - 256 + 256) n d l)
      ∙ same
      ∙ inside_blossom_listed t 256 n d l
