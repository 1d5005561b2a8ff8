-- "Over outer slots ascending, matched ones only; a pair at its smaller number": what the listing says at each slot of a sound table.
use mathlib.Core.Path.{◌≡◌, sym, ◌∙◌}
use mathlib.Core.Logic.{◌≢◌, inl, inr}
use mathlib.Core.List.{[], ◌∷◌, ◌++◌}
use Prim.Native.Nat.{ℕ, ◌+◌, ◌≤◌, ◌<◌}
use native.Mathlib.Decide.{dec_lt}
use native.Mathlib.Omega.{arith}
use lib.Dec.{T, T_not, ltb, ltb→lt, lt→ltb}
use Rattle.slot.specs.declared.state.State.TheVariants as S
use Rattle.table.specs.Table.{Table, at, Full}
use Rattle.table.specs.Nodes.{outer}
use Rattle.table.specs.declared.place.Place.{Place}
use Rattle.table.specs.Place.{place}
use Rattle.rules.specs.Act.{choose}
use Rattle.rules.specs.Slots.{next}
use Rattle.rules.specs.Listing.{virtual_entry, pair_listed, matched_listed, slot_listed}
use Rattle.theorems_soundness.specs.FactsOfNodes.{Virtual, Paired, Kind, free_node, virtual_node, paired_node, root_node, minus_node, plus_node}
use Rattle.theorems_soundness.specs.FactsOfBlossoms.{DefectInside}
use Rattle.theorems_soundness.specs.Facts.{Sound}
use Rattle.theorems_soundness.proofs.Reflect.{test_true, test_false, test_case}
use Rattle.theorems_soundness.proofs.ReflectSlots.{stay_grow, stay_shrink}
use Rattle.theorems_soundness.proofs.KindLaws.{kind_outer, kind_place, kind_place_lem}
use Rattle.theorems_soundness.proofs.TouchLaws.{peer_touch_paired}
use Rattle.theorems_requests.proofs.InsideCounts.{nodes_inside, nodes_two}
use Rattle.theorems_requests.proofs.NestedCalls.{Joined}
use Rattle.theorems_requests.proofs.ListingLaws.{inside_listed}

-- what a slot can be to the listing
pub data SlotCase (t : Table) (n : ℕ) : Type 0 where
  unlisted : (at t n).state ≢ S.Stay → slot_listed n t ≡ [] → SlotCase t n
  alone : Virtual (at t n) → slot_listed n t ≡ inside_listed 256 n (at t n).link.touch t ++ (virtual_entry (at t n).link ∷ []) → SlotCase t n
  smaller : Paired t n (next t n) → n < next t n → slot_listed n t ≡ pair_listed 256 n (next t n) (at t n).link t → SlotCase t n
  larger : Paired t n (next t n) → next t n < n → slot_listed n t ≡ [] → SlotCase t n

module _ (t : Table) (full : Full t) (n : ℕ) where
  slot_place : (p : Place) → T (outer t n) → place (at t n) ≡ p → slot_listed n t ≡ matched_listed p n (at t n) t
  unfolding slot_listed choose
  slot_place p o e = rw (test_true (outer t n) o, e)

  not_outer_listed : ¬ T (outer t n) → slot_listed n t ≡ []
  unfolding slot_listed choose
  not_outer_listed d = rw (test_false (outer t n) d)

  kind_listed : (k : Kind t n) → slot_listed n t ≡ matched_listed (kind_place k) n (at t n) t
  kind_listed k = slot_place (kind_place k) (kind_outer k) (kind_place_lem t full n k)

  pub smaller_listed : Paired t n (next t n) → n < next t n → slot_listed n t ≡ pair_listed 256 n (next t n) (at t n).link t
  unfolding choose
  smaller_listed p l = kind_listed (paired_node p) ∙ rw (test_true (ltb n (next t n)) (lt→ltb n (next t n) l))

  larger_listed : Paired t n (next t n) → next t n < n → slot_listed n t ≡ []
  unfolding choose
  larger_listed p l = kind_listed (paired_node p) ∙ rw (test_false (ltb n (next t n)) (λ h. omega (arith, ltb→lt n (next t n) h)))

  alone_listed : Virtual (at t n) → slot_listed n t ≡ inside_listed 256 n (at t n).link.touch t ++ (virtual_entry (at t n).link ∷ [])
  unfolding inside_listed
  alone_listed v = kind_listed (virtual_node v)

  kind_case : Kind t n → SlotCase t n
  kind_case (free_node f) = unlisted (λ s. stay_grow s f.grows) (kind_listed (free_node f))
  kind_case (virtual_node v) = alone v (alone_listed v)
  kind_case (paired_node p) = elim (dec_lt n (next t n)) [ yes l ↦ smaller p l (smaller_listed p l) | no g ↦ let l : next t n < n = omega (arith, p.another) in larger p l (larger_listed p l) ]
  kind_case (root_node r) = unlisted (λ s. stay_grow s r.grows) (kind_listed (root_node r))
  kind_case (minus_node m) = unlisted (λ s. stay_shrink s m.shrinks) (kind_listed (minus_node m))
  kind_case (plus_node p) = unlisted (λ s. stay_grow s p.grows) (kind_listed (plus_node p))

module _ (t : Table) (full : Full t) (sound : Sound t) where
  pub slot_case : (n : ℕ) → SlotCase t n
  slot_case n =
      elim (test_case (outer t n)) [
        | inl o ↦ kind_case t full n (sound.core.kind n o)
        | inr h ↦ unlisted (λ s. T_not (outer t n) h (rw s tt)) (not_outer_listed t full n (T_not (outer t n) h))
      ]

  -- ---- the calls that the listing makes

  pub matched_joined : (n peer : ℕ) → Paired t n peer → Joined t n peer
  matched_joined n peer p =
      record {
        here = rw p.here.stays tt;
        there = rw p.there.stays tt;
        touch = (sound.rest.touches n).touch p.here.linked.has_touch;
        peer_touch = peer_touch_paired t full sound.rest n peer p;
      }

  pub virtual_touch : (n : ℕ) → Virtual (at t n) → DefectInside t n (at t n).link.touch
  virtual_touch n v = (sound.rest.touches n).touch v.has_touch

  -- a budget of 256 is enough
  pub matched_fits : (n peer : ℕ) → Paired t n peer → nodes_inside t n + nodes_inside t peer ≤ 257
  matched_fits n peer p =
      omega (arith, nodes_two t full sound.rest n peer (rw p.here.stays tt) (rw p.there.stays tt) (λ e. p.another (sym e)))
