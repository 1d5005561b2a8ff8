-- S6, S7 of inner nodes, and S8: the ring as an exact list, what an inner node is, and the touches.
use mathlib.Core.Path.{◌≡◌}
use mathlib.Core.Logic.{◌≢◌, ◌↔◌}
use mathlib.Core.Bool.{Bool, ◌&&◌}
use Prim.Native.Nat.{ℕ, ◌%◌, ◌≤◌, ◌<◌}
use lib.Dec.{T}
use lib.ListN.{length}
use Rattle.slot.specs.Number.{none}
use Rattle.table.specs.Table.{Table, at, Full}
use Rattle.table.specs.Nodes.{is_blossom, is_defect, present, outer, inner}
use Rattle.table.specs.Climb.{inside}
use Rattle.rules.specs.Slots.{is_none, is_some, is_full, up, next}
use Rattle.rules.specs.Walk.{ends}
use Rattle.rules.specs.Sound.{◌⇒◌, next_in_ring, ring_of, ring_holds, far_end, is_defect_inside, s6, s7, s8}
use Rattle.theorems_soundness.specs.Chain.{◌∈◌}
use Rattle.theorems_soundness.specs.FactsOfBlossoms.{PresentBlossom, InnerChild, Ring, InBlossom, DefectInside, Touches}
use Rattle.theorems_soundness.proofs.Reflect.{tests, imp→, →imp, and→, →and}
use Rattle.theorems_soundness.proofs.ReflectSlots.{is_full↔}
use Rattle.theorems_soundness.proofs.Chains.{walk_chain, chain_walk_below}
use Rattle.theorems_soundness.proofs.Past.{inner_below}
use Rattle.theorems_soundness.proofs.Climbing.{inside→, →inside}

-- S6 has a test for blossoms and one for inner nodes
abbrev blossom_test : Table → ℕ → Bool
blossom_test t n = (is_blossom t n && present t n) ⇒ ring_holds t n

abbrev is_filled : Table → ℕ → Bool
is_filled t n = is_full (at t n).link && is_none (at t n).first_child

abbrev inner_test : Table → ℕ → Bool
inner_test t n = inner t n ⇒ is_filled t n

-- S8 has one test, for a touch and for a peer touch
abbrev touch_test : Table → ℕ → ℕ → Bool
touch_test t x n = is_some n ⇒ is_defect_inside t x n

-- ---- S6, at a blossom

-- what S6's test says, in facts about the walk round the ring
abbrev RingWalk : Table → ℕ → Type 0
RingWalk t b =
    ((((T (ends 256 (next_in_ring t (at t b).ring) (at t b).ring) × ((j : ℕ) → j ∈ ring_of t b → next t j ≢ none))
    × ((j : ℕ) → j ∈ ring_of t b → InnerChild t b j))
    × ((j : ℕ) → j < 256 → InnerChild t b j → j ∈ ring_of t b))
    × (length (ring_of t b) % 2 ≡ 1))
    × (3 ≤ length (ring_of t b))

module _ (t : Table) where
  ring_walk↔ : (b : ℕ) → T (ring_holds t b) ↔ RingWalk t b
  ring_walk↔ b = (λ h. simp tests at h, λ h. simp tests h)

  pub blossom↔ : (b : ℕ) → T (is_blossom t b && present t b) ↔ PresentBlossom t b
  blossom↔ b = (λ h. let r = simp tests at h in record { blossom = r.0; there = r.1 }, λ p. simp tests (p.blossom, p.there))

module _ (t : Table) (full : Full t) where
  pub s6→ring : (b : ℕ) → T (s6 t b) → PresentBlossom t b → Ring t b
  unfolding s6
  s6→ring b h p =
      let g = and→ (blossom_test t b) (inner_test t b) h in
      let r = (ring_walk↔ t b).0 (imp→ (is_blossom t b && present t b) (ring_holds t b) g.0 ((blossom↔ t b).1 p)) in
      record {
        list = ring_of t b;
        chain = walk_chain (next_in_ring t (at t b).ring) 256 (at t b).ring r.0.0.0.0.0;
        closes = r.0.0.0.0.1;
        exact = λ j. (r.0.0.0.1 j, λ q. r.0.0.1 j (inner_below t full j q.0) q);
        odd = r.0.1;
        at_least_three = r.1;
      }

  ring_found : (b : ℕ) (r : Ring t b) → T (ends 256 (next_in_ring t (at t b).ring) (at t b).ring) × (ring_of t b ≡ r.list)
  ring_found b r =
      chain_walk_below (next_in_ring t (at t b).ring) 256 (at t b).ring r.list r.chain (λ j m. inner_below t full j ((r.exact j).0 m).0)

  pub ring→holds : (b : ℕ) → Ring t b → T (ring_holds t b)
  ring→holds b r =
      let f = ring_found b r in
      (ring_walk↔ t b).1
      (((((f.0, λ j m. r.closes j (rw f.1 at m)), λ j m. (r.exact j).0 (rw f.1 at m)), λ j l q. rw f.1 ((r.exact j).1 q)), rw f.1 r.odd), rw f.1 r.at_least_three)

  -- ---- S6 and S7, at an inner node

  pub tests→in_blossom : (n : ℕ) → T (s6 t n) → T (s7 t n) → T (inner t n) → InBlossom t n
  unfolding s6 s7
  tests→in_blossom n h k i =
      let g = and→ (blossom_test t n) (inner_test t n) h in
      let r = and→ (is_full (at t n).link) (is_none (at t n).first_child) (imp→ (inner t n) (is_filled t n) g.1 i) in
      let c = simp tests at r.1 in
      let q = (simp tests at k).1 i in
      record { linked = (is_full↔ (at t n).link).0 r.0; childless = c; parent = record { blossom = q.0.0; there = q.0.1 }; larger = q.1 }

  filled : (n : ℕ) → InBlossom t n → T (is_filled t n)
  filled n i = →and (is_full (at t n).link) (is_none (at t n).first_child) ((is_full↔ (at t n).link).1 i.linked) (simp tests i.childless)

  pub facts→s6 : (n : ℕ) → (PresentBlossom t n → Ring t n) → (T (inner t n) → InBlossom t n) → T (s6 t n)
  unfolding s6
  facts→s6 n ring in_blossom =
      →and
      (blossom_test t n)
      (inner_test t n)
      (→imp (is_blossom t n && present t n) (ring_holds t n) (λ p. ring→holds n (ring ((blossom↔ t n).0 p))))
      (→imp (inner t n) (is_filled t n) (λ i. filled n (in_blossom i)))

  pub facts→s7 : (n : ℕ) → (T (outer t n) → T (ends 257 (up t) n)) → (T (inner t n) → InBlossom t n) → T (s7 t n)
  unfolding s7
  facts→s7 n ends in_blossom = simp tests (ends, λ i. let r = in_blossom i in ((r.parent.blossom, r.parent.there), r.larger))

  -- ---- S8

  defect_inside→ : (x n : ℕ) → T (is_defect_inside t x n) → DefectInside t x n
  defect_inside→ x n h = let r = and→ (is_defect t n) (inside t x n) h in record { defect = simp tests at r.0; inside = inside→ t x n r.1 }

  touch→ : (x n : ℕ) → T (touch_test t x n) → n ≢ none → DefectInside t x n
  touch→ x n h d = defect_inside→ x n (imp→ (is_some n) (is_defect_inside t x n) h (simp tests d))

  pub s8→touches : (n : ℕ) → T (s8 t n) → Touches t n
  unfolding s8
  s8→touches n h =
      let l = (at t n).link in
      let r = and→ (touch_test t n l.touch) (touch_test t (far_end t n) l.peer_touch) h in
      record { touch = touch→ n l.touch r.0; peer_touch = touch→ (far_end t n) l.peer_touch r.1 }

  module _ (inners : (n : ℕ) → T (inner t n) → InBlossom t n) where
    →defect_inside : (x n : ℕ) → DefectInside t x n → T (is_defect_inside t x n)
    →defect_inside x n d = →and (is_defect t n) (inside t x n) (simp tests d.defect) (→inside t x full inners n d.inside)

    →touch : (x n : ℕ) → (n ≢ none → DefectInside t x n) → T (touch_test t x n)
    →touch x n f = →imp (is_some n) (is_defect_inside t x n) (λ h. →defect_inside x n (f (simp tests at h)))

    pub touches→s8 : (n : ℕ) → Touches t n → T (s8 t n)
    unfolding s8
    touches→s8 n h =
        let l = (at t n).link in
        →and (touch_test t n l.touch) (touch_test t (far_end t n) l.peer_touch) (→touch n l.touch h.touch) (→touch (far_end t n) l.peer_touch h.peer_touch)
