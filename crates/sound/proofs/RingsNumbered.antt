-- Numbering a ring, and a node of one, where rings are exact and climbs end: the nodes inside get their numbers and stretches.
use mathlib.Core.Path.{◌≡◌, refl, ◌∙◌}
use mathlib.Core.Logic.{◌≢◌, ◌⊎◌, inl, inr}
use mathlib.Core.Bool.{true, false}
use mathlib.Core.List.{List, [], ◌∷◌}
use Prim.Native.Nat.{ℕ, zero, suc, ◌+◌, ◌*◌, ◌%◌, ◌≤◌, ◌<◌}
use native.Mathlib.Decide.{dec_lt}
use native.Mathlib.Omega.{arith}
use lib.Dec.{T, eqb}
use lib.ListN.{length}
use lib.Seq.{get_or-set_other}
use borrow.Author.Tests.{eq-eqb, le-leb, lt-leb}
use Rattle.slot.specs.Number.{none}
use Rattle.table.specs.Table.{Table, at, Full}
use Rattle.table.specs.Nodes.{present, inner}
use Rattle.rules.specs.Slots.{up, next}
use Rattle.rules.specs.Sound.{next_in_ring}
use Rattle.theorems_soundness.specs.Chain.{◌∈◌, NoDup, Chain}
use Rattle.theorems_soundness.specs.FactsOfBlossoms.{InnerChild, Ring, Inside}
use Rattle.theorems_soundness.proofs.Reflect.{test_true, eqb_yes, eqb_no}
use Rattle.theorems_soundness.proofs.ReflectSlots.{inner-present}
use Rattle.theorems_soundness.proofs.Past.{present_below}
use Rattle.theorems_soundness.proofs.RingLaws.{ring_once, ring_goes_on}
use Rattle.theorems_soundness.proofs.InsideLaws.{inside_self, inside_ring_node, inside-join, inside_ring}
use Rattle.sound_walks.specs.Numbers.{Numbers, begun, is_next, is_odd_ring, blossom_by, node_by, ring_from, blossom_numbered, node_numbered}
use Rattle.sound.proofs.Nests.{Nest, ring_node_lower, not_above, one_ring_node, ring_short, comes_back, goes_on}
use Rattle.sound.proofs.Filled.{Fits, begun_fits}
use Rattle.sound.proofs.Stretches.{number_in, Covers, covers_same, covers_joined, covers_defect, covers_blossom}

module _ (t : Table) (full : Full t) (nest : Nest t) where
  -- y is inside a node of a list
  abbrev Within : List ℕ → ℕ → Type 0
  Within cs y = (c : ℕ) × (c ∈ cs) × Inside t c y

  -- ---- rings and nodes, with budget enough: the nodes left of the ring, and 256 for each that may be around

  abbrev RingCovers : ℕ → Type 0
  RingCovers k =
      (b first n c d : ℕ) (ds : List ℕ) (w : Numbers)
      → Chain (next_in_ring t first) n (d ∷ ds)
      → ((j : ℕ) → j ∈ (d ∷ ds) → next t j ≢ none)
      → ((j : ℕ) → j ∈ (d ∷ ds) → InnerChild t b j)
      → NoDup (d ∷ ds)
      → ((j : ℕ) → j ∈ (d ∷ ds) → length (d ∷ ds) + 256 * nest.rank j ≤ k)
      → is_odd_ring (c + length (d ∷ ds)) ≡ true
      → Fits w
      → ((y : ℕ) → Within (d ∷ ds) y → number_in w y ≡ 0)
      → Covers t (Within (d ∷ ds)) w (ring_from k t b first n c w)

  module _ (k : ℕ) (ih : RingCovers k) (n : ℕ) (w : Numbers) (budget : 256 * nest.rank n ≤ k) (h : T (present t n)) (f : Fits w) (un : (y : ℕ) → Inside t n y → number_in w y ≡ 0) where
    below : n < 256
    below = present_below t full n h

    bare : number_in w n ≡ 0
    bare = un n (inside_self t n)

    module _ (b : t.begin ≤ n) where
      ring : Ring t n
      ring = nest.rings n (record { blossom = b; there = h })

      inward : (y : ℕ) → Within ring.list y → Inside t n y
      inward y s = inside-join t n s.0 y s.2 (inside_ring_node t n s.0 ((ring.exact s.0).0 s.1))

      outside : ¬ Within ring.list n
      outside s = not_above t nest n s.0 ((ring.exact s.0).0 s.1) s.2

      within : (y : ℕ) → Inside t n y → (y ≡ n) ⊎ Within ring.list y
      within y i = elim (inside_ring t n y i) [ inl e ↦ inl e | inr r ↦ inr (r.0, (ring.exact r.0).1 r.1, r.2) ]

      still_bare : (y : ℕ) → Within ring.list y → number_in (begun n w) y ≡ 0
      still_bare y s = get_or-set_other w.lo n y w.free 0 (λ e. outside (rw e at s)) ∙ un y (inward y s)

      odd : is_odd_ring (0 + length ring.list) ≡ true
      odd =
          let z : 0 + length ring.list ≡ length ring.list = omega arith in
          rw z (rw (eq-eqb (length ring.list % 2) 1 ring.odd, le-leb 3 (length ring.list) ring.at_least_three))

      around : Covers t (Within ring.list) (begun n w) (ring_from k t n (at t n).ring (at t n).ring 0 (begun n w))
      around =
          go ring.list ring.chain ring.closes (λ j. (ring.exact j).0) (ring_once t n ring)
          (λ j m. omega (arith, ring_short t n ring full, ring_node_lower t nest n j ((ring.exact j).0 m), budget))
          odd still_bare ring.at_least_three
        where
          go :
              (cs : List ℕ)
              → Chain (next_in_ring t (at t n).ring) (at t n).ring cs
              → ((j : ℕ) → j ∈ cs → next t j ≢ none)
              → ((j : ℕ) → j ∈ cs → InnerChild t n j)
              → NoDup cs
              → ((j : ℕ) → j ∈ cs → length cs + 256 * nest.rank j ≤ k)
              → is_odd_ring (0 + length cs) ≡ true
              → ((y : ℕ) → Within cs y → number_in (begun n w) y ≡ 0)
              → 3 ≤ length cs
              → Covers t (Within cs) (begun n w) (ring_from k t n (at t n).ring (at t n).ring 0 (begun n w))
          go [] p s m o u q z l = absurd (omega arith)
          go (d ∷ ds) p s m o u q z l = ih n (at t n).ring (at t n).ring 0 d ds (begun n w) p s m o u q (begun_fits w f n below bare) z

      pub stretch : Covers t (Inside t n) w (blossom_numbered k t n w)
      unfolding blossom_by
      stretch = covers_blossom t nest n w f below bare (ring_from k t n (at t n).ring (at t n).ring 0 (begun n w)) (Within ring.list) around b outside within inward

    node_covers : Covers t (Inside t n) w (node_numbered k t n w)
    unfolding node_by
    node_covers =
        elim (dec_lt n t.begin) [
          | yes l ↦ rw (lt-leb t.begin n l) (covers_defect t nest n w f below bare l)
          | no g ↦ let b : t.begin ≤ n = omega arith in rw (le-leb t.begin n b) (stretch b)
        ]

  -- a ring's next node
  enters : (b c : ℕ) (w : Numbers) → InnerChild t b c → number_in w c ≡ 0 → is_next t w.lo b c ≡ true
  enters b c w i z = rw (test_true (inner t c) i.0, eqb_yes (up t c) b i.1, eqb_yes (number_in w c) 0 z)

  pub unbroken : (w : Numbers) → Fits w → eqb w.free 0 ≡ false
  unbroken w f = eqb_no w.free 0 (λ z. omega (arith, f.some))

  module _ (k : ℕ) (ih : RingCovers k) (b first c d : ℕ) (ds : List ℕ) (w : Numbers)
      (chain : Chain (next_in_ring t first) (next_in_ring t first d) ds)
      (closes : (j : ℕ) → j ∈ (d ∷ ds) → next t j ≢ none)
      (mine : (j : ℕ) → j ∈ (d ∷ ds) → InnerChild t b j)
      (once : NoDup (d ∷ ds))
      (budget : (j : ℕ) → j ∈ (d ∷ ds) → length (d ∷ ds) + 256 * nest.rank j ≤ suc k)
      (odd : is_odd_ring (c + length (d ∷ ds)) ≡ true)
      (f : Fits w)
      (un : (y : ℕ) → Within (d ∷ ds) y → number_in w y ≡ 0)
    where
      own : InnerChild t b d
      own = mine d (inl refl)

      entered : is_next t w.lo b d ≡ true
      entered = enters b d w own (un d (d, inl refl, inside_self t d))

      head : Covers t (Inside t d) w (node_numbered k t d w)
      head =
          node_covers k ih d w (omega (arith, budget d (inl refl))) (inner-present (at t d).state own.0) f
          (λ y i. un y (d, inl refl, i))

      from : (y j : ℕ) → j ∈ (d ∷ ds) → Inside t j y → Inside t d y ⊎ Within ds y
      from y j (inl e) i = inl (rw e at i)
      from y j (inr m) i = inr (j, m, i)

      to : (y : ℕ) → Inside t d y ⊎ Within ds y → Within (d ∷ ds) y
      to y (inl i) = (d, inl refl, i)
      to y (inr s) = (s.0, inr s.1, s.2)

      -- the last
      module _ (none_left : ds ≡ []) where
        alone : (y : ℕ) → Inside t d y ⊎ Within ds y → Inside t d y
        alone y (inl i) = i
        alone y (inr s) = absurd (rw none_left at s.1)

        last_part : Covers t (Within (d ∷ ds)) w (node_numbered k t d w)
        last_part = covers_same t (Inside t d) (Within (d ∷ ds)) w (node_numbered k t d w) (λ y i. to y (inl i)) (λ y s. alone y (from y s.0 s.1 s.2)) head

        last_odd : is_odd_ring (c + 1) ≡ true
        last_odd = rw none_left at odd

        last_back : eqb (next t d) first ≡ true
        last_back = eqb_yes (next t d) first (comes_back t first d (closes d (inl refl)) (rw none_left at chain))

        ring_last : Covers t (Within (d ∷ ds)) w (ring_from (suc k) t b first d c w)
        unfolding ring_from
        ring_last = rw (entered, unbroken (node_numbered k t d w) head.fits, last_back, last_odd) last_part

      -- another
      module _ (some : next_in_ring t first d ≢ none) (tail : (v : Numbers) → Fits v → ((y : ℕ) → Within ds y → number_in v y ≡ 0) → Covers t (Within ds) v (ring_from k t b first (next t d) (c + 1) v)) where
        apart : (y : ℕ) → Inside t d y → ¬ Within ds y
        apart y i s = once.0 (rw (one_ring_node t nest b d s.0 y own (mine s.0 (inr s.1)) i s.2) s.1)

        tail_part : Covers t (Within ds) (node_numbered k t d w) (ring_from k t b first (next t d) (c + 1) (node_numbered k t d w))
        tail_part = tail (node_numbered k t d w) head.fits (λ y s. (head.elsewhere y (λ i. apart y i s)).0 ∙ un y (s.0, inr s.1, s.2))

        both_parts : Covers t (Within (d ∷ ds)) w (ring_from k t b first (next t d) (c + 1) (node_numbered k t d w))
        both_parts =
            covers_same t (λ y. Inside t d y ⊎ Within ds y) (Within (d ∷ ds)) w (ring_from k t b first (next t d) (c + 1) (node_numbered k t d w)) to (λ y s. from y s.0 s.1 s.2)
            (covers_joined t (Inside t d) (Within ds) w (node_numbered k t d w) (ring_from k t b first (next t d) (c + 1) (node_numbered k t d w)) head tail_part apart
            (λ x y a i. inside-join t d x y i a)
            (λ x y s i. (s.0, s.1, inside-join t s.0 x y i s.2)))

        ring_on : Covers t (Within (d ∷ ds)) w (ring_from (suc k) t b first d c w)
        unfolding ring_from
        ring_on = rw (entered, unbroken (node_numbered k t d w) head.fits, eqb_no (next t d) first (goes_on t first d some)) both_parts

  longer : (c n : ℕ) → c + suc n ≡ c + 1 + n
  longer c n = omega arith

  pub ring_covers : (k : ℕ) → RingCovers k
  ring_covers zero b first n c d ds w p s m o u q f un = absurd (omega (arith, u d (inl refl)))
  ring_covers (suc k) b first n c d [] w p s m o u q f un = rw p.0 (ring_last k (ring_covers k) b first c d [] w p.2 s m o u q f un refl)
  ring_covers (suc k) b first n c d (e ∷ es) w p s m o u q f un =
      let i : next_in_ring t first d ≢ none = p.2.1 in
      let g : next_in_ring t first d ≡ next t d = ring_goes_on t first d (goes_on t first d i) in
      rw p.0
      (ring_on k (ring_covers k) b first c d (e ∷ es) w p.2 s m o u q f un i
      (λ v h z.
      ring_covers k b first (next t d) (c + 1) e es v (rw g at p.2) (λ j r. s j (inr r)) (λ j r. m j (inr r)) o.1
      (λ j r. omega (arith, u j (inr r))) (rw (longer c (length (e ∷ es))) at q) h z))
