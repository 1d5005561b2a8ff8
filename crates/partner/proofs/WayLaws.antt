-- The way up from a defect, as it is noted on a sound table: exactly the nodes around the defect are noted, each with the ring node that
-- holds the defect; and the climb from a node beside the way comes to a ring node beside it.
use mathlib.Core.Path.{◌≡◌, refl, sym, ap, ◌∙◌}
use mathlib.Core.Logic.{◌≢◌, inl, inr}
use mathlib.Core.List.{List}
use Prim.Native.Nat.{ℕ, zero, suc, ◌+◌, ◌≤◌, ◌<◌}
use native.Mathlib.Omega.{arith}
use lib.Dec.{T, T_not}
use lib.ListN.{length, set, get_or, replicate, length-set, length-replicate, get_or-replicate}
use lib.Seq.{get_or-set_same, get_or-set_other}
use Rattle.slot.specs.Number.{none}
use Rattle.table.specs.Table.{Table, Full}
use Rattle.table.specs.Nodes.{inner}
use Rattle.rules.specs.Slots.{up}
use Rattle.theorems_soundness.specs.Chain.{Steps}
use Rattle.theorems_soundness.specs.FactsOfBlossoms.{Inside}
use Rattle.theorems_soundness.specs.Facts.{Rest}
use Rattle.theorems_soundness.proofs.Reflect.{test_true, test_false, eqb_no, test_case}
use Rattle.theorems_soundness.proofs.Past.{inner_below}
use Rattle.theorems_soundness.proofs.Climbing.{steps_grow}
use Rattle.theorems_soundness.proofs.RingLaws.{inner_parent_below}
use Rattle.theorems_soundness.proofs.InsideLaws.{inside_self, inside_ring_node, inside-join, inside_ring}
use Rattle.theorems_requests.proofs.InsideCounts.{inside_or_not}
use Rattle.partner.specs.Way.{noted, is_noted, beside_way}
use Rattle.partner.specs.Following.{way_of}
use Rattle.partner.proofs.WaySteps.{noted_stop, noted-inner, beside_here, beside_above}

module _ (t : Table) (full : Full t) (rest : Rest t) where
  grow : (j a b : ℕ) → Steps (inner t) (up t) j a b → j + a ≤ b
  grow = steps_grow (inner t) (up t) (λ j q. (rest.inners j q).larger)

  -- ---- what is noted

  -- a number that no node of the climb has as parent
  noted_other : (k n z : ℕ) (w : List ℕ) → ((j y : ℕ) → Steps (inner t) (up t) j n y → T (inner t y) → up t y ≢ z) → get_or (noted k t n w) z 0 ≡ get_or w z 0
  unfolding noted
  noted_other zero n z w h = refl
  noted_other (suc k) n z w h =
      elim (test_case (inner t n)) [
        | inl i ↦
            ap (λ (v : List ℕ). get_or v z 0) (noted-inner t w n k (test_true (inner t n) i))
            ∙ noted_other k (up t n) z (set w (up t n) n) (λ j y p. h (suc j) y (i, p))
            ∙ get_or-set_other w (up t n) z n 0 (λ e. h zero n refl i (sym e))
        | inr o ↦ ap (λ (v : List ℕ). get_or v z 0) (noted_stop t w n (suc k) (test_false (inner t n) (T_not (inner t n) o)))
      ]

  noted_there : (j k n y : ℕ) (w : List ℕ) → Steps (inner t) (up t) j n y → T (inner t y) → j < k → length w ≡ 256 → get_or (noted k t n w) (up t y) 0 ≡ y
  noted_there j zero n y w p i l q = absurd (omega arith)
  noted_there zero (suc k) n y w p i l q =
      rw p (ap (λ (v : List ℕ). get_or v (up t y) 0) (noted-inner t w y k (test_true (inner t y) i))
      ∙ noted_other k (up t y) (up t y) (set w (up t y) y) (λ m z s h e. omega (arith, grow m (up t y) z s, (rest.inners z h).larger))
      ∙ get_or-set_same w (up t y) y 0 (omega (arith, inner_parent_below t full rest y i)))
  noted_there (suc j) (suc k) n y w p i l q =
      ap (λ (v : List ℕ). get_or v (up t y) 0) (noted-inner t w n k (test_true (inner t n) p.0))
      ∙ noted_there j k (up t n) y (set w (up t n) n) p.1 i (omega arith) (length-set w (up t n) n ∙ q)

  -- ---- the way up from d

  module _ (d : ℕ) (defect : d < t.begin) where
    -- a ring node that holds d is noted at its blossom
    pub way_below : (y : ℕ) → T (inner t y) → Inside t y d → get_or (way_of t d) (up t y) 0 ≡ y
    way_below y i h =
        noted_there h.steps 256 d y (replicate 256 none) h.climb i (omega (arith, grow h.steps d y h.climb, inner_below t full y i)) (length-replicate {A = ℕ} 256 none)

    on_way : (b : ℕ) → t.begin ≤ b → Inside t b d → T (is_noted (way_of t d) b)
    on_way b l h =
        elim (inside_ring t b d h) [
          | inl e ↦ absurd (omega arith)
          | inr r ↦
              let below : get_or (way_of t d) b 0 ≡ r.0 = rw (sym r.1.1) (way_below r.0 r.1.0 r.2) in
              rw (below, eqb_no r.0 none (λ e. omega (arith, inner_below t full r.0 r.1.0))) tt
        ]

    off_way : (b : ℕ) → b < 256 → ¬ Inside t b d → ¬ T (is_noted (way_of t d) b)
    off_way b l h =
        let none-noted : get_or (way_of t d) b 0 ≡ none =
        noted_other 256 d b (replicate 256 none) (λ j y p i e. h (inside-join t b y d (record { steps = j; climb = p }) (inside_ring_node t b y (i, e))))
        ∙ get_or-replicate 256 b none 0 l in
        rw none-noted (λ z. z)

    -- ---- beside the way

    -- from z, inside x but not on the way, the climb comes to y
    pub record Beside (x z y : ℕ) : Type 0 where
      pub is_inner : T (inner t y)
      pub off : ¬ Inside t y d
      pub on : Inside t (up t y) d
      pub holds : Inside t y z
      pub within : Inside t x (up t y)

    beside : (j k x z : ℕ) → Steps (inner t) (up t) j z x → Inside t x d → ¬ Inside t z d → j ≤ k → Beside x z (beside_way k t (way_of t d) z)
    beside zero k x z p h n l = absurd (n (rw p h))
    beside (suc j) zero x z p h n l = absurd (omega arith)
    beside (suc j) (suc k) x z p h n l =
        elim (inside_or_not t full rest (up t z) d) [
          | inl on ↦
              rw (beside_here t (way_of t d) z k (test_true (is_noted (way_of t d) (up t z)) (on_way (up t z) (rest.inners z p.0).parent.blossom on)))
              (record { is_inner = p.0; off = n; on = on; holds = inside_self t z; within = record { steps = j; climb = p.1 } })
          | inr off ↦
              let r = beside j k x (up t z) p.1 h off (omega arith) in
              rw (beside_above t (way_of t d) z k (test_false (is_noted (way_of t d) (up t z)) (off_way (up t z) (inner_parent_below t full rest z p.0) off)))
              (record {
                is_inner = r.is_inner;
                off = r.off;
                on = r.on;
                holds = inside-join t _ (up t z) z (inside_ring_node t (up t z) z (p.0, refl)) r.holds;
                within = r.within;
              })
        ]

    pub beside_way_lem : (x z : ℕ) → x < 256 → Inside t x z → Inside t x d → ¬ Inside t z d → Beside x z (beside_way 256 t (way_of t d) z)
    beside_way_lem x z l i h n = beside i.steps 256 x z i.climb h n (omega (arith, grow i.steps z x i.climb))
