-- What follows from S7 for "inside": it is an order, each present node is inside exactly one outer node, which `outer_blossom`
-- finds, and inside exactly one node of a ring around it, which `second_outer_blossom` finds.
use mathlib.Core.Path.{◌≡◌, refl, sym, subst}
use mathlib.Core.Logic.{◌⊎◌, inl, inr}
use Prim.Native.Nat.{ℕ, zero, suc, ◌+◌, ◌≤◌}
use native.Mathlib.Omega.{arith}
use lib.Dec.{T}
use Rattle.lists.specs.Choice.{pick}
use Rattle.table.specs.Table.{Table, at, Full}
use Rattle.table.specs.Nodes.{present, outer, inner}
use Rattle.table.specs.Climb.{outer_blossom_within, outer_blossom, second_outer_within, second_outer_blossom}
use Rattle.rules.specs.Slots.{up}
use Rattle.theorems_soundness.specs.Chain.{Steps}
use Rattle.theorems_soundness.specs.FactsOfBlossoms.{InnerChild, Inside}
use Rattle.theorems_soundness.specs.Facts.{Rest}
use Rattle.theorems_soundness.proofs.Reflect.{pick_yes, pick_no}
use Rattle.theorems_soundness.proofs.ReflectSlots.{outer_not_inner, inner-present, outer-present}
use Rattle.theorems_soundness.proofs.Past.{present_below}
use Rattle.theorems_soundness.proofs.Climbing.{steps_join, steps_grow}
use Rattle.theorems_soundness.proofs.KindLaws.{present_case}

module _ (t : Table) where
  pub inside_self : (n : ℕ) → Inside t n n
  inside_self n = record { steps = 0; climb = refl }

  pub inside_ring_node : (b n : ℕ) → InnerChild t b n → Inside t b n
  inside_ring_node b n h = record { steps = 1; climb = h }

  pub inside-join : (x y n : ℕ) → Inside t y n → Inside t x y → Inside t x n
  inside-join x y n p q =
      record { steps = p.steps + q.steps; climb = steps_join (inner t) (up t) p.steps q.steps n y x p.climb q.climb }

  -- by the first step
  pub inside_case : (x n : ℕ) → Inside t x n → (n ≡ x) ⊎ (T (inner t n) × Inside t x (up t n))
  inside_case x n p = go p.steps p.climb
    where
      go : (k : ℕ) → Steps (inner t) (up t) k n x → (n ≡ x) ⊎ (T (inner t n) × Inside t x (up t n))
      go zero s = inl s
      go (suc k) s = inr (s.0, record { steps = k; climb = s.1 })

  -- by the last step: n is x, or inside a ring node of x
  last_step : (x k n : ℕ) → Steps (inner t) (up t) k n x → (n ≡ x) ⊎ ((y : ℕ) × InnerChild t x y × Inside t y n)
  last_step x zero n s = inl s
  last_step x (suc k) n s = inr (go (last_step x k (up t n) s.1))
    where
      go : (up t n ≡ x) ⊎ ((y : ℕ) × InnerChild t x y × Inside t y (up t n)) → (y : ℕ) × InnerChild t x y × Inside t y n
      go (inl e) = (n, (s.0, e), inside_self n)
      go (inr r) = (r.0, r.1, inside-join r.0 (up t n) n (inside_ring_node (up t n) n (s.0, refl)) r.2)

  pub inside_ring : (x n : ℕ) → Inside t x n → (n ≡ x) ⊎ ((y : ℕ) × InnerChild t x y × Inside t y n)
  inside_ring x n p = last_step x p.steps n p.climb

  -- of two nodes that n is inside, one is inside the other
  climbs_meet : (x y j k n : ℕ) → Steps (inner t) (up t) j n x → Steps (inner t) (up t) k n y → Inside t y x ⊎ Inside t x y
  climbs_meet x y zero k n p q = inl (record { steps = k; climb = rw p at q })
  climbs_meet x y (suc j) zero n p q = inr (record { steps = suc j; climb = subst (λ (a : ℕ). Steps (inner t) (up t) (suc j) a x) q p })
  climbs_meet x y (suc j) (suc k) n p q = climbs_meet x y j k (up t n) p.1 q.1

  pub inside_compare : (x y n : ℕ) → Inside t x n → Inside t y n → Inside t y x ⊎ Inside t x y
  inside_compare x y n p q = climbs_meet x y p.steps q.steps n p.climb q.climb

  -- nothing but itself holds an outer node
  pub outer-inside : (x n : ℕ) → T (outer t n) → Inside t x n → n ≡ x
  outer-inside x n o p = elim (inside_case x n p) [ inl e ↦ e | inr r ↦ absurd (outer_not_inner (at t n).state o r.0) ]

  pub one-outer : (x y n : ℕ) → T (outer t x) → T (outer t y) → Inside t x n → Inside t y n → x ≡ y
  one-outer x y n p q a b = elim (inside_compare x y n a b) [ inl c ↦ outer-inside y x p c | inr c ↦ sym (outer-inside x y q c) ]

module _ (t : Table) (full : Full t) (rest : Rest t) where
  pub inside_larger : (x n : ℕ) → Inside t x n → n ≤ x
  inside_larger x n p = omega (arith, steps_grow (inner t) (up t) (λ i q. (rest.inners i q).larger) p.steps n x p.climb)

  pub inside-present : (x n : ℕ) → T (present t x) → Inside t x n → T (present t n)
  inside-present x n h p = elim (inside_case t x n p) [ inl e ↦ rw e h | inr r ↦ inner-present (at t n).state r.0 ]

  -- n is inside one node of a ring
  apart : (b y z : ℕ) → InnerChild t b y → InnerChild t b z → Inside t z y → y ≡ z
  apart b y z p q h = elim (inside_case t z y h) [ inl e ↦ e | inr r ↦ absurd (over r.1) ]
    where
      over : Inside t z (up t y) → ⊥
      over k =
          let l = (rest.inners z q.0).larger in
          let m = inside_larger z (up t y) k in
          omega (arith, p.1, q.1)

  pub one_ring_node : (b y z n : ℕ) → InnerChild t b y → InnerChild t b z → Inside t y n → Inside t z n → y ≡ z
  one_ring_node b y z n p q h k = elim (inside_compare t y z n h k) [ inl c ↦ apart b y z p q c | inr c ↦ sym (apart b z y q p c) ]

  -- ---- the climbs out

  -- the climb from n with budget enough ends in an outer node that holds n
  climbed : (k n : ℕ) → 256 ≤ k + n → T (present t n) → T (outer t (outer_blossom_within k t n)) × Inside t (outer_blossom_within k t n) n
  unfolding outer_blossom_within
  climbed zero n l h = absurd (omega (arith, present_below t full n h))
  climbed (suc k) n l h = go (present_case t rest n h) (climbed k (up t n))
    where
      go :
          T (outer t n) ⊎ T (inner t n)
          → (256 ≤ k + up t n → T (present t (up t n)) → T (outer t (outer_blossom_within k t (up t n))) × Inside t (outer_blossom_within k t (up t n)) (up t n))
          → T (outer t (pick (inner t n) (outer_blossom_within k t (up t n)) n)) × Inside t (pick (inner t n) (outer_blossom_within k t (up t n)) n) n
      go (inl o) ih = rw (pick_no (inner t n) (outer_blossom_within k t (up t n)) n (outer_not_inner (at t n).state o)) (o, inside_self t n)
      go (inr i) ih =
          let f = rest.inners n i in
          let r = ih (omega (arith, f.larger)) f.parent.there in
          rw (pick_yes (inner t n) (outer_blossom_within k t (up t n)) n i) (r.0, inside-join t (outer_blossom_within k t (up t n)) (up t n) n (inside_ring_node t (up t n) n (i, refl)) r.1)

  pub outer_blossom_outer : (n : ℕ) → T (present t n) → T (outer t (outer_blossom t n))
  outer_blossom_outer n h = (climbed 256 n (omega arith) h).0

  pub outer_blossom_holds : (n : ℕ) → T (present t n) → Inside t (outer_blossom t n) n
  outer_blossom_holds n h = (climbed 256 n (omega arith) h).1

  pub outer_blossom_is : (x n : ℕ) → T (outer t x) → Inside t x n → outer_blossom t n ≡ x
  outer_blossom_is x n o p =
      let h = inside-present x n (outer-present (at t x).state o) p in
      one-outer t (outer_blossom t n) x n (outer_blossom_outer n h) o (outer_blossom_holds n h) p

  -- r is a ring node of an outer blossom, and holds m
  abbrev RingNodeAround : ℕ → ℕ → Type 0
  RingNodeAround m r = (x : ℕ) × T (outer t x) × InnerChild t x r × Inside t r m

  climbed-second :
      (k m below n : ℕ)
      → 256 ≤ k + n
      → T (present t n)
      → InnerChild t n below
      → Inside t below m
      → RingNodeAround m (second_outer_within k t below n)
  unfolding second_outer_within
  climbed-second zero m below n l h c p = absurd (omega (arith, present_below t full n h))
  climbed-second (suc k) m below n l h c p = go (present_case t rest n h) (climbed-second k m n (up t n))
    where
      go :
          T (outer t n) ⊎ T (inner t n)
          → (256 ≤ k + up t n → T (present t (up t n)) → InnerChild t (up t n) n → Inside t n m → RingNodeAround m (second_outer_within k t n (up t n)))
          → RingNodeAround m (pick (inner t n) (second_outer_within k t n (up t n)) below)
      go (inl o) ih = rw (pick_no (inner t n) (second_outer_within k t n (up t n)) below (outer_not_inner (at t n).state o)) (n, o, c, p)
      go (inr i) ih =
          let f = rest.inners n i in
          rw (pick_yes (inner t n) (second_outer_within k t n (up t n)) below i) (ih (omega (arith, f.larger)) f.parent.there (i, refl) (inside-join t n below m p (inside_ring_node t n below c)))

  second_around : (n : ℕ) → T (inner t n) → RingNodeAround n (second_outer_blossom t n)
  unfolding second_outer_within
  second_around n i =
      let f = rest.inners n i in
      rw (pick_yes (inner t n) (second_outer_within 255 t n (up t n)) n i) (climbed-second 255 n n (up t n) (omega (arith, f.larger)) f.parent.there (i, refl) (inside_self t n))

  -- "the ring node [..] that n is inside", of the outer blossom around n
  pub second_outer-holds : (n : ℕ) → T (inner t n) → Inside t (second_outer_blossom t n) n
  second_outer-holds n i = (second_around n i).3

  pub second_outer_ring : (n : ℕ) → T (inner t n) → InnerChild t (outer_blossom t n) (second_outer_blossom t n)
  second_outer_ring n i =
      let r = second_around n i in
      let b = r.0 in
      let held = inside-join t b (second_outer_blossom t n) n r.3 (inside_ring_node t b (second_outer_blossom t n) r.2) in
      rw (outer_blossom_is b n r.1 held) r.2

  pub second_outer_is : (x y n : ℕ) → T (outer t x) → InnerChild t x y → Inside t y n → second_outer_blossom t n ≡ y
  second_outer_is x y n o c p =
      let i : T (inner t n) = elim (inside_case t y n p) [ inl e ↦ rw e c.0 | inr r ↦ r.0 ] in
      let e = outer_blossom_is x n o (inside-join t x y n p (inside_ring_node t x y c)) in
      one_ring_node x (second_outer_blossom t n) y n (rw e at (second_outer_ring n i)) c (second_outer-holds n i) p
