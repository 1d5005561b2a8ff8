-- The walk that gives numbers finds the rings of S6, on any table: where it does not break, every blossom with a number has a ring,
-- odd and of its own inner nodes, and every inner node with a number is on its parent's.
use mathlib.Core.Path.{◌≡◌, refl, ◌∙◌}
use mathlib.Core.Logic.{◌≢◌, ◌⊎◌, inl, inr}
use mathlib.Core.Bool.{Bool, true, false}
use mathlib.Core.List.{List, [], ◌∷◌}
use Prim.Native.Nat.{ℕ, zero, suc, ◌+◌, ◌-◌, ◌%◌, ◌≤◌, ◌<◌}
use native.Mathlib.Decide.{dec_lt}
use native.Mathlib.Omega.{arith}
use lib.Dec.{T, T_not, eqb, leb}
use lib.ListN.{length, get_or, set, length-set, length-replicate}
use lib.Seq.{get_or-set_same, get_or-set_other}
use borrow.Author.Tests.{eqb-true, eqb-false, leb-true, le-leb, lt-leb}
use Rattle.lists.specs.Choice.{pick}
use Rattle.slot.specs.declared.state.State.TheVariants as S
use Rattle.slot.specs.Number.{none}
use Rattle.table.specs.Table.{Table, at, Full}
use Rattle.table.specs.Nodes.{present, outer, inner}
use Rattle.rules.specs.Slots.{up, next}
use Rattle.rules.specs.Sound.{next_in_ring, is_inner_child}
use Rattle.theorems_soundness.specs.Chain.{◌∈◌, Chain}
use Rattle.theorems_soundness.specs.FactsOfBlossoms.{PresentBlossom, InnerChild, Ring}
use Rattle.theorems_soundness.proofs.Reflect.{true_test, test_true, test_false, test_case, eqb_yes, eqb_no, same_or_not}
use Rattle.theorems_soundness.proofs.ReflectSlots.{inner-present, outer-present, outer_not_inner}
use Rattle.theorems_soundness.proofs.Past.{present_below, present_some}
use Rattle.theorems_soundness.proofs.Chains.{chain_unique}
use Rattle.theorems_soundness.proofs.RingLaws.{ring_goes_on, ring_comes_back}
use Rattle.sound_walks.specs.Numbers.{Numbers, numbers_of, counted, begun, ended, is_next, is_odd_ring, broken, blossom_by, node_by, ring_from, blossom_numbered, node_numbered, outer_numbered, outers_numbered}
use Rattle.sound_walks.proofs.Truth.{and_left, and_right}
use Rattle.sound.specs.Given.{unseen, numbers_from}
use Rattle.sound.proofs.Nests.{state_case}
use Rattle.sound.proofs.Filled.{blank}
use Rattle.sound.proofs.Stretches.{number_in}

-- a ring as the walk finds it
pub record Walked (t : Table) (b : ℕ) : Type 0 where
  pub list : List ℕ
  pub chain : Chain (next_in_ring t (at t b).ring) (at t b).ring list
  pub closes : (j : ℕ) → j ∈ list → next t j ≢ none
  pub mine : (j : ℕ) → j ∈ list → InnerChild t b j
  pub odd : is_odd_ring (length list) ≡ true

abbrev pub OnRing : Table → ℕ → ℕ → Type 0
OnRing t b y = (r : Walked t b) × (y ∈ r.list)

abbrev pub Owned : Table → ℕ → Type 0
Owned t y = PresentBlossom t (up t y) × OnRing t (up t y) y

-- from w to v: what has got a number is a root, or on its parent's ring; and a blossom has a ring
pub record Found (t : Table) (Root : ℕ → Type 0) (w v : Numbers) : Type 0 where
  pub size : length v.lo ≡ length w.lo
  pub stays : (y : ℕ) → 1 ≤ number_in w y → 1 ≤ number_in v y
  pub rings : (y : ℕ) → number_in w y ≡ 0 → 1 ≤ number_in v y → t.begin ≤ y → Walked t y
  pub owned : (y : ℕ) → number_in w y ≡ 0 → 1 ≤ number_in v y → Root y ⊎ Owned t y

module _ (t : Table) where
  found_none : (Root : ℕ → Type 0) (w : Numbers) → Found t Root w w
  found_none Root w = record { size = refl; stays = λ y l. l; rings = λ y z l. absurd (omega arith); owned = λ y z l. absurd (omega arith) }

  found-joined :
      (A B C : ℕ → Type 0) (w v u : Numbers)
      → ((y : ℕ) → A y → C y)
      → ((y : ℕ) → B y → C y)
      → Found t A w v
      → Found t B v u
      → Found t C w u
  found-joined A B C w v u a b f g =
      record {
        size = g.size ∙ f.size;
        stays = λ y l. g.stays y (f.stays y l);
        rings = λ y z l s. elim (same_or_not (number_in v y) 0) [ inl e ↦ g.rings y e l s | inr d ↦ f.rings y z (omega (arith, d)) s ];
        owned = λ y z l.
            elim (same_or_not (number_in v y) 0) [
              | inl e ↦ elim (g.owned y e l) [ inl r ↦ inl (b y r) | inr o ↦ inr o ]
              | inr d ↦ elim (f.owned y z (omega (arith, d))) [ inl r ↦ inl (a y r) | inr o ↦ inr o ]
            ];
      }

-- ---- how a ring goes on, read off the next number that it leaves

abbrev Goes : Bool → Bool → Numbers → Numbers → Numbers → Type 0
Goes back odd v rest u = ((back ≡ true) × (odd ≡ true) × (u ≡ v)) ⊎ ((back ≡ false) × (u ≡ rest))

goes : (back odd : Bool) (v rest : Numbers) → 1 ≤ (pick back (numbers_of v.lo v.hi (pick odd v.free 0)) rest).free → Goes back odd v rest (pick back (numbers_of v.lo v.hi (pick odd v.free 0)) rest)
goes true true v rest h = inl (refl, refl, refl)
goes true false v rest h = absurd (omega arith)
goes false odd v rest h = inr (refl, refl)

viewed :
    (g back odd : Bool) (v rest w : Numbers)
    → 1 ≤ (pick g (pick (eqb v.free 0) v (pick back (numbers_of v.lo v.hi (pick odd v.free 0)) rest)) (broken w)).free
    → (g ≡ true) × (1 ≤ v.free) × Goes back odd v rest (pick g (pick (eqb v.free 0) v (pick back (numbers_of v.lo v.hi (pick odd v.free 0)) rest)) (broken w))
viewed false back odd v rest w h = absurd (omega arith)
viewed true back odd v rest w h =
    elim (same_or_not v.free 0) [
      | inl e ↦ let l : 1 ≤ v.free = rw (eqb_yes v.free 0 e) at h in absurd (omega arith)
      | inr d ↦ (refl, omega (arith, d), rw (eqb_no v.free 0 d) (goes back odd v rest (rw (eqb_no v.free 0 d) at h)))
    ]

module _ (t : Table) (full : Full t) where
  is_next→ : (w : Numbers) (b n : ℕ) → is_next t w.lo b n ≡ true → InnerChild t b n
  is_next→ w b n h =
      let i = and_left (is_inner_child t b n) (eqb (number_in w n) 0) h in
      (true_test (inner t n) (and_left (inner t n) (eqb (up t n) b) i), eqb-true (up t n) b (and_right (inner t n) (eqb (up t n) b) i))

  inner_some : (n : ℕ) → T (inner t n) → n ≢ none
  inner_some n i = present_some t full n (inner-present (at t n).state i)

  ring-view :
      (k b first n c : ℕ) (w : Numbers)
      → 1 ≤ (ring_from (suc k) t b first n c w).free
      → (is_next t w.lo b n ≡ true)
      × (1 ≤ (node_numbered k t n w).free)
      × Goes (eqb (next t n) first) (is_odd_ring (c + 1)) (node_numbered k t n w) (ring_from k t b first (next t n) (c + 1) (node_numbered k t n w)) (ring_from (suc k) t b first n c w)
  unfolding ring_from
  ring-view k b first n c w h = viewed (is_next t w.lo b n) (eqb (next t n) first) (is_odd_ring (c + 1)) (node_numbered k t n w) (ring_from k t b first (next t n) (c + 1) (node_numbered k t n w)) w h

  ring_spent : (b first n c : ℕ) (w : Numbers) → ¬ (1 ≤ (ring_from 0 t b first n c w).free)
  unfolding ring_from
  ring_spent b first n c w h = omega arith

  -- a ring that was not broken starts at a node of it
  ring_begins : (k b first n c : ℕ) (w : Numbers) → 1 ≤ (ring_from k t b first n c w).free → InnerChild t b n
  ring_begins zero b first n c w h = absurd (ring_spent b first n c w h)
  ring_begins (suc k) b first n c w h = is_next→ w b n (ring-view k b first n c w h).0

  -- the rest of a ring
  record RingRest (b first n c : ℕ) (w u : Numbers) : Type 0 where
    list : List ℕ
    chain : Chain (next_in_ring t first) n list
    closes : (j : ℕ) → j ∈ list → next t j ≢ none
    mine : (j : ℕ) → j ∈ list → InnerChild t b j
    odd : is_odd_ring (c + length list) ≡ true
    found : Found t (λ y. y ∈ list) w u

  abbrev RingFound : ℕ → Type 0
  RingFound k =
      (b first n c : ℕ) (w : Numbers)
      → first ≢ none
      → length w.lo ≡ 256
      → 1 ≤ w.free
      → 1 ≤ (ring_from k t b first n c w).free
      → RingRest b first n c w (ring_from k t b first n c w)

  -- ---- a node

  module _ (n : ℕ) (w : Numbers) (h : T (present t n)) (size : length w.lo ≡ 256) (l : 1 ≤ w.free) where
    here : get_or (set w.lo n w.free) n 0 ≡ w.free
    here = get_or-set_same w.lo n w.free 0 (omega (arith, present_below t full n h, size))

    other : (y : ℕ) → y ≢ n → get_or (set w.lo n w.free) y 0 ≡ number_in w y
    other y d = get_or-set_other w.lo n y w.free 0 d

    marked-stays : (y : ℕ) → 1 ≤ number_in w y → 1 ≤ get_or (set w.lo n w.free) y 0
    marked-stays y s = elim (same_or_not y n) [ inl e ↦ rw e (omega (arith, here, l)) | inr d ↦ omega (arith, other y d, s) ]

    found_defect : n < t.begin → Found t (λ y. y ≡ n) w (counted n w)
    found_defect b =
        record {
          size = length-set w.lo n w.free;
          stays = marked-stays;
          rings = λ y z s q. elim (same_or_not y n) [ inl e ↦ absurd (omega arith) | inr d ↦ absurd (omega (arith, other y d, z, s)) ];
          owned = λ y z s. elim (same_or_not y n) [ inl e ↦ inl e | inr d ↦ absurd (omega (arith, other y d, z, s)) ];
        }

    module _ (b : t.begin ≤ n) (v : Numbers) (r : RingRest n (at t n).ring (at t n).ring 0 (begun n w) v) where
      abbrev walked : Walked t n
      walked =
          let z : 0 + length r.list ≡ length r.list = omega arith in
          record { list = r.list; chain = r.chain; closes = r.closes; mine = r.mine; odd = rw z at r.odd }

      on_ring : (y : ℕ) → y ∈ r.list → Owned t y
      on_ring y m = let e = (r.mine y m).1 in rw e (record { blossom = b; there = h }, (walked, m))

      found_blossom : Found t (λ y. y ≡ n) w (ended n v)
      found_blossom =
          record {
            size = r.found.size ∙ length-set w.lo n w.free;
            stays = λ y s. r.found.stays y (marked-stays y s);
            rings = λ y z s q. elim (same_or_not y n) [ inl e ↦ rw e walked | inr d ↦ r.found.rings y (other y d ∙ z) s q ];
            owned = λ y z s.
                elim (same_or_not y n) [
                  | inl e ↦ inl e
                  | inr d ↦ elim (r.found.owned y (other y d ∙ z) s) [ inl m ↦ inr (on_ring y m) | inr o ↦ inr o ]
                ];
          }

      numbered_blossom : 1 ≤ number_in (ended n v) n
      numbered_blossom = r.found.stays n (omega (arith, here, l))

    blossom_found : (k : ℕ) → RingFound k → t.begin ≤ n → 1 ≤ (blossom_numbered k t n w).free → Found t (λ y. y ≡ n) w (blossom_numbered k t n w) × (1 ≤ number_in (blossom_numbered k t n w) n)
    unfolding blossom_by
    blossom_found k ih b o =
        let i = ring_begins k n (at t n).ring (at t n).ring 0 (begun n w) o in
        let r = ih n (at t n).ring (at t n).ring 0 (begun n w) (inner_some (at t n).ring i.0) (length-set w.lo n w.free ∙ size) l o in
        (found_blossom b (ring_from k t n (at t n).ring (at t n).ring 0 (begun n w)) r, numbered_blossom b (ring_from k t n (at t n).ring (at t n).ring 0 (begun n w)) r)

    node_found : (k : ℕ) → RingFound k → 1 ≤ (node_numbered k t n w).free → Found t (λ y. y ≡ n) w (node_numbered k t n w) × (1 ≤ number_in (node_numbered k t n w) n)
    unfolding node_by
    node_found k ih s =
        elim (dec_lt n t.begin) [
          | yes b ↦ rw (lt-leb t.begin n b) (found_defect b, omega (arith, here, l))
          | no g ↦ let b : t.begin ≤ n = omega arith in rw (le-leb t.begin n b) (blossom_found k ih b (rw (le-leb t.begin n b) at s))
        ]

  -- ---- a ring

  one_of : (n y : ℕ) → y ≡ n → y ∈ (n ∷ [])
  one_of n y e = inl e

  module _ (k : ℕ) (ih : RingFound k) (b first n c : ℕ) (w : Numbers) (f : first ≢ none) (size : length w.lo ≡ 256) (l : 1 ≤ w.free) (own : InnerChild t b n) (s : 1 ≤ (node_numbered k t n w).free) where
    node : Found t (λ y. y ≡ n) w (node_numbered k t n w) × (1 ≤ number_in (node_numbered k t n w) n)
    node = node_found n w (inner-present (at t n).state own.0) size l k ih s

    last : next t n ≡ first → is_odd_ring (c + 1) ≡ true → RingRest b first n c w (node_numbered k t n w)
    last e o =
        record {
          list = n ∷ [];
          chain = (refl, inner_some n own.0, ring_comes_back t first n e);
          closes = λ j m. elim m [ inl q ↦ rw (q, e) f | inr q ↦ absurd q ];
          mine = λ j m. elim m [ inl q ↦ rw q own | inr q ↦ absurd q ];
          odd = o;
          found = found-joined t (λ y. y ≡ n) (λ y. y ≡ n) (λ y. y ∈ (n ∷ [])) w (node_numbered k t n w) (node_numbered k t n w) (one_of n) (one_of n) node.0 (found_none t (λ y. y ≡ n) (node_numbered k t n w));
        }

    longer : (i : ℕ) → c + suc i ≡ c + 1 + i
    longer i = omega arith

    more :
        next t n ≢ first
        → 1 ≤ (ring_from k t b first (next t n) (c + 1) (node_numbered k t n w)).free
        → RingRest b first n c w (ring_from k t b first (next t n) (c + 1) (node_numbered k t n w))
    more d o =
        let v : Numbers = node_numbered k t n w in
        let r = ih b first (next t n) (c + 1) (node_numbered k t n w) f (node.0.size ∙ size) s o in
        let i = inner_some (next t n) (ring_begins k b first (next t n) (c + 1) (node_numbered k t n w) o).0 in
        record {
          list = n ∷ r.list;
          chain = (refl, inner_some n own.0, rw (ring_goes_on t first n d) r.chain);
          closes = λ j m. elim m [ inl q ↦ rw q i | inr q ↦ r.closes j q ];
          mine = λ j m. elim m [ inl q ↦ rw q own | inr q ↦ r.mine j q ];
          odd = rw (longer (length r.list)) r.odd;
          found = found-joined t (λ y. y ≡ n) (λ y. y ∈ r.list) (λ y. y ∈ (n ∷ r.list)) w (node_numbered k t n w) (ring_from k t b first (next t n) (c + 1) (node_numbered k t n w)) (λ y e. inl e) (λ y m. inr m) node.0 r.found;
        }

    ring_goes : 1 ≤ (ring_from (suc k) t b first n c w).free → Goes (eqb (next t n) first) (is_odd_ring (c + 1)) (node_numbered k t n w) (ring_from k t b first (next t n) (c + 1) (node_numbered k t n w)) (ring_from (suc k) t b first n c w) → RingRest b first n c w (ring_from (suc k) t b first n c w)
    ring_goes h (inl p) = rw p.2 (last (eqb-true (next t n) first p.0) p.1)
    ring_goes h (inr p) = rw p.1 (more (eqb-false (next t n) first p.0) (rw p.1 at h))

  ring_found : (k : ℕ) → RingFound k
  ring_found zero b first n c w f size l h = absurd (ring_spent b first n c w h)
  ring_found (suc k) b first n c w f size l h =
      let r = ring-view k b first n c w h in
      ring_goes k (ring_found k) b first n c w f size l (is_next→ w b n r.0) r.1 h r.2

  -- ---- from the outer blossoms

  record OutersFound (k i : ℕ) (w u : Numbers) : Type 0 where
    found : Found t (λ y. T (outer t y)) w u
    all : (o : ℕ) → i ≤ o → o < i + k → T (outer t o) → 1 ≤ number_in u o

  outer_found : (i : ℕ) → t.begin ≤ i → (w : Numbers) → length w.lo ≡ 256 → 1 ≤ w.free → 1 ≤ (outer_numbered t i w).free → Found t (λ y. T (outer t y)) w (outer_numbered t i w) × (T (outer t i) → 1 ≤ number_in (outer_numbered t i w) i)
  unfolding outer_numbered
  outer_found i b w size l h =
      elim (test_case (outer t i)) [
        | inl o ↦
            let e = test_true (outer t i) o in
            let r = blossom_found i w (outer-present (at t i).state o) size l 65536 (ring_found 65536) b (rw e at h) in
            rw e (found-joined t (λ y. y ≡ i) (λ y. T (outer t y)) (λ y. T (outer t y)) w (blossom_numbered 65536 t i w) (blossom_numbered 65536 t i w) (λ y q. rw q o) (λ y q. q) r.0 (found_none t (λ y. T (outer t y)) (blossom_numbered 65536 t i w)), λ _. r.1)
        | inr d ↦ rw (test_false (outer t i) (T_not (outer t i) d)) (found_none t (λ y. T (outer t y)) w, λ o. absurd o)
      ]

  outers_view : (v rest : Numbers) → 1 ≤ (pick (eqb v.free 0) v rest).free → (1 ≤ v.free) × (pick (eqb v.free 0) v rest ≡ rest)
  outers_view v rest h =
      elim (same_or_not v.free 0) [
        | inl e ↦ let l : 1 ≤ v.free = rw (eqb_yes v.free 0 e) at h in absurd (omega arith)
        | inr d ↦ (omega (arith, d), rw (eqb_no v.free 0 d))
      ]

  module _ (k i : ℕ) (w v u : Numbers) (f : Found t (λ y. T (outer t y)) w v) (h : T (outer t i) → 1 ≤ number_in v i) (r : OutersFound k (suc i) v u) where
    outers_joined : OutersFound (suc k) i w u
    outers_joined =
        record {
          found = found-joined t (λ y. T (outer t y)) (λ y. T (outer t y)) (λ y. T (outer t y)) w v u (λ y o. o) (λ y o. o) f r.found;
          all = λ o p q s. elim (same_or_not o i) [ inl e ↦ rw e (r.found.stays i (h (rw e at s))) | inr d ↦ r.all o (omega (arith, d)) (omega arith) s ];
        }

  outers_found : (k i : ℕ) → t.begin ≤ i → (w : Numbers) → length w.lo ≡ 256 → 1 ≤ w.free → 1 ≤ (outers_numbered t k i w).free → OutersFound k i w (outers_numbered t k i w)
  unfolding outers_numbered
  outers_found zero i b w size l h = record { found = found_none t (λ y. T (outer t y)) w; all = λ o p q. absurd (omega arith) }
  outers_found (suc k) i b w size l h =
      let x = outers_view (outer_numbered t i w) (outers_numbered t k (suc i) (outer_numbered t i w)) h in
      let p = outer_found i b w size l x.0 in
      let g : 1 ≤ (outers_numbered t k (suc i) (outer_numbered t i w)).free = rw x.1 at h in
      rw x.1
      (outers_joined k i w (outer_numbered t i w) (outers_numbered t k (suc i) (outer_numbered t i w)) p.0 p.1
      (outers_found k (suc i) (omega arith) (outer_numbered t i w) (p.0.size ∙ size) x.0 g))

-- ---- the rings of S6, where every inner node has a number

module _ (t : Table) (full : Full t)
    (given : (b : ℕ) → PresentBlossom t b → b < t.begin + t.blossoms)
    (undamaged : (n : ℕ) → (at t n).state ≢ S.Damaged)
    (unbroken : 1 ≤ (numbers_from t t.begin (t.begin + t.blossoms)).free)
    (numbered : (n : ℕ) → T (inner t n) → 1 ≤ number_in (numbers_from t t.begin (t.begin + t.blossoms)) n)
  where
    abbrev numbers : Numbers
    numbers = numbers_from t t.begin (t.begin + t.blossoms)

    whole : OutersFound t full (t.begin + t.blossoms - t.begin) t.begin (numbers_of unseen unseen 1) numbers
    unfolding numbers_from
    whole = outers_found t full (t.begin + t.blossoms - t.begin) t.begin (omega arith) (numbers_of unseen unseen 1) (length-replicate {A = ℕ} 256 0) (omega arith) unbroken

    -- the parent of an inner node is a blossom, and has it on its ring
    pub ring_owner : (n : ℕ) → T (inner t n) → Owned t n
    ring_owner n i =
        elim (whole.found.owned n (blank n) (numbered n i)) [
          | inl o ↦ absurd (outer_not_inner (at t n).state o i)
          | inr o ↦ o
        ]

    blossom_numbered_lem : (b : ℕ) → PresentBlossom t b → 1 ≤ number_in numbers b
    blossom_numbered_lem b p =
        elim (state_case (at t b).state (undamaged b) p.there) [
          | inl o ↦ whole.all b p.blossom (omega (arith, given b p)) o
          | inr i ↦ numbered b i
        ]

    found_ring : (b : ℕ) → PresentBlossom t b → Walked t b
    found_ring b p = whole.found.rings b (blank b) (blossom_numbered_lem b p) p.blossom

    on_list : (b j : ℕ) (w : Walked t b) → OnRing t b j → j ∈ w.list
    on_list b j w o =
        rw (chain_unique (next_in_ring t (at t b).ring) (at t b).ring w.list o.0.list w.chain o.0.chain) o.1

    pub ring_exact : (b : ℕ) → PresentBlossom t b → Ring t b
    ring_exact b p =
        let w = found_ring b p in
        record {
          list = w.list;
          chain = w.chain;
          closes = w.closes;
          exact = λ j. (w.mine j, λ c. on_list b j w (rw c.1 at (ring_owner j c.0).1));
          odd = eqb-true (length w.list % 2) 1 (and_left (eqb (length w.list % 2) 1) (leb 3 (length w.list)) w.odd);
          at_least_three = leb-true 3 (length w.list) (and_right (eqb (length w.list % 2) 1) (leb 3 (length w.list)) w.odd);
        }
