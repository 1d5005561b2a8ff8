-- The ring that two paths make: "The ring runs meeting node, down to node_2, node_1, and up again". Its nodes as they stand in
-- their tree, and which children of theirs are in it.
use mathlib.Core.Path.{◌≡◌, refl, ap, sym, subst, ◌∙◌}
use mathlib.Core.Logic.{◌≢◌, ◌↔◌, ◌⊎◌, inl, inr}
use mathlib.Core.List.{List, [], ◌∷◌, ◌++◌}
use Prim.Native.Nat.{ℕ, ◌+◌, ◌%◌, ◌≤◌}
use native.Mathlib.Omega.{arith}
use lib.Dec.{T}
use lib.ListN.{length, length-append}
use Rattle.slot.specs.declared.state.State.TheVariants as S
use Rattle.slot.specs.Number.{none}
use Rattle.table.specs.Table.{Table, at}
use Rattle.table.specs.Nodes.{outer}
use Rattle.rules.specs.Slots.{up}
use Rattle.theorems_soundness.specs.Chain.{◌∈◌, NoDup, Chain}
use Rattle.theorems_soundness.specs.FactsOfNodes.{OuterChild}
use Rattle.theorems_soundness.proofs.ReflectSlots.{grow_shrink}
use Rattle.theorems_soundness.proofs.Members.{in_left, nodup_append→, in_split, split_length}
use Rattle.theorems_soundness.proofs.Chains.{chain_nodup, chain_split, chain_unique, chain_start, chain_injective}
use Rattle.theorems_soundness.proofs.ChildLaws.{shrink_is_minus, minus_only}
use Rattle.theorems_soundness.proofs.OuterLists.{upward-outer}
use Rattle.theorems_soundness.proofs.TouchLaws.{peer_touch_tree}
use Rattle.theorems_soundness.specs.RuleFacts.{Whole, RightLink}
use Rattle.theorems_soundness.proofs.Frames.{some_outer}
use Rattle.theorems_soundness.proofs.TwoPaths.{mark_next, mark_before, TwoPaths, limb, even-part}
use Rattle.theorems_soundness.proofs.MadeBlossom.{InTree}

-- ---- lists

-- ys with the numbers of xs put before it one by one
abbrev pub onto : List ℕ → List ℕ → List ℕ
onto [] ys = ys
onto (x ∷ xs) ys = onto xs (x ∷ ys)

pub onto→ : (xs ys : List ℕ) (j : ℕ) → j ∈ onto xs ys → (j ∈ xs) ⊎ (j ∈ ys)
onto→ [] ys j i = inr i
onto→ (x ∷ xs) ys j i = elim (onto→ xs (x ∷ ys) j i) [ inl k ↦ inl (inr k) | inr (inl e) ↦ inl (inl e) | inr (inr k) ↦ inr k ]

pub →onto : (xs ys : List ℕ) (j : ℕ) → (j ∈ xs) ⊎ (j ∈ ys) → j ∈ onto xs ys
→onto [] ys j (inl i) = absurd i
→onto [] ys j (inr i) = i
→onto (x ∷ xs) ys j (inl (inl e)) = →onto xs (x ∷ ys) j (inr (inl e))
→onto (x ∷ xs) ys j (inl (inr i)) = →onto xs (x ∷ ys) j (inl i)
→onto (x ∷ xs) ys j (inr i) = →onto xs (x ∷ ys) j (inr (inr i))

pub onto_length : (xs ys : List ℕ) → length (onto xs ys) ≡ length xs + length ys
onto_length [] ys = omega arith
onto_length (x ∷ xs) ys = omega (arith, onto_length xs (x ∷ ys))

-- a chain does not come back to its start
pub never_back : (f : ℕ → ℕ) (a : ℕ) (cs : List ℕ) → Chain f a cs → (j : ℕ) → j ∈ cs → f j ≢ a
never_back f a cs c j i e =
    let s = in_split j cs i in
    let q = chain_split f a s.before j s.after (rw s.split at c) in
    let h : s.after ≡ cs = chain_unique f a s.after cs (rw e at q.2) c in
    omega (arith, ap length h, split_length j cs s, length-append s.before s.after)

-- the last of a list, or else a
abbrev pub last_or : ℕ → List ℕ → ℕ
last_or a [] = a
last_or a (x ∷ xs) = last_or x xs

pub last_marked : (f : ℕ → ℕ) (a x : ℕ) (xs : List ℕ) (m : ℕ) (ys : List ℕ) → Chain f a (x ∷ (xs ++ (m ∷ ys))) → (last_or x xs ∈ (x ∷ xs)) × (f (last_or x xs) ≡ m)
last_marked f a x [] m ys c = (inl refl, c.2.0)
last_marked f a x (z ∷ xs) m ys c = let r = last_marked f (f x) z xs m ys c.2 in (inr r.0, r.1)

-- ---- one side of the ring

-- the part zs of the path from a that is below m; of all in the ring, only its own nodes stand below it
pub record Side (t : Table) (m : ℕ) (ring : List ℕ) (a : ℕ) (zs : List ℕ) : Type 0 where
  pub above : List ℕ
  pub way : Chain (up t) a (zs ++ (m ∷ above))
  pub within : (j : ℕ) → j ∈ zs → j ∈ ring
  pub own : (j : ℕ) → j ∈ ring → up t j ∈ zs → j ∈ zs

-- of n's children those in the ring are e and f
abbrev pub InRingOnly : Table → List ℕ → ℕ → ℕ → ℕ → Type 0
InRingOnly t ring n e f = (j : ℕ) → OuterChild t n j → (j ∈ ring) ↔ ((j ≡ e) ⊎ (j ≡ f))

-- along a path: the one child in the ring is the node passed just before
abbrev pub Stepped : Table → List ℕ → ℕ → List ℕ → Type 0
Stepped t ring below [] = Unit {0}
Stepped t ring below (z ∷ zs) = InRingOnly t ring z below below × Stepped t ring z zs

module _ (t : Table) (m : ℕ) (ring : List ℕ) (meets : m ∈ ring) (a : ℕ) (zs : List ℕ) (side : Side t m ring a zs) where
  on_way : (j : ℕ) → j ∈ zs → j ∈ (zs ++ (m ∷ side.above))
  on_way j i = in_left zs (m ∷ side.above) j i

  -- after one that stands on the path
  stepped_on : (below n : ℕ) (vs : List ℕ) → Chain (up t) n (vs ++ (m ∷ side.above)) → ((j : ℕ) → j ∈ vs → j ∈ zs) → below ∈ zs → up t below ≡ n → Stepped t ring below vs
  stepped_on below n [] c sub i e = tt
  stepped_on below n (v ∷ vs) c sub i e = (only, stepped_on v (up t v) vs c.2 (λ j k. sub j (inr k)) (sub v (inl refl)) refl)
    where
      only : InRingOnly t ring v below below
      only j k = (
        λ r. inl (chain_injective (up t) a (zs ++ (m ∷ side.above)) side.way j below (on_way j (side.own j r (rw k.1 (sub v (inl refl))))) (on_way below i) (k.1 ∙ sym c.0 ∙ sym e)),
        elim [ inl q ↦ rw q (side.within below i) | inr q ↦ rw q (side.within below i) ],
      )

  -- no ring node stands below the first, and that is not its own child
  pub stepped : Stepped t ring a zs
  stepped = go zs refl
    where
      go : (vs : List ℕ) → zs ≡ vs → Stepped t ring a vs
      go [] e = tt
      go (v ∷ vs) e =
          let here : v ∈ zs = rw e (inl refl) in
          let c : Chain (up t) a (v ∷ (vs ++ (m ∷ side.above))) = rw e at side.way in (
            λ j k. (
              λ r. absurd (never_back (up t) a (zs ++ (m ∷ side.above)) side.way j (on_way j (side.own j r (rw k.1 here))) (k.1 ∙ sym c.0)),
              elim [ inl q ↦ rw (q ∙ c.0) (side.within v here) | inr q ↦ rw (q ∙ c.0) (side.within v here) ],
            ),
            stepped_on v (up t v) vs c.2 (λ j i. rw e (inr i)) here refl,
          )

  -- the last of the path is m's child on it
  pub last_below_lem : (j : ℕ) → j ∈ zs → up t j ≡ m → j ≡ last_or a zs
  last_below_lem j i e = go zs refl
    where
      go : (vs : List ℕ) → zs ≡ vs → j ≡ last_or a vs
      go [] q = absurd (rw q at i)
      go (v ∷ vs) q =
          let r = last_marked (up t) a v vs m side.above (rw q at side.way) in
          let l : last_or v vs ∈ zs = rw q r.0 in
          chain_injective (up t) a (zs ++ (m ∷ side.above)) side.way j (last_or v vs) (on_way j i) (on_way (last_or v vs) l) (e ∙ sym r.1)

  pub last_within : last_or a zs ∈ ring
  last_within = go zs refl
    where
      go : (vs : List ℕ) → zs ≡ vs → last_or a vs ∈ ring
      go [] q = let c : Chain (up t) a (m ∷ side.above) = rw q at side.way in rw c.0 meets
      go (v ∷ vs) q =
          let r = last_marked (up t) a v vs m side.above (rw q at side.way) in
          side.within (last_or v vs) (rw q r.0)

-- ---- both sides

abbrev pub ring_of_paths : (t : Table) (x y m : ℕ) → TwoPaths t x y m → List ℕ
ring_of_paths t x y m p = m ∷ onto p.ys p.xs

module _ {t : Table} {x y m : ℕ} (w : Whole t) (grows_1 : (at t x).state ≡ S.Grow) (grows_2 : (at t y).state ≡ S.Grow) (p : TwoPaths t x y m) where
  abbrev ring : List ℕ
  ring = ring_of_paths t x y m p

  data On (j : ℕ) : Type 0 where
    is_meeting : j ≡ m → On j
    on_first : j ∈ p.xs → On j
    on_second : j ∈ p.ys → On j

  on_ring : (j : ℕ) → j ∈ ring → On j
  on_ring j (inl e) = is_meeting e
  on_ring j (inr i) = elim (onto→ p.ys p.xs j i) [ inl k ↦ on_second k | inr k ↦ on_first k ]

  pub first_in : (j : ℕ) → j ∈ p.xs → j ∈ ring
  first_in j i = inr (→onto p.ys p.xs j (inr i))

  pub second_in : (j : ℕ) → j ∈ p.ys → j ∈ ring
  second_in j i = inr (→onto p.ys p.xs j (inl i))

  once_1 : NoDup (p.xs ++ (m ∷ p.above))
  once_1 = chain_nodup (up t) x (p.xs ++ (m ∷ p.above)) p.way_1

  once_2 : NoDup (p.ys ++ (m ∷ p.above))
  once_2 = chain_nodup (up t) y (p.ys ++ (m ∷ p.above)) p.way_2

  -- nothing of a path's own part is m or above it
  off_first : (j : ℕ) → j ∈ p.xs → ¬ (j ∈ (m ∷ p.above))
  off_first = (nodup_append→ p.xs (m ∷ p.above) once_1).2

  off_second : (j : ℕ) → j ∈ p.ys → ¬ (j ∈ (m ∷ p.above))
  off_second = (nodup_append→ p.ys (m ∷ p.above) once_2).2

  pub first_not_meeting : (j : ℕ) → j ∈ p.xs → j ≢ m
  first_not_meeting j i e = off_first j i (inl e)

  pub second_not_meeting : (j : ℕ) → j ∈ p.ys → j ≢ m
  second_not_meeting j i e = off_second j i (inl e)

  pub first_once : NoDup p.xs
  first_once = (nodup_append→ p.xs (m ∷ p.above) once_1).0

  pub second_once : NoDup p.ys
  second_once = (nodup_append→ p.ys (m ∷ p.above) once_2).0

  meeting_way : Chain (up t) m (m ∷ p.above)
  meeting_way = chain_split (up t) x p.xs m p.above p.way_1

  first_outer : (j : ℕ) → j ∈ (p.xs ++ (m ∷ p.above)) → T (outer t j)
  first_outer = upward-outer t w.full w.core.kind x (rw grows_1 tt) (p.xs ++ (m ∷ p.above)) p.way_1

  second_outer : (j : ℕ) → j ∈ (p.ys ++ (m ∷ p.above)) → T (outer t j)
  second_outer = upward-outer t w.full w.core.kind y (rw grows_2 tt) (p.ys ++ (m ∷ p.above)) p.way_2

  outer_on : (j : ℕ) → On j → T (outer t j)
  outer_on j (is_meeting e) = rw (e, p.grows) tt
  outer_on j (on_first i) = first_outer j (in_left p.xs (m ∷ p.above) j i)
  outer_on j (on_second i) = second_outer j (in_left p.ys (m ∷ p.above) j i)

  pub ring_outer : (j : ℕ) → j ∈ ring → T (outer t j)
  ring_outer j i = outer_on j (on_ring j i)

  some_on : (j : ℕ) → j ∈ ring → j ≢ none
  some_on j i = some_outer t w.full j (ring_outer j i)

  off_above : (j : ℕ) → j ∈ p.above → ¬ (j ∈ ring)
  off_above j i r = go (on_ring j r)
    where
      go : On j → ⊥
      go (is_meeting e) = (chain_nodup (up t) m (m ∷ p.above) meeting_way).0 (rw e at i)
      go (on_first k) = off_first j k (inr i)
      go (on_second k) = off_second j k (inr i)

  -- m's parent is not in the ring
  pub no_ring_above : ¬ (up t m ∈ ring)
  no_ring_above i = off_above (up t m) (chain_start (up t) (up t m) p.above meeting_way.2 (some_on (up t m) i)) i

  ring_upward : (j : ℕ) → j ∈ ring → j ≢ m → up t j ∈ ring
  ring_upward j r d = go (on_ring j r)
    where
      go : On j → up t j ∈ ring
      go (is_meeting e) = absurd (d e)
      go (on_first k) = elim (mark_next (up t) x p.xs m p.above p.way_1 j k) [ inl q ↦ first_in (up t j) q | inr q ↦ inl q ]
      go (on_second k) = elim (mark_next (up t) y p.ys m p.above p.way_2 j k) [ inl q ↦ second_in (up t j) q | inr q ↦ inl q ]

  -- but for m, the link leads to the parent
  pub link_upward : (j : ℕ) → j ∈ ring → j ≢ m → RightLink t j (at t j).link (up t j)
  link_upward j r d =
      let o = ring_outer j r in
      let has = some_on (up t j) (ring_upward j r d) in
      let f = (limb t w.full w.core j o has).linked in
      record { linked = f; touch = (w.rest.touches j).touch f.has_touch; peer_touch = peer_touch_tree t w.full w.rest j o has f.has_peer_touch }

  signed : (j : ℕ) → j ∈ ring → j ≢ m → ((at t j).state ≡ S.Grow) ⊎ ((at t j).state ≡ S.Shrink)
  signed j r d = elim (limb t w.full w.core j (ring_outer j r) (some_on (up t j) (ring_upward j r d))).turns [ inl q ↦ inl q.0 | inr q ↦ inr q.0 ]

  signs : (j : ℕ) → j ∈ ring → On j → ((at t j).state ≡ S.Grow) ⊎ ((at t j).state ≡ S.Shrink)
  signs j r (is_meeting e) = inl (rw e p.grows)
  signs j r (on_first k) = signed j r (first_not_meeting j k)
  signs j r (on_second k) = signed j r (second_not_meeting j k)

  -- a − node's one child is the node passed before it
  one_child : (j c i : ℕ) → (at t j).state ≡ S.Shrink → OuterChild t j c → i ∈ ring → up t i ≡ j → c ∈ ring
  one_child j c i g k r e =
      let n = shrink_is_minus t w.full w.core j g in
      let o : T (outer t j) = rw g tt in
      subst (λ (z : ℕ). z ∈ ring) (minus_only t w.full w.core j i o n (ring_outer i r, e) ∙ sym (minus_only t w.full w.core j c o n k)) r

  ring_downward : (j c : ℕ) → (at t j).state ≡ S.Shrink → OuterChild t j c → On j → c ∈ ring
  ring_downward j c g k (is_meeting e) = absurd (grow_shrink p.grows (rw e at g))
  ring_downward j c g k (on_first i) =
      elim (mark_before (up t) x p.xs m p.above p.way_1 j (inl i)) [ inl e ↦ absurd (grow_shrink grows_1 (rw e at g)) | inr q ↦ one_child j c q.0 g k (first_in q.0 q.1) q.2 ]
  ring_downward j c g k (on_second i) =
      elim (mark_before (up t) y p.ys m p.above p.way_2 j (inl i)) [ inl e ↦ absurd (grow_shrink grows_2 (rw e at g)) | inr q ↦ one_child j c q.0 g k (second_in q.0 q.1) q.2 ]

  pub in_tree : InTree t m ring
  in_tree =
      record {
        meets = inl refl;
        grows = p.grows;
        outers = ring_outer;
        signs = λ j r. signs j r (on_ring j r);
        upward = ring_upward;
        downward = λ j c r g k. ring_downward j c g k (on_ring j r);
        above = p.above;
        way = meeting_way.2;
        off = off_above;
      }

  -- ---- the sides

  own_first : (j : ℕ) → up t j ∈ p.xs → On j → j ∈ p.xs
  own_first j i (is_meeting e) = absurd (no_ring_above (first_in (up t m) (rw e at i)))
  own_first j i (on_first k) = k
  own_first j i (on_second k) =
      absurd (elim (mark_next (up t) y p.ys m p.above p.way_2 j k) [ inl q ↦ p.apart (up t j) i q | inr q ↦ first_not_meeting (up t j) i q ])

  own_second : (j : ℕ) → up t j ∈ p.ys → On j → j ∈ p.ys
  own_second j i (is_meeting e) = absurd (no_ring_above (second_in (up t m) (rw e at i)))
  own_second j i (on_first k) =
      absurd (elim (mark_next (up t) x p.xs m p.above p.way_1 j k) [ inl q ↦ p.apart (up t j) q i | inr q ↦ second_not_meeting (up t j) i q ])
  own_second j i (on_second k) = k

  pub side_1 : Side t m ring x p.xs
  side_1 = record { above = p.above; way = p.way_1; within = first_in; own = λ j r i. own_first j i (on_ring j r) }

  pub side_2 : Side t m ring y p.ys
  side_2 = record { above = p.above; way = p.way_2; within = second_in; own = λ j r i. own_second j i (on_ring j r) }

  -- of the meeting node's children the last nodes of both paths are in the ring
  pub below_meeting : InRingOnly t ring m (last_or x p.xs) (last_or y p.ys)
  below_meeting j k = (
    λ r. go (on_ring j r),
    elim [
      | inl e ↦ subst (λ (z : ℕ). z ∈ ring) (sym e) (last_within t m ring (inl refl) x p.xs side_1)
      | inr e ↦ subst (λ (z : ℕ). z ∈ ring) (sym e) (last_within t m ring (inl refl) y p.ys side_2)
    ],
  )
    where
      go : On j → (j ≡ last_or x p.xs) ⊎ (j ≡ last_or y p.ys)
      go (is_meeting e) = absurd (never_back (up t) m (m ∷ p.above) meeting_way m (inl refl) (rw e at k.1))
      go (on_first i) = inl (last_below_lem t m ring (inl refl) x p.xs side_1 j i k.1)
      go (on_second i) = inr (last_below_lem t m ring (inl refl) y p.ys side_2 j i k.1)

  -- ---- how many

  some_part : x ≢ y → 1 ≤ length p.xs + length p.ys
  some_part d = go p.xs p.ys p.way_1 p.way_2
    where
      go : (us vs : List ℕ) → Chain (up t) x (us ++ (m ∷ p.above)) → Chain (up t) y (vs ++ (m ∷ p.above)) → 1 ≤ length us + length vs
      go [] [] c e = absurd (d (c.0 ∙ sym e.0))
      go (z ∷ us) vs c e = omega arith
      go [] (z ∷ vs) c e = omega arith

  pub ring_numbers : x ≢ y → (length ring % 2 ≡ 1) × (3 ≤ length ring)
  ring_numbers d =
      let e = even-part t w.full w.core x p.xs m p.above grows_1 p.grows p.way_1 in
      let f = even-part t w.full w.core y p.ys m p.above grows_2 p.grows p.way_2 in
      let l = onto_length p.ys p.xs in
      let s = some_part d in
      (omega (arith, e.1, f.1, l), omega (arith, e.1, f.1, l, s))
