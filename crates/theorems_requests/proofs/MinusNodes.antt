-- How many − nodes a table has. Where nothing but Stay is written over them there are ever fewer; and each has a child of its
-- own, so that a sound table with a root, or a free node, has at most 127.
use mathlib.Core.Path.{◌≡◌, refl, ap, sym, ◌∙◌}
use mathlib.Core.Logic.{◌⊎◌, inl, inr}
use mathlib.Core.Bool.{Bool, true, false}
use mathlib.Core.List.{List, [], ◌∷◌, ◌++◌}
use Prim.Native.Nat.{ℕ, zero, suc, ◌≤◌, ◌<◌}
use native.Mathlib.Omega.{arith}
use lib.Dec.{T}
use lib.ListN.{length, length-append}
use Rattle.slot.specs.Number.{none}
use Rattle.table.specs.Table.{Table, at}
use Rattle.table.specs.Nodes.{outer}
use Rattle.rules.specs.Slots.{is_shrink, up}
use Rattle.rules.specs.Trees.{root}
use Rattle.theorems_soundness.specs.Chain.{◌∈◌, NoDup}
use Rattle.theorems_soundness.specs.FactsOfNodes.{Minus, Plus, OuterChild}
use Rattle.theorems_soundness.proofs.Reflect.{same_or_not}
use Rattle.theorems_soundness.proofs.ReflectSlots.{shrink↔, grow_shrink}
use Rattle.theorems_soundness.proofs.Members.{in_append→, →nodup_append}
use Rattle.theorems_soundness.proofs.Pigeonhole.{pigeonhole}
use Rattle.theorems_soundness.proofs.Past.{outer_below}
use Rattle.theorems_soundness.proofs.ChildLaws.{first_child_lem, child_of_shrink, shrink_is_minus}
use Rattle.theorems_soundness.specs.RuleFacts.{Whole}
use Rattle.theorems_soundness.proofs.WaysUp.{root_parentless, root-outer}
use Rattle.theorems_soundness.proofs.Frames.{some_outer}

abbrev pub shrinks : Table → ℕ → Bool
shrinks t n = is_shrink (at t n).state

-- n, if it is a − node, before the rest
abbrev kept : Bool → ℕ → List ℕ → List ℕ
kept true n ns = n ∷ ns
kept false n ns = ns

-- the − nodes below n
unfoldable minus_below : Table → ℕ → List ℕ
minus_below t zero = []
minus_below t (suc n) = kept (shrinks t n) n (minus_below t n)

-- how many − nodes there are
pub minuses : Table → ℕ
minuses t = length (minus_below t 256)

-- ---- fewer and fewer

kept_fewer : (a b : Bool) (n : ℕ) (xs ys : List ℕ) → (T a → T b) → length xs ≤ length ys → length (kept a n xs) ≤ length (kept b n ys)
kept_fewer true true n xs ys h l = omega arith
kept_fewer true false n xs ys h l = absurd (h tt)
kept_fewer false true n xs ys h l = omega arith
kept_fewer false false n xs ys h l = l

kept_less : (a b : Bool) (n : ℕ) (xs ys : List ℕ) → ¬ T a → T b → length xs ≤ length ys → length (kept a n xs) < length (kept b n ys)
kept_less true b n xs ys h p l = absurd (h tt)
kept_less false true n xs ys h p l = omega arith
kept_less false false n xs ys h p l = absurd p

kept_still : (a b : Bool) (n : ℕ) (xs ys : List ℕ) → (T a → T b) → length xs < length ys → length (kept a n xs) < length (kept b n ys)
kept_still true true n xs ys h l = omega arith
kept_still true false n xs ys h l = absurd (h tt)
kept_still false true n xs ys h l = omega arith
kept_still false false n xs ys h l = l

module _ (t u : Table) (h : (j : ℕ) → T (shrinks u j) → T (shrinks t j)) where
  below_fewer : (n : ℕ) → length (minus_below u n) ≤ length (minus_below t n)
  unfolding minus_below
  below_fewer zero = omega arith
  below_fewer (suc n) = kept_fewer (shrinks u n) (shrinks t n) n (minus_below u n) (minus_below t n) (h n) (below_fewer n)

  below_less : (n j : ℕ) → j < n → ¬ T (shrinks u j) → T (shrinks t j) → length (minus_below u n) < length (minus_below t n)
  unfolding minus_below
  below_less zero j l d p = absurd (omega arith)
  below_less (suc n) j l d p =
      elim (same_or_not j n) [
        | inl e ↦ kept_less (shrinks u n) (shrinks t n) n (minus_below u n) (minus_below t n) (rw e at d) (rw e at p) (below_fewer n)
        | inr e ↦ kept_still (shrinks u n) (shrinks t n) n (minus_below u n) (minus_below t n) (h n) (below_less n j (omega arith) d p)
      ]

  pub minuses_fewer : minuses u ≤ minuses t
  unfolding minuses
  minuses_fewer = below_fewer 256

  pub minuses_less : (j : ℕ) → j < 256 → ¬ T (shrinks u j) → T (shrinks t j) → minuses u < minuses t
  unfolding minuses
  minuses_less = below_less 256

-- ---- at most 127

kept_in : (b : Bool) (n : ℕ) (xs : List ℕ) (j : ℕ) → j ∈ kept b n xs → ((j ≡ n) × T b) ⊎ (j ∈ xs)
kept_in true n xs j (inl e) = inl (e, tt)
kept_in true n xs j (inr m) = inr m
kept_in false n xs j m = inr m

kept_once : (b : Bool) (n : ℕ) (xs : List ℕ) → NoDup xs → ¬ (n ∈ xs) → NoDup (kept b n xs)
kept_once true n xs d h = (h, d)
kept_once false n xs d h = d

module _ (t : Table) where
  below_shrinks : (n j : ℕ) → j ∈ minus_below t n → T (shrinks t j) × (j < n)
  unfolding minus_below
  below_shrinks zero j m = absurd m
  below_shrinks (suc n) j m =
      elim (kept_in (shrinks t n) n (minus_below t n) j m) [
        | inl p ↦ (rw p.0 p.1, omega (arith, p.0))
        | inr q ↦ let r = below_shrinks n j q in (r.0, omega (arith, r.1))
      ]

  below_once : (n : ℕ) → NoDup (minus_below t n)
  unfolding minus_below
  below_once zero = tt
  below_once (suc n) = kept_once (shrinks t n) n (minus_below t n) (below_once n) (λ m. omega (arith, (below_shrinks n n m).1))

-- the first children of a list of nodes
children_of : Table → List ℕ → List ℕ
children_of t [] = []
children_of t (n ∷ ns) = (at t n).first_child ∷ children_of t ns

children-length : (t : Table) (ns : List ℕ) → length (children_of t ns) ≡ length ns
unfolding children_of
children-length t [] = refl
children-length t (n ∷ ns) = ap suc (children-length t ns)

in_children : (t : Table) (ns : List ℕ) (j : ℕ) → j ∈ children_of t ns → (n : ℕ) × ((n ∈ ns) × (j ≡ (at t n).first_child))
unfolding children_of
in_children t [] j m = absurd m
in_children t (n ∷ ns) j (inl e) = (n, (inl refl, e))
in_children t (n ∷ ns) j (inr m) = let r = in_children t ns j m in (r.0, (inr r.1.0, r.1.1))

-- nodes that are their first children's parents have different first children
children_once : (t : Table) (ns : List ℕ) → NoDup ns → ((n : ℕ) → n ∈ ns → up t (at t n).first_child ≡ n) → NoDup (children_of t ns)
unfolding children_of
children_once t [] d h = tt
children_once t (n ∷ ns) d h = (fresh, children_once t ns d.1 (λ i m. h i (inr m)))
  where
    fresh : ¬ ((at t n).first_child ∈ children_of t ns)
    fresh m =
        let r = in_children t ns (at t n).first_child m in
        let e : n ≡ r.0 = sym (h n (inl refl)) ∙ ap (up t) r.1.1 ∙ h r.0 (inr r.1.0) in
        d.0 (rw e r.1.0)

module _ (t : Table) (w : Whole t) where
  minus_node : (n : ℕ) → T (shrinks t n) → Minus t (at t n)
  minus_node n h = shrink_is_minus t w.full w.core n ((shrink↔ (at t n).state).0 h)

  minus_outer : (n : ℕ) → T (shrinks t n) → T (outer t n)
  minus_outer n h = rw (minus_node n h).shrinks tt

  child_of : (n : ℕ) → T (shrinks t n) → OuterChild t n (at t n).first_child
  child_of n h = first_child_lem t w.full w.core n (minus_outer n h) (minus_node n h).has_child

  child_plus : (n : ℕ) → T (shrinks t n) → Plus t (at t (at t n).first_child)
  child_plus n h = child_of_shrink t w.full w.core n (at t n).first_child (minus_outer n h) (minus_node n h).shrinks (child_of n h)

  abbrev all : List ℕ
  all = minus_below t 256

  is_minus_lem : (n : ℕ) → n ∈ all → T (shrinks t n)
  is_minus_lem n m = (below_shrinks t 256 n m).0

  -- a − node, its child, and an outer node without a parent are three
  apart : (j : ℕ) → j ∈ all → ¬ (j ∈ children_of t all)
  apart j m k =
      let r = in_children t all j k in
      grow_shrink (child_plus r.0 (is_minus_lem r.0 r.1.0)).grows (rw (← r.1.1) (minus_node j (is_minus_lem j m)).shrinks)

  module _ (r : ℕ) (o : T (outer t r)) (top : up t r ≡ none) where
    top_apart : ¬ (r ∈ (all ++ children_of t all))
    top_apart m =
        elim (in_append→ all (children_of t all) r m) [
          | inl a ↦ some_outer t w.full (up t r) (rw (minus_node r (is_minus_lem r a)).parent_grows tt) top
          | inr b ↦ let k = in_children t all r b in
              let c = child_of k.0 (is_minus_lem k.0 k.1.0) in
              some_outer t w.full k.0 (minus_outer k.0 (is_minus_lem k.0 k.1.0)) (sym c.1 ∙ ap (up t) (sym k.1.1) ∙ top)
        ]

    each_below : (j : ℕ) → j ∈ (r ∷ (all ++ children_of t all)) → j < 256
    each_below j (inl e) = rw e (outer_below t w.full r o)
    each_below j (inr m) =
        elim (in_append→ all (children_of t all) j m) [
          | inl a ↦ (below_shrinks t 256 j a).1
          | inr b ↦ let k = in_children t all j b in rw k.1.1 (outer_below t w.full (at t k.0).first_child (child_of k.0 (is_minus_lem k.0 k.1.0)).0)
        ]

    top_minuses : minuses t ≤ 127
    unfolding minuses
    top_minuses =
        let once = →nodup_append all (children_of t all) (below_once t 256) (children_once t all (below_once t 256) (λ n m. (child_of n (is_minus_lem n m)).1)) apart in
        omega (arith, pigeonhole 256 (r ∷ (all ++ children_of t all)) (top_apart, once) each_below, length-append all (children_of t all), children-length t all)

  -- with an outer node there is a root, or a node alone
  pub few_minuses : (x : ℕ) → T (outer t x) → minuses t ≤ 127
  few_minuses x o = top_minuses (root t x) (root-outer t w.full w.core x o) (root_parentless t w.full w.core x o)
