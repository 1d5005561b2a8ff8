-- Where each slot stands when a blossom is taken apart, and what the outer nodes of before keep.
use mathlib.Core.Path.{◌≡◌, refl, ap, sym, subst, ◌∙◌}
use mathlib.Core.Logic.{◌≢◌, ◌⊎◌, inl, inr}
use mathlib.Core.Bool.{Bool, true, false}
use mathlib.Core.List.{List, [], ◌∷◌}
use Prim.Native.Nat.{ℕ}
use lib.Dec.{T, T_not}
use Rattle.slot.specs.State.{is_outer}
use Rattle.slot.specs.Number.{none}
use Rattle.table.specs.Table.{Table, at}
use Rattle.table.specs.Nodes.{outer, inner}
use Rattle.rules.specs.Slots.{up, next}
use Rattle.rules.specs.Trees.{upward}
use Rattle.rules.specs.Expansion.{state_by}
use Rattle.theorems_soundness.specs.Chain.{◌∈◌, Chain}
use Rattle.theorems_soundness.specs.FactsOfNodes.{Plus, Paired, OuterChild}
use Rattle.theorems_soundness.specs.FactsOfBlossoms.{InnerChild}
use Rattle.theorems_soundness.proofs.Reflect.{same_or_not, test_case}
use Rattle.theorems_soundness.proofs.ReflectSlots.{outer_not_inner, inner-present, grow_shrink}
use Rattle.theorems_soundness.proofs.Chains.{end_of, chain_nodup, chain_next}
use Rattle.theorems_soundness.proofs.Past.{present_some}
use Rattle.theorems_soundness.proofs.ChildLaws.{first_child_lem, child_of_shrink, minus_only}
use Rattle.theorems_soundness.proofs.WaysUp.{upward_chain}
use Rattle.theorems_soundness.proofs.Frames.{in_or_not, some_outer}
use Rattle.theorems_soundness.proofs.Matches.{slots_paired}
use Rattle.theorems_soundness.proofs.ReadAs.{read_as, read_other, read_some}
use Rattle.theorems_soundness.proofs.Opened.{Opened}

-- where a slot stands
pub data Place (t : Table) (b : ℕ) (attached matched : List ℕ) (j : ℕ) : Type 0 where
  the_blossom : j ≡ b → Place t b attached matched j
  the_child : j ≡ (at t b).first_child → Place t b attached matched j
  other_outer : T (outer t j) → j ≢ b → j ≢ (at t b).first_child → Place t b attached matched j
  is_attached : j ∈ attached → Place t b attached matched j
  is_matched_lem : j ∈ matched → Place t b attached matched j
  no_part : ¬ T (outer t j) → ¬ InnerChild t b j → Place t b attached matched j

pub by_state : (grow : Bool) → T (is_outer (state_by grow))
by_state true = tt
by_state false = tt

-- the last of a list is on it
pub end_in_lem : (x : ℕ) (xs : List ℕ) → end_of (x ∷ xs) ∈ (x ∷ xs)
end_in_lem x [] = inl refl
end_in_lem x (y ∷ xs) = inr (end_in_lem y xs)

module _ {t u : Table} {b : ℕ} (d : Opened t u b) where
  pub blossom_outer : T (outer t b)
  blossom_outer = rw d.minus.shrinks tt

  pub blossom_some : b ≢ none
  blossom_some = some_outer t d.whole.full b blossom_outer

  -- ---- the ring

  pub attached_inner : (j : ℕ) → j ∈ (d.top ∷ d.lower) → InnerChild t b j
  attached_inner j m = (d.ring j).0 (inl m)

  pub matched_inner : (j : ℕ) → j ∈ d.matched → InnerChild t b j
  matched_inner j m = (d.ring j).0 (inr m)

  pub top_in : d.top ∈ (d.top ∷ d.lower)
  top_in = inl refl

  pub bottom_in : d.bottom ∈ (d.top ∷ d.lower)
  bottom_in = subst (λ (z : ℕ). z ∈ (d.top ∷ d.lower)) d.ends (end_in_lem d.top d.lower)

  pub outer_or_inner : (j : ℕ) → T (outer t j) → ¬ T (inner t j)
  outer_or_inner j o i = outer_not_inner (at t j).state o i

  pub not_blossom : (j : ℕ) → T (inner t j) → j ≢ b
  not_blossom j i e = outer_or_inner b blossom_outer (rw e at i)

  pub inner_some : (j : ℕ) → T (inner t j) → j ≢ none
  inner_some j i = present_some t d.whole.full j (inner-present (at t j).state i)

  pub top_some : d.top ≢ none
  top_some = inner_some d.top (attached_inner d.top top_in).0

  pub read_none : read_as b d.top none ≡ none
  read_none = read_other b d.top none (λ e. blossom_some (sym e))

  -- where none stood, none stands
  pub still_none : (n : ℕ) → n ≡ none → read_as b d.top n ≡ none
  still_none n e = ap (read_as b d.top) e ∙ read_none

  pub still_some : (n : ℕ) → n ≢ none → read_as b d.top n ≢ none
  still_some n = read_some b d.top top_some n

  -- ---- the blossom's child and parent

  pub child_hangs : OuterChild t b (at t b).first_child
  child_hangs = first_child_lem t d.whole.full d.whole.core b blossom_outer d.minus.has_child

  pub child_plus : Plus t (at t (at t b).first_child)
  child_plus = child_of_shrink t d.whole.full d.whole.core b (at t b).first_child blossom_outer d.minus.shrinks child_hangs

  pub child_not_blossom : (at t b).first_child ≢ b
  child_not_blossom e = grow_shrink (rw e at child_plus.grows) d.minus.shrinks

  pub only_child_hangs : (j : ℕ) → T (outer t j) → up t j ≡ b → j ≡ (at t b).first_child
  only_child_hangs j o e = minus_only t d.whole.full d.whole.core b j blossom_outer d.minus (o, e)

  pub parent_outer_node : T (outer t (up t b))
  parent_outer_node = rw d.minus.parent_grows tt

  pub parent_not_blossom : up t b ≢ b
  parent_not_blossom e = grow_shrink (rw e at d.minus.parent_grows) d.minus.shrinks

  -- the way up from the blossom's parent passes neither the blossom nor its child
  pub parent_way : Chain (up t) (up t b) (upward t (up t b))
  parent_way = upward_chain t d.whole.full d.whole.core (up t b) parent_outer_node

  pub way_not_blossom : ¬ (b ∈ upward t (up t b))
  way_not_blossom m = (chain_nodup (up t) b (b ∷ upward t (up t b)) (refl, blossom_some, parent_way)).0 m

  pub way_not_child : (j : ℕ) → j ∈ upward t (up t b) → j ≢ (at t b).first_child
  way_not_child j m e =
      let f : up t j ≡ b = ap (up t) e ∙ child_hangs.1 in
      way_not_blossom (rw f at (chain_next (up t) (up t b) (upward t (up t b)) parent_way j m (λ z. blossom_some (sym f ∙ z))))

  -- ---- what the outer nodes of before keep

  pub outer_state : (j : ℕ) → T (outer t j) → j ≢ b → (at u j).state ≡ (at t j).state
  outer_state j o n = elim (same_or_not j (at t b).first_child) [ inl e ↦ rw (e, d.child) | inr m ↦ rw (d.others j o n m) ]

  pub outer_child : (j : ℕ) → T (outer t j) → j ≢ b → (at u j).first_child ≡ read_as b d.top (at t j).first_child
  outer_child j o n = elim (same_or_not j (at t b).first_child) [ inl e ↦ rw (e, d.child) | inr m ↦ rw (d.others j o n m) ]

  pub outer_sibling : (j : ℕ) → T (outer t j) → j ≢ b → next u j ≡ read_as b d.top (next t j)
  outer_sibling j o n = elim (same_or_not j (at t b).first_child) [ inl e ↦ rw (e, next, d.child) | inr m ↦ rw (next, d.others j o n m) ]

  pub outer_link : (j : ℕ) → T (outer t j) → j ≢ b → (at u j).link ≡ (at t j).link
  outer_link j o n = elim (same_or_not j (at t b).first_child) [ inl e ↦ rw (e, d.child) | inr m ↦ rw (d.others j o n m) ]

  pub outer_ring : (j : ℕ) → T (outer t j) → j ≢ b → (at u j).ring ≡ (at t j).ring
  outer_ring j o n = elim (same_or_not j (at t b).first_child) [ inl e ↦ rw (e, d.child) | inr m ↦ rw (d.others j o n m) ]

  pub still_outer : (j : ℕ) → T (outer t j) → j ≢ b → T (outer u j)
  still_outer j o n = rw (outer_state j o n) o

  pub outer_parent : (j : ℕ) → T (outer t j) → j ≢ b → j ≢ (at t b).first_child → up u j ≡ up t j
  outer_parent j o n m = rw (up, d.others j o n m)

  pub child_parent : up u (at t b).first_child ≡ d.bottom
  child_parent = rw (up, d.child)

  pub not_below : (j : ℕ) → T (outer t j) → j ≢ (at t b).first_child → up t j ≢ b
  not_below j o n e = n (only_child_hangs j o e)

  -- ---- each slot stands in one place

  inner-place : (j : ℕ) → InnerChild t b j → Place t b (d.top ∷ d.lower) d.matched j
  inner-place j i = elim ((d.ring j).1 i) [ inl m ↦ is_attached m | inr m ↦ is_matched_lem m ]

  ring_or_not : (j : ℕ) → InnerChild t b j ⊎ ¬ InnerChild t b j
  ring_or_not j =
      elim (in_or_not j (d.top ∷ d.lower)) [
        | inl m ↦ inl (attached_inner j m)
        | inr m ↦ elim (in_or_not j d.matched) [ inl n ↦ inl (matched_inner j n) | inr n ↦ inr (λ i. elim ((d.ring j).1 i) [ inl x ↦ m x | inr x ↦ n x ]) ]
      ]

  pub place_of : (j : ℕ) → Place t b (d.top ∷ d.lower) d.matched j
  place_of j = elim (test_case (outer t j)) [ inl o ↦ if_outer o | inr h ↦ if_not (T_not (outer t j) h) ]
    where
      if_outer : T (outer t j) → Place t b (d.top ∷ d.lower) d.matched j
      if_outer o = elim (same_or_not j b) [ inl e ↦ the_blossom e | inr n ↦ elim (same_or_not j (at t b).first_child) [ inl e ↦ the_child e | inr m ↦ other_outer o n m ] ]

      if_not : ¬ T (outer t j) → Place t b (d.top ∷ d.lower) d.matched j
      if_not h = elim (ring_or_not j) [ inl i ↦ inner-place j i | inr n ↦ no_part h n ]

  -- ---- the matched two

  pub two_paired : (x : ℕ) (m : x ∈ d.matched) → Paired u x (d.twos x m).peer
  two_paired x m =
      let r = d.twos x m in
      slots_paired u x r.link r.peer (at t x) (at t r.peer) r.here r.there (λ e. r.another (sym e)) r.right.linked

  pub matched_outer : (x : ℕ) → x ∈ d.matched → T (outer u x)
  matched_outer x m = rw (two_paired x m).here.stays tt
