-- What a named node has a request concern: that node alone, its pair or its tree; and that no pointer of a concerned node leads
-- to a node that is not concerned.
use mathlib.Core.Path.{◌≡◌, refl, ap, sym, ◌∙◌}
use mathlib.Core.Logic.{◌≢◌, ◌⊎◌, inl, inr}
use mathlib.Core.Bool.{not, ◌&&◌}
use Prim.Native.Nat.{ℕ}
use lib.Dec.{T, eqb, eqb→eq, eqb_refl}
use Rattle.slot.specs.State.{is_outer}
use Rattle.slot.specs.Number.{none}
use Rattle.slot.specs.Slot.{Slot, new_node}
use Rattle.table.specs.Table.{Table, at}
use Rattle.table.specs.Nodes.{is_defect, present, outer, inner}
use Rattle.table.specs.declared.place.Place.TheVariants as P
use Rattle.table.specs.Place.{place, in_tree}
use Rattle.rules.specs.Slots.{up, next}
use Rattle.rules.specs.Trees.{is_unloaded, seen, root, same_tree}
use Rattle.rules.specs.Concerns.{concerned_at}
use Rattle.theorems_soundness.specs.FactsOfNodes.{Paired, Plus, Kind, free_node, virtual_node, paired_node, root_node, minus_node, plus_node, OuterChild}
use Rattle.theorems_soundness.proofs.Reflect.{and→, →and, or→, →or, eq→eqb, same_or_not, test_case, test_true, test_false, not↔, not_eqb↔}
use Rattle.theorems_soundness.proofs.ReflectSlots.{outer-present, outer_not_inner}
use Rattle.theorems_soundness.proofs.KindLaws.{kind_place_lem}
use Rattle.theorems_soundness.proofs.ChildLaws.{above_outer, outer_some, first_child_lem, next_child, has_child}
use Rattle.theorems_soundness.specs.RuleFacts.{Whole}
use Rattle.theorems_soundness.proofs.WaysUp.{same_tree↔}
use Rattle.theorems_soundness.proofs.Loading.{unloaded→}
use Rattle.theorems_soundness.proofs.Trimming.{root-up}

-- ---- what the checks see

pub seen-loaded : (t : Table) (n : ℕ) → ¬ T (is_unloaded t n) → seen t n ≡ at t n
seen-loaded t n d = rw (test_false (is_unloaded t n) d)

pub seen-present : (t : Table) (n : ℕ) → T (present t n) → seen t n ≡ at t n
seen-present t n h = seen-loaded t n (λ u. (not↔ (present t n)).0 (and→ (is_defect t n) (not (present t n)) u).1 h)

pub seen-outer : (t : Table) (n : ℕ) → T (outer t n) → seen t n ≡ at t n
seen-outer t n o = seen-present t n (outer-present (at t n).state o)

-- a node that is read as in a tree is no new one
pub seen_in_tree : (t : Table) (n : ℕ) → T (in_tree (seen t n)) → ¬ T (is_unloaded t n)
seen_in_tree t n h u = rw (test_true (is_unloaded t n) u) at h

-- ---- the nodes that are concerned where n is named

-- m is n, which has no pointer; one of n's pair; or a node of n's tree
pub data Concerned (t : Table) (n m : ℕ) : Type 0 where
  alone : m ≡ n → ¬ T (inner t n) → (at t n).parent ≡ none → (at t n).first_child ≡ none → (at t n).sibling ≡ none → Concerned t n m
  in_pair : Paired t n (next t n) → (m ≡ n) ⊎ (m ≡ next t n) → Concerned t n m
  in_tree_lem : T (outer t n) → T (in_tree (at t n)) → T (outer t m) → T (in_tree (at t m)) → root t n ≡ root t m → Concerned t n m

pub in_tree_case : (s : Slot) → T (in_tree s) → (s.parent ≢ none) ⊎ (s.first_child ≢ none)
in_tree_case s h =
    elim (or→ (not (eqb s.parent none)) (not (eqb s.first_child none)) h) [
      | inl d ↦ inl ((not_eqb↔ s.parent none).0 d)
      | inr d ↦ inr ((not_eqb↔ s.first_child none).0 d)
    ]

pub by_parent : (s : Slot) → s.parent ≢ none → T (in_tree s)
by_parent s d = →or (not (eqb s.parent none)) (not (eqb s.first_child none)) (inl ((not_eqb↔ s.parent none).1 d))

pub by_child : (s : Slot) → s.first_child ≢ none → T (in_tree s)
by_child s d = →or (not (eqb s.parent none)) (not (eqb s.first_child none)) (inr ((not_eqb↔ s.first_child none).1 d))

single_not_tree : (s : Slot) → s.parent ≡ none → s.first_child ≡ none → ¬ T (in_tree s)
single_not_tree s e f h = elim (in_tree_case s h) [ inl d ↦ d e | inr d ↦ d f ]

new_place : place new_node ≡ P.Free
unfolding place
new_place = refl

module _ (t : Table) (w : Whole t) where
  -- ---- a node of a tree

  tree→ : (n m : ℕ) → T (outer t n) → T (in_tree (at t n)) → T (concerned_at P.Tree t n m) → Concerned t n m
  tree→ n m o h c =
      let r = and→ (is_outer (seen t m).state && in_tree (seen t m)) (same_tree t n m) c in
      let q = and→ (is_outer (seen t m).state) (in_tree (seen t m)) r.0 in
      let e = seen-loaded t m (seen_in_tree t m q.1) in
      in_tree_lem o h (rw e at q.0) (rw e at q.1) ((same_tree↔ t w.full w.core n m o).0 r.1)

  →tree : (n m : ℕ) → T (outer t n) → T (outer t m) → T (in_tree (at t m)) → root t n ≡ root t m → T (concerned_at P.Tree t n m)
  →tree n m o p h e =
      let q = seen-outer t m p in
      →and (is_outer (seen t m).state && in_tree (seen t m)) (same_tree t n m) (→and (is_outer (seen t m).state) (in_tree (seen t m)) (rw q p) (rw q h)) ((same_tree↔ t w.full w.core n m o).1 e)

  plus_has_parent : (n : ℕ) → Plus t (at t n) → (at t n).parent ≢ none
  plus_has_parent n f = outer_some t w.full w.core (up t n) (rw f.parent_shrinks tt)

  -- ---- by the kind of n

  kind→ : (n m : ℕ) → T (outer t n) → (k : Kind t n) → T (concerned_at (place (at t n)) t n m) → Concerned t n m
  kind→ n m o (free_node f) c =
      alone (eqb→eq m n (rw (kind_place_lem t w.full n (free_node f)) at c)) (outer_not_inner (at t n).state o) f.parentless f.childless f.siblingless
  kind→ n m o (virtual_node f) c =
      alone (eqb→eq m n (rw (kind_place_lem t w.full n (virtual_node f)) at c)) (outer_not_inner (at t n).state o) f.parentless f.childless f.siblingless
  kind→ n m o (paired_node f) c =
      in_pair f (elim (or→ (eqb m n) (eqb m (next t n)) (rw (kind_place_lem t w.full n (paired_node f)) at c)) [ inl e ↦ inl (eqb→eq m n e) | inr e ↦ inr (eqb→eq m (next t n) e) ])
  kind→ n m o (root_node f) c = tree→ n m o (by_child (at t n) f.has_child) (rw (kind_place_lem t w.full n (root_node f)) at c)
  kind→ n m o (minus_node f) c = tree→ n m o (by_child (at t n) f.has_child) (rw (kind_place_lem t w.full n (minus_node f)) at c)
  kind→ n m o (plus_node f) c = tree→ n m o (by_parent (at t n) (plus_has_parent n f)) (rw (kind_place_lem t w.full n (plus_node f)) at c)

  pub concerned→ : (n m : ℕ) → T (is_outer (seen t n).state) → T (concerned_at (place (seen t n)) t n m) → Concerned t n m
  concerned→ n m o c = elim (test_case (is_unloaded t n)) [ inl u ↦ new u | inr d ↦ old (seen-loaded t n ((not↔ (is_unloaded t n)).0 d)) ]
    where
      old : seen t n ≡ at t n → Concerned t n m
      old e = let p : T (outer t n) = rw e at o in kind→ n m p (w.core.kind n p) (rw e at c)

      new : T (is_unloaded t n) → Concerned t n m
      new u =
          let empty = (unloaded→ t n u).1 in
          let bare = w.rest.bare n empty in
          alone (eqb→eq m n (rw (test_true (is_unloaded t n) u, new_place) at c)) (λ i. rw empty at i) (rw bare) (rw bare) (rw bare)

  -- the node itself is concerned
  itself : (n : ℕ) → T (outer t n) → (k : Kind t n) → T (concerned_at (place (at t n)) t n n)
  itself n o (free_node f) = rw (kind_place_lem t w.full n (free_node f)) (eqb_refl n)
  itself n o (virtual_node f) = rw (kind_place_lem t w.full n (virtual_node f)) (eqb_refl n)
  itself n o (paired_node f) = rw (kind_place_lem t w.full n (paired_node f)) (→or (eqb n n) (eqb n (next t n)) (inl (eqb_refl n)))
  itself n o (root_node f) = rw (kind_place_lem t w.full n (root_node f)) (→tree n n o o (by_child (at t n) f.has_child) refl)
  itself n o (minus_node f) = rw (kind_place_lem t w.full n (minus_node f)) (→tree n n o o (by_child (at t n) f.has_child) refl)
  itself n o (plus_node f) = rw (kind_place_lem t w.full n (plus_node f)) (→tree n n o o (by_parent (at t n) (plus_has_parent n f)) refl)

  pub concerned_itself : (n : ℕ) → T (is_outer (seen t n).state) → T (concerned_at (place (seen t n)) t n n)
  concerned_itself n o = elim (test_case (is_unloaded t n)) [ inl u ↦ rw (test_true (is_unloaded t n) u, new_place) (eqb_refl n) | inr d ↦ old (seen-loaded t n ((not↔ (is_unloaded t n)).0 d)) ]
    where
      old : seen t n ≡ at t n → T (concerned_at (place (seen t n)) t n n)
      old e = let p : T (outer t n) = rw e at o in rw e (itself n p (w.core.kind n p))

  -- ---- from facts back to the test

  kind_tree : (n : ℕ) → T (in_tree (at t n)) → (k : Kind t n) → place (at t n) ≡ P.Tree
  kind_tree n h (free_node f) = absurd (single_not_tree (at t n) f.parentless f.childless h)
  kind_tree n h (virtual_node f) = absurd (single_not_tree (at t n) f.parentless f.childless h)
  kind_tree n h (paired_node f) = absurd (single_not_tree (at t n) f.here.parentless f.here.childless h)
  kind_tree n h (root_node f) = kind_place_lem t w.full n (root_node f)
  kind_tree n h (minus_node f) = kind_place_lem t w.full n (minus_node f)
  kind_tree n h (plus_node f) = kind_place_lem t w.full n (plus_node f)

  →in_tree : (n m : ℕ) → T (outer t n) → T (in_tree (at t n)) → T (outer t m) → T (in_tree (at t m)) → root t n ≡ root t m → T (concerned_at (place (seen t n)) t n m)
  →in_tree n m o h p k e = rw (seen-outer t n o, kind_tree n h (w.core.kind n o)) (→tree n m o p k e)

  →in_pair : (n m : ℕ) → Paired t n (next t n) → (m ≡ n) ⊎ (m ≡ next t n) → T (concerned_at (place (seen t n)) t n m)
  →in_pair n m f h =
      let o : T (outer t n) = rw f.here.stays tt in
      rw (seen-outer t n o, kind_place_lem t w.full n (paired_node f))
      (→or (eqb m n) (eqb m (next t n)) (elim h [ inl e ↦ inl (eq→eqb m n e) | inr e ↦ inr (eq→eqb m (next t n) e) ]))

  -- ---- pointers of concerned nodes

  -- none, or a concerned node
  abbrev pub Held : ℕ → ℕ → Type 0
  Held n p = (p ≡ none) ⊎ T (concerned_at (place (seen t n)) t n p)

  pub record AllHeld (n : ℕ) (s : Slot) : Type 0 where
    pub parent : Held n s.parent
    pub child : Held n s.first_child
    pub sibling : Held n s.sibling

  -- a child of a node of n's tree is in that tree
  child_held : (n : ℕ) → T (outer t n) → T (in_tree (at t n)) → (m c : ℕ) → T (outer t m) → root t n ≡ root t m → OuterChild t m c → T (concerned_at (place (seen t n)) t n c)
  child_held n o h m c p e k =
      let d : up t c ≢ none = λ z. outer_some t w.full w.core m p (sym k.1 ∙ z) in
      →in_tree n c o h k.0 (by_parent (at t c) d) (e ∙ ap (root t) (sym k.1) ∙ root-up t w c k.0 d)

  tree_held : (n : ℕ) → T (outer t n) → T (in_tree (at t n)) → (m : ℕ) → T (outer t m) → T (in_tree (at t m)) → root t n ≡ root t m → AllHeld n (at t m)
  tree_held n o h m p q e = record { parent = parent; child = child; sibling = sibling (w.core.kind m p) }
    where
      parent : Held n (up t m)
      parent =
          elim (same_or_not (up t m) none) [
            | inl z ↦ inl z
            | inr d ↦
                let a = above_outer t w.full w.core m p d in
                inr (→in_tree n (up t m) o h a (by_child (at t (up t m)) (has_child t w.full w.core (up t m) a m (p, refl))) (e ∙ sym (root-up t w m p d)))
          ]

      child : Held n (at t m).first_child
      child =
          elim (same_or_not (at t m).first_child none) [
            | inl z ↦ inl z
            | inr d ↦ inr (child_held n o h m (at t m).first_child p e (first_child_lem t w.full w.core m p d))
          ]

      beside : up t m ≢ none → Held n (next t m)
      beside d =
          elim (same_or_not (next t m) none) [
            | inl z ↦ inl z
            | inr z ↦
                let a = above_outer t w.full w.core m p d in
                inr (child_held n o h (up t m) (next t m) a (e ∙ sym (root-up t w m p d)) (next_child t w.full w.core (up t m) a m (p, refl) z))
          ]

      sibling : Kind t m → Held n (next t m)
      sibling (free_node f) = inl f.siblingless
      sibling (virtual_node f) = inl f.siblingless
      sibling (paired_node f) = absurd (single_not_tree (at t m) f.here.parentless f.here.childless q)
      sibling (root_node f) = inl f.siblingless
      sibling (minus_node f) = beside (outer_some t w.full w.core (up t m) (rw f.parent_grows tt))
      sibling (plus_node f) = inl f.siblingless

  pair_held : (n : ℕ) → Paired t n (next t n) → (m : ℕ) → (m ≡ n) ⊎ (m ≡ next t n) → AllHeld n (at t m)
  pair_held n f m (inl e) = rw e (record { parent = inl f.here.parentless; child = inl f.here.childless; sibling = inr (→in_pair n (next t n) f (inr refl)) })
  pair_held n f m (inr e) = rw e (record { parent = inl f.there.parentless; child = inl f.there.childless; sibling = inr (→in_pair n (next t (next t n)) f (inl f.points_back)) })

  pub concerned_held : (n m : ℕ) → Concerned t n m → AllHeld n (at t m)
  concerned_held n m (alone e i p c s) = rw e (record { parent = inl p; child = inl c; sibling = inl s })
  concerned_held n m (in_pair f h) = pair_held n f m h
  concerned_held n m (in_tree_lem o h p k e) = tree_held n o h m p k e

  -- ---- a concerned node is seen as outer

  pub concerned_outer : (n m : ℕ) → T (is_outer (seen t n).state) → Concerned t n m → T (is_outer (seen t m).state)
  concerned_outer n m o (alone e i p c s) = rw e o
  concerned_outer n m o (in_pair f (inl e)) = rw e o
  concerned_outer n m o (in_pair f (inr e)) = let q : T (outer t (next t n)) = rw f.there.stays tt in rw (e, seen-outer t (next t n) q) q
  concerned_outer n m o (in_tree_lem p h q k e) = rw (seen-outer t m q) q
