-- `replace_child`: "its place in its parent's list". An outer node's place in the list of its parent is given to another node: all
-- outer nodes then read that node's number where they read the outer node's.
use mathlib.Core.Path.{◌≡◌, refl, ap, ap₂, sym, subst, ◌∙◌}
use mathlib.Core.Logic.{◌≢◌, ◌⊎◌, inl, inr}
use mathlib.Core.List.{List, [], ◌∷◌}
use Prim.Native.Nat.{ℕ, zero, suc, ◌≤◌, ◌<◌}
use native.Mathlib.Omega.{arith}
use lib.Dec.{T}
use lib.ListN.{length}
use Rattle.slot.specs.Number.{none}
use Rattle.slot.specs.Slot.{Slot}
use Rattle.table.specs.Table.{Table, at, put, Full}
use Rattle.table.proofs.TableLaws.{at-put-same, at-put_other, put_full}
use Rattle.table.specs.Nodes.{outer}
use Rattle.rules.specs.Act.{choose, alter}
use Rattle.rules.specs.Slots.{with_first_child, with_sibling, up, next}
use Rattle.rules.specs.Blossom.{relinked, relisted, replace_child}
use Rattle.theorems_soundness.specs.Chain.{◌∈◌, Chain}
use Rattle.theorems_soundness.specs.FactsOfNodes.{Minus, Kind, free_node, virtual_node, paired_node, root_node, minus_node, plus_node, Children}
use Rattle.theorems_soundness.proofs.Reflect.{eqb_yes, eqb_no, same_or_not}
use Rattle.theorems_soundness.proofs.ReflectSlots.{stay_shrink}
use Rattle.theorems_soundness.proofs.Chains.{chain_frame, chain_fits, chain_next, chain_nodup, chain_injective}
use Rattle.theorems_soundness.proofs.Past.{outer_below}
use Rattle.theorems_soundness.proofs.ChildLaws.{first_child_lem, next_child}
use Rattle.theorems_soundness.specs.RuleFacts.{Whole}
use Rattle.theorems_soundness.proofs.Frames.{some_outer}
use Rattle.theorems_soundness.proofs.Renewing.{SameCounts, put_counts}
use Rattle.theorems_soundness.proofs.Cleared.{counts_then}
use Rattle.theorems_soundness.proofs.ReadAs.{read_as, slot_read_as, read_here, read_other}
use Rattle.theorems_soundness.proofs.OpenedCore.{chain_no_self, no_own_sibling}

-- ---- the walk along the list

-- the node before `from` is found, and goes on to `to`
pub relinked-at :
    (k : ℕ) (v : Table) (a from to : ℕ) (cs : List ℕ)
    → Chain (next v) a cs
    → from ∈ cs
    → a ≢ from
    → length cs ≤ k
    → (y : ℕ) × (y ∈ cs) × (next v y ≡ from) × (relinked k a from to v ≡ alter y (with_sibling to) v)
unfolding relinked choose
relinked-at k v a from to [] c m n l = absurd m
relinked-at zero v a from to (x ∷ cs) c m n l = absurd (omega arith)
relinked-at (suc k) v a from to (x ∷ cs) c m n l = go (same_or_not (next v a) from) m (relinked-at k v (next v a) from to cs)
  where
    go :
        (next v a ≡ from) ⊎ (next v a ≢ from)
        → (from ≡ x) ⊎ (from ∈ cs)
        → (Chain (next v) (next v a) cs → from ∈ cs → next v a ≢ from → length cs ≤ k → (y : ℕ) × (y ∈ cs) × (next v y ≡ from) × (relinked k (next v a) from to v ≡ alter y (with_sibling to) v))
        → (y : ℕ) × (y ∈ (x ∷ cs)) × (next v y ≡ from) × (relinked (suc k) a from to v ≡ alter y (with_sibling to) v)
    go h (inl e) ih = absurd (n (c.0 ∙ sym e))
    go (inl e) (inr i) ih = (a, inl c.0, e, rw (eqb_no a none c.1, eqb_yes (next v a) from e))
    go (inr d) (inr i) ih =
        let r = ih (rw c.0 c.2) i d (omega arith) in
        (r.0, inr r.1, r.2, rw (eqb_no a none c.1, eqb_no (next v a) from d) r.3)

-- what stands first on a list stands after nothing on it
chain_first_alone : (f : ℕ → ℕ) (a : ℕ) (cs : List ℕ) → Chain f a cs → a ≢ none → (j : ℕ) → j ∈ cs → f j ≢ a
chain_first_alone f a [] c n j m e = m
chain_first_alone f a (x ∷ cs) c n j (inl q) e = chain_no_self f a (x ∷ cs) c j (inl q) (e ∙ c.0 ∙ sym q)
chain_first_alone f a (x ∷ cs) c n j (inr m) e =
    let again : f j ∈ cs = chain_next f (f x) cs c.2 j m (λ z. n (sym e ∙ z)) in
    (chain_nodup f a (x ∷ cs) c).0 (subst (λ (i : ℕ). i ∈ cs) (e ∙ c.0) again)

module _ (b p : ℕ) where
  -- a slot as it reads when b is read as p
  read_slot : (s : Slot) (first after : ℕ) → read_as b p s.first_child ≡ first → read_as b p s.sibling ≡ after → record { state = s.state; parent = s.parent; first_child = first; sibling = after; ring = s.ring; link = s.link } ≡ slot_read_as b p s
  read_slot s first after e f = λ i. record { state = s.state; parent = s.parent; first_child = sym e i; sibling = sym f i; ring = s.ring; link = s.link }

  read_unchanged : (s : Slot) → s.first_child ≢ b → s.sibling ≢ b → s ≡ slot_read_as b p s
  read_unchanged s d n = read_slot s s.first_child s.sibling (read_other b p s.first_child d) (read_other b p s.sibling n)

-- u is v with b read as p by every node that is outer in t
pub record Replaced (t v u : Table) (b p : ℕ) : Type 0 where
  pub full : Full u
  pub counts : SameCounts v u
  pub outers : (j : ℕ) → T (outer t j) → at u j ≡ slot_read_as b p (at t j)
  pub others : (j : ℕ) → ¬ T (outer t j) → at u j ≡ at v j

-- .. and p goes on where b went on
pub record PlaceGiven (t v u : Table) (b p : ℕ) : Type 0 where
  pub full : Full u
  pub counts : SameCounts v u
  pub outers : (j : ℕ) → T (outer t j) → at u j ≡ slot_read_as b p (at t j)
  pub here : at u p ≡ with_sibling (next t b) (at v p)
  pub others : (j : ℕ) → ¬ T (outer t j) → j ≢ p → at u j ≡ at v j

module _ (t v : Table) (w : Whole t) (full : Full v) (b p : ℕ) (minus : Minus t (at t b)) (agree : (j : ℕ) → T (outer t j) → at v j ≡ at t j) where
  outer_b : T (outer t b)
  outer_b = rw minus.shrinks tt

  some_b : b ≢ none
  some_b = some_outer t w.full b outer_b

  outer_q : T (outer t (up t b))
  outer_q = rw minus.parent_grows tt

  kids : Children t (up t b)
  kids = w.core.children (up t b) outer_q

  b_listed : b ∈ kids.list
  b_listed = (kids.exact b).1 (outer_b, refl)

  -- b is the first child of no other node
  first_of : (j : ℕ) → T (outer t j) → (at t j).first_child ≡ b → j ≡ up t b
  first_of j o e = let k = first_child_lem t w.full w.core j o (λ z. some_b (sym e ∙ z)) in sym k.1 ∙ ap (up t) e

  -- .. and the next sibling of none but one on that list
  before_b : (j : ℕ) → T (outer t j) → next t j ≡ b → j ∈ kids.list
  before_b j o e = go (w.core.kind j o)
    where
      go : Kind t j → j ∈ kids.list
      go (free_node f) = absurd (some_b (sym e ∙ f.siblingless))
      go (virtual_node f) = absurd (some_b (sym e ∙ f.siblingless))
      go (paired_node f) = absurd (stay_shrink (rw e at f.there.stays) minus.shrinks)
      go (root_node f) = absurd (some_b (sym e ∙ f.siblingless))
      go (minus_node f) =
          let oj : T (outer t (up t j)) = rw f.parent_grows tt in
          let k = next_child t w.full w.core (up t j) oj j (o, refl) (λ z. some_b (sym e ∙ z)) in
          (kids.exact j).1 (o, sym k.1 ∙ ap (up t) e)
      go (plus_node f) = absurd (some_b (sym e ∙ f.siblingless))

  first_same : (at v (up t b)).first_child ≡ (at t (up t b)).first_child
  first_same = rw (agree (up t b) outer_q)

  list_in_v : Chain (next v) (at v (up t b)).first_child kids.list
  list_in_v = rw first_same (chain_frame (next t) (next v) (at t (up t b)).first_child kids.list (λ j m. rw (next, agree j ((kids.exact j).0 m).0)) kids.chain)

  list_short : length kids.list ≤ 256
  list_short = chain_fits (next t) 256 (at t (up t b)).first_child kids.list kids.chain (λ j m. outer_below t w.full j ((kids.exact j).0 m).0)

  -- ---- b is first

  first_replaced : (at t (up t b)).first_child ≡ b → Replaced t v (alter (up t b) (with_first_child p) v) b p
  unfolding alter
  first_replaced e =
      record {
        full = put_full v q s full;
        counts = put_counts v q s;
        outers = λ j o. elim (same_or_not j q) [
          | inl z ↦ rw z (at-put-same v q s full (outer_below t w.full q outer_q) ∙ ap (with_first_child p) (agree q outer_q) ∙ read_slot b p (at t q) p (next t q) (ap (read_as b p) e ∙ read_here b p) (read_other b p (next t q) (alone q outer_q)))
          | inr z ↦ at-put_other v q j s z ∙ agree j o ∙ read_unchanged b p (at t j) (λ x. z (first_of j o x)) (alone j o)
        ];
        others = λ j n. at-put_other v q j s (λ z. n (rw z outer_q));
      }
    where
      q : ℕ
      q = up t b

      s : Slot
      s = with_first_child p (at v q)

      alone : (j : ℕ) → T (outer t j) → next t j ≢ b
      alone j o x = chain_first_alone (next t) (at t q).first_child kids.list kids.chain (λ z. some_b (sym e ∙ z)) j (before_b j o x) (x ∙ sym e)

  -- ---- b stands after y

  later_replaced : (y : ℕ) → (at t (up t b)).first_child ≢ b → y ∈ kids.list → next t y ≡ b → Replaced t v (alter y (with_sibling p) v) b p
  unfolding alter
  later_replaced y d m e =
      record {
        full = put_full v y s full;
        counts = put_counts v y s;
        outers = λ j o. elim (same_or_not j y) [
          | inl z ↦ rw z (at-put-same v y s full (outer_below t w.full y outer_y) ∙ ap (with_sibling p) (agree y outer_y) ∙ read_slot b p (at t y) (at t y).first_child p (read_other b p (at t y).first_child (not_first y outer_y)) (ap (read_as b p) e ∙ read_here b p))
          | inr z ↦ at-put_other v y j s z ∙ agree j o ∙ read_unchanged b p (at t j) (not_first j o) (λ x. z (chain_injective (next t) (at t (up t b)).first_child kids.list kids.chain j y (before_b j o x) m (x ∙ sym e)))
        ];
        others = λ j n. at-put_other v y j s (λ z. n (rw z outer_y));
      }
    where
      s : Slot
      s = with_sibling p (at v y)

      outer_y : T (outer t y)
      outer_y = ((kids.exact y).0 m).0

      not_first : (j : ℕ) → T (outer t j) → (at t j).first_child ≢ b
      not_first j o x = d (subst (λ (i : ℕ). (at t i).first_child ≡ b) (first_of j o x) x)

  -- ---- either

  pub relisted_does : Replaced t v (relisted (up t b) b p v) b p
  unfolding relisted choose
  relisted_does = go (same_or_not (at v (up t b)).first_child b)
    where
      go : ((at v (up t b)).first_child ≡ b) ⊎ ((at v (up t b)).first_child ≢ b) → Replaced t v (relisted (up t b) b p v) b p
      go (inl e) = rw (eqb_yes (at v (up t b)).first_child b e) (first_replaced (sym first_same ∙ e))
      go (inr d) =
          let r = relinked-at 256 v (at v (up t b)).first_child b p kids.list list_in_v b_listed d list_short in
          let f : next t r.0 ≡ b = sym (ap (λ (s : Slot). s.sibling) (agree r.0 ((kids.exact r.0).0 r.1).0)) ∙ r.2 in
          rw (eqb_no (at v (up t b)).first_child b d, r.3) (later_replaced r.0 (λ z. d (first_same ∙ z)) r.1 f)

  -- a budget of 256 is enough: any larger one finds the same node
  pub relinked_enough : (at v (up t b)).first_child ≢ b → (k : ℕ) → 256 ≤ k → relinked k (at v (up t b)).first_child b p v ≡ relinked 256 (at v (up t b)).first_child b p v
  relinked_enough d k l =
      let a = (at v (up t b)).first_child in
      let r = relinked-at k v a b p kids.list list_in_v b_listed d (omega (arith, list_short)) in
      let s = relinked-at 256 v a b p kids.list list_in_v b_listed d list_short in
      r.3 ∙ ap (λ (y : ℕ). alter y (with_sibling p) v) (chain_injective (next v) a kids.list list_in_v r.0 s.0 r.1 s.1 (r.2 ∙ sym s.2)) ∙ sym s.3

  replace_table : replace_child (up t b) b p v ≡ put (relisted (up t b) b p v) p (with_sibling (next (relisted (up t b) b p v) b) (at (relisted (up t b) b p v) p))
  unfolding replace_child alter
  replace_table = refl

  -- b itself reads as before
  next_in_list : next (relisted (up t b) b p v) b ≡ next t b
  next_in_list = ap (λ (s : Slot). s.sibling) (relisted_does.outers b outer_b) ∙ read_other b p (next t b) (no_own_sibling t w.core b outer_b outer_q)

  pub place_given : ¬ T (outer t p) → p < 256 → PlaceGiven t v (replace_child (up t b) b p v) b p
  place_given n l =
      let u = relisted (up t b) b p v in
      let r = relisted_does in
      let s = with_sibling (next u b) (at u p) in
      let here : s ≡ with_sibling (next t b) (at v p) = ap₂ with_sibling next_in_list (r.others p n) in
      rw replace_table (record {
        full = put_full u p s r.full;
        counts = counts_then v u (put u p s) r.counts (put_counts u p s);
        outers = λ j o. at-put_other u p j s (λ e. n (rw e at o)) ∙ r.outers j o;
        here = at-put-same u p s r.full l ∙ here;
        others = λ j m d. at-put_other u p j s d ∙ r.others j m;
      })
