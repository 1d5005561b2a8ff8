-- A way to speak of a tree that is being taken apart: the first child of a Grow node and the child of that are taken off, the one
-- as a free node, the other as a root with what hung below it. The table stays sound. No rule does this; matching the two, once
-- all below is matched, gives what the rules do.
use mathlib.Core.Path.{◌≡◌, refl, sym, ◌∙◌}
use mathlib.Core.Logic.{◌≢◌, ◌⊎◌, inl, inr}
use mathlib.Core.List.{List, [], ◌∷◌}
use Prim.Native.Nat.{ℕ, ◌<◌}
use lib.Dec.{T}
use Rattle.slot.specs.declared.state.State.TheVariants as S
use Rattle.slot.specs.Number.{none}
use Rattle.slot.specs.Slot.{Slot, no_link}
use Rattle.table.specs.Table.{Table, at, put, Full}
use Rattle.table.proofs.TableLaws.{at-put-same, at-put_other, put_full}
use Rattle.table.specs.Nodes.{outer}
use Rattle.rules.specs.Slots.{with_first_child, shaped, up, next}
use Rattle.theorems_soundness.specs.Chain.{◌∈◌, Chain}
use Rattle.theorems_soundness.specs.FactsOfNodes.{Free, Paired, Minus, Plus, Kind, free_node, virtual_node, paired_node, root_node, minus_node, plus_node, OuterChild, Children, Upward}
use Rattle.theorems_soundness.specs.Facts.{Names}
use Rattle.theorems_soundness.proofs.Reflect.{same_or_not}
use Rattle.theorems_soundness.proofs.ReflectSlots.{stay_grow, stay_shrink, grow_shrink}
use Rattle.theorems_soundness.proofs.Chains.{chain_frame, chain_nodup}
use Rattle.theorems_soundness.proofs.Past.{outer_below}
use Rattle.theorems_soundness.proofs.ChildLaws.{first_child_lem, child_of_grow, child_of_shrink, minus_only}
use Rattle.theorems_soundness.specs.RuleFacts.{Below, Whole}
use Rattle.theorems_soundness.proofs.Frames.{in_or_not, some_outer, no_children, Pruned, pruned_chain, SeenAlike, core-frame}
use Rattle.theorems_soundness.proofs.Below.{below_child, below_join, not_below_self}
use Rattle.theorems_soundness.proofs.Renewing.{of_none, Fits, Kept, SameCounts, kept-each}

abbrev pub freed : Slot → Slot
freed s = shaped S.Grow none none none no_link s

abbrev pub rooted : Slot → Slot
rooted s = shaped S.Grow none s.first_child none no_link s

-- a Grow node y with its first child n, which is a − node, and the child c of that, a + node
pub record Branch (t : Table) (y n c : ℕ) : Type 0 where
  pub grows : (at t y).state ≡ S.Grow
  pub first : (at t y).first_child ≡ n
  pub child : OuterChild t y n
  pub minus : Minus t (at t n)
  pub second : (at t n).first_child ≡ c
  pub grandchild : OuterChild t n c
  pub plus : Plus t (at t c)

pub branch : (t : Table) (y : ℕ) → Whole t → (at t y).state ≡ S.Grow → (at t y).first_child ≢ none → Branch t y (at t y).first_child (at t (at t y).first_child).first_child
branch t y w g d =
    let n = (at t y).first_child in
    let o : T (outer t y) = rw g tt in
    let child = first_child_lem t w.full w.core y o d in
    let minus = child_of_grow t w.full w.core y n o g child in
    let grandchild = first_child_lem t w.full w.core n child.0 minus.has_child in
    record {
      grows = g;
      first = refl;
      child = child;
      minus = minus;
      second = refl;
      grandchild = grandchild;
      plus = child_of_shrink t w.full w.core n (at t n).first_child child.0 minus.shrinks grandchild;
    }

unfoldable pub split : Table → ℕ → ℕ → ℕ → Table
split t y n c = put (put (put t y (with_first_child (next t n) (at t y))) n (freed (at t n))) c (rooted (at t c))

pub record SplitSlots (t : Table) (y n c : ℕ) (u : Table) : Type 0 where
  pub above : at u y ≡ with_first_child (next t n) (at t y)
  pub middle : at u n ≡ freed (at t n)
  pub lower : at u c ≡ rooted (at t c)
  pub other : (j : ℕ) → ¬ (j ∈ (y ∷ n ∷ c ∷ [])) → at u j ≡ at t j

split-slots :
    (t : Table) (y n c : ℕ)
    → Full t
    → y < 256
    → n < 256
    → c < 256
    → y ≢ n
    → y ≢ c
    → n ≢ y
    → n ≢ c
    → c ≢ y
    → c ≢ n
    → SplitSlots t y n c (split t y n c)
unfolding split
split-slots t y n c full ly ln lc p q r s x z =
    record {
      above = simp (at-put_other, at-put-same);
      middle = simp (at-put_other, at-put-same, put_full);
      lower = simp (at-put-same, put_full);
      other = λ j m.
          let a : j ≢ y = λ e. m (inl e) in
          let b : j ≢ n = λ e. m (inr (inl e)) in
          let d : j ≢ c = λ e. m (inr (inr (inl e))) in
          simp at-put_other;
    }

module _ (t : Table) (y n c : ℕ) (w : Whole t) (b : Branch t y n c) where
  abbrev u : Table
  u = split t y n c

  abbrev ws : List ℕ
  ws = y ∷ n ∷ c ∷ []

  outer_y : T (outer t y)
  outer_y = rw b.grows tt

  some_y : y ≢ none
  some_y = some_outer t w.full y outer_y

  some_n : n ≢ none
  some_n = some_outer t w.full n b.child.0

  some_c : c ≢ none
  some_c = some_outer t w.full c b.grandchild.0

  pub branch_below : Below t y c
  branch_below = below_join t y n c (below_child t y n b.child) (below_child t n c b.grandchild)

  pub y≢n : y ≢ n
  y≢n e = grow_shrink b.grows (rw e b.minus.shrinks)

  pub y≢c : y ≢ c
  y≢c e = not_below_self t w.full w.core y (rw (← e) at branch_below)

  pub n≢c : n ≢ c
  n≢c e = grow_shrink b.plus.grows (rw e at b.minus.shrinks)

  -- y is below neither
  not_below_c : up t y ≢ c
  not_below_c e = not_below_self t w.full w.core y (below_join t y c y branch_below (below_child t c y (outer_y, e)))

  not_below_n : up t y ≢ n
  not_below_n e = y≢c (minus_only t w.full w.core n y b.child.0 b.minus (outer_y, e) ∙ b.second)

  pub split_does : SplitSlots t y n c u
  split_does =
      split-slots t y n c w.full (outer_below t w.full y outer_y) (outer_below t w.full n b.child.0) (outer_below t w.full c b.grandchild.0)
      y≢n y≢c (λ e. y≢n (sym e)) n≢c (λ e. y≢c (sym e)) (λ e. n≢c (sym e))

  -- ---- the rest

  split_full : Full u
  unfolding split
  split_full = put_full _ c _ (put_full _ n _ (put_full t y _ w.full))

  pub split_counts : SameCounts t u
  unfolding split put
  split_counts = record { begin = refl; defects = refl; blossoms = refl }

  fits_above : Fits t y (with_first_child (next t n) (at t y))
  fits_above =
      let p = w.rest.pointers y in
      let q = w.rest.touches y in
      record {
        outer = outer_y;
        ring = refl;
        pointers = record { parent = p.parent; child = (w.rest.pointers n).sibling; sibling = p.sibling; ring = p.ring };
        touch = q.touch;
        peer_touch = q.peer_touch;
      }

  fits_off : (j child : ℕ) → Names t child → Fits t j (shaped S.Grow none child none no_link (at t j))
  fits_off j child names =
      record {
        outer = tt;
        ring = refl;
        pointers = record { parent = of_none; child = names; sibling = of_none; ring = (w.rest.pointers j).ring };
        touch = of_none;
        peer_touch = of_none;
      }

  split_each : (j : ℕ) → (at u j ≡ at t j) ⊎ (T (outer t j) × Fits t j (at u j))
  split_each j = go (in_or_not j ws)
    where
      go : (j ∈ ws) ⊎ ¬ (j ∈ ws) → (at u j ≡ at t j) ⊎ (T (outer t j) × Fits t j (at u j))
      go (inl (inl e)) = inr (rw e (outer_y, rw split_does.above fits_above))
      go (inl (inr (inl e))) = inr (rw e (b.child.0, rw split_does.middle (fits_off n none of_none)))
      go (inl (inr (inr (inl e)))) = inr (rw e (b.grandchild.0, rw split_does.lower (fits_off c (at t c).first_child (w.rest.pointers c).child)))
      go (inl (inr (inr (inr z)))) = absurd z
      go (inr d) = inl (split_does.other j d)

  pub split_kept : Kept t u
  split_kept = kept-each t u split_full w.rest split_counts split_each

  -- ---- who was a child of whom

  pub split_was : (j : ℕ) → T (outer u j) → T (outer t j)
  split_was j o = elim (split_each j) [ inl e ↦ rw e at o | inr p ↦ p.0 ]

  pub split_pruned : Pruned t u
  split_pruned j = go (in_or_not j ws)
    where
      go : (j ∈ ws) ⊎ ¬ (j ∈ ws) → (up u j ≡ up t j) ⊎ (up u j ≡ none)
      go (inl (inl e)) = inl (rw (e, up, split_does.above))
      go (inl (inr (inl e))) = inr (rw (e, up, split_does.middle))
      go (inl (inr (inr (inl e)))) = inr (rw (e, up, split_does.lower))
      go (inl (inr (inr (inr z)))) = absurd z
      go (inr d) = inl (rw (up, split_does.other j d))

  -- a touched node that is a child in u is y
  touched_child : (i j : ℕ) → i ≢ none → j ∈ ws → OuterChild u i j → (j ≡ y) × (up t y ≡ i)
  touched_child i j d (inl e) k = (e, rw (e, up, split_does.above) at k.1)
  touched_child i j d (inr (inl e)) k = absurd (d (sym (rw (e, up, split_does.middle) at k.1)))
  touched_child i j d (inr (inr (inl e))) k = absurd (d (sym (rw (e, up, split_does.lower) at k.1)))
  touched_child i j d (inr (inr (inr z))) k = absurd z

  untouched_child : (i j : ℕ) → ¬ (j ∈ ws) → OuterChild u i j → OuterChild t i j
  untouched_child i j d k = let e = split_does.other j d in (rw e at k.0, rw (e, up) at k.1)

  still_child : (i j : ℕ) → ¬ (j ∈ ws) → OuterChild t i j → OuterChild u i j
  still_child i j d k = let e = split_does.other j d in rw (e, up) k

  -- ---- what the others see

  child_of_touched : (i : ℕ) → T (outer t i) → ¬ (i ∈ ws) → up t i ≢ n
  child_of_touched i o d e = d (inr (inr (inl (minus_only t w.full w.core n i b.child.0 b.minus (o, e) ∙ b.second))))

  seen_state_lem : (i : ℕ) → T (outer t i) → ¬ (i ∈ ws) → (at u (up t i)).state ≡ (at t (up t i)).state
  seen_state_lem i o d = go (in_or_not (up t i) ws)
    where
      go : (up t i ∈ ws) ⊎ ¬ (up t i ∈ ws) → (at u (up t i)).state ≡ (at t (up t i)).state
      go (inl (inl e)) = rw (e, split_does.above)
      go (inl (inr (inl e))) = absurd (child_of_touched i o d e)
      go (inl (inr (inr (inl e)))) = rw (e, split_does.lower) (sym b.plus.grows)
      go (inl (inr (inr (inr z)))) = absurd z
      go (inr m) = rw (split_does.other (up t i) m)

  -- the parent of a touched node other than y is touched
  first_touched : (i j : ℕ) → T (outer t i) → (at t i).first_child ≡ j → j ≢ none → up t j ≡ i
  first_touched i j o e d = rw e at (first_child_lem t w.full w.core i o (λ z. d (sym e ∙ z))).1

  seen_sibling : (i : ℕ) → T (outer t i) → ¬ (i ∈ ws) → next u (at t i).first_child ≡ next t (at t i).first_child
  seen_sibling i o d = go (in_or_not (at t i).first_child ws)
    where
      go : ((at t i).first_child ∈ ws) ⊎ ¬ ((at t i).first_child ∈ ws) → next u (at t i).first_child ≡ next t (at t i).first_child
      go (inl (inl e)) = rw (e, next, split_does.above)
      go (inl (inr (inl e))) = absurd (d (inl (sym (first_touched i n o e some_n) ∙ b.child.1)))
      go (inl (inr (inr (inl e)))) = absurd (d (inr (inl (sym (first_touched i c o e some_c) ∙ b.grandchild.1))))
      go (inl (inr (inr (inr z)))) = absurd z
      go (inr m) = rw (next, split_does.other (at t i).first_child m)

  seen_peer : (i : ℕ) → Paired t i (next t i) → ¬ (next t i ∈ ws)
  seen_peer i p (inl e) = stay_grow p.there.stays (rw e b.grows)
  seen_peer i p (inr (inl e)) = stay_shrink p.there.stays (rw e b.minus.shrinks)
  seen_peer i p (inr (inr (inl e))) = stay_grow p.there.stays (rw e b.plus.grows)
  seen_peer i p (inr (inr (inr z))) = z

  seen_child : (i j : ℕ) → ¬ (i ∈ ws) → j ∈ ws → OuterChild t i j → OuterChild u i j × (next u j ≡ next t j)
  seen_child i j d (inl e) k = rw (e, up, next, split_does.above) ((rw e at k.0, rw e at k.1), refl)
  seen_child i j d (inr (inl e)) k = absurd (d (inl (sym (rw e at k.1) ∙ b.child.1)))
  seen_child i j d (inr (inr (inl e))) k = absurd (d (inr (inl (sym (rw e at k.1) ∙ b.grandchild.1))))
  seen_child i j d (inr (inr (inr z))) k = absurd z

  split_seen : SeenAlike t u ws
  split_seen =
      record {
        same = split_does.other;
        parent_state = seen_state_lem;
        child_sibling = seen_sibling;
        peer = λ i o d p. split_does.other (next t i) (seen_peer i p);
        child_stays = λ i j o d m k. seen_child i j d m k;
        no_new_child = λ i j o d m k. let r = touched_child i j (some_outer t w.full i o) m k in rw r.0 (outer_y, r.1);
      }

  -- ---- the touched nodes

  kind_above : Kind t y → (next t n ≡ none) ⊎ (next t n ≢ none) → Kind u y
  kind_above (free_node f) h = absurd (some_n (sym b.first ∙ f.childless))
  kind_above (virtual_node v) h = absurd (stay_grow v.stays b.grows)
  kind_above (paired_node p) h = absurd (stay_grow p.here.stays b.grows)
  kind_above (root_node r) (inl e) =
      free_node (rw split_does.above (record { grows = r.grows; parentless = r.parentless; childless = e; siblingless = r.siblingless; unlinked = r.unlinked }))
  kind_above (root_node r) (inr d) =
      root_node (rw split_does.above (record { grows = r.grows; has_child = d; parentless = r.parentless; siblingless = r.siblingless; unlinked = r.unlinked }))
  kind_above (minus_node m) h = absurd (grow_shrink b.grows m.shrinks)
  kind_above (plus_node p) h =
      plus_node (rw split_does.above (record { grows = p.grows; linked = p.linked; siblingless = p.siblingless; parent_shrinks = rw (split_does.other (up t y) off) p.parent_shrinks }))
    where
      off : ¬ (up t y ∈ ws)
      off (inl e) = grow_shrink b.grows (rw e at p.parent_shrinks)
      off (inr (inl e)) = not_below_n e
      off (inr (inr (inl e))) = not_below_c e
      off (inr (inr (inr z))) = z

  kind_lower : ((at t c).first_child ≡ none) ⊎ ((at t c).first_child ≢ none) → Kind u c
  kind_lower (inl e) = free_node (rw split_does.lower (record { grows = refl; parentless = refl; childless = e; siblingless = refl; unlinked = refl }))
  kind_lower (inr d) = root_node (rw split_does.lower (record { grows = refl; has_child = d; parentless = refl; siblingless = refl; unlinked = refl }))

  pub split_free : Free (at u n)
  split_free = rw split_does.middle (record { grows = refl; parentless = refl; childless = refl; siblingless = refl; unlinked = refl })

  split_kinds : (j : ℕ) → j ∈ ws → Kind u j
  split_kinds j (inl e) = rw e (kind_above (w.core.kind y outer_y) (same_or_not (next t n) none))
  split_kinds j (inr (inl e)) = rw e (free_node split_free)
  split_kinds j (inr (inr (inl e))) = rw e (kind_lower (same_or_not (at t c).first_child none))
  split_kinds j (inr (inr (inr z))) = absurd z

  -- ---- their children

  other_child : (j : ℕ) → OuterChild t y j → j ≢ n → ¬ (j ∈ ws)
  other_child j k d (inl e) = not_below_self t w.full w.core y (below_child t y y (rw e at k.0, rw e at k.1))
  other_child j k d (inr (inl e)) = d e
  other_child j k d (inr (inr (inl e))) = y≢n (sym (rw e at k.1) ∙ b.grandchild.1)
  other_child j k d (inr (inr (inr z))) = z

  children_above : (cs : List ℕ) → Chain (next t) (at t y).first_child cs → ((j : ℕ) → (j ∈ cs → OuterChild t y j) × (OuterChild t y j → j ∈ cs)) → Children u y
  children_above [] k h = absurd (some_n (sym b.first ∙ k))
  children_above (x ∷ xs) k h =
      record {
        list = xs;
        chain = rw split_does.above (chain_frame (next t) (next u) (next t n) xs (λ j m. rw (next, split_does.other j (off j m))) (rw is_n at k.2));
        exact = λ j. (λ m. still_child y j (off j m) ((h j).0 (inr m)), from j);
      }
    where
      is_n : x ≡ n
      is_n = sym k.0 ∙ b.first

      off : (j : ℕ) → j ∈ xs → ¬ (j ∈ ws)
      off j m = other_child j ((h j).0 (inr m)) (λ e. (chain_nodup (next t) (at t y).first_child (x ∷ xs) k).0 (rw (← e ∙ sym is_n) m))

      from : (j : ℕ) → OuterChild u y j → j ∈ xs
      from j p = go (in_or_not j ws)
        where
          go : (j ∈ ws) ⊎ ¬ (j ∈ ws) → j ∈ xs
          go (inl m) = let r = touched_child y j some_y m p in absurd (not_below_self t w.full w.core y (below_child t y y (outer_y, r.1)))
          go (inr d) = elim ((h j).1 (untouched_child y j d p)) [ inl e ↦ absurd (d (inr (inl (e ∙ is_n)))) | inr m ↦ m ]

  none_below_middle : (j : ℕ) → ¬ OuterChild u n j
  none_below_middle j p = go (in_or_not j ws)
    where
      go : (j ∈ ws) ⊎ ¬ (j ∈ ws) → ⊥
      go (inl m) = not_below_n (touched_child n j some_n m p).1
      go (inr d) = let k = untouched_child n j d p in child_of_touched j k.0 d k.1

  lower_child : (j : ℕ) → OuterChild t c j → ¬ (j ∈ ws)
  lower_child j k (inl e) = not_below_c (rw e at k.1)
  lower_child j k (inr (inl e)) = y≢c (sym b.child.1 ∙ rw e at k.1)
  lower_child j k (inr (inr (inl e))) = n≢c (sym b.grandchild.1 ∙ rw e at k.1)
  lower_child j k (inr (inr (inr z))) = z

  children_lower : Children u c
  children_lower =
      let k = w.core.children c b.grandchild.0 in
      record {
        list = k.list;
        chain = rw split_does.lower (chain_frame (next t) (next u) (at t c).first_child k.list (λ j m. rw (next, split_does.other j (lower_child j ((k.exact j).0 m)))) k.chain);
        exact = λ j. (λ m. let h = (k.exact j).0 m in still_child c j (lower_child j h) h, λ p. (k.exact j).1 (from j p));
      }
    where
      from : (j : ℕ) → OuterChild u c j → OuterChild t c j
      from j p = elim (in_or_not j ws) [ inl m ↦ absurd (not_below_c (touched_child c j some_c m p).1) | inr d ↦ untouched_child c j d p ]

  split_lists : (j : ℕ) → j ∈ ws → Children u j
  split_lists j (inl e) = let k = w.core.children y outer_y in rw e (children_above k.list k.chain k.exact)
  split_lists j (inr (inl e)) = rw e (no_children u n (rw split_does.middle) none_below_middle)
  split_lists j (inr (inr (inl e))) = rw e children_lower
  split_lists j (inr (inr (inr z))) = absurd z

  split_ways : (j : ℕ) → T (outer u j) → Upward u j
  split_ways j o = let k = w.core.upward j (split_was j o) in pruned_chain t u split_pruned j k.list k.chain

  pub split_whole : Whole (split t y n c)
  split_whole =
      record {
        full = split_full;
        core = core-frame t u ws w.core split_seen (λ j m _. split_kinds j m) (λ j m _. split_lists j m) split_ways;
        rest = split_kept.rest;
      }
