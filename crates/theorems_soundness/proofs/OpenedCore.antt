-- Where a blossom is taken apart as `Opened` says, the outer nodes hang together as S3, S4, S5 and S7 ask.
use mathlib.Core.Path.{◌≡◌, refl, ap, sym, subst, ◌∙◌}
use mathlib.Core.Logic.{◌≢◌, ◌⊎◌, inl, inr}
use mathlib.Core.List.{List, [], ◌∷◌}
use Prim.Native.Nat.{ℕ}
use lib.Dec.{T}
use Rattle.slot.specs.Number.{none}
use Rattle.table.specs.Table.{Table, at}
use Rattle.table.specs.Nodes.{outer, inner}
use Rattle.rules.specs.Slots.{up, next}
use Rattle.rules.specs.Trees.{upward}
use Rattle.theorems_soundness.specs.Chain.{◌∈◌, Chain}
use Rattle.theorems_soundness.specs.FactsOfNodes.{Paired, Kind, free_node, virtual_node, paired_node, root_node, minus_node, plus_node, OuterChild, Children, Upward}
use Rattle.theorems_soundness.specs.Facts.{Core}
use Rattle.theorems_soundness.proofs.Reflect.{same_or_not}
use Rattle.theorems_soundness.proofs.ReflectSlots.{grow_shrink, stay_shrink, stay_grow}
use Rattle.theorems_soundness.proofs.Chains.{chain_frame, chain_nodup}
use Rattle.theorems_soundness.proofs.KindLaws.{paired_kind}
use Rattle.theorems_soundness.proofs.ChildLaws.{above_outer, first_child_lem, child_of_shrink}
use Rattle.theorems_soundness.proofs.WaysUp.{upward_all_outer}
use Rattle.theorems_soundness.proofs.Frames.{some_outer, no_children, one_child, top_upward, next-upward}
use Rattle.theorems_soundness.proofs.ReadAs.{read_as, all_read_as, slot_read_as, read_here, read_other, in_read→, →in_read, read-chain}
use Rattle.theorems_soundness.proofs.Opened.{Opened}
use Rattle.theorems_soundness.proofs.OpenedPlaces.{Place, the_blossom, the_child, other_outer, is_attached, is_matched_lem, no_part, place_of, blossom_outer, blossom_some, attached_inner, matched_inner, top_in, bottom_in, outer_or_inner, inner_some, top_some, still_none, still_some, child_hangs, child_plus, child_not_blossom, parent_outer_node, parent_way, way_not_blossom, way_not_child, outer_state, outer_child, outer_sibling, still_outer, outer_parent, child_parent, not_below, two_paired}
use Rattle.theorems_soundness.proofs.OpenedLimbs.{limbs, bottom_state, bottom_child, top_parent, top_sibling, attached_outer, attached_ways}

-- nothing on a chain is next after itself
pub chain_no_self : (f : ℕ → ℕ) (a : ℕ) (cs : List ℕ) → Chain f a cs → (x : ℕ) → x ∈ cs → f x ≢ x
chain_no_self f a [] c x m e = m
chain_no_self f a (y ∷ cs) c x (inr m) e = chain_no_self f (f y) cs c.2 x m e
chain_no_self f a (y ∷ []) c x (inl q) e = c.1 (c.0 ∙ sym q ∙ sym e ∙ ap f q ∙ c.2)
chain_no_self f a (y ∷ (z ∷ cs)) c x (inl q) e = (chain_nodup f a (y ∷ (z ∷ cs)) c).0 (inl (sym q ∙ sym e ∙ ap f q ∙ c.2.0))

-- so no node is its own sibling
pub no_own_sibling : (t : Table) → Core t → (n : ℕ) → T (outer t n) → T (outer t (up t n)) → next t n ≢ n
no_own_sibling t core n o above =
    let k = core.children (up t n) above in
    chain_no_self (next t) (at t (up t n)).first_child k.list k.chain n ((k.exact n).1 (o, refl))

module _ {t u : Table} {b : ℕ} (d : Opened t u b) where
  core : Core t
  core = d.whole.core

  -- ---- S3 and S4

  kind_other : (i : ℕ) → T (outer t i) → i ≢ b → i ≢ (at t b).first_child → Kind u i
  kind_other i o n m = go (core.kind i o)
    where
      e : at u i ≡ slot_read_as b d.top (at t i)
      e = d.others i o n m

      pair : Paired t i (next t i) → Kind u i
      pair p =
          let j = next t i in
          let oj : T (outer t j) = rw p.there.stays tt in
          let nb : j ≢ b = λ z. stay_shrink (rw z at p.there.stays) d.minus.shrinks in
          let nk : j ≢ (at t b).first_child = λ z. stay_grow (rw z at p.there.stays) (child_plus d).grows in
          let f = d.others j oj nb nk in
          paired_kind u i j (record {
            here = rw e (record { stays = p.here.stays; parentless = p.here.parentless; childless = still_none d (at t i).first_child p.here.childless; linked = p.here.linked });
            sibling = outer_sibling d i o n ∙ read_other b d.top j nb;
            another = p.another;
            there = rw f (record { stays = p.there.stays; parentless = p.there.parentless; childless = still_none d (at t j).first_child p.there.childless; linked = p.there.linked });
            points_back = outer_sibling d j oj nb ∙ ap (read_as b d.top) p.points_back ∙ read_other b d.top i n;
            mirrored = rw (f, e) p.mirrored;
          })

      go : Kind t i → Kind u i
      go (free_node f) = free_node (rw e (record { grows = f.grows; parentless = f.parentless; childless = still_none d (at t i).first_child f.childless; siblingless = still_none d (next t i) f.siblingless; unlinked = f.unlinked }))
      go (virtual_node v) =
          virtual_node (rw e (record { stays = v.stays; parentless = v.parentless; childless = still_none d (at t i).first_child v.childless; siblingless = still_none d (next t i) v.siblingless; has_touch = v.has_touch; has_through = v.has_through; no_peer_touch = v.no_peer_touch; has_peer_through = v.has_peer_through }))
      go (paired_node p) = pair p
      go (root_node r) = root_node (rw e (record { grows = r.grows; has_child = still_some d (at t i).first_child r.has_child; parentless = r.parentless; siblingless = still_none d (next t i) r.siblingless; unlinked = r.unlinked }))
      go (minus_node q) =
          let c = (at t i).first_child in
          let k = first_child_lem t d.whole.full core i o q.has_child in
          let plus = child_of_shrink t d.whole.full core i c o q.shrinks k in
          let nb : c ≢ b = λ z. grow_shrink (rw z at plus.grows) d.minus.shrinks in
          let pb : up t i ≢ b = λ z. grow_shrink (rw z at q.parent_grows) d.minus.shrinks in
          minus_node (rw e (record {
            shrinks = q.shrinks;
            linked = q.linked;
            parent_grows = outer_state d (up t i) (rw q.parent_grows tt) pb ∙ q.parent_grows;
            has_child = still_some d c q.has_child;
            only_child = ap (next u) (read_other b d.top c nb) ∙ outer_sibling d c k.0 nb ∙ still_none d (next t c) q.only_child;
          }))
      go (plus_node p) =
          plus_node (rw e (record { grows = p.grows; linked = p.linked; siblingless = still_none d (next t i) p.siblingless; parent_shrinks = outer_state d (up t i) (rw p.parent_shrinks tt) (not_below d i o m) ∙ p.parent_shrinks }))

  kind_child : Kind u (at t b).first_child
  kind_child =
      let k = child_plus d in
      plus_node (rw d.child (record { grows = k.grows; linked = k.linked; siblingless = still_none d (next t (at t b).first_child) k.siblingless; parent_shrinks = bottom_state d }))

  -- ---- S5

  pub blossom_sibling : next t b ≢ b
  blossom_sibling = no_own_sibling t core b (blossom_outer d) (parent_outer_node d)

  sibling_read : (x : ℕ) → T (outer t x) → next u (read_as b d.top x) ≡ read_as b d.top (next t x)
  sibling_read x o =
      elim (same_or_not x b) [
        | inl e ↦ rw e (ap (next u) (read_here b d.top) ∙ top_sibling d ∙ sym (read_other b d.top (next t b) blossom_sibling))
        | inr n ↦ ap (next u) (read_other b d.top x n) ∙ outer_sibling d x o n
      ]

  -- an inner node is nobody's parent
  no_outer_child : (j x : ℕ) → T (outer t j) → up t j ≡ x → ¬ T (inner t x)
  no_outer_child j x o e i = outer_or_inner d x (rw e at (above_outer t d.whole.full core j o (λ z. inner_some d x i (sym e ∙ z)))) i

  -- "exactly the outer nodes naming it as parent": the blossom's place is P's
  children-outer : (i : ℕ) → T (outer t i) → i ≢ b → Children u i
  children-outer i o n =
      record {
        list = all_read_as b d.top k.list;
        chain = rw (outer_child d i o n) (read-chain b d.top (next t) (next u) (top_some d) (blossom_some d) (at t i).first_child k.list (λ x m. sibling_read x ((k.exact x).0 m).0) k.chain);
        exact = λ j. (λ m. let r = in_read→ b d.top k.list j m in stays j r.0 ((k.exact r.0).0 r.1) r.2, λ h. was j h.1 h.0 (place_of d j));
      }
    where
      k : Children t i
      k = core.children i o

      stays : (j x : ℕ) → OuterChild t i x → j ≡ read_as b d.top x → OuterChild u i j
      stays j x h e =
          elim (same_or_not x b) [
            | inl z ↦ let f : j ≡ d.top = e ∙ ap (read_as b d.top) z ∙ read_here b d.top in rw f (attached_outer d d.top (top_in d), top_parent d ∙ rw z at h.1)
            | inr nb ↦
                let f : j ≡ x = e ∙ read_other b d.top x nb in
                rw f (still_outer d x h.0 nb, outer_parent d x h.0 nb (λ z. n (sym h.1 ∙ ap (up t) z ∙ (child_hangs d).1)) ∙ h.1)
          ]

      was : (j : ℕ) → up u j ≡ i → T (outer u j) → Place t b (d.top ∷ d.lower) d.matched j → j ∈ all_read_as b d.top k.list
      was j e q (the_blossom z) = absurd (rw (z, d.emptied) at q)
      was j e q (the_child z) = absurd (outer_or_inner d i o (rw (sym (child_parent d) ∙ sym (ap (up u) z) ∙ e) at (attached_inner d d.bottom (bottom_in d)).0))
      was j e q (other_outer oj nb nk) = subst (λ (y : ℕ). y ∈ all_read_as b d.top k.list) (read_other b d.top j nb) (→in_read b d.top k.list j ((k.exact j).1 (oj, sym (outer_parent d j oj nb nk) ∙ e)))
      was j e q (is_attached m) =
          elim (limbs d j m).place [
            | inl z ↦ subst (λ (y : ℕ). y ∈ all_read_as b d.top k.list) (read_here b d.top ∙ sym z) (→in_read b d.top k.list b ((k.exact b).1 (blossom_outer d, sym (top_parent d) ∙ sym (ap (up u) z) ∙ e)))
            | inr z ↦ absurd (outer_or_inner d i o (rw e at (attached_inner d (up u j) z.0).0))
          ]
      was j e q (is_matched_lem m) = absurd (some_outer t d.whole.full i o (sym e ∙ (two_paired d j m).here.parentless))
      was j e q (no_part h r) = absurd (h (rw (d.still j h r) at q))

  children_attached : (x : ℕ) → x ∈ (d.top ∷ d.lower) → Children u x
  children_attached x m =
      let l = limbs d x m in
      one_child u x (at u x).first_child refl l.has_child l.only_child l.child (λ j h. go j h.1 h.0 (place_of d j))
    where
      inner_x : T (inner t x)
      inner_x = (attached_inner d x m).0

      go : (j : ℕ) → up u j ≡ x → T (outer u j) → Place t b (d.top ∷ d.lower) d.matched j → j ≡ (at u x).first_child
      go j e q (the_blossom z) = absurd (rw (z, d.emptied) at q)
      go j e q (the_child z) = z ∙ sym (bottom_child d) ∙ ap (λ (y : ℕ). (at u y).first_child) (sym (child_parent d) ∙ sym (ap (up u) z) ∙ e)
      go j e q (other_outer oj nb nk) = absurd (no_outer_child j x oj (sym (outer_parent d j oj nb nk) ∙ e) inner_x)
      go j e q (is_attached i) =
          elim (limbs d j i).place [
            | inl z ↦ absurd (no_outer_child b x (blossom_outer d) (sym (top_parent d) ∙ sym (ap (up u) z) ∙ e) inner_x)
            | inr z ↦ sym (rw e at z.1)
          ]
      go j e q (is_matched_lem i) = absurd (inner_some d x inner_x (sym e ∙ (two_paired d j i).here.parentless))
      go j e q (no_part h r) = absurd (h (rw (d.still j h r) at q))

  children_matched : (x : ℕ) → x ∈ d.matched → Children u x
  children_matched x m = no_children u x (two_paired d x m).here.childless (λ j h. go j h.1 h.0 (place_of d j))
    where
      inner_x : T (inner t x)
      inner_x = (matched_inner d x m).0

      go : (j : ℕ) → up u j ≡ x → T (outer u j) → Place t b (d.top ∷ d.lower) d.matched j → ⊥
      go j e q (the_blossom z) = absurd (rw (z, d.emptied) at q)
      go j e q (the_child z) = d.apart x (subst (λ (i : ℕ). i ∈ (d.top ∷ d.lower)) (sym (child_parent d) ∙ sym (ap (up u) z) ∙ e) (bottom_in d)) m
      go j e q (other_outer oj nb nk) = no_outer_child j x oj (sym (outer_parent d j oj nb nk) ∙ e) inner_x
      go j e q (is_attached i) =
          elim (limbs d j i).place [
            | inl z ↦ no_outer_child b x (blossom_outer d) (sym (top_parent d) ∙ sym (ap (up u) z) ∙ e) inner_x
            | inr z ↦ d.apart x (subst (λ (i : ℕ). i ∈ (d.top ∷ d.lower)) e z.0) m
          ]
      go j e q (is_matched_lem i) = inner_some d x inner_x (sym e ∙ (two_paired d j i).here.parentless)
      go j e q (no_part h r) = h (rw (d.still j h r) at q)

  -- ---- S7

  way_parent : Upward u (up t b)
  way_parent =
      record {
        list = upward t (up t b);
        chain = chain_frame (up t) (up u) (up t b) (upward t (up t b)) (λ j m. sym (outer_parent d j (upward_all_outer t d.whole.full core (up t b) (parent_outer_node d) j m) (λ e. way_not_blossom d (rw e at m)) (way_not_child d j m))) (parent_way d);
      }

  way_child : Upward u (at t b).first_child
  way_child =
      next-upward u (at t b).first_child d.bottom (some_outer t d.whole.full (at t b).first_child (child_hangs d).0) (child_parent d) (attached_ways d way_parent d.bottom (bottom_in d))

  way_outer : (i : ℕ) (cs : List ℕ) → T (outer t i) → i ≢ b → Chain (up t) i cs → Upward u i
  way_outer i [] o n c = absurd (some_outer t d.whole.full i o c)
  way_outer i (y ∷ cs) o n c = go (same_or_not i (at t b).first_child) (same_or_not (up t i) none) (way_outer (up t i) cs)
    where
      some : i ≢ none
      some = some_outer t d.whole.full i o

      go : (i ≡ (at t b).first_child) ⊎ (i ≢ (at t b).first_child) → (up t i ≡ none) ⊎ (up t i ≢ none) → (T (outer t (up t i)) → up t i ≢ b → Chain (up t) (up t i) cs → Upward u (up t i)) → Upward u i
      go (inl e) q ih = rw e way_child
      go (inr m) (inl e) ih = top_upward u i some (outer_parent d i o n m ∙ e)
      go (inr m) (inr s) ih = next-upward u i (up t i) some (outer_parent d i o n m) (ih (above_outer t d.whole.full core i o s) (not_below d i o m) (rw c.0 c.2))

  -- ---- all of them

  kinds : (i : ℕ) → T (outer u i) → Place t b (d.top ∷ d.lower) d.matched i → Kind u i
  kinds i o (the_blossom e) = absurd (rw (e, d.emptied) at o)
  kinds i o (the_child e) = rw e kind_child
  kinds i o (other_outer q n m) = kind_other i q n m
  kinds i o (is_attached m) = (limbs d i m).kind
  kinds i o (is_matched_lem m) = paired_kind u i (d.twos i m).peer (two_paired d i m)
  kinds i o (no_part h r) = absurd (h (rw (d.still i h r) at o))

  lists : (i : ℕ) → T (outer u i) → Place t b (d.top ∷ d.lower) d.matched i → Children u i
  lists i o (the_blossom e) = absurd (rw (e, d.emptied) at o)
  lists i o (the_child e) = rw e (children-outer (at t b).first_child (child_hangs d).0 (child_not_blossom d))
  lists i o (other_outer q n m) = children-outer i q n
  lists i o (is_attached m) = children_attached i m
  lists i o (is_matched_lem m) = children_matched i m
  lists i o (no_part h r) = absurd (h (rw (d.still i h r) at o))

  ways : (i : ℕ) → T (outer u i) → Place t b (d.top ∷ d.lower) d.matched i → Upward u i
  ways i o (the_blossom e) = absurd (rw (e, d.emptied) at o)
  ways i o (the_child e) = rw e way_child
  ways i o (other_outer q n m) = way_outer i (core.upward i q).list q n (core.upward i q).chain
  ways i o (is_attached m) = attached_ways d way_parent i m
  ways i o (is_matched_lem m) = top_upward u i (some_outer u d.full i o) (two_paired d i m).here.parentless
  ways i o (no_part h r) = absurd (h (rw (d.still i h r) at o))

  pub opened_core : Core u
  opened_core = record { kind = λ i o. kinds i o (place_of d i); children = λ i o. lists i o (place_of d i); upward = λ i o. ways i o (place_of d i) }
