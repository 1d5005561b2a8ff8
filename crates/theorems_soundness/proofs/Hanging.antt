-- Hanging a pair below a Grow node keeps a sound table sound: below a free node, which becomes a root, and below a + node.
use mathlib.Core.Path.{◌≡◌, refl, sym, ◌∙◌}
use mathlib.Core.Logic.{◌≢◌, ◌⊎◌, inl, inr}
use mathlib.Core.List.{List, [], ◌∷◌}
use Prim.Native.Nat.{ℕ, ◌<◌}
use lib.Dec.{T}
use Rattle.slot.specs.declared.state.State.TheVariants as S
use Rattle.slot.specs.Number.{none}
use Rattle.slot.specs.Slot.{Link}
use Rattle.table.specs.Table.{Table, at, put, Full}
use Rattle.table.proofs.TableLaws.{at-put-same, at-put_other, put_full}
use Rattle.table.specs.Nodes.{outer}
use Rattle.rules.specs.Act.{say, change, ◌then◌, look, alter}
use Rattle.rules.specs.Slots.{with_first_child, up, next}
use Rattle.rules.specs.Conflict.{leaf_below, minus_below, grow_tree, hang_pair}
use Rattle.theorems_soundness.specs.Chain.{◌∈◌, Chain}
use Rattle.theorems_soundness.specs.FactsOfNodes.{Free, Paired, Kind, free_node, virtual_node, paired_node, root_node, minus_node, plus_node, OuterChild, Children, Upward}
use Rattle.theorems_soundness.proofs.Reflect.{same_or_not, eqb_no}
use Rattle.theorems_soundness.proofs.ReflectSlots.{stay_grow, grow_shrink, outer-present}
use Rattle.theorems_soundness.proofs.Chains.{chain_frame, chain-all}
use Rattle.theorems_soundness.proofs.Past.{outer_below}
use Rattle.theorems_soundness.proofs.KindLaws.{paired_back}
use Rattle.theorems_soundness.proofs.OuterLists.{parent_outer}
use Rattle.theorems_soundness.proofs.TouchLaws.{peer_touch_paired}
use Rattle.theorems_soundness.specs.RuleFacts.{Single, Whole, RightLink}
use Rattle.theorems_soundness.proofs.Frames.{in_or_not, some_outer, no_children, one_child, next-upward, SeenAlike, core-frame}
use Rattle.theorems_soundness.proofs.Singles.{lone_paired, lone_single, no_parent_of, no_first_child}
use Rattle.theorems_soundness.proofs.Renewing.{of_none, Fits, Kept, SameCounts, kept-each, alter_full}

pub hang-table :
    (plus : ℕ) (l : Link) (matched peer : ℕ) (t : Table)
    → (hang_pair plus l matched peer t).table ≡ alter peer (leaf_below matched) (alter matched (minus_below plus peer (at t plus).first_child l) (alter plus (with_first_child matched) t))
unfolding hang_pair ◌then◌ say change look
hang-table plus l matched peer t = refl

-- below a free node the two rules do the same
pub grow-as-hang :
    (root : ℕ) (l : Link) (matched peer : ℕ) (t : Table)
    → (at t root).state ≡ S.Grow
    → (at t root).first_child ≡ none
    → (grow_tree root l matched peer t).table ≡ (hang_pair root l matched peer t).table
unfolding grow_tree hang_pair ◌then◌ say change look alter
grow-as-hang root l matched peer t g c = rw (c, g)

-- what stands in the slots afterwards
record HungSlots (t : Table) (plus : ℕ) (l : Link) (matched peer : ℕ) (u : Table) : Type 0 where
  here : at u plus ≡ with_first_child matched (at t plus)
  minus : at u matched ≡ minus_below plus peer (at t plus).first_child l (at t matched)
  leaf : at u peer ≡ leaf_below matched (at t peer)
  other : (n : ℕ) → ¬ (n ∈ (plus ∷ matched ∷ peer ∷ [])) → at u n ≡ at t n

hang-slots :
    (t : Table) (plus : ℕ) (l : Link) (matched peer : ℕ)
    → Full t
    → plus < 256
    → matched < 256
    → peer < 256
    → plus ≢ matched
    → plus ≢ peer
    → matched ≢ plus
    → matched ≢ peer
    → peer ≢ plus
    → peer ≢ matched
    → HungSlots t plus l matched peer (hang_pair plus l matched peer t).table
unfolding alter
hang-slots t plus l matched peer full lp lm lq a b c d e f =
    record {
      here = simp (hang-table, at-put_other, at-put-same);
      minus = simp (hang-table, at-put_other, at-put-same, put_full);
      leaf = simp (hang-table, at-put_other, at-put-same, put_full);
      other = λ n m.
          let x : n ≢ plus = λ z. m (inl z) in
          let y : n ≢ matched = λ z. m (inr (inl z)) in
          let z : n ≢ peer = λ z. m (inr (inr (inl z))) in
          simp (hang-table, at-put_other);
    }

module _ (t : Table) (plus : ℕ) (l : Link) (matched peer : ℕ) (w : Whole t) (grows : (at t plus).state ≡ S.Grow) (pair : Paired t matched peer) (right : RightLink t matched l plus) where
  abbrev u : Table
  u = (hang_pair plus l matched peer t).table

  abbrev ws : List ℕ
  ws = plus ∷ matched ∷ peer ∷ []

  outer_plus : T (outer t plus)
  outer_plus = rw grows tt

  outer_matched : T (outer t matched)
  outer_matched = rw pair.here.stays tt

  outer_peer : T (outer t peer)
  outer_peer = rw pair.there.stays tt

  some_plus : plus ≢ none
  some_plus = some_outer t w.full plus outer_plus

  some_matched : matched ≢ none
  some_matched = some_outer t w.full matched outer_matched

  some_peer : peer ≢ none
  some_peer = some_outer t w.full peer outer_peer

  plus≢matched : plus ≢ matched
  plus≢matched e = stay_grow pair.here.stays (rw e at grows)

  plus≢peer : plus ≢ peer
  plus≢peer e = stay_grow pair.there.stays (rw e at grows)

  slots : HungSlots t plus l matched peer u
  slots =
      hang-slots t plus l matched peer w.full (outer_below t w.full plus outer_plus) (outer_below t w.full matched outer_matched) (outer_below t w.full peer outer_peer)
      plus≢matched plus≢peer (λ e. plus≢matched (sym e)) (λ e. pair.another (sym e)) (λ e. plus≢peer (sym e)) pair.another

  -- ---- the rest

  hang_full : Full u
  hang_full = rw hang-table (alter_full peer _ _ (alter_full matched _ _ (alter_full plus _ t w.full)))

  hang_counts : SameCounts t u
  unfolding hang_pair ◌then◌ say change look alter put
  hang_counts = record { begin = refl; defects = refl; blossoms = refl }

  fits_plus : Fits t plus (with_first_child matched (at t plus))
  fits_plus =
      let p = w.rest.pointers plus in
      let q = w.rest.touches plus in
      record {
        outer = outer_plus;
        ring = refl;
        pointers = record { parent = p.parent; child = λ _. outer-present (at t matched).state outer_matched; sibling = p.sibling; ring = p.ring };
        touch = q.touch;
        peer_touch = q.peer_touch;
      }

  fits_matched : Fits t matched (minus_below plus peer (at t plus).first_child l (at t matched))
  fits_matched =
      record {
        outer = tt;
        ring = refl;
        pointers =
            record {
              parent = λ _. outer-present (at t plus).state outer_plus;
              child = λ _. outer-present (at t peer).state outer_peer;
              sibling = (w.rest.pointers plus).child;
              ring = (w.rest.pointers matched).ring;
            };
        touch = λ _. right.touch;
        peer_touch = λ _. rw (eqb_no plus none some_plus) right.peer_touch;
      }

  fits_peer : Fits t peer (leaf_below matched (at t peer))
  fits_peer =
      record {
        outer = tt;
        ring = refl;
        pointers =
            record {
              parent = λ _. outer-present (at t matched).state outer_matched;
              child = (w.rest.pointers peer).child;
              sibling = of_none;
              ring = (w.rest.pointers peer).ring;
            };
        touch = (w.rest.touches peer).touch;
        peer_touch = λ _. rw (eqb_no matched none some_matched) (peer_touch_paired t w.full w.rest peer matched (paired_back t matched peer pair));
      }

  hang_each : (n : ℕ) → (at u n ≡ at t n) ⊎ (T (outer t n) × Fits t n (at u n))
  hang_each n = go (in_or_not n ws)
    where
      go : (n ∈ ws) ⊎ ¬ (n ∈ ws) → (at u n ≡ at t n) ⊎ (T (outer t n) × Fits t n (at u n))
      go (inl (inl e)) = inr (rw e (outer_plus, rw slots.here fits_plus))
      go (inl (inr (inl e))) = inr (rw e (outer_matched, rw slots.minus fits_matched))
      go (inl (inr (inr (inl e)))) = inr (rw e (outer_peer, rw slots.leaf fits_peer))
      go (inl (inr (inr (inr z)))) = absurd z
      go (inr d) = inl (slots.other n d)

  pub hang_kept : Kept t u
  hang_kept = kept-each t u hang_full w.rest hang_counts hang_each

  -- ---- how outer nodes hang together

  -- the two that are hung
  data Hung (n : ℕ) : Type 0 where
    is_matched_lem : n ≡ matched → Hung n
    is_peer : n ≡ peer → Hung n

  hung_or_not : (n : ℕ) → Hung n ⊎ ((n ≢ matched) × (n ≢ peer))
  hung_or_not n =
      elim (same_or_not n matched) [
        | inl e ↦ inl (is_matched_lem e)
        | inr d ↦ elim (same_or_not n peer) [ inl e ↦ inl (is_peer e) | inr f ↦ inr (d, f) ]
      ]

  hung_single : (n : ℕ) → Hung n → Single t n
  hung_single n (is_matched_lem e) = rw e (lone_single (lone_paired peer pair))
  hung_single n (is_peer e) = rw e (lone_single (lone_paired matched (paired_back t matched peer pair)))

  -- in t they are no one's parent or first child
  not_above : (n : ℕ) → T (outer t n) → (up t n ≢ matched) × (up t n ≢ peer)
  not_above n o = (
    no_parent_of t w.full w.core matched (hung_single matched (is_matched_lem refl)) n o,
    no_parent_of t w.full w.core peer (hung_single peer (is_peer refl)) n o,
  )

  not_first : (n : ℕ) → T (outer t n) → ((at t n).first_child ≢ matched) × ((at t n).first_child ≢ peer)
  not_first n o = (
    no_first_child t w.full w.core matched (hung_single matched (is_matched_lem refl)) n o,
    no_first_child t w.full w.core peer (hung_single peer (is_peer refl)) n o,
  )

  -- all others have state, parent and sibling as before
  record Alike (n : ℕ) : Type 0 where
    state : (at u n).state ≡ (at t n).state
    parent : up u n ≡ up t n
    sibling : next u n ≡ next t n

  alike : (n : ℕ) → (n ≢ matched) × (n ≢ peer) → Alike n
  alike n d = go (in_or_not n ws)
    where
      go : (n ∈ ws) ⊎ ¬ (n ∈ ws) → Alike n
      go (inl (inl e)) = rw e (record { state = rw slots.here; parent = rw (slots.here, up); sibling = rw (slots.here, next) })
      go (inl (inr (inl e))) = absurd (d.0 e)
      go (inl (inr (inr (inl e)))) = absurd (d.1 e)
      go (inl (inr (inr (inr z)))) = absurd z
      go (inr m) = let e = slots.other n m in record { state = rw e; parent = rw (e, up); sibling = rw (e, next) }

  child_still : (n c : ℕ) → (c ≢ matched) × (c ≢ peer) → OuterChild t n c → OuterChild u n c
  child_still n c d k = let a = alike c d in (rw a.state k.0, a.parent ∙ k.1)

  child_was : (n c : ℕ) → (c ≢ matched) × (c ≢ peer) → OuterChild u n c → OuterChild t n c
  child_was n c d k = let a = alike c d in (rw a.state at k.0, sym a.parent ∙ k.1)

  -- a child in t is none of the two
  not_hung : (n c : ℕ) → T (outer t n) → OuterChild t n c → (c ≢ matched) × (c ≢ peer)
  not_hung n c o k =
      let d = some_outer t w.full n o in
      (λ e. d (sym k.1 ∙ (hung_single c (is_matched_lem e)).parentless), λ e. d (sym k.1 ∙ (hung_single c (is_peer e)).parentless))

  peer_off : (n : ℕ) → ¬ (n ∈ ws) → Paired t n (next t n) → ¬ (next t n ∈ ws)
  peer_off n d p (inl e) = stay_grow p.there.stays (rw e grows)
  peer_off n d p (inr (inl e)) = d (inr (inr (inl (sym p.points_back ∙ rw e pair.sibling))))
  peer_off n d p (inr (inr (inl e))) = d (inr (inl (sym p.points_back ∙ rw e pair.points_back)))
  peer_off n d p (inr (inr (inr z))) = z

  -- who is a child of an untouched node afterwards was so before
  hung_child_was : (n c : ℕ) → ¬ (n ∈ ws) → OuterChild u n c → Hung c → ⊥
  hung_child_was n c d k (is_matched_lem e) = d (inl (sym (rw (e, slots.minus, up) at k.1)))
  hung_child_was n c d k (is_peer e) = d (inr (inl (sym (rw (e, slots.leaf, up) at k.1))))

  hang_seen : SeenAlike t u ws
  hang_seen =
      record {
        same = slots.other;
        parent_state = λ n o d. (alike (up t n) (not_above n o)).state;
        child_sibling = λ n o d. (alike (at t n).first_child (not_first n o)).sibling;
        peer = λ n o d p. slots.other (next t n) (peer_off n d p);
        child_stays = λ n c o d m k. let f = not_hung n c o k in (child_still n c f k, (alike c f).sibling);
        no_new_child = λ n c o d m k. elim (hung_or_not c) [ inl h ↦ absurd (hung_child_was n c d k h) | inr f ↦ child_was n c f k ];
      }

  kind_plus : Kind t plus → Kind u plus
  kind_plus (free_node f) = root_node (rw slots.here (record { grows = f.grows; has_child = some_matched; parentless = f.parentless; siblingless = f.siblingless; unlinked = f.unlinked }))
  kind_plus (virtual_node v) = absurd (stay_grow v.stays grows)
  kind_plus (paired_node p) = absurd (stay_grow p.here.stays grows)
  kind_plus (root_node r) = root_node (rw slots.here (record { grows = r.grows; has_child = some_matched; parentless = r.parentless; siblingless = r.siblingless; unlinked = r.unlinked }))
  kind_plus (minus_node m) = absurd (grow_shrink grows m.shrinks)
  kind_plus (plus_node p) =
      plus_node (rw slots.here (record { grows = p.grows; linked = p.linked; siblingless = p.siblingless; parent_shrinks = (alike (up t plus) (not_above plus outer_plus)).state ∙ p.parent_shrinks }))

  hang_kinds : (n : ℕ) → n ∈ ws → Kind u n
  hang_kinds n (inl e) = rw e (kind_plus (w.core.kind plus outer_plus))
  hang_kinds n (inr (inl e)) =
      rw e (minus_node (rw slots.minus (record { shrinks = refl; linked = right.linked; parent_grows = rw slots.here grows; has_child = some_peer; only_child = rw (slots.leaf, next) })))
  hang_kinds n (inr (inr (inl e))) =
      rw e (plus_node (rw slots.leaf (record { grows = refl; linked = pair.there.linked; siblingless = refl; parent_shrinks = rw slots.minus })))
  hang_kinds n (inr (inr (inr z))) = absurd z

  -- "matched goes first in the + node's child list"
  children_plus : Children u plus
  children_plus =
      record {
        list = matched ∷ k.list;
        chain = (rw slots.here, rw slots.here some_matched, rw (slots.minus, next) tail);
        exact = λ j. (to j, from j);
      }
    where
      k : Children t plus
      k = w.core.children plus outer_plus

      tail : Chain (next u) (at t plus).first_child k.list
      tail = chain_frame (next t) (next u) (at t plus).first_child k.list (λ j m. sym (alike j (not_hung plus j outer_plus ((k.exact j).0 m))).sibling) k.chain

      to : (j : ℕ) → j ∈ (matched ∷ k.list) → OuterChild u plus j
      to j (inl e) = rw (e, slots.minus, up) (tt, refl)
      to j (inr m) = let c = (k.exact j).0 m in child_still plus j (not_hung plus j outer_plus c) c

      from : (j : ℕ) → OuterChild u plus j → j ∈ (matched ∷ k.list)
      from j c = go (hung_or_not j)
        where
          go : Hung j ⊎ ((j ≢ matched) × (j ≢ peer)) → j ∈ (matched ∷ k.list)
          go (inl (is_matched_lem e)) = inl e
          go (inl (is_peer e)) = absurd (plus≢matched (sym (rw (e, slots.leaf, up) at c.1)))
          go (inr d) = inr ((k.exact j).1 (child_was plus j d c))

  only_peer_below : (j : ℕ) → OuterChild u matched j → j ≡ peer
  only_peer_below j c = go (hung_or_not j)
    where
      go : Hung j ⊎ ((j ≢ matched) × (j ≢ peer)) → j ≡ peer
      go (inl (is_matched_lem e)) = absurd (plus≢matched (rw (e, slots.minus, up) at c.1))
      go (inl (is_peer e)) = e
      go (inr d) = let b = child_was matched j d c in absurd ((not_above j b.0).0 b.1)

  none_below_peer : (j : ℕ) → ¬ OuterChild u peer j
  none_below_peer j c = go (hung_or_not j)
    where
      go : Hung j ⊎ ((j ≢ matched) × (j ≢ peer)) → ⊥
      go (inl (is_matched_lem e)) = plus≢peer (rw (e, slots.minus, up) at c.1)
      go (inl (is_peer e)) = pair.another (sym (rw (e, slots.leaf, up) at c.1))
      go (inr d) = let b = child_was peer j d c in (not_above j b.0).1 b.1

  hang_lists : (n : ℕ) → n ∈ ws → Children u n
  hang_lists n (inl e) = rw e children_plus
  hang_lists n (inr (inl e)) =
      rw e (one_child u matched peer (rw slots.minus) some_peer (rw (slots.leaf, next)) (rw (slots.leaf, up) (tt, refl)) only_peer_below)
  hang_lists n (inr (inr (inl e))) = rw e (no_children u peer (rw slots.leaf pair.there.childless) none_below_peer)
  hang_lists n (inr (inr (inr z))) = absurd z

  -- ---- the ways up

  way_still : (n : ℕ) → T (outer t n) → (n ≢ matched) × (n ≢ peer) → Upward u n
  way_still n o d =
      let c = w.core.upward n o in
      record { list = c.list; chain = chain_frame (up t) (up u) n c.list (λ j m. sym (alike j (off j m).1).parent) c.chain }
    where
      off : (j : ℕ) → j ∈ (w.core.upward n o).list → T (outer t j) × ((j ≢ matched) × (j ≢ peer))
      off =
          chain-all (up t) (λ j. T (outer t j) × ((j ≢ matched) × (j ≢ peer))) n (w.core.upward n o).list
          (λ j p e. (parent_outer t w.full w.core.kind j p.0 e, not_above j p.0)) (λ _. (o, d)) (w.core.upward n o).chain

  way_matched : Upward u matched
  way_matched = next-upward u matched plus some_matched (rw (slots.minus, up)) (way_still plus outer_plus (plus≢matched, plus≢peer))

  hang_ways : (n : ℕ) → T (outer u n) → Upward u n
  hang_ways n o = go (hung_or_not n)
    where
      go : Hung n ⊎ ((n ≢ matched) × (n ≢ peer)) → Upward u n
      go (inl (is_matched_lem e)) = rw e way_matched
      go (inl (is_peer e)) = rw e (next-upward u peer matched some_peer (rw (slots.leaf, up)) way_matched)
      go (inr d) = way_still n (rw (alike n d).state at o) d

  pub hang_whole : Whole (hang_pair plus l matched peer t).table
  hang_whole =
      record {
        full = hang_full;
        core = core-frame t u ws w.core hang_seen (λ n m _. hang_kinds n m) (λ n m _. hang_lists n m) hang_ways;
        rest = hang_kept.rest;
      }

-- "free is root, matched its child, peer the grandchild with its old link"
pub grow-whole :
    (t : Table) (root : ℕ) (l : Link) (matched peer : ℕ)
    → Whole t
    → Free (at t root)
    → Paired t matched peer
    → RightLink t matched l root
    → Whole (grow_tree root l matched peer t).table
grow-whole t root l matched peer w free pair right =
    rw (grow-as-hang root l matched peer t free.grows free.childless) (hang_whole t root l matched peer w free.grows pair right)
