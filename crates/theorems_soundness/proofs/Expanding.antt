-- An accepted expansion keeps a sound table sound.
use mathlib.Core.Path.{◌≡◌, refl, ap, sym, ◌∙◌}
use mathlib.Core.Logic.{◌≢◌, ◌⊎◌, inl, inr}
use mathlib.Core.Bool.{Bool, true, false, not}
use mathlib.Core.List.{List, [], ◌∷◌}
use Prim.Native.Nat.{ℕ, ◌≤◌}
use native.Mathlib.Omega.{arith}
use lib.Dec.{T}
use Rattle.std.specs.Prelude.{Ok}
use Rattle.slot.specs.declared.state.State.TheVariants as S
use Rattle.slot.specs.Number.{none}
use Rattle.slot.specs.Slot.{empty_slot}
use Rattle.table.specs.Table.{Table, at, put, Full}
use Rattle.table.proofs.TableLaws.{at-put-same, at-put_other, put_full}
use Rattle.table.specs.Nodes.{outer, inner}
use Rattle.table.specs.Climb.{second_outer_blossom}
use Rattle.record.specs.declared.request.Expansion.{Expansion}
use Rattle.record.specs.declared.request.Request.TheVariants as Q
use Rattle.rules.specs.Act.{say, change, ◌then◌, look, read, alter}
use Rattle.rules.specs.Slots.{with_parent, with_sibling, up, next}
use Rattle.rules.specs.Blossom.{replace_child}
use Rattle.rules.specs.Expansion.{ring_opened, disposed, expand_blossom, expansion}
use Rattle.rules.specs.Calls.{verdict}
use Rattle.theorems_soundness.specs.Chain.{◌∈◌}
use Rattle.theorems_soundness.specs.FactsOfNodes.{Minus, Plus, OuterChild}
use Rattle.theorems_soundness.specs.FactsOfBlossoms.{InnerChild, DefectInside, Inside}
use Rattle.theorems_soundness.specs.RuleFacts.{Whole, RightLink}
use Rattle.theorems_soundness.proofs.AcceptedRequests.{acceptable_expansion}
use Rattle.theorems_soundness.proofs.ReflectSlots.{outer_not_inner, outer-present, grow_shrink}
use Rattle.theorems_soundness.proofs.Past.{outer_below, inner_below}
use Rattle.theorems_soundness.proofs.ChildLaws.{first_child_lem, child_of_shrink, shrink_is_minus}
use Rattle.theorems_soundness.proofs.InsideLaws.{inside_case, outer_blossom_is, second_outer-holds, second_outer_ring}
use Rattle.theorems_soundness.proofs.TouchLaws.{peer_touch_tree}
use Rattle.theorems_soundness.proofs.Frames.{some_outer}
use Rattle.theorems_soundness.proofs.Renewing.{SameCounts, put_counts}
use Rattle.theorems_soundness.proofs.Cleared.{counts_then}
use Rattle.theorems_soundness.proofs.Opened.{head_or, Attached, AttachedDown, Opened}
use Rattle.theorems_soundness.proofs.OpenedRest.{opened_whole}
use Rattle.theorems_soundness.proofs.RingCut.{CutRing, cut_ring}
use Rattle.theorems_soundness.proofs.RingTaken.{RingTaken, two_frame}
use Rattle.theorems_soundness.proofs.RingOpening.{ring_opened_taken}
use Rattle.theorems_soundness.proofs.PlaceInList.{PlaceGiven, place_given}

-- attached nodes that two tables hold alike
stretch_frame : (t v u : Table) (grow : Bool) (parent sibling below : ℕ) (xs : List ℕ) → ((j : ℕ) → j ∈ xs → at u j ≡ at v j) → AttachedDown t v grow parent sibling below xs → AttachedDown t u grow parent sibling below xs
stretch_frame t v u grow parent sibling below [] same a = tt
stretch_frame t v u grow parent sibling below (x ∷ xs) same a =
    (record { link = a.0.link; here = same x (inl refl) ∙ a.0.here; right = a.0.right }, stretch_frame t v u (not grow) x none below xs (λ j m. same j (inr m)) a.1)

-- ---- the ring taken apart, the places given, the slot emptied

module _ (t v : Table) (b p c : ℕ) (w : Whole t) (minus : Minus t (at t b)) (taken : RingTaken t v b p c (up t b) (at t b).first_child) (touch : DefectInside t c (at t (at t b).first_child).link.peer_touch) where
  abbrev k : ℕ
  k = (at t b).first_child

  outer_b : T (outer t b)
  outer_b = rw minus.shrinks tt

  child_k : OuterChild t b k
  child_k = first_child_lem t w.full w.core b outer_b minus.has_child

  k_not_b : k ≢ b
  k_not_b e = grow_shrink (rw e at (child_of_shrink t w.full w.core b k outer_b minus.shrinks child_k).grows) minus.shrinks

  ring_node : (j : ℕ) → InnerChild t b j → ¬ T (outer t j)
  ring_node j i o = outer_not_inner (at t j).state o i.0

  p_ring : InnerChild t b p
  p_ring = (taken.ring p).0 (inl (inl refl))

  given : PlaceGiven t v (replace_child (up t b) b p v) b p
  given = place_given t v w taken.full b p minus (λ j o. taken.elsewhere j (λ i. ring_node j i o)) (ring_node p p_ring) (inner_below t w.full p p_ring.0)

  abbrev placed : Table
  placed = replace_child (up t b) b p v

  abbrev hanging : Table
  hanging = put placed k (with_parent c (at placed k))

  abbrev opened : Table
  opened = put hanging b empty_slot

  full_hanging : Full hanging
  full_hanging = put_full placed k (with_parent c (at placed k)) given.full

  -- what was not outer is as it was before the places were given, but for P's sibling
  not_outer : (j : ℕ) → ¬ T (outer t j) → at opened j ≡ at placed j
  not_outer j n = at-put_other hanging b j empty_slot (λ e. n (rw e outer_b)) ∙ at-put_other placed k j (with_parent c (at placed k)) (λ e. n (rw e child_k.0))

  ring_still : (j : ℕ) → InnerChild t b j → j ≢ p → at opened j ≡ at v j
  ring_still j i d = not_outer j (ring_node j i) ∙ given.others j (ring_node j i) d

  in_lower : (j : ℕ) → j ∈ taken.lower → j ≢ p
  in_lower j m e = taken.once (rw e at m)

  top_attached : Attached t opened p false (up t b) (head_or k taken.lower) (next t b)
  top_attached =
      let a = taken.attached.0 in
      record { link = a.link; here = not_outer p (ring_node p p_ring) ∙ given.here ∙ ap (with_sibling (next t b)) a.here; right = a.right }

  p_not_matched : (j : ℕ) → j ∈ taken.matched → j ≢ p
  p_not_matched j m e = taken.apart p (inl refl) (rw e at m)

  counts_opened : SameCounts t opened
  counts_opened =
      counts_then t v opened taken.counts
      (counts_then v placed opened given.counts (counts_then placed hanging opened (put_counts placed k (with_parent c (at placed k))) (put_counts hanging b empty_slot)))

  is_opened : Opened t opened b
  is_opened =
      record {
        top = p;
        bottom = c;
        lower = taken.lower;
        matched = taken.matched;
        half = taken.half;
        whole = w;
        full = put_full hanging b empty_slot full_hanging;
        counts = counts_opened;
        minus = minus;
        ring = taken.ring;
        apart = taken.apart;
        ends = taken.ends;
        odd = taken.odd;
        child_touch = touch;
        emptied = at-put-same hanging b empty_slot full_hanging (outer_below t w.full b outer_b);
        child = at-put_other hanging b k empty_slot k_not_b ∙ at-put-same placed k (with_parent c (at placed k)) given.full (outer_below t w.full k child_k.0) ∙ ap (with_parent c) (given.outers k child_k.0);
        others = λ j o n m. at-put_other hanging b j empty_slot n ∙ at-put_other placed k j (with_parent c (at placed k)) m ∙ given.outers j o;
        still = λ j n i. not_outer j n ∙ given.others j n (λ e. i (rw e p_ring)) ∙ taken.elsewhere j i;
        attached = (top_attached, stretch_frame t v opened true p none k taken.lower (λ j m. ring_still j ((taken.ring j).0 (inl (inr m))) (in_lower j m)) taken.attached.1);
        twos = λ x m. two_frame t v opened taken.matched (λ j i. ring_still j ((taken.ring j).0 (inr i)) (p_not_matched j i)) x m (taken.twos x m);
      }

  disposed_whole : Whole (disposed b p c (up t b) (at t b).first_child v)
  unfolding disposed alter
  disposed_whole = opened_whole is_opened

-- ---- P and C

module _ (t : Table) (w : Whole t) (b : ℕ) (blossom : t.begin ≤ b) (shrinks : (at t b).state ≡ S.Shrink) where
  b_outer : T (outer t b)
  b_outer = rw shrinks tt

  pub is_minus_lem : Minus t (at t b)
  is_minus_lem = shrink_is_minus t w.full w.core b shrinks

  -- the ring node that holds a defect inside the blossom
  held : (n : ℕ) → DefectInside t b n → InnerChild t b (second_outer_blossom t n) × DefectInside t (second_outer_blossom t n) n
  held n d = go (inside_case t b n d.inside)
    where
      go : (n ≡ b) ⊎ (T (inner t n) × Inside t b (up t n)) → InnerChild t b (second_outer_blossom t n) × DefectInside t (second_outer_blossom t n) n
      go (inl e) = absurd (omega (arith, d.defect, e))
      go (inr r) =
          let f = outer_blossom_is t w.full w.rest b n b_outer d.inside in
          (rw f at (second_outer_ring t w.full w.rest n r.0), record { defect = d.defect; inside = second_outer-holds t w.full w.rest n r.0 })

  abbrev above : ℕ
  above = up t b

  abbrev below : ℕ
  below = (at t b).first_child

  -- "P is the ring node holding the blossom's touch"
  abbrev P : ℕ
  P = second_outer_blossom t (at t b).link.touch

  -- "C the one holding its child's peer touch"
  abbrev C : ℕ
  C = second_outer_blossom t (at t (at t b).first_child).link.peer_touch

  pub top_held : InnerChild t b P × DefectInside t P (at t b).link.touch
  top_held = held (at t b).link.touch ((w.rest.touches b).touch is_minus_lem.linked.has_touch)

  below_child : OuterChild t b below
  below_child = first_child_lem t w.full w.core b b_outer is_minus_lem.has_child

  below_plus : Plus t (at t below)
  below_plus = child_of_shrink t w.full w.core b below b_outer shrinks below_child

  pub bottom_held : InnerChild t b C × DefectInside t C (at t below).link.peer_touch
  bottom_held =
      held (at t below).link.peer_touch
      (rw below_child.1 at (peer_touch_tree t w.full w.rest below below_child.0 (λ e. some_outer t w.full b b_outer (sym below_child.1 ∙ e)) below_plus.linked.has_peer_touch))

  pub blossom_cut : CutRing t b P C
  blossom_cut = cut_ring t b P C (w.rest.rings b (record { blossom = blossom; there = outer-present (at t b).state b_outer })) top_held.0 bottom_held.0

  -- the blossom's link leads from P to the blossom's parent
  pub top_right : RightLink t P (at t b).link above
  top_right =
      record {
        linked = is_minus_lem.linked;
        touch = top_held.1;
        peer_touch = peer_touch_tree t w.full w.rest b b_outer (some_outer t w.full above (rw is_minus_lem.parent_grows tt)) is_minus_lem.linked.has_peer_touch;
      }

  expansion_table : (expansion b t).table ≡ disposed b P C above below (ring_opened P C above below (at t b).link t).table
  unfolding expansion expand_blossom look read ◌then◌ say change
  expansion_table = refl

  pub blossom_expanded : Whole (expansion b t).table
  blossom_expanded =
      rw expansion_table
      (disposed_whole t (ring_opened P C above below (at t b).link t).table b P C w is_minus_lem (ring_opened_taken t w b P C blossom_cut above below (at t b).link top_right) bottom_held.1)

-- ---- an accepted request

pub expansion_keeps : (t : Table) (room : ℕ) (e : Expansion) → Whole t → verdict (Q.Expansion e) t room ≡ Ok tt → Whole (expansion e.node.0 t).table
expansion_keeps t room e w a = let r = acceptable_expansion t room e a in blossom_expanded t w e.node.0 r.blossom r.shrinks
