-- A table on which a blossom is made: its outer nodes hang together as they must (S3, S4, S5, S7 of outer nodes).
use mathlib.Core.Path.{◌≡◌, refl, sym, ◌∙◌}
use mathlib.Core.Logic.{◌≢◌, ◌⊎◌, inl, inr}
use mathlib.Core.List.{List, [], ◌∷◌, ◌++◌}
use Prim.Native.Nat.{ℕ}
use lib.Dec.{T}
use Rattle.slot.specs.Number.{none}
use Rattle.slot.specs.Slot.{no_link}
use Rattle.table.specs.Table.{Table, at}
use Rattle.table.specs.Nodes.{outer}
use Rattle.rules.specs.Slots.{up, next}
use Rattle.theorems_soundness.specs.Chain.{◌∈◌, Chain}
use Rattle.theorems_soundness.specs.FactsOfNodes.{Paired, Kind, free_node, virtual_node, paired_node, root_node, minus_node, plus_node, OuterChild, Children, Upward}
use Rattle.theorems_soundness.specs.Facts.{Core}
use Rattle.theorems_soundness.proofs.Reflect.{same_or_not}
use Rattle.theorems_soundness.proofs.ReflectSlots.{grow_shrink, stay_grow, stay_shrink}
use Rattle.theorems_soundness.proofs.Members.{in_append→, in_left, in_right}
use Rattle.theorems_soundness.proofs.Chains.{chain_frame, chain_next}
use Rattle.theorems_soundness.proofs.OuterLists.{upward-outer}
use Rattle.theorems_soundness.proofs.Past.{present_some}
use Rattle.theorems_soundness.proofs.ChildLaws.{above_outer}
use Rattle.theorems_soundness.specs.RuleFacts.{Whole}
use Rattle.theorems_soundness.proofs.Frames.{some_outer, one_child, top_upward, next-upward, SeenAlike, core-frame}
use Rattle.theorems_soundness.proofs.MadeBlossom.{Made}
use Rattle.theorems_soundness.proofs.MadeSlots as At

module _ {t u : Table} {b m : ℕ} {ring moved : List ℕ} (w : Whole t) (d : Made t u b m ring moved) where
  abbrev Where : ℕ → Type 0
  Where j = At.Where w d j

  stands : (j : ℕ) → Where j
  stands j = At.stands w d j

  -- the slots that are told anew
  abbrev ws : List ℕ
  ws = b ∷ (up t m ∷ (ring ++ moved))

  off_new : (n : ℕ) → ¬ (n ∈ ws) → n ≢ b
  off_new n h e = h (inl e)

  off_above : (n : ℕ) → ¬ (n ∈ ws) → n ≢ up t m
  off_above n h e = h (inr (inl e))

  off_ring : (n : ℕ) → ¬ (n ∈ ws) → ¬ (n ∈ ring)
  off_ring n h i = h (inr (inr (in_left ring moved n i)))

  off_moved : (n : ℕ) → ¬ (n ∈ ws) → ¬ (n ∈ moved)
  off_moved n h i = h (inr (inr (in_right ring moved n i)))

  same : (n : ℕ) → ¬ (n ∈ ws) → Where n → at u n ≡ at t n
  same n h (At.is_new e) = absurd (off_new n h e)
  same n h (At.is_above _ e _ _ _ _) = absurd (off_above n h e)
  same n h (At.in_ring i) = absurd (off_ring n h i)
  same n h (At.is_moved i) = absurd (off_moved n h i)
  same n h (At.elsewhere _ _ _ e) = e

  -- a peer stands elsewhere: in the ring, above it and below it are tree nodes
  mate : (n peer : ℕ) → Paired t n peer → Where peer → at u peer ≡ at t peer
  mate n peer p (At.is_new e) = absurd (At.not_new w d peer (rw p.there.stays tt) e)
  mate n peer p (At.is_above _ e o _ _ _) =
      let has : up t m ≢ none = λ z. some_outer t w.full peer o (e ∙ z) in
      absurd (stay_shrink p.there.stays (rw e (At.above_minus w d has).shrinks))
  mate n peer p (At.in_ring i) = absurd (elim (d.before.signs peer i) [ inl g ↦ stay_grow p.there.stays g | inr g ↦ stay_shrink p.there.stays g ])
  mate n peer p (At.is_moved i) = absurd (At.ring_some w d (up t peer) ((d.exact peer).0 i).1 p.there.parentless)
  mate n peer p (At.elsewhere _ _ _ e) = e

  was_child : (n c : ℕ) → ¬ (n ∈ ws) → OuterChild u n c → Where c → OuterChild t n c
  was_child n c h k (At.is_new e) = absurd (off_above n h (sym (rw (e, d.new, up) at k.1)))
  was_child n c h k (At.is_above _ _ o _ _ e) = (o, rw (e, up) at k.1)
  was_child n c h k (At.in_ring i) = absurd (rw (d.ringed c i) at k.0)
  was_child n c h k (At.is_moved i) = absurd (off_new n h (sym (rw (d.adopted c i, up) at k.1)))
  was_child n c h k (At.elsewhere _ _ _ e) = (rw e at k.0, rw (e, up) at k.1)

  still_child : (n c : ℕ) → ¬ (n ∈ ring) → n ≢ up t m → OuterChild t n c → OuterChild u n c × (next u c ≡ next t c)
  still_child n c nr np k =
      let f = At.child_off w d n c nr np k in
      let a = At.off_alike w d c f in
      ((rw (At.same_state w d c f.not_b f.not_ring) k.0, a.parent ∙ k.1), a.sibling)

  seen : SeenAlike t u ws
  seen =
      record {
        same = λ n h. same n h (stands n);
        parent_state = λ n o h. At.same_state w d (up t n) (At.no_parent_new w d n) (λ i. off_moved n h ((d.exact n).1 (o, i, off_ring n h)));
        child_sibling = λ n o h. At.first_sibling w d n (off_ring n h) (off_above n h) o;
        peer = λ n o h p. mate n (next t n) p (stands (next t n));
        child_stays = λ n c o h i k. still_child n c (off_ring n h) (off_above n h) k;
        no_new_child = λ n c o h i k. was_child n c h k (stands c);
      }

  -- ---- kinds

  new_top : up t m ≡ none → (at t m).link ≡ no_link → Kind u b
  new_top e l =
      let s = At.meeting_siblingless w d in
      elim (same_or_not d.first none) [
        | inl z ↦ free_node (rw d.new (record { grows = refl; parentless = e; childless = z; siblingless = s; unlinked = l }))
        | inr f ↦ root_node (rw d.new (record { grows = refl; has_child = f; parentless = e; siblingless = s; unlinked = l }))
      ]

  kind_new : Kind t m → Kind u b
  kind_new (free_node f) = new_top f.parentless f.unlinked
  kind_new (virtual_node v) = absurd (stay_grow v.stays d.before.grows)
  kind_new (paired_node p) = absurd (stay_grow p.here.stays d.before.grows)
  kind_new (root_node r) = new_top r.parentless r.unlinked
  kind_new (minus_node n) = absurd (grow_shrink d.before.grows n.shrinks)
  kind_new (plus_node p) =
      let has : up t m ≢ none = present_some t w.full (up t m) (rw p.parent_shrinks tt) in
      let s = At.same_state w d (up t m) (At.no_parent_new w d m) (At.above_off_ring w d has) in
      plus_node (rw d.new (record { grows = refl; linked = p.linked; siblingless = At.meeting_siblingless w d; parent_shrinks = s ∙ p.parent_shrinks }))

  new_siblingless : next u b ≡ none
  new_siblingless = rw (d.new, next) (At.meeting_siblingless w d)

  kind_above : up t m ≢ none → Kind u (up t m)
  kind_above has =
      let n = At.above_minus w d has in
      let s = At.same_state w d (up t (up t m)) (At.no_parent_new w d (up t m)) (At.above_twice w d has) in
      minus_node (rw (d.placed has) (record { shrinks = n.shrinks; linked = n.linked; parent_grows = s ∙ n.parent_grows; has_child = At.some_new w d; only_child = new_siblingless }))

  kind_moved : (j : ℕ) → j ∈ moved → Kind u j
  kind_moved j i =
      let n = At.moved_minus w d j i in
      let h = (d.exact j).0 i in
      let only = At.first_sibling w d j h.2 (At.moved_not_above w d j i) h.0 ∙ n.only_child in
      minus_node (rw (d.adopted j i) (record { shrinks = n.shrinks; linked = n.linked; parent_grows = rw d.new; has_child = n.has_child; only_child = only }))

  -- ---- lists

  children_new : Children u b
  children_new =
      record {
        list = moved;
        chain = rw d.new d.list;
        exact = λ j. (λ i. (rw (d.adopted j i) (At.moved-outer w d j i), rw (d.adopted j i, up)), λ k. go j k (stands j));
      }
    where
      go : (j : ℕ) → OuterChild u b j → Where j → j ∈ moved
      go j k (At.is_new e) = absurd (At.no_parent_new w d m (rw (e, d.new, up) at k.1))
      go j k (At.is_above _ _ _ _ _ e) = absurd (At.no_parent_new w d j (rw (e, up) at k.1))
      go j k (At.in_ring i) = absurd (rw (d.ringed j i) at k.0)
      go j k (At.is_moved i) = i
      go j k (At.elsewhere _ _ _ e) = absurd (At.no_parent_new w d j (rw (e, up) at k.1))

  children_above : up t m ≢ none → Children u (up t m)
  children_above has =
      one_child u (up t m) b (rw (d.placed has)) (At.some_new w d) new_siblingless (rw d.new tt, rw (d.new, up)) (λ j k. go j k (stands j))
    where
      was_meeting : (j : ℕ) → ¬ (j ∈ ring) → OuterChild t (up t m) j → ⊥
      was_meeting j nr k = nr (rw (At.above_only w d has j k) d.before.meets)

      go : (j : ℕ) → OuterChild u (up t m) j → Where j → j ≡ b
      go j k (At.is_new e) = e
      go j k (At.is_above _ _ o nr _ e) = absurd (was_meeting j nr (o, rw (e, up) at k.1))
      go j k (At.in_ring i) = absurd (rw (d.ringed j i) at k.0)
      go j k (At.is_moved i) = absurd (At.no_parent_new w d m (sym (rw (d.adopted j i, up) at k.1)))
      go j k (At.elsewhere _ nr _ e) = absurd (was_meeting j nr (rw e at k.0, rw (e, up) at k.1))

  children-moved : (j : ℕ) → j ∈ moved → Children u j
  children-moved j i =
      record {
        list = k.list;
        chain = rw (d.adopted j i) (chain_frame (next t) (next u) (at t j).first_child k.list (λ c h. sym (still c ((k.exact c).0 h)).1) k.chain);
        exact = λ c. (λ h. (still c ((k.exact c).0 h)).0, λ q. (k.exact c).1 (was c q (stands c)));
      }
    where
      k : Children t j
      k = w.core.children j (At.moved-outer w d j i)

      still : (c : ℕ) → OuterChild t j c → OuterChild u j c × (next u c ≡ next t c)
      still c q = still_child j c ((d.exact j).0 i).2 (At.moved_not_above w d j i) q

      was : (c : ℕ) → OuterChild u j c → Where c → OuterChild t j c
      was c q (At.is_new e) = absurd (At.moved_not_above w d j i (sym (rw (e, d.new, up) at q.1)))
      was c q (At.is_above _ _ o _ _ e) = (o, rw (e, up) at q.1)
      was c q (At.in_ring r) = absurd (rw (d.ringed c r) at q.0)
      was c q (At.is_moved r) = absurd (At.not_new w d j (At.moved-outer w d j i) (sym (rw (d.adopted c r, up) at q.1)))
      was c q (At.elsewhere _ _ _ e) = (rw e at q.0, rw (e, up) at q.1)

  -- ---- ways up

  -- a way up in t that passes no ring node and no child of one is still there
  way_still : (n : ℕ) (cs : List ℕ) → T (outer t n) → Chain (up t) n cs → ((j : ℕ) → j ∈ cs → ¬ (j ∈ ring)) → Upward u n
  way_still n cs o c h = record { list = cs; chain = chain_frame (up t) (up u) n cs (λ j i. sym (parent j i)) c }
    where
      parent : (j : ℕ) → j ∈ cs → up u j ≡ up t j
      parent j i =
          (At.alike w d j (At.not_new w d j (upward-outer t w.full w.core.kind n o cs c j i)) (h j i)
          (λ q. let r = ((d.exact j).0 q).1 in h (up t j) (chain_next (up t) n cs c j i (At.ring_some w d (up t j) r)) r)).parent

  way_above : up t m ≢ none → Upward u (up t m)
  way_above has = way_still (up t m) d.before.above (At.above_is_outer w d has) d.before.way d.before.off

  way_new : Upward u b
  way_new =
      let some = At.some_new w d in
      elim (same_or_not (up t m) none) [
        | inl z ↦ top_upward u b some (rw (d.new, up) z)
        | inr has ↦ next-upward u b (up t m) some (rw (d.new, up)) (way_above has)
      ]

  -- any other goes on as in t, until it comes to a moved child, which now stands below b
  way_from : (n : ℕ) (cs : List ℕ) → (n ≢ none → T (outer t n) × ¬ (n ∈ ring)) → Chain (up t) n cs → Upward u n
  way_from n [] h c = record { list = []; chain = c }
  way_from n (x ∷ cs) h c = go (h c.1) (stands n) (λ p. way_from (up t n) cs p (rw c.0 c.2))
    where
      goes : T (outer t n) × ¬ (n ∈ ring) → ¬ (n ∈ moved) → up t n ≢ none → T (outer t (up t n)) × ¬ (up t n ∈ ring)
      goes q nm has = (above_outer t w.full w.core n q.0 has, λ i. nm ((d.exact n).1 (q.0, i, q.1)))

      go : T (outer t n) × ¬ (n ∈ ring) → Where n → ((up t n ≢ none → T (outer t (up t n)) × ¬ (up t n ∈ ring)) → Upward u (up t n)) → Upward u n
      go q (At.is_new e) ih = absurd (At.not_new w d n q.0 e)
      go q (At.is_above _ _ _ _ nm e) ih = next-upward u n (up t n) c.1 (rw (e, up)) (ih (goes q nm))
      go q (At.in_ring i) ih = absurd (q.1 i)
      go q (At.is_moved i) ih = next-upward u n b c.1 (rw (d.adopted n i, up)) way_new
      go q (At.elsewhere _ _ nm e) ih = next-upward u n (up t n) c.1 (rw (e, up)) (ih (goes q nm))

  pub made_core : Core u
  made_core = core-frame t u ws w.core seen kinds lists ways
    where
      some_above : (n : ℕ) → n ≡ up t m → T (outer u n) → up t m ≢ none
      some_above n e o z = some_outer u d.full n o (e ∙ z)

      kinds : (n : ℕ) → n ∈ ws → T (outer u n) → Kind u n
      kinds n (inl e) o = rw e (kind_new (w.core.kind m (At.meeting-outer w d)))
      kinds n (inr (inl e)) o = rw e (kind_above (some_above n e o))
      kinds n (inr (inr i)) o = elim (in_append→ ring moved n i) [ inl r ↦ absurd (rw (d.ringed n r) at o) | inr r ↦ kind_moved n r ]

      lists : (n : ℕ) → n ∈ ws → T (outer u n) → Children u n
      lists n (inl e) o = rw e children_new
      lists n (inr (inl e)) o = rw e (children_above (some_above n e o))
      lists n (inr (inr i)) o = elim (in_append→ ring moved n i) [ inl r ↦ absurd (rw (d.ringed n r) at o) | inr r ↦ children-moved n r ]

      was_outer : (n : ℕ) → T (outer u n) → Where n → (n ≡ b) ⊎ (T (outer t n) × ¬ (n ∈ ring))
      was_outer n o (At.is_new e) = inl e
      was_outer n o (At.is_above _ _ p nr _ _) = inr (p, nr)
      was_outer n o (At.in_ring i) = absurd (rw (d.ringed n i) at o)
      was_outer n o (At.is_moved i) = inr (At.moved-outer w d n i, ((d.exact n).0 i).2)
      was_outer n o (At.elsewhere _ nr _ e) = inr (rw e at o, nr)

      ways : (n : ℕ) → T (outer u n) → Upward u n
      ways n o =
          elim (was_outer n o (stands n)) [
            | inl e ↦ rw e way_new
            | inr q ↦ let c = w.core.upward n q.0 in way_from n c.list (λ _. q) c.chain
          ]
