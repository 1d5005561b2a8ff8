-- Frames for how outer nodes hang together (S3, S4, S5, S7 of outer nodes): a rule touches a list of slots, and what stands
-- elsewhere stays right.
use mathlib.Core.Path.{◌≡◌, refl, ap, sym, ◌∙◌}
use mathlib.Core.Logic.{◌≢◌, ◌⊎◌, inl, inr}
use mathlib.Core.List.{List, [], ◌∷◌}
use Prim.Native.Nat.{ℕ}
use lib.Dec.{T, T_not}
use Rattle.slot.specs.Number.{none}
use Rattle.slot.specs.Slot.{Slot}
use Rattle.table.specs.Table.{Table, at, Full}
use Rattle.table.specs.Nodes.{outer}
use Rattle.rules.specs.Slots.{up, next}
use Rattle.rules.specs.Walk.{is_in}
use Rattle.theorems_soundness.specs.Chain.{◌∈◌, Chain}
use Rattle.theorems_soundness.specs.FactsOfNodes.{Paired, Kind, free_node, virtual_node, paired_node, root_node, minus_node, plus_node, OuterChild, Children, Upward}
use Rattle.theorems_soundness.specs.Facts.{Core}
use Rattle.theorems_soundness.proofs.Reflect.{test_case, is_in↔}
use Rattle.theorems_soundness.proofs.Chains.{chain_frame, chain-all}
use Rattle.theorems_soundness.proofs.Past.{present_some}
use Rattle.theorems_soundness.proofs.ReflectSlots.{outer-present}
use Rattle.theorems_soundness.proofs.OuterLists.{parent_outer}
use Rattle.theorems_soundness.proofs.KindLaws.{paired_kind}

pub in_or_not : (n : ℕ) (ws : List ℕ) → (n ∈ ws) ⊎ (¬ (n ∈ ws))
in_or_not n ws = elim (test_case (is_in n ws)) [ inl h ↦ inl ((is_in↔ n ws).0 h) | inr d ↦ inr (λ m. T_not (is_in n ws) d ((is_in↔ n ws).1 m)) ]

pub some_outer : (t : Table) → Full t → (n : ℕ) → T (outer t n) → n ≢ none
some_outer t full n o = present_some t full n (outer-present (at t n).state o)

-- ---- small lists and ways up, for what stands in touched slots

pub no_children : (u : Table) (n : ℕ) → (at u n).first_child ≡ none → ((c : ℕ) → ¬ OuterChild u n c) → Children u n
no_children u n e h = record { list = []; chain = e; exact = λ c. (λ m. absurd m, λ k. h c k) }

pub one_child : (u : Table) (n c : ℕ) → (at u n).first_child ≡ c → c ≢ none → next u c ≡ none → OuterChild u n c → ((j : ℕ) → OuterChild u n j → j ≡ c) → Children u n
one_child u n c e d s k h =
    record { list = c ∷ []; chain = (e, λ z. d (sym e ∙ z), s); exact = λ j. (elim [ inl q ↦ rw q k | inr m ↦ absurd m ], λ p. inl (h j p)) }

pub top_upward : (u : Table) (n : ℕ) → n ≢ none → up u n ≡ none → Upward u n
top_upward u n d e = record { list = n ∷ []; chain = (refl, d, e) }

pub next-upward : (u : Table) (n p : ℕ) → n ≢ none → up u n ≡ p → Upward u p → Upward u n
next-upward u n p d e w = record { list = n ∷ w.list; chain = (refl, d, rw e w.chain) }

-- where each parent is as it was or gone, a way up is the old one or a part of it
abbrev pub Pruned : Table → Table → Type 0
Pruned t u = (j : ℕ) → (up u j ≡ up t j) ⊎ (up u j ≡ none)

pub pruned_chain : (t u : Table) → Pruned t u → (n : ℕ) (cs : List ℕ) → Chain (up t) n cs → Upward u n
pruned_chain t u h n [] c = record { list = []; chain = c }
pruned_chain t u h n (x ∷ cs) c = go (h x) (pruned_chain t u h (up t x) cs c.2)
  where
    go : (up u x ≡ up t x) ⊎ (up u x ≡ none) → Upward u (up t x) → Upward u n
    go (inl e) w = record { list = x ∷ w.list; chain = (c.0, c.1, rw e w.chain) }
    go (inr e) w = record { list = x ∷ []; chain = (c.0, c.1, e) }

-- ---- the frame

-- ws are the slots that are shown anew; what the others see of them is as it was
pub record SeenAlike (t u : Table) (ws : List ℕ) : Type 0 where
  pub same : (n : ℕ) → ¬ (n ∈ ws) → at u n ≡ at t n
  pub parent_state : (n : ℕ) → T (outer t n) → ¬ (n ∈ ws) → (at u (up t n)).state ≡ (at t (up t n)).state
  pub child_sibling : (n : ℕ) → T (outer t n) → ¬ (n ∈ ws) → next u (at t n).first_child ≡ next t (at t n).first_child
  pub peer : (n : ℕ) → T (outer t n) → ¬ (n ∈ ws) → Paired t n (next t n) → at u (next t n) ≡ at t (next t n)
  pub child_stays : (n c : ℕ) → T (outer t n) → ¬ (n ∈ ws) → c ∈ ws → OuterChild t n c → OuterChild u n c × (next u c ≡ next t c)
  pub no_new_child : (n c : ℕ) → T (outer t n) → ¬ (n ∈ ws) → c ∈ ws → OuterChild u n c → OuterChild t n c

module _ (t u : Table) (ws : List ℕ) (seen : SeenAlike t u ws) where
  kind_frame : (n : ℕ) → T (outer t n) → ¬ (n ∈ ws) → Kind t n → Kind u n
  kind_frame n o d (free_node f) = free_node (rw (seen.same n d) f)
  kind_frame n o d (virtual_node v) = virtual_node (rw (seen.same n d) v)
  kind_frame n o d (paired_node p) =
      let e = seen.same n d in
      let f = seen.peer n o d p in
      paired_kind u n (next t n) (record { here = rw e p.here; sibling = rw (e, next); another = p.another; there = rw f p.there; points_back = rw (f, next) p.points_back; mirrored = rw (f, e) p.mirrored })
  kind_frame n o d (root_node r) = root_node (rw (seen.same n d) r)
  kind_frame n o d (minus_node m) =
      let up-grows = seen.parent_state n o d ∙ m.parent_grows in
      let only = seen.child_sibling n o d ∙ m.only_child in
      minus_node (rw (seen.same n d) (record { shrinks = m.shrinks; linked = m.linked; parent_grows = up-grows; has_child = m.has_child; only_child = only }))
  kind_frame n o d (plus_node p) =
      plus_node (rw (seen.same n d) (record { grows = p.grows; linked = p.linked; siblingless = p.siblingless; parent_shrinks = seen.parent_state n o d ∙ p.parent_shrinks }))

  children_frame : (n : ℕ) → T (outer t n) → ¬ (n ∈ ws) → Children t n → Children u n
  children_frame n o d k =
      record {
        list = k.list;
        chain = rw (seen.same n d) (chain_frame (next t) (next u) (at t n).first_child k.list (λ j m. siblings j ((k.exact j).0 m)) k.chain);
        exact = λ j. (λ m. stays j ((k.exact j).0 m), λ p. (k.exact j).1 (was j p));
      }
    where
      siblings : (j : ℕ) → OuterChild t n j → next t j ≡ next u j
      siblings j p = elim (in_or_not j ws) [ inl m ↦ sym (seen.child_stays n j o d m p).1 | inr m ↦ ap (λ (s : Slot). s.sibling) (sym (seen.same j m)) ]

      stays : (j : ℕ) → OuterChild t n j → OuterChild u n j
      stays j p = elim (in_or_not j ws) [ inl m ↦ (seen.child_stays n j o d m p).0 | inr m ↦ rw (seen.same j m, up) p ]

      was : (j : ℕ) → OuterChild u n j → OuterChild t n j
      was j p = elim (in_or_not j ws) [ inl m ↦ seen.no_new_child n j o d m p | inr m ↦ (rw (seen.same j m) at p.0, rw (seen.same j m, up) at p.1) ]

-- what stands in ws afterwards is right, and the ways up end: then all is right
pub core-frame :
    (t u : Table) (ws : List ℕ)
    → Core t
    → SeenAlike t u ws
    → ((n : ℕ) → n ∈ ws → T (outer u n) → Kind u n)
    → ((n : ℕ) → n ∈ ws → T (outer u n) → Children u n)
    → ((n : ℕ) → T (outer u n) → Upward u n)
    → Core u
core-frame t u ws core seen kinds lists ways =
    record {
      kind = λ n o. elim (in_or_not n ws) [ inl m ↦ kinds n m o | inr d ↦ let q : T (outer t n) = rw (seen.same n d) at o in kind_frame t u ws seen n q d (core.kind n q) ];
      children = λ n o. elim (in_or_not n ws) [ inl m ↦ lists n m o | inr d ↦ let q : T (outer t n) = rw (seen.same n d) at o in children_frame t u ws seen n q d (core.children n q) ];
      upward = ways;
    }

-- ---- nothing elsewhere points into the touched slots

pub record Apart (t : Table) (ws : List ℕ) : Type 0 where
  pub parent : (n : ℕ) → T (outer t n) → ¬ (n ∈ ws) → ¬ (up t n ∈ ws)
  pub child : (n : ℕ) → T (outer t n) → ¬ (n ∈ ws) → ¬ ((at t n).first_child ∈ ws)
  pub sibling : (n : ℕ) → T (outer t n) → ¬ (n ∈ ws) → ¬ (next t n ∈ ws)

-- a touched node has a touched parent or none
abbrev pub Own : Table → List ℕ → Type 0
Own t ws = (n : ℕ) → T (outer t n) → n ∈ ws → (up t n ≡ none) ⊎ (up t n ∈ ws)

module _ (t u : Table) (ws : List ℕ) (full : Full t) (agree : (n : ℕ) → ¬ (n ∈ ws) → at u n ≡ at t n) (apart : Apart t ws) where
  foreign : (s : Table) → Own s ws → (n c : ℕ) → T (outer t n) → ¬ (n ∈ ws) → c ∈ ws → ¬ OuterChild s n c
  foreign s own n c o d m k =
      elim (own c k.0 m) [ inl e ↦ some_outer t full n o (sym k.1 ∙ e) | inr w ↦ d (rw k.1 at w) ]

  apart_seen : Own t ws → Own u ws → SeenAlike t u ws
  apart_seen before after =
      record {
        same = agree;
        parent_state = λ n o d. rw (agree (up t n) (apart.parent n o d));
        child_sibling = λ n o d. rw (agree (at t n).first_child (apart.child n o d), next);
        peer = λ n o d p. agree (next t n) (apart.sibling n o d);
        child_stays = λ n c o d m k. absurd (foreign t before n c o d m k);
        no_new_child = λ n c o d m k. absurd (foreign u after n c o d m k);
      }

  -- the way up from an untouched node passes no touched one
  apart_way : Core t → (n : ℕ) → T (outer t n) → ¬ (n ∈ ws) → Upward t n → Upward u n
  apart_way core n o d w =
      record { list = w.list; chain = chain_frame (up t) (up u) n w.list (λ j m. rw (agree j (off j m).1, up)) w.chain }
    where
      off : (j : ℕ) → j ∈ w.list → T (outer t j) × ¬ (j ∈ ws)
      off = chain-all (up t) (λ j. T (outer t j) × ¬ (j ∈ ws)) n w.list (λ j p e. (parent_outer t full core.kind j p.0 e, apart.parent j p.0 p.1)) (λ _. (o, d)) w.chain

  -- nothing elsewhere points into ws, and what stands in ws afterwards is right: then all is right
  pub core-apart :
      Core t
      → Own t ws
      → Own u ws
      → ((n : ℕ) → n ∈ ws → T (outer u n) → Kind u n)
      → ((n : ℕ) → n ∈ ws → T (outer u n) → Children u n)
      → ((n : ℕ) → n ∈ ws → T (outer u n) → Upward u n)
      → Core u
  core-apart core before after kinds lists ways = core-frame t u ws core (apart_seen before after) kinds lists all_ways
    where
      all_ways : (n : ℕ) → T (outer u n) → Upward u n
      all_ways n o = elim (in_or_not n ws) [ inl m ↦ ways n m o | inr d ↦ let q : T (outer t n) = rw (agree n d) at o in apart_way core n q d (core.upward n q) ]
