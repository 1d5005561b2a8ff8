-- S3 and S4: an outer node that passes both tests is of one of the six kinds, and one of a kind passes both.
use mathlib.Core.Path.{◌≡◌, refl}
use mathlib.Core.Logic.{◌⊎◌, inl, inr}
use mathlib.Core.Bool.{Bool, not, ◌&&◌, ◌||◌}
use Prim.Native.Nat.{ℕ}
use lib.Dec.{T, eqb, T_not}
use Rattle.slot.specs.Number.{none}
use Rattle.slot.specs.Slot.{Link, Slot, no_link, mirror}
use Rattle.table.specs.Table.{Table, at, Full}
use Rattle.table.specs.Nodes.{present, outer}
use Rattle.rules.specs.Slots.{is_none, is_some, same_link, is_stay, is_grow, up, next}
use Rattle.rules.specs.Sound.{is_single, is_free, is_touched, is_paired, is_virtual, is_root, is_minus, is_plus, s3, s4}
use Rattle.theorems_soundness.specs.FactsOfNodes.{FullLink, Free, Virtual, InPair, Paired, Root, Minus, Plus, Kind, free_node, virtual_node, paired_node, root_node, minus_node, plus_node}
use Rattle.theorems_soundness.proofs.Reflect.{test_case, and→, →and, or→, →or, imp→, →imp}
use Rattle.theorems_soundness.proofs.ReflectSlots.{slot-tests, same_link↔}
use Rattle.theorems_soundness.proofs.Past.{present_some}

pub mirror_full : (l : Link) → FullLink l → FullLink (mirror l)
mirror_full l f = record { has_touch = f.has_peer_touch; has_through = f.has_peer_through; has_peer_touch = f.has_touch; has_peer_through = f.has_through }

-- neither parent nor child
Single : Slot → Type 0
Single s = (s.parent ≡ none) × (s.first_child ≡ none)

-- ---- the kinds of single nodes

module _ (s : Slot) where
  free→ : Single s → T (is_free s) → Free s
  unfolding Single
  free→ n h =
      let r = and→ (is_grow s.state && is_none s.sibling) (same_link s.link no_link) h in
      let q = simp slot-tests at r.0 in
      record { grows = q.0; parentless = n.0; childless = n.1; siblingless = q.1; unlinked = (same_link↔ s.link no_link).0 r.1 }

  →free : Free s → T (is_free s)
  →free f =
      →and (is_grow s.state && is_none s.sibling) (same_link s.link no_link) (simp slot-tests (f.grows, f.siblingless)) ((same_link↔ s.link no_link).1 f.unlinked)

  virtual→ : Single s → T (is_touched s) → T (is_virtual s) → Virtual s
  unfolding Single
  virtual→ n h k = let r = simp slot-tests at h in let q = simp slot-tests at k in search

  →virtual : Virtual s → T (is_touched s) × T (is_virtual s)
  →virtual v = simp slot-tests (search)

-- the test of a pair falls into two parts: the peer, and the mirrored link
abbrev has_peer : Table → ℕ → Bool
has_peer t n =
    is_some (next t n)
    && is_some (at t n).link.peer_touch
    && not (eqb (next t n) n)
    && is_single t (next t n)
    && is_stay (at t (next t n)).state
    && eqb (next t (next t n)) n

abbrev is_mirrored : Table → ℕ → Bool
is_mirrored t n = same_link (at t (next t n)).link (mirror (at t n).link)

module _ (t : Table) (n : ℕ) where
  paired→ : Single (at t n) → T (is_touched (at t n)) → T (is_paired t n) → Paired t n (next t n)
  unfolding Single
  paired→ single h k =
      let r = simp slot-tests at h in
      let q = and→ (has_peer t n) (is_mirrored t n) k in
      let p = simp slot-tests at q.0 in
      let e = (same_link↔ (at t (next t n)).link (mirror (at t n).link)).0 q.1 in
      let f : FullLink (at t n).link = search in
      record {
        here = record { stays = r.0.0.0; parentless = single.0; childless = single.1; linked = f };
        sibling = refl;
        another = p.0.0.0.1;
        there = record { stays = p.0.1; parentless = p.0.0.1.0.1; childless = p.0.0.1.1; linked = rw e (mirror_full (at t n).link f) };
        points_back = p.1;
        mirrored = e;
      }

  touched : InPair (at t n) → T (is_touched (at t n))
  touched p = let l = p.linked in simp slot-tests (((p.stays, l.has_touch), l.has_through), l.has_peer_through)

  peer_passes : Full t → Paired t n (next t n) → T (has_peer t n)
  peer_passes full p =
      let o : T (outer t (next t n)) = rw p.there.stays tt in
      let here : T (present t (next t n)) = rw p.there.stays tt in
      let some = present_some t full (next t n) here in
      let alone : (T (outer t (next t n)) × (up t (next t n) ≡ none)) × ((at t (next t n)).first_child ≡ none) = ((o, p.there.parentless), p.there.childless) in
      simp slot-tests (((((some, p.here.linked.has_peer_touch), p.another), alone), p.there.stays), p.points_back)

  →paired : Full t → Paired t n (next t n) → T (is_paired t n)
  →paired full p = →and (has_peer t n) (is_mirrored t n) (peer_passes full p) ((same_link↔ (at t (next t n)).link (mirror (at t n).link)).1 p.mirrored)

-- ---- the kinds of tree nodes

module _ (s : Slot) where
  root→ : T (is_root s) → Root s
  root→ h =
      let r = and→ (is_grow s.state && is_some s.first_child && is_none s.parent && is_none s.sibling) (same_link s.link no_link) h in
      let q = simp slot-tests at r.0 in
      record { grows = q.0.0.0; has_child = q.0.0.1; parentless = q.0.1; siblingless = q.1; unlinked = (same_link↔ s.link no_link).0 r.1 }

  →root : Root s → T (is_root s)
  →root r =
      →and
      (is_grow s.state && is_some s.first_child && is_none s.parent && is_none s.sibling)
      (same_link s.link no_link)
      (simp slot-tests (search))
      ((same_link↔ s.link no_link).1 r.unlinked)

  minus→ : (t : Table) → T (is_minus t s) → Minus t s
  minus→ t h = let r = simp slot-tests at h in search

  →minus : (t : Table) → Minus t s → T (is_minus t s)
  →minus t m = simp slot-tests (search)

  plus→ : (t : Table) → T (is_plus t s) → Plus t s
  plus→ t h = let r = simp slot-tests at h in search

  →plus : (t : Table) → Plus t s → T (is_plus t s)
  →plus t p = simp slot-tests (search)

-- ---- the six kinds

module _ (t : Table) (n : ℕ) where
  -- the two tests' conclusions
  abbrev is_matched : Bool
  is_matched = is_touched (at t n) && (is_paired t n || is_virtual (at t n))

  abbrev is_single_kind : Bool
  is_single_kind = is_free (at t n) || is_matched

  abbrev is_root_or_minus : Bool
  is_root_or_minus = is_root (at t n) || is_minus t (at t n)

  abbrev is_tree_kind : Bool
  is_tree_kind = is_root_or_minus || is_plus t (at t n)

  kind_of_matched : Single (at t n) → T (is_touched (at t n)) → T (is_paired t n) ⊎ T (is_virtual (at t n)) → Kind t n
  kind_of_matched single h (inl p) = paired_node (paired→ t n single h p)
  kind_of_matched single h (inr v) = virtual_node (virtual→ (at t n) single h v)

  kind_of_single : Single (at t n) → T (is_free (at t n)) ⊎ T is_matched → Kind t n
  kind_of_single single (inl f) = free_node (free→ (at t n) single f)
  kind_of_single single (inr m) =
      let r = and→ (is_touched (at t n)) (is_paired t n || is_virtual (at t n)) m in
      kind_of_matched single r.0 (or→ (is_paired t n) (is_virtual (at t n)) r.1)

  kind_of_high : T (is_root (at t n)) ⊎ T (is_minus t (at t n)) → Kind t n
  kind_of_high (inl r) = root_node (root→ (at t n) r)
  kind_of_high (inr m) = minus_node (minus→ (at t n) t m)

  kind_of_tree : T is_root_or_minus ⊎ T (is_plus t (at t n)) → Kind t n
  kind_of_tree (inl h) = kind_of_high (or→ (is_root (at t n)) (is_minus t (at t n)) h)
  kind_of_tree (inr p) = plus_node (plus→ (at t n) t p)

  -- neither parent nor child, as S4 tests it
  abbrev is_alone : Bool
  is_alone = is_none (at t n).parent && is_none (at t n).first_child

  alone : T is_alone → Single (at t n)
  unfolding Single
  alone h = simp slot-tests at h

  kind_by : T (s3 t n) → T (s4 t n) → T (outer t n) → T is_alone ⊎ T (not is_alone) → Kind t n
  unfolding s3 s4
  kind_by p q o (inl h) =
      let r = simp slot-tests at h in
      kind_of_single (alone h) (or→ (is_free (at t n)) is_matched (imp→ (is_single t n) is_single_kind p (simp slot-tests ((o, r.0), r.1))))
  kind_by p q o (inr h) =
      kind_of_tree (or→ is_root_or_minus (is_plus t (at t n)) (imp→ (outer t n && not is_alone) is_tree_kind q (→and (outer t n) (not is_alone) o h)))

  pub tests→kind : T (s3 t n) → T (s4 t n) → T (outer t n) → Kind t n
  tests→kind p q o = kind_by p q o (test_case is_alone)

  -- a node of a kind passes: a single one S3 ..
  passes_free : T (is_free (at t n)) → T is_single_kind
  passes_free f = →or (is_free (at t n)) is_matched (inl f)

  passes_matched : T (is_touched (at t n)) → T (is_paired t n) ⊎ T (is_virtual (at t n)) → T is_single_kind
  passes_matched h m =
      →or (is_free (at t n)) is_matched (inr (→and (is_touched (at t n)) (is_paired t n || is_virtual (at t n)) h (→or (is_paired t n) (is_virtual (at t n)) m)))

  passes_single : Full t → (at t n).parent ≡ none → (at t n).first_child ≡ none → Kind t n → T is_single_kind
  passes_single full p c (free_node f) = passes_free (→free (at t n) f)
  passes_single full p c (virtual_node v) = let r = →virtual (at t n) v in passes_matched r.0 (inr r.1)
  passes_single full p c (paired_node m) = passes_matched (touched t n m.here) (inl (→paired t n full m))
  passes_single full p c (root_node r) = absurd (r.has_child c)
  passes_single full p c (minus_node m) = absurd (m.has_child c)
  passes_single full p c (plus_node q) = let here : T (present t (up t n)) = rw q.parent_shrinks tt in absurd (present_some t full (up t n) here p)

  -- .. and a node of a tree S4
  passes_high : T (is_root (at t n)) ⊎ T (is_minus t (at t n)) → T is_tree_kind
  passes_high h = →or is_root_or_minus (is_plus t (at t n)) (inl (→or (is_root (at t n)) (is_minus t (at t n)) h))

  not_alone : T (not is_alone) → (at t n).parent ≡ none → (at t n).first_child ≡ none → ⊥
  not_alone h p c = T_not is_alone h (simp slot-tests (p, c))

  passes_tree : T (not is_alone) → Kind t n → T is_tree_kind
  passes_tree h (free_node f) = absurd (not_alone h f.parentless f.childless)
  passes_tree h (virtual_node v) = absurd (not_alone h v.parentless v.childless)
  passes_tree h (paired_node p) = absurd (not_alone h p.here.parentless p.here.childless)
  passes_tree h (root_node r) = passes_high (inl (→root (at t n) r))
  passes_tree h (minus_node m) = passes_high (inr (→minus (at t n) t m))
  passes_tree h (plus_node p) = →or is_root_or_minus (is_plus t (at t n)) (inr (→plus (at t n) t p))

  pub kind→s3 : Full t → (T (outer t n) → Kind t n) → T (s3 t n)
  unfolding s3
  kind→s3 full k = →imp (is_single t n) is_single_kind (λ h. let r = simp slot-tests at h in passes_single full r.0.1 r.1 (k r.0.0))

  pub kind→s4 : (T (outer t n) → Kind t n) → T (s4 t n)
  unfolding s4
  kind→s4 k = →imp (outer t n && not is_alone) is_tree_kind (λ h. let r = and→ (outer t n) (not is_alone) h in passes_tree r.1 (k r.0))
