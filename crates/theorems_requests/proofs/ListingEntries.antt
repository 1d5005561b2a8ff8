-- Every record that a call of the listing leaves is the entry of a link of the table, and names present defects.
use mathlib.Core.Path.{◌≡◌, refl}
use mathlib.Core.Logic.{◌≢◌, inl, inr}
use mathlib.Core.List.{List, [], ◌∷◌, ◌++◌}
use Prim.Native.Nat.{ℕ, suc, ◌+◌, ◌≤◌, ◌<◌}
use lib.Dec.{T, lt→ltb}
use Rattle.table.specs.Table.{Table, at, Full}
use Rattle.table.specs.Nodes.{is_defect, present, is_present_defect, inner}
use Rattle.record.specs.declared.answer.Record.{Record}
use Rattle.rules.specs.Slots.{up, next}
use Rattle.rules.specs.Listing.{pair_entry, virtual_entry, pair_listed, levels_listed, ring_listed}
use Rattle.theorems_soundness.specs.Chain.{◌∈◌}
use Rattle.theorems_soundness.specs.FactsOfBlossoms.{DefectInside}
use Rattle.theorems_soundness.specs.Facts.{Rest}
use Rattle.theorems_requests.specs.Named.{named_by, named_in, Entry, Each}
use Rattle.theorems_soundness.proofs.Reflect.{→and}
use Rattle.theorems_soundness.proofs.Members.{in_append→}
use Rattle.theorems_soundness.proofs.InsideLaws.{inside-present}
use Rattle.theorems_requests.proofs.InsideCounts.{nodes_inside}
use Rattle.theorems_requests.proofs.NestedCalls.{Joined, after_of, on_every_pair, on_every_node}
use Rattle.theorems_requests.proofs.ListingLaws.{inside_listed, inside_defect_listed, inside_blossom_listed, pair-listed, last_level_listed, level_listed, ring_end_listed, ring-pair-listed}

pub each_append : (P : Record → Type 0) (xs ys : List Record) → Each P xs → Each P ys → Each P (xs ++ ys)
each_append P [] ys p q = q
each_append P (x ∷ xs) ys p q = (p.0, each_append P xs ys p.1 q)

-- what is named is named by an entry
pub each_names : (t : Table) (rs : List Record) → Each (Entry t) rs → (n : ℕ) → n ∈ named_in rs → T (is_present_defect t n)
each_names t [] h n m = absurd m
each_names t (r ∷ rs) h n m = elim (in_append→ (named_by r) (named_in rs) n m) [ inl a ↦ h.0.names n a | inr b ↦ each_names t rs h.1 n b ]

module _ (t : Table) (full : Full t) (rest : Rest t) where
  defect_there : (x n : ℕ) → T (present t x) → DefectInside t x n → T (is_present_defect t n)
  defect_there x n p d = →and (is_defect t n) (present t n) (lt→ltb n t.begin d.defect) (inside-present t full rest x n p d.inside)

  pub pair_entry_lem : (n peer : ℕ) → Joined t n peer → Entry t (pair_entry (at t n).link)
  pair_entry_lem n peer j = record { owner = n; there = j.here; link = inl refl; names = go }
    where
      go : (d : ℕ) → d ∈ named_by (pair_entry (at t n).link) → T (is_present_defect t d)
      go d (inl e) = rw e (defect_there n (at t n).link.touch j.here j.touch)
      go d (inr (inl e)) = rw e (defect_there peer (at t n).link.peer_touch j.there j.peer_touch)
      go d (inr (inr z)) = absurd z

  pub virtual_entry_lem : (n : ℕ) → T (present t n) → DefectInside t n (at t n).link.touch → Entry t (virtual_entry (at t n).link)
  virtual_entry_lem n p h = record { owner = n; there = p; link = inr refl; names = go }
    where
      go : (d : ℕ) → d ∈ named_by (virtual_entry (at t n).link) → T (is_present_defect t d)
      go d (inl e) = rw e (defect_there n (at t n).link.touch p h)
      go d (inr z) = absurd z

  Entries : List Record → Type 0
  Entries rs = Each (Entry t) rs

  none_entries : Entries []
  unfolding Entries
  none_entries = tt

  join_entries : (xs ys : List Record) → Entries xs → Entries ys → Entries (xs ++ ys)
  unfolding Entries
  join_entries xs ys p q = each_append (Entry t) xs ys p q

  one_entry : (r : Record) → Entry t r → Entries (r ∷ [])
  unfolding Entries
  one_entry r p = (p, tt)

  PairEntries : ℕ → ℕ → ℕ → Type 0
  PairEntries k n peer = Entries (pair_listed k n peer (at t n).link t)

  InsideEntries : ℕ → ℕ → ℕ → Type 0
  InsideEntries k n d = Entries (inside_listed k n d t)

  LevelsEntries : ℕ → ℕ → ℕ → Type 0
  LevelsEntries k b d = Entries (levels_listed k b d t)

  RingEntries : ℕ → ℕ → ℕ → List ℕ → Type 0
  RingEntries k d n cs = Entries (ring_listed k d n t)

  defect_entries : (k n : ℕ) → n < t.begin → InsideEntries k n n
  unfolding InsideEntries
  defect_entries k n l = rw (inside_defect_listed t k n n l) none_entries

  blossom_entries : (k b d : ℕ) → t.begin ≤ b → d < t.begin → LevelsEntries k b d → InsideEntries k b d
  unfolding InsideEntries LevelsEntries
  blossom_entries k b d l h p = rw (inside_blossom_listed t k b d l) p

  pair_entries : (k n peer : ℕ) → Joined t n peer → InsideEntries k n (at t n).link.touch → InsideEntries k peer (at t n).link.peer_touch → PairEntries (suc k) n peer
  unfolding InsideEntries PairEntries
  pair_entries k n peer j p q =
      let l = (at t n).link in
      let x = inside_listed k n l.touch t in
      let y = inside_listed k peer l.peer_touch t in
      rw (pair-listed t k n peer l) (join_entries (x ++ y) (pair_entry l ∷ []) (join_entries x y p q) (one_entry (pair_entry l) (pair_entry_lem n peer j)))

  last_entries : (k b d : ℕ) (i : T (inner t d)) → up t d ≡ b → RingEntries k d (next t d) (after_of t full rest d i) → LevelsEntries (suc k) b d
  unfolding LevelsEntries RingEntries
  last_entries k b d i u p = rw (last_level_listed t k b d i u) (join_entries (ring_listed k d (next t d) t) [] p none_entries)

  level_entries : (k b d : ℕ) (i : T (inner t d)) → up t d ≢ b → RingEntries k d (next t d) (after_of t full rest d i) → LevelsEntries k b (up t d) → LevelsEntries (suc k) b d
  unfolding LevelsEntries RingEntries
  level_entries k b d i n p q = rw (level_listed t k b d i n) (join_entries (ring_listed k d (next t d) t) (levels_listed k b (up t d) t) p q)

  end_entries : (k d : ℕ) → RingEntries k d d []
  unfolding RingEntries
  end_entries k d = rw (ring_end_listed t k d) none_entries

  two_entries : (k d n : ℕ) (cs : List ℕ) → n ≢ d → PairEntries k n (next t n) → RingEntries k d (next t (next t n)) cs → RingEntries (suc k) d n (n ∷ (next t n ∷ cs))
  unfolding RingEntries PairEntries
  two_entries k d n cs h p q =
      rw (ring-pair-listed t k d n h) (join_entries (pair_listed k n (next t n) (at t n).link t) (ring_listed k d (next t (next t n)) t) p q)

  pub pair_entries_all : (k n peer : ℕ) → Joined t n peer → nodes_inside t n + nodes_inside t peer ≤ suc k → Each (Entry t) (pair_listed k n peer (at t n).link t)
  unfolding PairEntries Entries
  pair_entries_all =
      on_every_pair t full rest PairEntries InsideEntries LevelsEntries RingEntries defect_entries blossom_entries pair_entries last_entries level_entries end_entries two_entries

  pub inside_entries_all : (k n d : ℕ) → T (present t n) → DefectInside t n d → nodes_inside t n ≤ suc k → Each (Entry t) (inside_listed k n d t)
  unfolding InsideEntries Entries
  inside_entries_all =
      on_every_node t full rest PairEntries InsideEntries LevelsEntries RingEntries defect_entries blossom_entries pair_entries last_entries level_entries end_entries two_entries
