-- The budget of the listing: with one more, no call that the listing makes on a sound table lists anything else.
use mathlib.Core.Path.{◌≡◌, sym, ap, ap₂, ◌∙◌}
use mathlib.Core.Logic.{◌≢◌}
use mathlib.Core.List.{List, [], ◌∷◌, ◌++◌}
use Prim.Native.Nat.{ℕ, zero, suc, ◌+◌, ◌≤◌, ◌<◌}
use native.Mathlib.Nat.{suc-add, zero-add}
use native.Mathlib.Omega.{arith}
use lib.Dec.{T}
use Rattle.table.specs.Table.{Table, at, Full}
use Rattle.table.specs.Nodes.{present, inner}
use Rattle.record.specs.declared.answer.Record.{Record}
use Rattle.rules.specs.Slots.{up, next}
use Rattle.rules.specs.Listing.{pair_entry, pair_listed, levels_listed, ring_listed}
use Rattle.theorems_soundness.specs.FactsOfBlossoms.{DefectInside}
use Rattle.theorems_soundness.specs.Facts.{Rest}
use Rattle.theorems_requests.proofs.InsideCounts.{nodes_inside}
use Rattle.theorems_requests.proofs.NestedCalls.{Joined, after_of, on_every_pair, on_every_node}
use Rattle.theorems_requests.proofs.ListingLaws.{inside_listed, inside_defect_listed, inside_blossom_listed, pair-listed, last_level_listed, level_listed, ring_end_listed, ring-pair-listed}

module _ (t : Table) (full : Full t) (rest : Rest t) where
  SamePair : ℕ → ℕ → ℕ → Type 0
  SamePair k n peer = pair_listed (suc k) n peer (at t n).link t ≡ pair_listed k n peer (at t n).link t

  SameInside : ℕ → ℕ → ℕ → Type 0
  SameInside k n d = inside_listed (suc k) n d t ≡ inside_listed k n d t

  SameLevels : ℕ → ℕ → ℕ → Type 0
  SameLevels k b d = levels_listed (suc k) b d t ≡ levels_listed k b d t

  SameRing : ℕ → ℕ → ℕ → List ℕ → Type 0
  SameRing k d n cs = ring_listed (suc k) d n t ≡ ring_listed k d n t

  pair_same : (k n peer : ℕ) → Joined t n peer → SameInside k n (at t n).link.touch → SameInside k peer (at t n).link.peer_touch → SamePair (suc k) n peer
  unfolding SameInside SamePair
  pair_same k n peer j p q =
      let l = (at t n).link in
      pair-listed t (suc k) n peer l ∙ ap₂ (λ (x y : List Record). (x ++ y) ++ (pair_entry l ∷ [])) p q ∙ sym (pair-listed t k n peer l)

  defect_same : (k n : ℕ) → n < t.begin → SameInside k n n
  unfolding SameInside
  defect_same k n l = inside_defect_listed t (suc k) n n l ∙ sym (inside_defect_listed t k n n l)

  blossom_same : (k b d : ℕ) → t.begin ≤ b → d < t.begin → SameLevels k b d → SameInside k b d
  unfolding SameInside SameLevels
  blossom_same k b d l h e = inside_blossom_listed t (suc k) b d l ∙ e ∙ sym (inside_blossom_listed t k b d l)

  last_same : (k b d : ℕ) (i : T (inner t d)) → up t d ≡ b → SameRing k d (next t d) (after_of t full rest d i) → SameLevels (suc k) b d
  unfolding SameLevels SameRing
  last_same k b d i e p = last_level_listed t (suc k) b d i e ∙ ap (λ (x : List Record). x ++ []) p ∙ sym (last_level_listed t k b d i e)

  level_same : (k b d : ℕ) (i : T (inner t d)) → up t d ≢ b → SameRing k d (next t d) (after_of t full rest d i) → SameLevels k b (up t d) → SameLevels (suc k) b d
  unfolding SameLevels SameRing
  level_same k b d i n p q = level_listed t (suc k) b d i n ∙ ap₂ (λ (x y : List Record). x ++ y) p q ∙ sym (level_listed t k b d i n)

  end_same : (k d : ℕ) → SameRing k d d []
  unfolding SameRing
  end_same k d = ring_end_listed t (suc k) d ∙ sym (ring_end_listed t k d)

  two_same : (k d n : ℕ) (cs : List ℕ) → n ≢ d → SamePair k n (next t n) → SameRing k d (next t (next t n)) cs → SameRing (suc k) d n (n ∷ (next t n ∷ cs))
  unfolding SameRing SamePair
  two_same k d n cs h p q = ring-pair-listed t (suc k) d n h ∙ ap₂ (λ (x y : List Record). x ++ y) p q ∙ sym (ring-pair-listed t k d n h)

  one_more_pair : (k n peer : ℕ) → Joined t n peer → nodes_inside t n + nodes_inside t peer ≤ suc k → SamePair k n peer
  one_more_pair =
      on_every_pair t full rest SamePair SameInside SameLevels SameRing defect_same blossom_same pair_same last_same level_same end_same two_same

  one_more_inside : (k n d : ℕ) → T (present t n) → DefectInside t n d → nodes_inside t n ≤ suc k → SameInside k n d
  one_more_inside =
      on_every_node t full rest SamePair SameInside SameLevels SameRing defect_same blossom_same pair_same last_same level_same end_same two_same

  -- so a budget that is enough lists the same as every larger one
  pub pair_enough : (k m n peer : ℕ) → Joined t n peer → nodes_inside t n + nodes_inside t peer ≤ suc k → pair_listed (m + k) n peer (at t n).link t ≡ pair_listed k n peer (at t n).link t
  unfolding SamePair
  pair_enough k zero n peer j l = rw zero-add
  pair_enough k (suc m) n peer j l = rw suc-add (one_more_pair (m + k) n peer j (omega arith) ∙ pair_enough k m n peer j l)

  pub inside_enough : (k m n d : ℕ) → T (present t n) → DefectInside t n d → nodes_inside t n ≤ suc k → inside_listed (m + k) n d t ≡ inside_listed k n d t
  unfolding SameInside
  inside_enough k zero n d p h l = rw zero-add
  inside_enough k (suc m) n d p h l = rw suc-add (one_more_inside (m + k) n d p h (omega arith) ∙ inside_enough k m n d p h l)
