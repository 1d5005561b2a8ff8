-- The pairs listed inside a node name every defect inside it but the touched one, once each; those listed of a pair name every
-- defect inside its two nodes, once each.
use mathlib.Core.Path.{◌≡◌, refl, ap, ◌∙◌}
use mathlib.Core.Logic.{◌≢◌}
use mathlib.Core.List.{List, [], ◌∷◌, ◌++◌}
use Prim.Native.Nat.{ℕ, suc, ◌+◌, ◌≤◌, ◌<◌}
use native.Mathlib.Omega.{arith}
use lib.Dec.{T}
use Rattle.slot.specs.Slot.{Link}
use Rattle.table.specs.Table.{Table, at, Full}
use Rattle.table.specs.Nodes.{present, inner}
use Rattle.record.specs.declared.answer.Record.{Record}
use Rattle.rules.specs.Slots.{up, next}
use Rattle.rules.specs.Listing.{pair_entry, virtual_entry, pair_listed, levels_listed, ring_listed}
use Rattle.theorems_soundness.specs.FactsOfBlossoms.{DefectInside}
use Rattle.theorems_soundness.specs.Facts.{Rest}
use Rattle.theorems_requests.specs.Named.{named_by, named_in, one, times}
use Rattle.theorems_requests.proofs.CountLaws.{times-append, total}
use Rattle.theorems_requests.proofs.InsideCounts.{held, nodes_inside, held_above, held_defect}
use Rattle.theorems_requests.proofs.NestedCalls.{Joined, after_of, on_every_pair, on_every_node}
use Rattle.theorems_requests.proofs.ListingLaws.{inside_listed, inside_defect_listed, inside_blossom_listed, pair-listed, last_level_listed, level_listed, ring_end_listed, ring-pair-listed}

-- how often e is named
unfoldable pub often : ℕ → List Record → ℕ
often e rs = times e (named_in rs)

module _ (e : ℕ) where
  pub often_none : often e [] ≡ 0
  unfolding often
  often_none = refl

  pub often_append : (xs ys : List Record) → often e (xs ++ ys) ≡ often e xs + often e ys
  unfolding often
  often_append [] ys = omega arith
  often_append (r ∷ xs) ys =
      omega (arith, times-append e (named_by r) (named_in (xs ++ ys)), times-append e (named_by r) (named_in xs), often_append xs ys)

  pub often_pair : (l : Link) → often e (pair_entry l ∷ []) ≡ one e l.touch + one e l.peer_touch
  unfolding often
  often_pair l = omega arith

  pub often_virtual : (l : Link) → often e (virtual_entry l ∷ []) ≡ one e l.touch
  unfolding often
  often_virtual l = omega arith

module _ (t : Table) (full : Full t) (rest : Rest t) (e : ℕ) (defect : e < t.begin) where
  PairNames : ℕ → ℕ → ℕ → Type 0
  PairNames k n peer = often e (pair_listed k n peer (at t n).link t) ≡ held t e n + held t e peer

  InsideNames : ℕ → ℕ → ℕ → Type 0
  InsideNames k n d = often e (inside_listed k n d t) + one e d ≡ held t e n

  LevelsName : ℕ → ℕ → ℕ → Type 0
  LevelsName k b d = often e (levels_listed k b d t) + held t e d ≡ held t e b

  RingNames : ℕ → ℕ → ℕ → List ℕ → Type 0
  RingNames k d n cs = often e (ring_listed k d n t) ≡ total (held t e) cs

  defect_names : (k n : ℕ) → n < t.begin → InsideNames k n n
  unfolding InsideNames
  defect_names k n l = omega (arith, ap (often e) (inside_defect_listed t k n n l), often_none e, held_defect t full rest e n l)

  blossom_names : (k b d : ℕ) → t.begin ≤ b → d < t.begin → LevelsName k b d → InsideNames k b d
  unfolding InsideNames LevelsName
  blossom_names k b d l h p = omega (arith, p, ap (often e) (inside_blossom_listed t k b d l), held_defect t full rest e d h)

  pair_names : (k n peer : ℕ) → Joined t n peer → InsideNames k n (at t n).link.touch → InsideNames k peer (at t n).link.peer_touch → PairNames (suc k) n peer
  unfolding InsideNames PairNames
  pair_names k n peer j p q =
      let l = (at t n).link in
      let x = inside_listed k n l.touch t in
      let y = inside_listed k peer l.peer_touch t in
      omega (arith, p, q, ap (often e) (pair-listed t k n peer l), often_append e (x ++ y) (pair_entry l ∷ []), often_append e x y, often_pair e l)

  last_names : (k b d : ℕ) (i : T (inner t d)) → up t d ≡ b → RingNames k d (next t d) (after_of t full rest d i) → LevelsName (suc k) b d
  unfolding LevelsName RingNames
  last_names k b d i u p =
      omega (arith, p, ap (held t e) u, ap (often e) (last_level_listed t k b d i u), often_append e (ring_listed k d (next t d) t) [], often_none e, held_above t full rest d i e defect)

  level_names : (k b d : ℕ) (i : T (inner t d)) → up t d ≢ b → RingNames k d (next t d) (after_of t full rest d i) → LevelsName k b (up t d) → LevelsName (suc k) b d
  unfolding LevelsName RingNames
  level_names k b d i n p q =
      omega (arith, p, q, ap (often e) (level_listed t k b d i n), often_append e (ring_listed k d (next t d) t) (levels_listed k b (up t d) t), held_above t full rest d i e defect)

  end_names : (k d : ℕ) → RingNames k d d []
  unfolding RingNames
  end_names k d = ap (often e) (ring_end_listed t k d) ∙ often_none e

  two_names : (k d n : ℕ) (cs : List ℕ) → n ≢ d → PairNames k n (next t n) → RingNames k d (next t (next t n)) cs → RingNames (suc k) d n (n ∷ (next t n ∷ cs))
  unfolding RingNames PairNames
  two_names k d n cs h p q =
      let x = pair_listed k n (next t n) (at t n).link t in
      let y = ring_listed k d (next t (next t n)) t in
      omega (arith, p, q, ap (often e) (ring-pair-listed t k d n h), often_append e x y)

  pub pair_names_all : (k n peer : ℕ) → Joined t n peer → nodes_inside t n + nodes_inside t peer ≤ suc k → often e (pair_listed k n peer (at t n).link t) ≡ held t e n + held t e peer
  unfolding PairNames
  pair_names_all =
      on_every_pair t full rest PairNames InsideNames LevelsName RingNames defect_names blossom_names pair_names last_names level_names end_names two_names

  pub inside_names_all : (k n d : ℕ) → T (present t n) → DefectInside t n d → nodes_inside t n ≤ suc k → often e (inside_listed k n d t) + one e d ≡ held t e n
  unfolding InsideNames
  inside_names_all =
      on_every_node t full rest PairNames InsideNames LevelsName RingNames defect_names blossom_names pair_names last_names level_names end_names two_names
