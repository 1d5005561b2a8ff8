-- "Children off the two paths move to the front of its list one by one": along a path and at the meeting node, what stands in
-- each slot, whatever the budgets of the walks, if they are long enough.
use mathlib.Core.Path.{◌≡◌, refl, ap, sym, ◌∙◌}
use mathlib.Core.Logic.{◌≢◌, ◌↔◌, ◌⊎◌, inl, inr}
use mathlib.Core.List.{List, [], ◌∷◌, ◌++◌}
use Prim.Native.Nat.{ℕ, zero, suc, ◌≤◌, ◌<◌}
use native.Mathlib.Omega.{arith}
use lib.Dec.{T}
use lib.ListN.{length}
use Rattle.slot.specs.Number.{none}
use Rattle.slot.specs.Slot.{Slot}
use Rattle.table.specs.Table.{Table, at}
use Rattle.table.specs.Nodes.{outer}
use Rattle.rules.specs.Act.{choose}
use Rattle.rules.specs.Slots.{up, next}
use Rattle.rules.specs.Blossom.{moved, moved_up_to, last_below}
use Rattle.theorems_soundness.specs.Chain.{◌∈◌, NoDup, Chain}
use Rattle.theorems_soundness.specs.FactsOfNodes.{Children}
use Rattle.theorems_soundness.proofs.Reflect.{eqb_yes, eqb_no, same_or_not}
use Rattle.theorems_soundness.proofs.Chains.{chain_frame, chain_fits}
use Rattle.theorems_soundness.proofs.Past.{at_none, outer_below}
use Rattle.theorems_soundness.specs.RuleFacts.{Whole}
use Rattle.theorems_soundness.specs.WithBudgets.{moved_up_to_by}
use Rattle.theorems_soundness.proofs.Adopting.{Taken, taken_none, Moved, Untaken, moved_along}
use Rattle.theorems_soundness.proofs.RingOfPaths.{onto, last_or, InRingOnly, Stepped}
use Rattle.theorems_soundness.proofs.Placing.{Placed}

-- ---- the walks, a step at a time

upto_end : (lists k b m below n : ℕ) (v : Table) → n ≡ m → moved_up_to_by lists k b m below n v ≡ v
unfolding moved_up_to_by choose
upto_end lists zero b m below n v e = refl
upto_end lists (suc k) b m below n v e = rw (eqb_yes n m e)

upto_on : (lists k b m below n : ℕ) (v : Table) → n ≢ m → moved_up_to_by lists (suc k) b m below n v ≡ moved_up_to_by lists k b m n (up v n) (moved lists b below below (at v n).first_child v)
unfolding moved_up_to_by choose
upto_on lists k b m below n v d = rw (eqb_no n m d)

rule_end : (k b m below n : ℕ) (v : Table) → n ≡ m → moved_up_to k b m below n v ≡ v
unfolding moved_up_to choose
rule_end zero b m below n v e = refl
rule_end (suc k) b m below n v e = rw (eqb_yes n m e)

rule_on : (k b m below n : ℕ) (v : Table) → n ≢ m → moved_up_to (suc k) b m below n v ≡ moved_up_to k b m n (up v n) (moved 256 b below below (at v n).first_child v)
unfolding moved_up_to choose
rule_on k b m below n v d = rw (eqb_no n m d)

-- .. which the rule has as 256
pub lists_of_256 : (k b m below n : ℕ) (v : Table) → moved_up_to k b m below n v ≡ moved_up_to_by 256 k b m below n v
unfolding moved_up_to moved_up_to_by
lists_of_256 zero b m below n v = refl
lists_of_256 (suc k) b m below n v =
    elim (same_or_not n m) [
      | inl e ↦ rule_end (suc k) b m below n v e ∙ sym (upto_end 256 (suc k) b m below n v e)
      | inr d ↦ rule_on k b m below n v d ∙ lists_of_256 k b m n (up v n) (moved 256 b below below (at v n).first_child v) ∙ sym (upto_on 256 k b m below n v d)
    ]

last_end : (k m below n : ℕ) (v : Table) → n ≡ m → last_below k m below n v ≡ below
unfolding last_below choose
last_end zero m below n v e = refl
last_end (suc k) m below n v e = rw (eqb_yes n m e)

last_on : (k m below n : ℕ) (v : Table) → n ≢ m → last_below (suc k) m below n v ≡ last_below k m n (up v n) v
unfolding last_below choose
last_on k m below n v d = rw (eqb_no n m d)

-- ---- what has moved

-- a child off the paths of a node that is done
abbrev pub Off : Table → List ℕ → List ℕ → ℕ → Type 0
Off t ring done j = T (outer t j) × (up t j ∈ done) × ¬ (j ∈ ring)

-- u is v, where the blossom b has its place, but that b has these children
pub record Gathered (t : Table) (b : ℕ) (ring : List ℕ) (v : Table) (done : List ℕ) (u : Table) : Type 0 where
  pub list : List ℕ
  pub taken : Taken v b list u
  pub exact : (j : ℕ) → (j ∈ list) ↔ Off t ring done j

-- .. after n's children but e and f, and after those of the nodes zs of a path from n
pub record NodeGathered (t : Table) (b : ℕ) (ring : List ℕ) (v : Table) (n e f : ℕ) (done : List ℕ) (u : Table) : Type 0 where
  pub table : Table
  pub reached : (k : ℕ) → 256 ≤ k → moved k b e f (at u n).first_child u ≡ table
  pub gathered : Gathered t b ring v (n ∷ done) table

pub record PathGathered (t : Table) (b m : ℕ) (ring : List ℕ) (v : Table) (below n : ℕ) (zs done : List ℕ) (u : Table) : Type 0 where
  pub table : Table
  pub reached : (lists k : ℕ) → 256 ≤ lists → length zs ≤ k → moved_up_to_by lists k b m below n u ≡ table
  pub gathered : Gathered t b ring v (onto zs done) table

-- v is t with the blossom b in the place of m, and the ring is of outer nodes below m's parent
pub record Site (t : Table) (b m : ℕ) (ring : List ℕ) (v : Table) : Type 0 where
  pub placed : Placed t b m v
  pub left : b < 256
  pub not_new : (j : ℕ) → T (outer t j) → j ≢ b
  pub outers : (j : ℕ) → j ∈ ring → T (outer t j)
  pub not_above : (j : ℕ) → j ∈ ring → j ≢ up t m

module _ {t : Table} {b m : ℕ} {ring : List ℕ} {v : Table} (w : Whole t) (site : Site t b m ring v) where
  ring_placed_lem : (j : ℕ) → j ∈ ring → at v j ≡ at t j
  ring_placed_lem j i = site.placed.other j (site.not_new j (site.outers j i)) (site.not_above j i)

  -- siblings and parents are as they were
  pub sibling_placed : (j : ℕ) → j ≢ b → next v j ≡ next t j
  sibling_placed j d = go (same_or_not j (up t m)) (same_or_not (up t m) none)
    where
      go : (j ≡ up t m) ⊎ (j ≢ up t m) → (up t m ≡ none) ⊎ (up t m ≢ none) → next v j ≡ next t j
      go (inr q) h = ap (λ (s : Slot). s.sibling) (site.placed.other j d q)
      go (inl e) (inl z) = rw (e ∙ z) (ap (λ (s : Slot). s.sibling) (at_none v site.placed.full ∙ sym (at_none t w.full)))
      go (inl e) (inr q) = rw e (ap (λ (s : Slot). s.sibling) (site.placed.above q))

  -- ---- what has moved so far

  pub gathered_none : (at v b).first_child ≡ none → Gathered t b ring v [] v
  gathered_none e = record { list = []; taken = taken_none v b site.placed.full e; exact = λ j. (λ i. absurd i, λ q. q.1) }

  pub ring_untouched : (done : List ℕ) (u : Table) → Gathered t b ring v done u → (j : ℕ) → j ∈ ring → at u j ≡ at t j
  ring_untouched done u g j i = g.taken.other j (site.not_new j (site.outers j i)) (λ k. ((g.exact j).0 k).2 i) ∙ ring_placed_lem j i

  -- ---- one node's children

  module _ (n e f : ℕ) (done : List ℕ) (u : Table) (g : Gathered t b ring v done u) (on : n ∈ ring) (new : ¬ (n ∈ done)) (only : InRingOnly t ring n e f) where
    outer_n : T (outer t n)
    outer_n = site.outers n on

    kids : Children t n
    kids = w.core.children n outer_n

    chain : Chain (next v) (at t n).first_child kids.list
    chain = chain_frame (next t) (next v) (at t n).first_child kids.list (λ j i. sym (sibling_placed j (site.not_new j ((kids.exact j).0 i).0))) kids.chain

    ok : (j : ℕ) → j ∈ kids.list → Untaken b g.list j
    ok j i =
        let k = (kids.exact j).0 i in
        (outer_below t w.full j k.0, site.not_new j k.0, λ q. new (rw k.1 at ((g.exact j).0 q).1))

    walk : Moved v b e f (at t n).first_child kids.list g.list u
    walk = moved_along v b e f site.left (at t n).first_child kids.list g.list u g.taken chain ok

    short : length kids.list ≤ 256
    short = chain_fits (next t) 256 (at t n).first_child kids.list kids.chain (λ j i. (ok j i).0)

    told : (j : ℕ) → (j ∈ walk.list) ↔ Off t ring (n ∷ done) j
    told j = (λ i. to ((walk.exact j).0 i), from)
      where
        to : (j ∈ g.list) ⊎ ((j ∈ kids.list) × (j ≢ e) × (j ≢ f)) → Off t ring (n ∷ done) j
        to (inl i) = let q = (g.exact j).0 i in (q.0, inr q.1, q.2)
        to (inr (i, p, q)) =
            let k = (kids.exact j).0 i in
            (k.0, inl k.1, λ r. elim ((only j k).0 r) [ inl z ↦ p z | inr z ↦ q z ])

        from : Off t ring (n ∷ done) j → j ∈ walk.list
        from (o, inl z, r) = (walk.exact j).1 (inr ((kids.exact j).1 (o, z), λ q. r ((only j (o, z)).1 (inl q)), λ q. r ((only j (o, z)).1 (inr q))))
        from (o, inr i, r) = (walk.exact j).1 (inl ((g.exact j).1 (o, i, r)))

    pub node_gathers : NodeGathered t b ring v n e f done u
    node_gathers =
        record {
          table = walk.table;
          reached = λ k l. ap (λ (c : ℕ). moved k b e f c u) (ap (λ (s : Slot). s.first_child) (ring_untouched done u g n on)) ∙ walk.reached k (omega (arith, short));
          gathered = record { list = walk.list; taken = walk.taken; exact = told };
        }

  -- ---- the nodes of a path below m

  -- to be passed: in the ring, below m and not done
  abbrev Next : List ℕ → ℕ → Type 0
  Next done z = (z ∈ ring) × (z ≢ m) × ¬ (z ∈ done)

  abbrev Along : List ℕ → List ℕ → Type 0
  Along above zs =
      (below n : ℕ) (done : List ℕ) (u : Table)
      → Chain (up t) n (zs ++ (m ∷ above))
      → Stepped t ring below zs
      → ((z : ℕ) → z ∈ zs → Next done z)
      → NoDup zs
      → Gathered t b ring v done u
      → PathGathered t b m ring v below n zs done u

  one_more : (above zs : List ℕ) (below z : ℕ) (done : List ℕ) (u : Table) → Chain (up t) (up t z) (zs ++ (m ∷ above)) → Stepped t ring below (z ∷ zs) → ((j : ℕ) → j ∈ (z ∷ zs) → Next done j) → NoDup (z ∷ zs) → Gathered t b ring v done u → Along above zs → PathGathered t b m ring v below z (z ∷ zs) done u
  one_more above zs below z done u c s ok once g ih =
      record { table = rest.table; reached = reached; gathered = rest.gathered }
    where
      mine : Next done z
      mine = ok z (inl refl)

      first : NodeGathered t b ring v z below below done u
      first = node_gathers z below below done u g mine.0 mine.2 s.0

      later : (j : ℕ) → j ∈ zs → Next (z ∷ done) j
      later j i = let q = ok j (inr i) in (q.0, q.1, elim [ inl e ↦ once.0 (rw e at i) | inr k ↦ q.2 k ])

      rest : PathGathered t b m ring v z (up t z) zs (z ∷ done) first.table
      rest = ih z (up t z) (z ∷ done) first.table c s.1 later once.1 first.gathered

      reached : (lists k : ℕ) → 256 ≤ lists → length (z ∷ zs) ≤ k → moved_up_to_by lists k b m below z u ≡ rest.table
      reached lists zero h l = absurd (omega arith)
      reached lists (suc k) h l =
          upto_on lists k b m below z u mine.1
          ∙ ap (λ (x : Table). moved_up_to_by lists k b m z (up u z) x) (first.reached lists h)
          ∙ ap (λ (q : ℕ). moved_up_to_by lists k b m z q first.table) (ap (λ (r : Slot). r.parent) (ring_untouched done u g z mine.0))
          ∙ rest.reached lists k h (omega arith)

  start_is : (below n z : ℕ) (zs done : List ℕ) (u : Table) → n ≡ z → PathGathered t b m ring v below z zs done u → PathGathered t b m ring v below n zs done u
  start_is below n z zs done u e r = rw e r

  pub path_gathers : (above zs : List ℕ) → Along above zs
  path_gathers above [] below n done u c s ok once g = record { table = u; reached = λ lists k h l. upto_end lists k b m below n u c.0; gathered = g }
  path_gathers above (z ∷ zs) below n done u c s ok once g =
      start_is below n z (z ∷ zs) done u c.0 (one_more above zs below z done u c.2 s ok once g (path_gathers above zs))

  -- ---- the last node before m

  pub last_found : (above zs : List ℕ) (below n k : ℕ) → Chain (up t) n (zs ++ (m ∷ above)) → ((z : ℕ) → z ∈ zs → (z ∈ ring) × (z ≢ m)) → length zs ≤ k → last_below k m below n v ≡ last_or below zs
  last_found above [] below n k c ok l = last_end k m below n v c.0
  last_found above (z ∷ zs) below n zero c ok l = absurd (omega arith)
  last_found above (z ∷ zs) below n (suc k) c ok l =
      let q = ok z (inl refl) in
      ap (λ (j : ℕ). last_below (suc k) m below j v) c.0
      ∙ last_on k m below z v q.1
      ∙ ap (λ (j : ℕ). last_below k m z j v) (ap (λ (s : Slot). s.parent) (ring_placed_lem z q.0))
      ∙ last_found above zs z (up t z) k c.2 (λ j i. ok j (inr i)) (omega arith)
