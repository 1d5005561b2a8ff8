-- What follows from S7 for the ways up of outer nodes: they are lists, each is its node and the way up of its parent, they end
-- in roots, and two of them that share a node share all above it.
use mathlib.Core.Path.{◌≡◌, refl, ap, sym, ◌∙◌}
use mathlib.Core.Logic.{◌≢◌, ◌↔◌, ◌⊎◌, inl, inr}
use mathlib.Core.Bool.{not}
use mathlib.Core.List.{List, [], ◌∷◌, ◌++◌}
use Prim.Native.Nat.{ℕ, zero, suc, ◌≤◌}
use native.Mathlib.Omega.{arith}
use lib.Dec.{T, T_not}
use lib.ListN.{length}
use Rattle.lists.specs.Choice.{pick}
use Rattle.slot.specs.Number.{none}
use Rattle.table.specs.Table.{Table, Full}
use Rattle.table.specs.Nodes.{outer}
use Rattle.rules.specs.Slots.{up}
use Rattle.rules.specs.Walk.{is_in, first_shared}
use Rattle.rules.specs.Trees.{upward, root_within, root, same_tree, meeting}
use Rattle.theorems_soundness.specs.Chain.{◌∈◌, NoDup, Chain}
use Rattle.theorems_soundness.specs.Facts.{Core}
use Rattle.theorems_soundness.proofs.Reflect.{tests, eqb_yes, eqb_no, test_case, test_true, test_false, is_in↔}
use Rattle.theorems_soundness.proofs.Chains.{end_of, walk_chain, chain_unique, chain_nodup, chain_end, chain_same_end, chain_split}
use Rattle.theorems_soundness.proofs.Members.{in_right}
use Rattle.theorems_soundness.proofs.OuterLists.{upward-outer, upward_fits, upward→ends}
use Rattle.theorems_soundness.proofs.ChildLaws.{above_outer, outer_some}

-- the climb of `root`, with budget enough, comes to the end of the way up
pub root_end : (t : Table) (k n : ℕ) (cs : List ℕ) → Chain (up t) n cs → n ≢ none → length cs ≤ suc k → root_within k t n ≡ end_of cs
unfolding root_within
root_end t k n [] p d l = absurd (d p)
root_end t zero n (c ∷ []) p d l = rw (p.0, eqb_yes (up t c) none p.2)
root_end t zero n (c ∷ (x ∷ cs)) p d l = absurd (omega arith)
root_end t (suc k) n (c ∷ []) p d l = rw (p.0, eqb_yes (up t c) none p.2)
root_end t (suc k) n (c ∷ (x ∷ cs)) p d l =
    rw (p.0, eqb_no (up t c) none p.2.1) (root_end t k (up t c) (x ∷ cs) p.2 p.2.1 (omega arith))

-- ---- the first that two lists share

-- m is on both, and nothing before it on the first list is on the other
pub record FirstShared (xs ys : List ℕ) (m : ℕ) : Type 0 where
  pub before : List ℕ
  pub after : List ℕ
  pub split : xs ≡ before ++ (m ∷ after)
  pub on_other : m ∈ ys
  pub none_before : (j : ℕ) → j ∈ before → ¬ (j ∈ ys)

one_more : (y : ℕ) (xs ys : List ℕ) (m : ℕ) → ¬ (y ∈ ys) → FirstShared xs ys m → FirstShared (y ∷ xs) ys m
one_more y xs ys m d f =
    record { before = y ∷ f.before; after = f.after; split = ap (λ (l : List ℕ). y ∷ l) f.split; on_other = f.on_other; none_before = go }
  where
    go : (j : ℕ) → j ∈ (y ∷ f.before) → ¬ (j ∈ ys)
    go j (inl e) n = d (rw e at n)
    go j (inr k) n = f.none_before j k n

pub first_shared_lem : (xs ys : List ℕ) (x : ℕ) → x ∈ xs → x ∈ ys → FirstShared xs ys (first_shared xs ys)
unfolding first_shared
first_shared_lem [] ys x m n = absurd m
first_shared_lem (y ∷ xs) ys x m n = go (test_case (is_in y ys)) m (first_shared_lem xs ys x)
  where
    go :
        T (is_in y ys) ⊎ T (not (is_in y ys))
        → (x ≡ y) ⊎ (x ∈ xs)
        → (x ∈ xs → x ∈ ys → FirstShared xs ys (first_shared xs ys))
        → FirstShared (y ∷ xs) ys (pick (is_in y ys) y (first_shared xs ys))
    go (inl h) k ih =
        rw (test_true (is_in y ys) h) (record { before = []; after = xs; split = refl; on_other = (is_in↔ y ys).0 h; none_before = λ j k. absurd k })
    go (inr h) (inl e) ih = absurd (T_not (is_in y ys) h ((is_in↔ y ys).1 (rw e at n)))
    go (inr h) (inr k) ih =
        let d = T_not (is_in y ys) h in
        rw (test_false (is_in y ys) d) (one_more y xs ys (first_shared xs ys) (λ i. d ((is_in↔ y ys).1 i)) (ih k n))

module _ (t : Table) (full : Full t) (core : Core t) where
  -- ---- the way up

  pub upward_chain : (n : ℕ) → T (outer t n) → Chain (up t) n (upward t n)
  upward_chain n o = walk_chain (up t) 257 n (upward→ends t full core.kind n o (core.upward n o))

  pub upward_all_outer : (n : ℕ) → T (outer t n) → (x : ℕ) → x ∈ upward t n → T (outer t x)
  upward_all_outer n o = upward-outer t full core.kind n o (upward t n) (upward_chain n o)

  pub upward_once : (n : ℕ) → T (outer t n) → NoDup (upward t n)
  upward_once n o = chain_nodup (up t) n (upward t n) (upward_chain n o)

  pub upward_short : (n : ℕ) → T (outer t n) → length (upward t n) ≤ 256
  upward_short n o = upward_fits t full core.kind n o (upward t n) (upward_chain n o)

  -- a list that is the way up
  pub upward_is : (n : ℕ) → T (outer t n) → (cs : List ℕ) → Chain (up t) n cs → upward t n ≡ cs
  upward_is n o cs c = chain_unique (up t) n (upward t n) cs (upward_chain n o) c

  pub upward_top : (n : ℕ) → T (outer t n) → up t n ≡ none → upward t n ≡ n ∷ []
  upward_top n o e = upward_is n o (n ∷ []) (refl, outer_some t full core n o, e)

  pub upward_step : (n : ℕ) → T (outer t n) → up t n ≢ none → upward t n ≡ n ∷ upward t (up t n)
  upward_step n o d =
      upward_is n o (n ∷ upward t (up t n)) (refl, outer_some t full core n o, upward_chain (up t n) (above_outer t full core n o d))

  -- ---- the root

  pub root_is_end : (n : ℕ) → T (outer t n) → root t n ≡ end_of (upward t n)
  root_is_end n o = root_end t 256 n (upward t n) (upward_chain n o) (outer_some t full core n o) (omega (arith, upward_short n o))

  pub root_above_lem : (n : ℕ) → T (outer t n) → root t n ∈ upward t n
  root_above_lem n o = rw (root_is_end n o) (chain_end (up t) n (upward t n) (upward_chain n o) (outer_some t full core n o)).0

  pub root_parentless : (n : ℕ) → T (outer t n) → up t (root t n) ≡ none
  root_parentless n o = rw (root_is_end n o) (chain_end (up t) n (upward t n) (upward_chain n o) (outer_some t full core n o)).1

  pub root-outer : (n : ℕ) → T (outer t n) → T (outer t (root t n))
  root-outer n o = upward_all_outer n o (root t n) (root_above_lem n o)

  -- all on a way up have one root
  pub root_shared : (n : ℕ) → T (outer t n) → (x : ℕ) → x ∈ upward t n → root t x ≡ root t n
  root_shared n o x m =
      let p = upward_all_outer n o x m in
      root_is_end x p ∙ chain_same_end (up t) n (upward t n) (upward_chain n o) x (upward t x) m (upward_chain x p) ∙ sym (root_is_end n o)

  pub same_tree↔ : (a b : ℕ) → T (outer t a) → T (same_tree t a b) ↔ (root t a ≡ root t b)
  same_tree↔ a b o =
      let d : root t a ≢ none = outer_some t full core (root t a) (root-outer a o) in
      (λ h. let r = simp tests at h in r.1, λ e. simp tests (d, e))

  -- ---- the meeting node

  -- two ways up of one tree share the root at least, so there is a first that they share
  pub meeting_found : (a b : ℕ) → T (outer t a) → T (outer t b) → root t a ≡ root t b → FirstShared (upward t a) (upward t b) (meeting t a b)
  meeting_found a b p q e = first_shared_lem (upward t a) (upward t b) (root t a) (root_above_lem a p) (rw e (root_above_lem b q))

  -- two ways up that share a node are of one tree
  pub shared_root : (a b x : ℕ) → T (outer t a) → T (outer t b) → x ∈ upward t a → x ∈ upward t b → root t a ≡ root t b
  shared_root a b x p q m n = sym (root_shared a p x m) ∙ root_shared b q x n

  -- from a shared node on both ways are one
  pub upward_from : (n : ℕ) → T (outer t n) → (before : List ℕ) (x : ℕ) (after : List ℕ) → upward t n ≡ before ++ (x ∷ after) → upward t x ≡ x ∷ after
  upward_from n o before x after e =
      let m : x ∈ upward t n = rw e (in_right before (x ∷ after) x (inl refl)) in
      upward_is x (upward_all_outer n o x m) (x ∷ after) (chain_split (up t) n before x after (rw e at (upward_chain n o)))
