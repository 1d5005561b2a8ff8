-- Requests that concern no common node concern none after another request that concerns none of theirs.
use mathlib.Core.Path.{◌≡◌, refl}
use mathlib.Core.Logic.{◌≢◌, ◌⊎◌, inl, inr}
use mathlib.Core.Bool.{◌&&◌}
use mathlib.Core.List.{List, [], ◌∷◌}
use Prim.Native.Nat.{ℕ}
use lib.Dec.{T, eqb, eqb→eq}
use Rattle.slot.specs.State.{is_outer}
use Rattle.slot.specs.Number.{none}
use Rattle.table.specs.Table.{Table, at}
use Rattle.table.specs.Nodes.{outer}
use Rattle.table.specs.declared.place.Place.{Place}
use Rattle.table.specs.declared.place.Place.TheVariants as P
use Rattle.table.specs.Place.{place, in_tree}
use Rattle.record.specs.declared.request.Request.{Request}
use Rattle.record.specs.declared.request.Request.TheVariants as Q
use Rattle.rules.specs.Slots.{is_some, up, next}
use Rattle.theorems_soundness.specs.Chain.{Chain}
use Rattle.rules.specs.Trees.{seen, root, same_tree}
use Rattle.rules.specs.Calls.{act_of}
use Rattle.rules.specs.Concerns.{named, concerned_at, concerns, is_making}
use Rattle.theorems_soundness.proofs.Reflect.{and→, same_or_not}
use Rattle.theorems_soundness.proofs.Chains.{chain-all}
use Rattle.theorems_soundness.proofs.ChildLaws.{above_outer}
use Rattle.theorems_soundness.specs.RuleFacts.{Whole}
use Rattle.theorems_soundness.proofs.WaysUp.{upward_top, root_is_end}
use Rattle.theorems_soundness.proofs.Trimming.{root-up}
use Rattle.theorems_requests.proofs.Within.{Closed, Alike}
use Rattle.theorems_requests.proofs.ReadingWithin.{seen_alike, root_alike, root_in, same_tree_alike}
use Rattle.theorems_requests.proofs.ConcernedNodes.{seen-loaded, seen_in_tree}
use Rattle.theorems_requests.specs.Orders.{Asked, ApartIn}
use Rattle.theorems_requests.proofs.Areas.{InArea, concerned_by, by_concerned, named_in}
use Rattle.theorems_requests.proofs.RequestsWithin.{makes_alike}
use Rattle.theorems_requests.proofs.TwoRequests.{alike_after}

-- ---- a closed set that holds a root holds its tree

module _ (S : ℕ → Type 0) (t : Table) (w : Whole t) (closed : Closed S t) where
  -- .. with a node all its children
  child_in : (n c : ℕ) → S n → T (outer t n) → T (outer t c) → up t c ≡ n → S c
  child_in n c m o p e =
      let k = w.core.children n o in
      chain-all (next t) S (at t n).first_child k.list (λ j i d. (closed.pointers j i).sibling) (λ _. (closed.pointers n m).child) k.chain c ((k.exact c).1 (p, e))

  down_in : (j : ℕ) (cs : List ℕ) → Chain (up t) j cs → T (outer t j) → S (root t j) → S j
  down_in j [] c o m = rw c closed.nothing
  down_in j (x ∷ cs) c o m = go (same_or_not (up t j) none) (down_in (up t x) cs c.2)
    where
      go : (up t j ≡ none) ⊎ (up t j ≢ none) → (T (outer t (up t x)) → S (root t (up t x)) → S (up t x)) → S j
      go (inl e) ih = rw (root_is_end t w.full w.core j o, upward_top t w.full w.core j o e) at m
      go (inr d) ih =
          let a = above_outer t w.full w.core j o d in
          let h : S (up t j) = rw (← c.0) at (ih (rw c.0 at a) (rw (← c.0, root-up t w j o d) m)) in
          child_in (up t j) j h a o refl

  pub tree_in : (j : ℕ) → T (outer t j) → S (root t j) → S j
  tree_in j o m = down_in j (w.core.upward j o).list (w.core.upward j o).chain o m

-- ---- what was concerned before

module _ (S : ℕ → Type 0) (t u : Table) (a : Alike S t u) (w : Whole u) where
  closed_too : Closed S u
  closed_too = record { nothing = a.closed.nothing; pointers = λ n m. rw (← a.agree n m) (a.closed.pointers n m) }

  tree_before : (n j : ℕ) → S n → T (concerned_at P.Tree u n j) → T (concerned_at P.Tree t n j)
  tree_before n j m c =
      let r = and→ (is_outer (seen u j).state && in_tree (seen u j)) (same_tree u n j) c in
      let q = and→ (is_outer (seen u j).state) (in_tree (seen u j)) r.0 in
      let o : T (outer u j) = rw (seen-loaded u j (seen_in_tree u j q.1)) at q.0 in
      let e = eqb→eq (root u n) (root u j) (and→ (is_some (root u n)) (eqb (root u n) (root u j)) r.1).1 in
      let top : S (root u j) = rw (← e, ← root_alike S t u a n m) (root_in S t u a n m) in
      let i = tree_in S u w closed_too j o top in
      rw (seen_alike S t u a j i, same_tree_alike S t u a n j m i) c

  at_before : (p : Place) (n j : ℕ) → S n → T (concerned_at p u n j) → T (concerned_at p t n j)
  at_before P.Free n j m c = c
  at_before (P.Paired q) n j m c = c
  at_before P.Virtual n j m c = c
  at_before P.Tree n j m c = tree_before n j m c

module _ (t : Table) (w : Whole t) (q : Request) (n : ℕ) (b : Asked t q n) (u : Table) (a : Alike (InArea q t) t u) (v : Whole u) where
  pub concerned_before : (j : ℕ) → T (concerns q u j) → T (concerns q t j)
  concerned_before j c =
      let r = concerned_by (named q) u j c in
      let i = named_in q t n w b.accepted r.0 r.1 in
      by_concerned (named q) t j r.0 r.1
      (rw (seen_alike (InArea q t) t u a r.0 i) (at_before (InArea q t) t u a v (place (seen u r.0)) r.0 j i r.2))

  pub making_before : T (is_making q u) → T (is_making q t)
  making_before k = go q b a k
    where
      go : (q : Request) → Asked t q n → Alike (InArea q t) t u → T (is_making q u) → T (is_making q t)
      go (Q.Conflict c) b a k =
          rw (makes_alike (InArea (Q.Conflict c) t) t u a c.node_1.0 c.node_2.0 (named_in (Q.Conflict c) t n w b.accepted c.node_1.0 (inl refl)) (named_in (Q.Conflict c) t n w b.accepted c.node_2.0 (inr (inl refl)))) k
      go (Q.VirtualConflict c) b a k = k
      go (Q.Expansion e) b a k = k
      go Q.Reset b a k = k
      go Q.List b a k = k

-- three requests, two by two without a common node: after the first, the other two still have none
pub still-apart :
    (t : Table)
    → Whole t
    → (r q p : Request) (k m n : ℕ)
    → Asked t r k
    → Asked t q m
    → Asked t p n
    → ApartIn t q r
    → ApartIn t p r
    → ApartIn t q p
    → Whole (act_of r t).table
    → ApartIn (act_of r t).table q p
still-apart t w r q p k m n a b c x y z v =
    let u = (act_of r t).table in
    let f = alike_after t w q r m k b a x in
    let g = alike_after t w p r n k c a y in (
      λ j h. z.0 j (concerned_before t w q m b u f v j h.0, concerned_before t w p n c u g v j h.1),
      λ h. z.1 (making_before t w q m b u f v h.0, making_before t w p n c u g v h.1),
    )
