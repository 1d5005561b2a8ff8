-- The laws of chains, for any pointer: a walk that ends finds a chain; there is only one chain from a node, nothing repeats on
-- it, and a walk with budget enough finds it.
use mathlib.Core.Path.{◌≡◌, refl, ap, sym, subst}
use mathlib.Core.Logic.{◌≢◌, ◌⊎◌, inl, inr}
use mathlib.Core.List.{List, [], ◌∷◌, ◌++◌}
use Prim.Native.Nat.{ℕ, zero, suc, ◌≤◌, ◌<◌}
use native.Mathlib.Omega.{arith}
use lib.Dec.{T, eqb→eq}
use lib.ListN.{length, length-append}
use Rattle.slot.specs.Number.{none}
use Rattle.rules.specs.Walk.{walk, ends}
use Rattle.theorems_soundness.specs.Chain.{◌∈◌, NoDup, Chain}
use Rattle.theorems_soundness.proofs.Reflect.{eq→eqb, eqb_yes, eqb_no, same_or_not}
use Rattle.theorems_soundness.proofs.Members.{in_split, split_length}
use Rattle.theorems_soundness.proofs.Pigeonhole.{pigeonhole}

-- the last number of a list
abbrev pub end_of : List ℕ → ℕ
end_of [] = none
end_of (c ∷ []) = c
end_of (c ∷ (x ∷ cs)) = end_of (x ∷ cs)

module _ (next : ℕ → ℕ) where
  -- a walk that ends within its budget gives the chain
  pub walk_chain : (k a : ℕ) → T (ends k next a) → Chain next a (walk k next a)
  unfolding walk ends
  walk_chain zero a h = eqb→eq a none h
  walk_chain (suc k) a h =
      elim (same_or_not a none) [
        | inl e ↦ rw (eqb_yes a none e) e
        | inr d ↦ rw (eqb_no a none d) (refl, d, walk_chain k (next a) (rw (eqb_no a none d) at h))
      ]

  -- there is one chain from a node
  pub chain_unique : (a : ℕ) (cs ds : List ℕ) → Chain next a cs → Chain next a ds → cs ≡ ds
  chain_unique a [] [] p q = refl
  chain_unique a [] (d ∷ ds) p q = absurd (q.1 p)
  chain_unique a (c ∷ cs) [] p q = absurd (p.1 q)
  chain_unique a (c ∷ cs) (d ∷ ds) p q =
      let e : c ≡ d = cc in
      rw e (ap (λ (l : List ℕ). d ∷ l) (chain_unique (next d) cs ds (rw e at p.2) q.2))

  -- none is on no chain
  pub chain_some : (a : ℕ) (cs : List ℕ) → Chain next a cs → (j : ℕ) → j ∈ cs → j ≢ none
  chain_some a [] p j m e = m
  chain_some a (c ∷ cs) p j (inl q) e = p.1 (cc)
  chain_some a (c ∷ cs) p j (inr m) e = chain_some (next c) cs p.2 j m e

  -- the chain from a node in its midst
  pub chain_split : (a : ℕ) (xs : List ℕ) (x : ℕ) (ys : List ℕ) → Chain next a (xs ++ (x ∷ ys)) → Chain next x (x ∷ ys)
  chain_split a [] x ys p = (refl, λ n. p.1 (cc), p.2)
  chain_split a (y ∷ xs) x ys p = chain_split (next y) xs x ys p.2

  -- nothing comes back: from x, which is on the chain from `next c`, the chain is shorter
  chain_shorter : (c : ℕ) (cs : List ℕ) → Chain next (next c) cs → (x : ℕ) → x ∈ cs → next c ≡ next x → ⊥
  chain_shorter c cs p x m e =
      let s = in_split x cs m in
      let q = chain_split (next c) s.before x s.after (rw s.split at p) in
      let f : s.after ≡ cs = chain_unique (next c) s.after cs (rw (sym e) at q.2) p in
      omega (arith, ap length f, split_length x cs s, length-append s.before s.after)

  -- "once each"
  pub chain_nodup : (a : ℕ) (cs : List ℕ) → Chain next a cs → NoDup cs
  chain_nodup a [] p = tt
  chain_nodup a (c ∷ cs) p = (λ m. chain_shorter c cs p.2 c m refl, chain_nodup (next c) cs p.2)

  -- a chain of numbers below n has at most n places
  pub chain_fits : (n a : ℕ) (cs : List ℕ) → Chain next a cs → ((j : ℕ) → j ∈ cs → j < n) → length cs ≤ n
  chain_fits n a cs p h = pigeonhole n cs (chain_nodup a cs p) h

  -- a walk with budget enough ends and finds the chain
  pub chain_walk : (k a : ℕ) (cs : List ℕ) → Chain next a cs → length cs ≤ k → T (ends k next a) × (walk k next a ≡ cs)
  unfolding walk ends
  chain_walk zero a [] p l = (eq→eqb a none p, refl)
  chain_walk zero a (c ∷ cs) p l = absurd (omega arith)
  chain_walk (suc k) a [] p l = rw (eqb_yes a none p) (tt, refl)
  chain_walk (suc k) a (c ∷ cs) p l =
      let r = chain_walk k (next c) cs p.2 (omega arith) in
      rw (eqb_no a none p.1, p.0) (r.0, ap (λ (x : List ℕ). c ∷ x) r.1)

  -- .. so one of numbers below 256 is found with a budget of 256
  pub chain_walk_below : (n a : ℕ) (cs : List ℕ) → Chain next a cs → ((j : ℕ) → j ∈ cs → j < n) → T (ends n next a) × (walk n next a ≡ cs)
  chain_walk_below n a cs p h = chain_walk n a cs p (chain_fits n a cs p h)

  -- what holds at the start and goes on from each node holds of all
  pub chain-all :
      (P : ℕ → Type 0) (a : ℕ) (cs : List ℕ)
      → ((j : ℕ) → P j → next j ≢ none → P (next j))
      → (a ≢ none → P a)
      → Chain next a cs
      → (j : ℕ)
      → j ∈ cs
      → P j
  chain-all P a [] go p c j m = absurd m
  chain-all P a (x ∷ cs) go p c j (inl e) = let q : a ≡ j = cc in rw q at (p c.1)
  chain-all P a (x ∷ cs) go p c j (inr m) = chain-all P (next x) cs go (go x (rw c.0 at (p c.1))) c.2 j m

  -- the first, and with a node the next one
  pub chain_start : (a : ℕ) (cs : List ℕ) → Chain next a cs → a ≢ none → a ∈ cs
  chain_start a [] p d = absurd (d p)
  chain_start a (c ∷ cs) p d = inl p.0

  pub chain_next : (a : ℕ) (cs : List ℕ) → Chain next a cs → (j : ℕ) → j ∈ cs → next j ≢ none → next j ∈ cs
  chain_next a [] p j m d = absurd m
  chain_next a (c ∷ cs) p j (inl e) d = inr (subst (λ (x : ℕ). next x ∈ cs) (sym e) (chain_start (next c) cs p.2 (λ z. d (rw e z))))
  chain_next a (c ∷ cs) p j (inr m) d = inr (chain_next (next c) cs p.2 j m d)

  -- each but the first stands after another
  pub chain_before : (a : ℕ) (cs : List ℕ) → Chain next a cs → (j : ℕ) → j ∈ cs → (j ≡ a) ⊎ ((i : ℕ) × (i ∈ cs) × (next i ≡ j))
  chain_before a [] p j m = absurd m
  chain_before a (c ∷ cs) p j (inl e) = inl (cc)
  chain_before a (c ∷ cs) p j (inr m) =
      elim (chain_before (next c) cs p.2 j m) [ inl e ↦ inr (c, inl refl, sym e) | inr r ↦ inr (r.0, inr r.1, r.2) ]

  -- .. and after one only
  pub chain_injective : (a : ℕ) (cs : List ℕ) → Chain next a cs → (i j : ℕ) → i ∈ cs → j ∈ cs → next i ≡ next j → i ≡ j
  chain_injective a [] p i j m n e = absurd m
  chain_injective a (c ∷ cs) p i j (inl x) (inl y) e = cc
  chain_injective a (c ∷ cs) p i j (inl x) (inr n) e = absurd (chain_shorter c cs p.2 j n (cc))
  chain_injective a (c ∷ cs) p i j (inr m) (inl y) e = absurd (chain_shorter c cs p.2 i m (cc))
  chain_injective a (c ∷ cs) p i j (inr m) (inr n) e = chain_injective (next c) cs p.2 i j m n e

  -- the last node, which has none after it
  pub chain_end : (a : ℕ) (cs : List ℕ) → Chain next a cs → a ≢ none → (end_of cs ∈ cs) × (next (end_of cs) ≡ none)
  chain_end a [] p d = absurd (d p)
  chain_end a (c ∷ []) p d = (inl refl, p.2)
  chain_end a (c ∷ (x ∷ cs)) p d = let r = chain_end (next c) (x ∷ cs) p.2 p.2.1 in (inr r.0, r.1)

  pub chain_same_end : (a : ℕ) (cs : List ℕ) → Chain next a cs → (x : ℕ) (ds : List ℕ) → x ∈ cs → Chain next x ds → end_of ds ≡ end_of cs
  chain_same_end a [] p x ds m q = absurd m
  chain_same_end a (c ∷ cs) p x ds (inl e) q = ap end_of (chain_unique x ds (c ∷ cs) q (e, λ z. p.1 (cc), p.2))
  chain_same_end a (c ∷ []) p x ds (inr m) q = absurd m
  chain_same_end a (c ∷ (y ∷ cs)) p x ds (inr m) q = chain_same_end (next c) (y ∷ cs) p.2 x ds m q

-- two pointers that agree on the chain have the same chain
pub chain_frame : (f g : ℕ → ℕ) (a : ℕ) (cs : List ℕ) → ((j : ℕ) → j ∈ cs → f j ≡ g j) → Chain f a cs → Chain g a cs
chain_frame f g a [] e p = p
chain_frame f g a (c ∷ cs) e p = (p.0, p.1, chain_frame f g (g c) cs (λ j m. e j (inr m)) (rw (e c (inl refl)) at p.2))
