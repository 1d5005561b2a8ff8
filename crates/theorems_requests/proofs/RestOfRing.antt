-- "Ring nodes after the touched one": from an inner node along siblings round the ring and back. They are even in number, inner,
-- and with the node itself they are the whole ring.
use mathlib.Core.Path.{◌≡◌, refl, sym, ap, ◌∙◌}
use mathlib.Core.Logic.{◌≢◌, inl, inr}
use mathlib.Core.List.{List, [], ◌∷◌, ◌++◌}
use Prim.Native.Nat.{ℕ, suc, ◌+◌, ◌%◌}
use native.Mathlib.Omega.{arith}
use lib.Dec.{T}
use lib.ListN.{length, length-append}
use Rattle.slot.specs.Number.{none}
use Rattle.table.specs.Table.{Table, at, Full}
use Rattle.table.specs.Nodes.{inner}
use Rattle.rules.specs.Slots.{up, next}
use Rattle.rules.specs.Sound.{next_in_ring}
use Rattle.theorems_soundness.specs.Chain.{◌∈◌, NoDup, Chain}
use Rattle.theorems_soundness.specs.FactsOfBlossoms.{InnerChild, Ring}
use Rattle.theorems_soundness.specs.Facts.{Rest}
use Rattle.theorems_soundness.proofs.Reflect.{same_or_not}
use Rattle.theorems_soundness.proofs.Members.{Split, in_split, split_length, in_left, in_right, in_append→, nodup_append→, →nodup_append, nodup_around}
use Rattle.theorems_soundness.proofs.Chains.{chain_split}
use Rattle.theorems_soundness.proofs.RingLaws.{ring_goes_on, ring_comes_back, ring_once, ring_around, in_ring_lem}
use Rattle.theorems_requests.proofs.CountLaws.{total, total_append}

-- from a along `next` through a list to e
abbrev pub Way : (ℕ → ℕ) → ℕ → List ℕ → ℕ → Type 0
Way next a [] e = a ≡ e
Way next a (c ∷ cs) e = (a ≡ c) × Way next (next c) cs e

way_join : (next : ℕ → ℕ) (a : ℕ) (xs ys : List ℕ) (m e : ℕ) → Way next a xs m → Way next m ys e → Way next a (xs ++ ys) e
way_join next a [] ys m e p q = rw p q
way_join next a (x ∷ xs) ys m e p q = (p.0, way_join next (next x) xs ys m e p.1 q)

-- a list two by two
abbrev pub TwoByTwo : List ℕ → Type 0
TwoByTwo [] = Unit {0}
TwoByTwo (x ∷ []) = ⊥
TwoByTwo (x ∷ (y ∷ r)) = TwoByTwo r

two_by_two_lem : (cs : List ℕ) → length cs % 2 ≡ 0 → TwoByTwo cs
two_by_two_lem [] e = tt
two_by_two_lem (x ∷ []) e = omega arith
two_by_two_lem (x ∷ (y ∷ r)) e = two_by_two_lem r (omega arith)

module _ (t : Table) (first : ℕ) where
  -- from a node to the end of the ring's list the way leads back to the first
  way_back : (j : ℕ) (cs : List ℕ) → Chain (next_in_ring t first) (next_in_ring t first j) cs → ((x : ℕ) → x ∈ (j ∷ cs) → next t x ≢ none) → Way (next t) (next t j) cs first
  way_back j [] p h =
      elim (same_or_not (next t j) first) [ inl e ↦ e | inr d ↦ absurd (h j (inl refl) (sym (ring_goes_on t first j d) ∙ p)) ]
  way_back j (c ∷ cs) p h =
      elim (same_or_not (next t j) first) [
        | inl e ↦ absurd (p.1 (ring_comes_back t first j e))
        | inr d ↦ (sym (ring_goes_on t first j d) ∙ p.0, way_back c cs p.2 (λ x m. h x (inr m)))
      ]

  -- .. and from the first to a node
  way_to : (a : ℕ) (xs : List ℕ) (d : ℕ) (ys : List ℕ) → Chain (next_in_ring t first) a (xs ++ (d ∷ ys)) → Way (next t) a xs d
  way_to a [] d ys p = p.0
  way_to a (x ∷ xs) d ys p = (p.0, rw (goes_on xs p.2) at (way_to (next_in_ring t first x) xs d ys p.2))
    where
      some : (zs : List ℕ) → Chain (next_in_ring t first) (next_in_ring t first x) (zs ++ (d ∷ ys)) → next_in_ring t first x ≢ none
      some [] q = q.1
      some (z ∷ zs) q = q.1

      goes_on : (zs : List ℕ) → Chain (next_in_ring t first) (next_in_ring t first x) (zs ++ (d ∷ ys)) → next_in_ring t first x ≡ next t x
      goes_on zs q =
          elim (same_or_not (next t x) first) [ inl e ↦ absurd (some zs q (ring_comes_back t first x e)) | inr n ↦ ring_goes_on t first x n ]

-- the ring nodes after d, in order
pub record After (t : Table) (d : ℕ) (ring : List ℕ) : Type 0 where
  pub list : List ℕ
  pub way : Way (next t) (next t d) list d
  pub even : TwoByTwo list
  pub members : (c : ℕ) → c ∈ list → InnerChild t (up t d) c
  pub others : (c : ℕ) → c ∈ list → c ≢ d
  pub all : (c : ℕ) → InnerChild t (up t d) c → c ≢ d → c ∈ list
  pub once : NoDup list
  pub fewer : suc (length list) ≡ length ring
  pub whole : (f : ℕ → ℕ) → total f ring ≡ f d + total f list

module _ (t : Table) (full : Full t) (rest : Rest t) where
  pub after_in_ring : (d : ℕ) (i : T (inner t d)) → After t d (ring_around t full rest d i).list
  after_in_ring d i = go (in_split d r.list (in_ring_lem t full rest d i))
    where
      r : Ring t (up t d)
      r = ring_around t full rest d i

      first : ℕ
      first = (at t (up t d)).ring

      go : Split d r.list → After t d r.list
      go s =
          let chain = rw s.split at r.chain in
          let around = nodup_around d s.before s.after (rw s.split at (ring_once t (up t d) r)) in
          let apart = nodup_append→ s.before s.after around.0 in
          let onward = chain_split (next_in_ring t first) first s.before d s.after chain in
          let known : (x : ℕ) → x ∈ (s.before ++ (d ∷ s.after)) → x ∈ r.list = λ x m. rw s.split m in
          let moved : (x : ℕ) → x ∈ (s.after ++ s.before) → x ∈ (s.before ++ s.after) =
          λ x m. elim (in_append→ s.after s.before x m) [ inl a ↦ in_right s.before s.after x a | inr b ↦ in_left s.before s.after x b ] in
          let kept : (x : ℕ) → x ∈ (s.before ++ s.after) → x ∈ r.list =
          λ x m. known x (elim (in_append→ s.before s.after x m) [ inl a ↦ in_left s.before (d ∷ s.after) x a | inr b ↦ in_right s.before (d ∷ s.after) x (inr b) ]) in
          record {
            list = s.after ++ s.before;
            way = way_join (next t) (next t d) s.after s.before first d
                (way_back t first d s.after onward.2 (λ x m. r.closes x (known x (in_right s.before (d ∷ s.after) x m))))
                (way_to t first first s.before d s.after chain);
            even = two_by_two_lem (s.after ++ s.before)
                (omega (arith, r.odd, split_length d r.list s, length-append s.before s.after, length-append s.after s.before));
            members = λ c m. (r.exact c).0 (kept c (moved c m));
            others = λ c m e. around.1 (rw e at (moved c m));
            all = λ c i n. elim (in_append→ s.before (d ∷ s.after) c (rw s.split at ((r.exact c).1 i))) [
              | inl b ↦ in_right s.after s.before c b
              | inr (inl e) ↦ absurd (n e)
              | inr (inr a) ↦ in_left s.after s.before c a
            ];
            once = →nodup_append s.after s.before apart.1 apart.0 (λ j a b. apart.2 j b a);
            fewer = omega (arith, split_length d r.list s, length-append s.before s.after, length-append s.after s.before);
            whole = λ f. omega (arith, ap (total f) s.split, total_append f s.before (d ∷ s.after), total_append f s.after s.before);
          }
