-- Stretches of a ring, and the ring told from any of its nodes.
use mathlib.Core.Path.{◌≡◌, refl, ap, sym}
use mathlib.Core.Logic.{◌≢◌, ◌↔◌, ◌⊎◌, inl, inr}
use mathlib.Core.List.{List, [], ◌∷◌, ◌++◌}
use Prim.Native.Nat.{ℕ, zero, suc, ◌+◌, ◌%◌}
use native.Mathlib.Omega.{arith}
use lib.Dec.{T}
use lib.ListN.{length, length-append}
use Rattle.slot.specs.Number.{none}
use Rattle.table.specs.Table.{Table, at, Full}
use Rattle.table.specs.Nodes.{inner}
use Rattle.rules.specs.Slots.{next}
use Rattle.rules.specs.Sound.{next_in_ring}
use Rattle.theorems_soundness.specs.Chain.{◌∈◌, NoDup, Chain}
use Rattle.theorems_soundness.specs.FactsOfBlossoms.{InnerChild, Ring}
use Rattle.theorems_soundness.specs.Facts.{Rest}
use Rattle.theorems_soundness.proofs.Reflect.{same_or_not}
use Rattle.theorems_soundness.proofs.Members.{Split, in_split, in_append→, in_left, in_right, nodup_append→, →nodup_append}
use Rattle.theorems_soundness.proofs.RingLaws.{ring_goes_on, ring_comes_back, ring_some, ring_once}
use Rattle.theorems_soundness.proofs.TouchLaws.{peer_touch_ring}
use Rattle.theorems_soundness.specs.RuleFacts.{RightLink}
use Rattle.theorems_soundness.proofs.Opened.{head_or}

-- from a along siblings through xs to e
abbrev pub Stretch : Table → ℕ → List ℕ → ℕ → Type 0
Stretch t a [] e = a ≡ e
Stretch t a (x ∷ xs) e = (a ≡ x) × Stretch t (next t x) xs e

module _ (t : Table) where
  pub stretch_join : (a : ℕ) (xs : List ℕ) (m : ℕ) (ys : List ℕ) (e : ℕ) → Stretch t a xs m → Stretch t m ys e → Stretch t a (xs ++ ys) e
  stretch_join a [] m ys e p q = rw p q
  stretch_join a (x ∷ xs) m ys e p q = (p.0, stretch_join (next t x) xs m ys e p.1 q)

  pub stretch_cut : (a : ℕ) (xs : List ℕ) (m : ℕ) (ys : List ℕ) (e : ℕ) → Stretch t a (xs ++ (m ∷ ys)) e → Stretch t a xs m × Stretch t (next t m) ys e
  stretch_cut a [] m ys e p = (p.0, p.1)
  stretch_cut a (x ∷ xs) m ys e p = let r = stretch_cut (next t x) xs m ys e p.1 in ((p.0, r.0), r.1)

  -- the first of a stretch with its end
  pub stretch_first : (a : ℕ) (xs : List ℕ) (e n : ℕ) → Stretch t a xs e → head_or n (xs ++ (e ∷ [])) ≡ a
  stretch_first a [] e n p = sym p
  stretch_first a (x ∷ xs) e n p = sym p.0

  -- the walk round a ring is a stretch from its first node back to it
  ring_stretch : (first a : ℕ) (xs : List ℕ) → Chain (next_in_ring t first) a xs → ((j : ℕ) → j ∈ xs → next t j ≢ none) → a ≢ none → Stretch t a xs first
  ring_stretch first a [] c s n = absurd (n c)
  ring_stretch first a (x ∷ xs) c s n = (c.0, go (same_or_not (next t x) first) (ring_stretch first (next t x) xs))
    where
      done : (ys : List ℕ) → Chain (next_in_ring t first) none ys → next t x ≡ first → Stretch t (next t x) ys first
      done [] k e = e
      done (y ∷ ys) k e = absurd (k.1 refl)

      go : (next t x ≡ first) ⊎ (next t x ≢ first) → (Chain (next_in_ring t first) (next t x) xs → ((j : ℕ) → j ∈ xs → next t j ≢ none) → next t x ≢ none → Stretch t (next t x) xs first) → Stretch t (next t x) xs first
      go (inl e) ih = done xs (rw (ring_comes_back t first x e) at c.2) e
      go (inr d) ih = ih (rw (ring_goes_on t first x d) at c.2) (λ j m. s j (inr m)) (s x (inl refl))

-- an odd number is one more than twice another
pub odd_half : (n : ℕ) → n % 2 ≡ 1 → (h : ℕ) × (n ≡ suc (h + h))
odd_half zero e = absurd (omega arith)
odd_half (suc zero) e = (0, refl)
odd_half (suc (suc n)) e = let r = odd_half n (omega arith) in (suc r.0, omega (arith, r.1))

-- the ring of b, from its node p on and back to it
pub record RingFrom (t : Table) (b p : ℕ) : Type 0 where
  pub later : List ℕ
  pub stretch : Stretch t p (p ∷ later) p
  pub exact : (j : ℕ) → (j ∈ (p ∷ later)) ↔ InnerChild t b j
  pub once : NoDup (p ∷ later)
  pub half : ℕ
  pub odd : length (p ∷ later) ≡ suc (half + half)

pub ring_from_lem : (t : Table) (b p : ℕ) → Ring t b → InnerChild t b p → RingFrom t b p
ring_from_lem t b p r i =
    record {
      later = ys ++ xs;
      stretch = (refl, stretch_join t (next t p) ys first xs p around.1 around.0);
      exact = λ j. (λ m. (r.exact j).0 (rw cut.split (back j m)), λ q. forth j (rw cut.split at ((r.exact j).1 q)));
      once = (fresh, →nodup_append ys xs parts.1.1 parts.0 (λ j m k. parts.2 j k (inr m)));
      half = (odd_half (length r.list) r.odd).0;
      odd = omega (arith, (odd_half (length r.list) r.odd).1, ap length cut.split, length-append xs (p ∷ ys), length-append ys xs);
    }
  where
    first : ℕ
    first = (at t b).ring

    cut : Split p r.list
    cut = in_split p r.list ((r.exact p).1 i)

    xs : List ℕ
    xs = cut.before

    ys : List ℕ
    ys = cut.after

    around : Stretch t first xs p × Stretch t (next t p) ys first
    around = stretch_cut t first xs p ys first (rw cut.split at (ring_stretch t first first r.list r.chain r.closes (ring_some t b r)))

    parts : NoDup xs × NoDup (p ∷ ys) × ((j : ℕ) → j ∈ xs → ¬ (j ∈ (p ∷ ys)))
    parts = nodup_append→ xs (p ∷ ys) (rw cut.split at (ring_once t b r))

    fresh : ¬ (p ∈ (ys ++ xs))
    fresh m = elim (in_append→ ys xs p m) [ inl q ↦ parts.1.0 q | inr q ↦ parts.2 p q (inl refl) ]

    back : (j : ℕ) → j ∈ (p ∷ (ys ++ xs)) → j ∈ (xs ++ (p ∷ ys))
    back j (inl e) = in_right xs (p ∷ ys) j (inl e)
    back j (inr m) = elim (in_append→ ys xs j m) [ inl q ↦ in_right xs (p ∷ ys) j (inr q) | inr q ↦ in_left xs (p ∷ ys) j q ]

    forth : (j : ℕ) → j ∈ (xs ++ (p ∷ ys)) → j ∈ (p ∷ (ys ++ xs))
    forth j m = elim (in_append→ xs (p ∷ ys) j m) [ inl q ↦ inr (in_right ys xs j q) | inr (inl e) ↦ inl e | inr (inr q) ↦ inr (in_left ys xs j q) ]

-- the link of a ring node leads to the next one
pub ring_link : (t : Table) → Full t → Rest t → (x : ℕ) → T (inner t x) → RightLink t x (at t x).link (next t x)
ring_link t full rest x i =
    let f = (rest.inners x i).linked in
    record { linked = f; touch = (rest.touches x).touch f.has_touch; peer_touch = peer_touch_ring t full rest x i }
