-- The ring of a blossom, told from P and cut at C, and its two parities.
use mathlib.Core.Path.{◌≡◌, refl, ap, sym, subst, ◌∙◌}
use mathlib.Core.Logic.{◌↔◌, ◌⊎◌, inl, inr}
use mathlib.Core.Bool.{Bool, true, false}
use mathlib.Core.List.{List, [], ◌∷◌, ◌++◌}
use Prim.Native.Nat.{ℕ, zero, suc, ◌+◌, ◌%◌, ◌≤◌}
use native.Mathlib.Omega.{arith}
use lib.ListN.{length, length-append}
use Rattle.table.specs.Table.{Table, Full}
use Rattle.rules.specs.Slots.{next}
use Rattle.theorems_soundness.specs.Chain.{◌∈◌, NoDup}
use Rattle.theorems_soundness.specs.FactsOfBlossoms.{InnerChild, Ring}
use Rattle.theorems_soundness.proofs.Members.{in_split, in_append→, nodup_append→, →nodup_append}
use Rattle.theorems_soundness.proofs.Pigeonhole.{pigeonhole}
use Rattle.theorems_soundness.proofs.Chains.{end_of}
use Rattle.theorems_soundness.proofs.Past.{inner_below}
use Rattle.theorems_soundness.proofs.RingStretches.{Stretch, stretch_cut, ring_from_lem}
use Rattle.theorems_soundness.proofs.RingLeft.{turned_onto, flipped}

-- before stands from p on, up to c and not with it; after stands behind c
pub record CutRing (t : Table) (b p c : ℕ) : Type 0 where
  pub before : List ℕ
  pub after : List ℕ
  pub to_c : Stretch t p before c
  pub from_c : Stretch t (next t c) after p
  pub exact : (j : ℕ) → (j ∈ (before ++ (c ∷ after))) ↔ InnerChild t b j
  pub once : NoDup (before ++ (c ∷ after))
  pub half : ℕ
  pub odd : length (before ++ (c ∷ after)) ≡ suc (half + half)

pub cut_ring : (t : Table) (b p c : ℕ) → Ring t b → InnerChild t b p → InnerChild t b c → CutRing t b p c
cut_ring t b p c ring i k =
    let r = ring_from_lem t b p ring i in
    let cut = in_split c (p ∷ r.later) ((r.exact c).1 k) in
    let s = stretch_cut t p cut.before c cut.after p (subst (λ (l : List ℕ). Stretch t p l p) cut.split r.stretch) in
    record {
      before = cut.before;
      after = cut.after;
      to_c = s.0;
      from_c = s.1;
      exact = λ j. subst (λ (l : List ℕ). (j ∈ l) ↔ InnerChild t b j) cut.split (r.exact j);
      once = subst NoDup cut.split r.once;
      half = r.half;
      odd = sym (ap length cut.split) ∙ r.odd;
    }

module _ (t : Table) (b p c : ℕ) (r : CutRing t b p c) where
  pub parts : NoDup r.before × NoDup (c ∷ r.after) × ((j : ℕ) → j ∈ r.before → ¬ (j ∈ (c ∷ r.after)))
  parts = nodup_append→ r.before (c ∷ r.after) r.once

  pub cut_short : Full t → length r.before + suc (length r.after) ≤ 256
  cut_short full =
      omega (arith, length-append r.before (c ∷ r.after), pigeonhole 256 (r.before ++ (c ∷ r.after)) r.once (λ j m. inner_below t full j ((r.exact j).0 m).0))

  -- the stretch from P to C begins with P
  starts : (xs : List ℕ) → Stretch t p xs c → (tail : List ℕ) × (xs ++ (c ∷ []) ≡ p ∷ tail)
  starts [] s = ([], ap (λ (x : ℕ). x ∷ []) (sym s))
  starts (x ∷ xs) s = (xs ++ (c ∷ []), ap (λ (y : ℕ). y ∷ (xs ++ (c ∷ []))) (sym s.0))

  pub from_top : (tail : List ℕ) × (r.before ++ (c ∷ []) ≡ p ∷ tail)
  from_top = starts r.before r.to_c

  pub upper_once : NoDup (r.before ++ (c ∷ []))
  upper_once = →nodup_append r.before (c ∷ []) parts.0 ((λ m. m), tt) (λ j m. elim [ inl e ↦ parts.2 j m (inl e) | inr z ↦ z ])

  pub upper_apart : (j : ℕ) → j ∈ (r.before ++ (c ∷ [])) → ¬ (j ∈ r.after)
  upper_apart j m k = elim (in_append→ r.before (c ∷ []) j m) [ inl i ↦ parts.2 j i (inr k) | inr (inl e) ↦ parts.1.0 (rw e at k) | inr (inr z) ↦ z ]

  pub top_in_upper : p ∈ (r.before ++ (c ∷ []))
  top_in_upper = rw from_top.1 (inl refl)

-- ---- numbers

pub even_half : (n : ℕ) → n % 2 ≡ 0 → (h : ℕ) × (n ≡ h + h)
even_half zero e = (0, refl)
even_half (suc zero) e = absurd (omega arith)
even_half (suc (suc n)) e = let r = even_half n (omega arith) in (suc r.0, omega (arith, r.1))

-- of an odd number an even part and one more leave an even part
pub even_left : (n h m : ℕ) → h + h + suc m ≡ suc (n + n) → (k : ℕ) × (m ≡ k + k)
even_left n zero m e = (n, omega arith)
even_left zero (suc h) m e = absurd (omega arith)
even_left (suc n) (suc h) m e = even_left n h m (omega arith)

-- ---- a list turned round

pub in_turned→ : (xs acc : List ℕ) (j : ℕ) → j ∈ turned_onto xs acc → (j ∈ xs) ⊎ (j ∈ acc)
in_turned→ [] acc j m = inr m
in_turned→ (x ∷ xs) acc j m = elim (in_turned→ xs (x ∷ acc) j m) [ inl i ↦ inl (inr i) | inr (inl e) ↦ inl (inl e) | inr (inr i) ↦ inr i ]

pub →in_turned : (xs acc : List ℕ) (j : ℕ) → (j ∈ xs) ⊎ (j ∈ acc) → j ∈ turned_onto xs acc
→in_turned [] acc j (inl m) = absurd m
→in_turned [] acc j (inr m) = m
→in_turned (x ∷ xs) acc j (inl (inl e)) = →in_turned xs (x ∷ acc) j (inr (inl e))
→in_turned (x ∷ xs) acc j (inl (inr m)) = →in_turned xs (x ∷ acc) j (inl m)
→in_turned (x ∷ xs) acc j (inr m) = →in_turned xs (x ∷ acc) j (inr (inr m))

pub turned-length : (xs acc : List ℕ) → length (turned_onto xs acc) ≡ length xs + length acc
turned-length [] acc = omega arith
turned-length (x ∷ xs) acc = omega (arith, turned-length xs (x ∷ acc))

pub turned_first : (xs : List ℕ) (p : ℕ) (acc : List ℕ) → turned_onto (xs ++ (p ∷ [])) acc ≡ p ∷ turned_onto xs acc
turned_first [] p acc = refl
turned_first (x ∷ xs) p acc = turned_first xs p (x ∷ acc)

-- its last is the last of what it stands before
pub turned_end : (xs : List ℕ) (y : ℕ) (acc : List ℕ) → end_of (turned_onto xs (y ∷ acc)) ≡ end_of (y ∷ acc)
turned_end [] y acc = refl
turned_end (x ∷ xs) y acc = turned_end xs x (y ∷ acc)

pub end_append : (xs : List ℕ) (p : ℕ) → end_of (xs ++ (p ∷ [])) ≡ p
end_append [] p = refl
end_append (x ∷ []) p = refl
end_append (x ∷ (y ∷ xs)) p = end_append (y ∷ xs) p

pub flipped_even : (grow : Bool) (xs : List ℕ) (h : ℕ) → length xs ≡ h + h → flipped grow xs ≡ grow
flipped_even grow [] h e = refl
flipped_even grow (x ∷ []) zero e = absurd (omega arith)
flipped_even grow (x ∷ []) (suc h) e = absurd (omega arith)
flipped_even grow (x ∷ (y ∷ xs)) zero e = absurd (omega arith)
flipped_even true (x ∷ (y ∷ xs)) (suc h) e = flipped_even true xs h (omega arith)
flipped_even false (x ∷ (y ∷ xs)) (suc h) e = flipped_even false xs h (omega arith)
