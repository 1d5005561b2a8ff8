-- Tests and facts: each test that `Sound` is made of, and the fact that it stands for. `simp tests at h` turns a test into
-- facts, `simp tests p` proves a test from facts.
use mathlib.Core.Path.{◌≡◌, refl, subst⁻¹}
use mathlib.Core.Logic.{◌≢◌, ◌↔◌, ◌⊎◌, inl, inr}
use mathlib.Core.Bool.{Bool, true, false, not, ◌&&◌, ◌||◌}
use mathlib.Core.List.{List, [], ◌∷◌}
use Prim.Native.Nat.{ℕ, zero, suc, ◌≤◌, ◌<◌}
use native.Mathlib.Omega.{arith}
use lib.Dec.{T, eqb, leb, ltb, eqb→eq, eqb_refl, T_not, not_T, leb→le, le→leb, ltb→lt, lt→ltb}
use Rattle.lists.specs.Choice.{pick}
use Rattle.rules.specs.Walk.{is_in, all_in, all_below}
use Rattle.rules.specs.Sound.{◌⇒◌}
use Rattle.theorems_soundness.specs.Chain.{◌∈◌}

-- ---- a test and its value

pub test_true : (b : Bool) → T b → b ≡ true
test_true true h = refl
test_true false h = absurd h

pub true_test : (b : Bool) → b ≡ true → T b
true_test b e = subst⁻¹ T e tt

pub test_false : (b : Bool) → ¬ T b → b ≡ false
test_false true h = absurd (h tt)
test_false false h = refl

-- a test holds or fails
pub test_case : (b : Bool) → T b ⊎ T (not b)
test_case true = inl tt
test_case false = inr tt

pub pick_yes {ℓ} : {A : Type ℓ} (b : Bool) (x y : A) → T b → pick b x y ≡ x
pick_yes true x y h = refl
pick_yes false x y h = absurd h

pub pick_no {ℓ} : {A : Type ℓ} (b : Bool) (x y : A) → ¬ T b → pick b x y ≡ y
pick_no true x y h = absurd (h tt)
pick_no false x y h = refl

-- ---- and, or, not, where

module _ (a b : Bool) where
  pub and→ : T (a && b) → T a × T b
  and→ = go a
    where
      go : (a : Bool) → T (a && b) → T a × T b
      go true h = (tt, h)
      go false h = absurd h

  pub →and : T a → T b → T (a && b)
  →and = go a
    where
      go : (a : Bool) → T a → T b → T (a && b)
      go true x y = y
      go false x y = x

  pub or→ : T (a || b) → T a ⊎ T b
  or→ = go a
    where
      go : (a : Bool) → T (a || b) → T a ⊎ T b
      go true h = inl tt
      go false h = inr h

  pub →or : T a ⊎ T b → T (a || b)
  →or = go a
    where
      go : (a : Bool) → T a ⊎ T b → T (a || b)
      go true h = tt
      go false (inl x) = absurd x
      go false (inr y) = y

  pub imp→ : T (a ⇒ b) → T a → T b
  imp→ = go a
    where
      go : (a : Bool) → T (a ⇒ b) → T a → T b
      go true h x = h
      go false h x = absurd x

  pub →imp : (T a → T b) → T (a ⇒ b)
  →imp = go a
    where
      go : (a : Bool) → (T a → T b) → T (a ⇒ b)
      go true f = f tt
      go false f = tt

  pub and↔ : T (a && b) ↔ (T a × T b)
  and↔ = (and→, λ p. →and p.0 p.1)

  pub or↔ : T (a || b) ↔ (T a ⊎ T b)
  or↔ = (or→, →or)

  pub imp↔ : T (a ⇒ b) ↔ (T a → T b)
  imp↔ = (imp→, →imp)

pub not↔ : (b : Bool) → T (not b) ↔ (¬ T b)
not↔ b = (T_not b, not_T b)

-- ---- numbers

module _ (a b : ℕ) where
  pub eq→eqb : a ≡ b → T (eqb a b)
  eq→eqb e = rw e (eqb_refl b)

  pub eqb_yes : a ≡ b → eqb a b ≡ true
  eqb_yes e = test_true (eqb a b) (eq→eqb e)

  pub eqb_no : a ≢ b → eqb a b ≡ false
  eqb_no d = test_false (eqb a b) (λ h. d (eqb→eq a b h))

  pub eqb↔ : T (eqb a b) ↔ (a ≡ b)
  eqb↔ = (eqb→eq a b, eq→eqb)

  pub not_eqb↔ : T (not (eqb a b)) ↔ (a ≢ b)
  not_eqb↔ = (λ h e. T_not (eqb a b) h (eq→eqb e), λ d. not_T (eqb a b) (λ h. d (eqb→eq a b h)))

  pub leb↔ : T (leb a b) ↔ (a ≤ b)
  leb↔ = (leb→le a b, le→leb a b)

  pub ltb↔ : T (ltb a b) ↔ (a < b)
  ltb↔ = (ltb→lt a b, lt→ltb a b)

  -- two numbers are one or two
  pub same_or_not : (a ≡ b) ⊎ (a ≢ b)
  same_or_not = elim (test_case (eqb a b)) [ inl h ↦ inl (eqb→eq a b h) | inr h ↦ inr (not_eqb↔.0 h) ]

-- ---- lists

module _ (test : ℕ → Bool) where
  all_in_lem : (xs : List ℕ) → T (all_in test xs) → (j : ℕ) → j ∈ xs → T (test j)
  unfolding all_in
  all_in_lem [] h j m = absurd m
  all_in_lem (x ∷ xs) h j (inl e) = rw e (and→ (test x) (all_in test xs) h).0
  all_in_lem (x ∷ xs) h j (inr m) = all_in_lem xs (and→ (test x) (all_in test xs) h).1 j m

  in_all : (xs : List ℕ) → ((j : ℕ) → j ∈ xs → T (test j)) → T (all_in test xs)
  unfolding all_in
  in_all [] f = tt
  in_all (x ∷ xs) f = →and (test x) (all_in test xs) (f x (inl refl)) (in_all xs (λ j m. f j (inr m)))

  pub all_in↔ : (xs : List ℕ) → T (all_in test xs) ↔ ((j : ℕ) → j ∈ xs → T (test j))
  all_in↔ xs = (all_in_lem xs, in_all xs)

  all_below_lem : (n : ℕ) → T (all_below test n) → (j : ℕ) → j < n → T (test j)
  unfolding all_below
  all_below_lem zero h j l = absurd (omega arith)
  all_below_lem (suc n) h j l =
      elim (same_or_not j n) [ inl e ↦ rw e (and→ (test n) (all_below test n) h).0 | inr d ↦ all_below_lem n (and→ (test n) (all_below test n) h).1 j (omega arith) ]

  below_all : (n : ℕ) → ((j : ℕ) → j < n → T (test j)) → T (all_below test n)
  unfolding all_below
  below_all zero f = tt
  below_all (suc n) f = →and (test n) (all_below test n) (f n (omega arith)) (below_all n (λ j l. f j (omega arith)))

  pub all_below↔ : (n : ℕ) → T (all_below test n) ↔ ((j : ℕ) → j < n → T (test j))
  all_below↔ n = (all_below_lem n, below_all n)

module _ (a : ℕ) where
  is_in_lem : (xs : List ℕ) → T (is_in a xs) → a ∈ xs
  unfolding is_in
  is_in_lem [] h = h
  is_in_lem (x ∷ xs) h = elim (or→ (eqb a x) (is_in a xs) h) [ inl e ↦ inl (eqb→eq a x e) | inr m ↦ inr (is_in_lem xs m) ]

  in_is : (xs : List ℕ) → a ∈ xs → T (is_in a xs)
  unfolding is_in
  in_is [] h = h
  in_is (x ∷ xs) (inl e) = →or (eqb a x) (is_in a xs) (inl (eq→eqb a x e))
  in_is (x ∷ xs) (inr m) = →or (eqb a x) (is_in a xs) (inr (in_is xs m))

  pub is_in↔ : (xs : List ℕ) → T (is_in a xs) ↔ (a ∈ xs)
  is_in↔ xs = (is_in_lem xs, in_is xs)

pub ruleset tests = (and↔, or↔, imp↔, eqb↔, not_eqb↔, leb↔, ltb↔, all_in↔, is_in↔, all_below↔)
