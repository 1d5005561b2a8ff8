-- Counts and sums: how often a number stands in a list, a function summed over a list, and over the numbers below another.
use mathlib.Core.Path.{◌≡◌, refl, ap, ◌∙◌}
use mathlib.Core.Logic.{◌≢◌, inl, inr}
use mathlib.Core.List.{List, [], ◌∷◌, ◌++◌}
use Prim.Native.Nat.{ℕ, zero, suc, ◌+◌, ◌≤◌, ◌<◌}
use native.Mathlib.Omega.{arith}
use lib.ListN.{length}
use Rattle.theorems_soundness.specs.Chain.{◌∈◌, NoDup}
use Rattle.theorems_requests.specs.Named.{one, times}
use Rattle.theorems_soundness.proofs.Reflect.{eqb_yes, eqb_no, same_or_not}

-- ---- how often

pub one_same : (a x : ℕ) → a ≡ x → one a x ≡ 1
unfolding one
one_same a x e = rw (eqb_yes a x e)

pub one_other : (a x : ℕ) → a ≢ x → one a x ≡ 0
unfolding one
one_other a x d = rw (eqb_no a x d)

pub times-append : (a : ℕ) (xs ys : List ℕ) → times a (xs ++ ys) ≡ times a xs + times a ys
times-append a [] ys = omega arith
times-append a (x ∷ xs) ys = omega (arith, times-append a xs ys)

pub times_absent : (a : ℕ) (xs : List ℕ) → ¬ (a ∈ xs) → times a xs ≡ 0
times_absent a [] h = refl
times_absent a (x ∷ xs) h = omega (arith, one_other a x (λ e. h (inl e)), times_absent a xs (λ m. h (inr m)))

-- ---- summed over a list

abbrev pub total : (ℕ → ℕ) → List ℕ → ℕ
total f [] = 0
total f (x ∷ xs) = f x + total f xs

module _ (f : ℕ → ℕ) where
  pub total_append : (xs ys : List ℕ) → total f (xs ++ ys) ≡ total f xs + total f ys
  total_append [] ys = omega arith
  total_append (x ∷ xs) ys = omega (arith, total_append xs ys)

  pub total_none : (xs : List ℕ) → ((x : ℕ) → x ∈ xs → f x ≡ 0) → total f xs ≡ 0
  total_none [] h = refl
  total_none (x ∷ xs) h = omega (arith, h x (inl refl), total_none xs (λ y m. h y (inr m)))

  -- where f is 1 at one of them and 0 at the others
  pub total_one : (y : ℕ) (xs : List ℕ) → NoDup xs → y ∈ xs → f y ≡ 1 → ((x : ℕ) → x ∈ xs → x ≢ y → f x ≡ 0) → total f xs ≡ 1
  total_one y [] d m e h = absurd m
  total_one y (x ∷ xs) d (inl q) e h =
      omega (arith, e, ap f q, total_none xs (λ z n. h z (inr n) (λ w. d.0 (rw (w, q) at n))))
  total_one y (x ∷ xs) d (inr m) e h =
      omega (arith, h x (inl refl) (λ w. d.0 (rw w m)), total_one y xs d.1 m e (λ z n. h z (inr n)))

-- ---- summed over the numbers below n

unfoldable pub sum_below : (ℕ → ℕ) → ℕ → ℕ
sum_below f zero = 0
sum_below f (suc n) = sum_below f n + f n

module _ (f g : ℕ → ℕ) where
  pub sum-add : (h : ℕ → ℕ) (n : ℕ) → ((j : ℕ) → h j ≡ f j + g j) → sum_below h n ≡ sum_below f n + sum_below g n
  unfolding sum_below
  sum-add h zero e = refl
  sum-add h (suc n) e = omega (arith, sum-add h n e, e n)

  pub sum_most : (n : ℕ) → ((j : ℕ) → j < n → f j ≤ g j) → sum_below f n ≤ sum_below g n
  unfolding sum_below
  sum_most zero h = omega arith
  sum_most (suc n) h = omega (arith, sum_most n (λ j l. h j (omega arith)), h n (omega arith))

pub sum_same : (f g : ℕ → ℕ) (n : ℕ) → ((j : ℕ) → j < n → f j ≡ g j) → sum_below f n ≡ sum_below g n
unfolding sum_below
sum_same f g zero h = refl
sum_same f g (suc n) h = omega (arith, sum_same f g n (λ j l. h j (omega arith)), h n (omega arith))

module _ (f : ℕ → ℕ) where
  pub sum-none : (n : ℕ) → ((j : ℕ) → j < n → f j ≡ 0) → sum_below f n ≡ 0
  unfolding sum_below
  sum-none zero h = refl
  sum-none (suc n) h = omega (arith, sum-none n (λ j l. h j (omega arith)), h n (omega arith))

  pub sum_one : (a n : ℕ) → a < n → f a ≡ 1 → ((j : ℕ) → j ≢ a → f j ≡ 0) → sum_below f n ≡ 1
  unfolding sum_below
  sum_one a zero l e h = absurd (omega arith)
  sum_one a (suc n) l e h =
      elim (same_or_not n a) [
        | inl q ↦ omega (arith, ap f q, e, sum-none n (λ j m. h j (omega arith)))
        | inr d ↦ omega (arith, h n d, sum_one a n (omega arith) e h)
      ]

  -- where f is at most 1
  pub sum_fits : (n : ℕ) → ((j : ℕ) → f j ≤ 1) → sum_below f n ≤ n
  unfolding sum_below
  sum_fits zero h = omega arith
  sum_fits (suc n) h = omega (arith, sum_fits n h, h n)

  pub sum_part : (a n : ℕ) → a < n → f a ≤ sum_below f n
  unfolding sum_below
  sum_part a zero l = absurd (omega arith)
  sum_part a (suc n) l = elim (same_or_not n a) [ inl q ↦ omega (arith, ap f q) | inr d ↦ omega (arith, sum_part a n (omega arith)) ]

-- over a list and over numbers, in either order
pub sum_total : (f : ℕ → ℕ → ℕ) (n : ℕ) (xs : List ℕ) → sum_below (λ j. total (f j) xs) n ≡ total (λ x. sum_below (λ j. f j x) n) xs
sum_total f n [] = sum-none (λ j. 0) n (λ j l. refl)
sum_total f n (x ∷ xs) = sum-add (λ j. f j x) (λ j. total (f j) xs) (λ j. f j x + total (f j) xs) n (λ j. refl) ∙ rw (sum_total f n xs)

-- a list of numbers below n is as long as its counts together
pub length-counted : (n : ℕ) (xs : List ℕ) → ((j : ℕ) → j ∈ xs → j < n) → length xs ≡ sum_below (λ j. times j xs) n
length-counted n [] h = omega (arith, sum-none (λ j. 0) n (λ j l. refl))
length-counted n (x ∷ xs) h =
    omega (arith, sum-add (λ j. one j x) (λ j. times j xs) (λ j. times j (x ∷ xs)) n (λ j. refl), sum_one (λ j. one j x) x n (h x (inl refl)) (one_same x x refl) (λ j d. one_other j x d), length-counted n xs (λ j m. h j (inr m)))
