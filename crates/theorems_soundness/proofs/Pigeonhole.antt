-- A list that names no number twice, and only numbers below n, has at most n places.
use mathlib.Core.Path.{refl}
use mathlib.Core.Logic.{◌≢◌, inl, inr}
use mathlib.Core.List.{List, [], ◌∷◌, ◌++◌}
use Prim.Native.Nat.{ℕ, zero, suc, ◌≤◌, ◌<◌}
use native.Mathlib.Omega.{arith}
use lib.Dec.{T_not}
use lib.ListN.{length}
use Rattle.rules.specs.Walk.{is_in}
use Rattle.theorems_soundness.specs.Chain.{◌∈◌, NoDup}
use Rattle.theorems_soundness.proofs.Reflect.{test_case, is_in↔}
use Rattle.theorems_soundness.proofs.Members.{Split, in_split, split_length, in_left, in_right, in_append→, nodup_around}

-- the largest number allowed, n, stands on the list once: what stands around it is below n
below-around :
    (n : ℕ) (xs : List ℕ)
    → ((j : ℕ) → j ∈ xs → j < suc n)
    → (s : Split n xs)
    → ¬ (n ∈ (s.before ++ s.after))
    → (j : ℕ)
    → j ∈ (s.before ++ s.after)
    → j < n
below-around n xs h s fresh j m =
    let d : j ≢ n = λ e. fresh (rw e at m) in
    omega (arith, h j (rw s.split (elim (in_append→ s.before s.after j m) [ inl a ↦ in_left s.before (n ∷ s.after) j a | inr b ↦ in_right s.before (n ∷ s.after) j (inr b) ])))

-- with n on the list, and without
with-largest :
    (n : ℕ) (xs : List ℕ)
    → NoDup xs
    → ((j : ℕ) → j ∈ xs → j < suc n)
    → ((ys : List ℕ) → NoDup ys → ((j : ℕ) → j ∈ ys → j < n) → length ys ≤ n)
    → n ∈ xs
    → length xs ≤ suc n
with-largest n xs d h fewer m =
    let s = in_split n xs m in
    let around = nodup_around n s.before s.after (rw s.split at d) in
    omega (arith, split_length n xs s, fewer (s.before ++ s.after) around.0 (below-around n xs h s around.1))

without_largest : (n : ℕ) (xs : List ℕ) → ((j : ℕ) → j ∈ xs → j < suc n) → ¬ (n ∈ xs) → (j : ℕ) → j ∈ xs → j < n
without_largest n xs h fresh j m = let d : j ≢ n = λ e. fresh (rw e at m) in omega (arith, h j m)

pub pigeonhole : (n : ℕ) (xs : List ℕ) → NoDup xs → ((j : ℕ) → j ∈ xs → j < n) → length xs ≤ n
pigeonhole zero [] d h = omega arith
pigeonhole zero (x ∷ xs) d h = omega (arith, h x (inl refl))
pigeonhole (suc n) xs d h =
    elim (test_case (is_in n xs)) [
      | inl i ↦ with-largest n xs d h (pigeonhole n) ((is_in↔ n xs).0 i)
      | inr i ↦ omega (arith, pigeonhole n xs d (without_largest n xs h (λ m. T_not (is_in n xs) i ((is_in↔ n xs).1 m))))
    ]
