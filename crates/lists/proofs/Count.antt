-- How long a counted list is, and what stands in it.
use mathlib.Core.Path.{◌≡◌, refl, ap, ◌∙◌}
use Prim.Native.Nat.{ℕ, zero, suc, ◌+◌, ◌<◌}
use native.Mathlib.Nat.{add-zero, add-suc, suc-add}
use native.Mathlib.Omega.{arith}
use lib.ListN.{length, get_or}
use Rattle.lists.specs.Count.{count}

module _ {A : Type 0} (f : ℕ → A) where
  pub length-count : (i k : ℕ) → length (count f i k) ≡ k
  unfolding count
  length-count i zero = refl
  length-count i (suc k) = ap suc (length-count (suc i) k)

  pub get_or-count : (i k j : ℕ) (d : A) → j < k → get_or (count f i k) j d ≡ f (i + j)
  unfolding count
  get_or-count i zero j d h = absurd (omega arith)
  get_or-count i (suc k) zero d h = rw add-zero
  get_or-count i (suc k) (suc j) d h = get_or-count (suc i) k j d (omega arith) ∙ rw (add-suc, suc-add)
