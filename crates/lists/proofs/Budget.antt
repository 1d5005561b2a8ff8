-- Numbers that fall by one a turn, as the code counts them: a budget, and what is left up to a bound.
use mathlib.Core.Path.{◌≡◌}
use Prim.Native.Nat.{ℕ, suc, ◌-◌, ◌≤◌, ◌<◌}
use native.Mathlib.Omega.{arith}

pub fewer : (k : ℕ) → suc k - 1 ≡ k
fewer k = omega arith

pub one_left : (i to : ℕ) → i < to → to - i ≡ suc (to - suc i)
one_left i to h = omega arith

pub none_left : (i to : ℕ) → to ≤ i → to - i ≡ 0
none_left i to h = omega arith
