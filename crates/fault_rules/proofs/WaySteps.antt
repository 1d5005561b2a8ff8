-- The way up from a node, one step at a time, as the code takes it: after i steps 257 - i are left.
use mathlib.Core.Path.{◌≡◌}
use mathlib.Core.Bool.{true}
use Prim.Native.Nat.{ℕ, zero, suc, ◌+◌, ◌-◌, ◌≤◌, ◌<◌}
use native.Mathlib.Numerals.{add-one}
use lib.Dec.{eqb}
use borrow.Author.Tests.{eq-eqb, ne_eqb}
use Rattle.lists.proofs.Budget.{one_left, none_left}
use Rattle.slot.specs.Number.{none}
use Rattle.rules.specs.Walk.{ends}

pub ends_here : (next : ℕ → ℕ) (n k : ℕ) → n ≡ none → ends k next n ≡ true
unfolding ends
ends_here next n zero e = eq-eqb n none e
ends_here next n (suc k) e = rw (eq-eqb n none e)

module _ (i : ℕ) (next : ℕ → ℕ) (n : ℕ) where
  pub ends_spent : 257 ≤ i → ends (257 - i) next n ≡ eqb n none
  unfolding ends
  ends_spent h = rw (none_left i 257 h)

  pub ends_more : i < 257 → (n ≡ none → ⊥) → ends (257 - i) next n ≡ ends (257 - (i + 1)) next (next n)
  unfolding ends
  ends_more h d = rw (one_left i 257 h, ne_eqb n none d, add-one)
