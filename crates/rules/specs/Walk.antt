-- A bounded walk along a pointer, and tests over lists of nodes.
use Rattle.std.specs.Prelude.{ℕ, zero, suc, Bool, true, false, ◌&&◌, ◌||◌, List, [], ◌∷◌, eqb}
use Rattle.lists.specs.Choice.{pick}
use Rattle.slot.specs.Number.{none}
use Rattle.rules.specs.Slots.{is_none}

-- the nodes from a along `next`, up to none; at most k
unfoldable pub walk : ℕ → (ℕ → ℕ) → ℕ → List ℕ
walk zero next a = []
walk (suc k) next a = let rest = a ∷ walk k next (next a) in pick (is_none a) [] rest

-- whether that walk comes to none
unfoldable pub ends : ℕ → (ℕ → ℕ) → ℕ → Bool
ends zero next a = is_none a
ends (suc k) next a = let rest = ends k next (next a) in is_none a || rest

unfoldable pub is_in : ℕ → List ℕ → Bool
is_in a [] = false
is_in a (x ∷ xs) = let rest = is_in a xs in eqb a x || rest

-- whether a test holds of all on a list, and of all numbers below n
unfoldable pub all_in : (ℕ → Bool) → List ℕ → Bool
all_in test [] = true
all_in test (x ∷ xs) = let rest = all_in test xs in test x && rest

unfoldable pub all_below : (ℕ → Bool) → ℕ → Bool
all_below test zero = true
all_below test (suc n) = let rest = all_below test n in test n && rest

-- the first on one list that is on the other too
unfoldable pub first_shared : List ℕ → List ℕ → ℕ
first_shared [] ys = none
first_shared (x ∷ xs) ys = let rest = first_shared xs ys in pick (is_in x ys) x rest
