-- Facts about lists of nodes and about the ways through a table: what the bounded walks of `Walk` and the climbs find, with no budget.
use Rattle.std.specs.Prelude.{◌≡◌, ◌≢◌, ◌⊎◌, Bool, List, [], ◌∷◌, ℕ, zero, suc, T}
use Rattle.slot.specs.Number.{none}

-- a stands on a list; a pattern is `inl` (here) or `inr` (further on)
infix 18 ◌∈◌
abbrev pub ◌∈◌ : ℕ → List ℕ → Type 0
a ∈ [] = ⊥
a ∈ (x ∷ xs) = (a ≡ x) ⊎ (a ∈ xs)

-- "once each"
abbrev pub NoDup : List ℕ → Type 0
NoDup [] = Unit {0}
NoDup (x ∷ xs) = (¬ (x ∈ xs)) × NoDup xs

-- the list is all that is met from a along `next`, to the end, which is none
abbrev pub Chain : (ℕ → ℕ) → ℕ → List ℕ → Type 0
Chain next a [] = a ≡ none
Chain next a (c ∷ cs) = (a ≡ c) × (a ≢ none) × Chain next (next c) cs

-- so many steps along `next` lead from a to b, each from a node that may be left
abbrev pub Steps : (ℕ → Bool) → (ℕ → ℕ) → ℕ → ℕ → ℕ → Type 0
Steps leaves next zero a b = a ≡ b
Steps leaves next (suc k) a b = T (leaves a) × Steps leaves next k (next a) b
