-- A list given by a function of the index.
use Rattle.std.specs.Prelude.{ℕ, zero, suc, List, [], ◌∷◌}

-- f i, f (i + 1), .., k of them
unfoldable pub count : {A : Type 0} → (ℕ → A) → ℕ → ℕ → List A
count f i zero = []
count f i (suc k) = f i ∷ count f (suc i) k
