-- Numbers stored one after another.
use Rattle.std.specs.Prelude.{ℕ, suc, ◌+◌, List, [], ◌∷◌, set}

-- vs stored one by one, the first at b + k
abbrev pub stores : List ℕ → ℕ → ℕ → List ℕ → List ℕ
stores l b k [] = l
stores l b k (v ∷ vs) = stores (set l (b + k) v) b (suc k) vs
