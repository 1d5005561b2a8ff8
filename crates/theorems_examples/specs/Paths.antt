-- Requests that make a tree which is a single path.
use Rattle.std.specs.Prelude.{List, [], ◌∷◌, ◌++◌, ℕ, zero, suc}
use Rattle.record.specs.declared.request.Request.{Request}
use Rattle.rules.specs.Script.{join}

-- n with n + 1, then n + 2 with n + 3, and so on, k times
unfoldable pub joins : ℕ → ℕ → List Request
joins zero n = []
joins (suc k) n = join n (suc n) ∷ joins k (suc (suc n))

-- the nodes n + 1 to n + 2k in pairs, which are then hung below n one below the other: n + 2k is the lowest
unfoldable pub path : ℕ → ℕ → List Request
path k n = joins k (suc n) ++ joins k n
