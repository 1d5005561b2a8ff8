-- A pass over slots that only asks.
use Rattle.std.specs.Prelude.{ℕ, zero, suc, Bool, true, ◌&&◌}

-- whether a test holds of k numbers from i on
unfoldable pub all_from : (ℕ → Bool) → ℕ → ℕ → Bool
all_from test zero i = true
all_from test (suc k) i = let rest = all_from test k (suc i) in test i && rest
