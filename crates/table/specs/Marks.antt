-- Which slots a walk has passed, a number for each, in memory beside the table. (The mark in the table's own words is a slot's state.)
use Rattle.std.specs.Prelude.{ℕ, Bool, List, eqb, get_or, replicate}

-- 1 is a mark; past the end nothing is marked
unfoldable pub marked : List ℕ → ℕ → Bool
marked l n = eqb (get_or l n 0) 1

abbrev pub unmarked : List ℕ
unmarked = replicate 256 0
