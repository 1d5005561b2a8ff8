-- Walks that mark what they pass, and passes over the slots.
use Rattle.std.specs.Prelude.{ℕ, zero, suc, ◌+◌, Bool, true, List, slice_set}
use Rattle.lists.specs.Choice.{pick}
use Rattle.slot.specs.Number.{none}
use Rattle.rules.specs.Slots.{is_none}

-- ---- a walk

-- how many nodes were passed, and the marks afterwards
pub record Walked : Type 0 where
  pub count : ℕ
  pub seen : List ℕ

abbrev pub walked_of : ℕ → List ℕ → Walked
walked_of c l = record { count = c; seen = l }

-- from a along `next`, at most k nodes, each marked; the count is none where the walk does not end or meets a node that is not `mine`
unfoldable pub marking : ℕ → (ℕ → ℕ) → (ℕ → Bool) → ℕ → ℕ → List ℕ → Walked
marking zero next mine a c l = pick (is_none a) (walked_of c l) (walked_of none l)
marking (suc k) next mine a c l =
    let rest = marking k next mine (next a) (c + 1) (slice_set l a 1) in
    pick (is_none a) (walked_of c l) (pick (mine a) rest (walked_of none l))

-- ---- passes

-- whether the slot's rule holds, and what is known of all slots afterwards
pub record Judged : Type 0 where
  pub ok : Bool
  pub seen : List ℕ

abbrev pub judged_of : Bool → List ℕ → Judged
judged_of b l = record { ok = b; seen = l }

-- the steps of k slots from i on, up to the first that fails
unfoldable pub sweep : (ℕ → List ℕ → Judged) → ℕ → ℕ → List ℕ → Judged
sweep step zero i l = judged_of true l
sweep step (suc k) i l = let rest = sweep step k (suc i) (step i l).seen in pick (step i l).ok rest (step i l)
