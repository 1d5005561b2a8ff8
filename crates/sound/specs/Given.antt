-- The check, over the slots that are given out, below d and from b to before e, and the others.
use Rattle.std.specs.Prelude.{ℕ, ◌-◌, Bool, not, ◌&&◌, List, eqb, replicate}
use Rattle.lists.specs.Choice.{pick}
use Rattle.table.specs.Table.{Table}
use Rattle.sound_slots.specs.Links.{is_held, is_numbered}
use Rattle.sound_walks.specs.Pass.{all_from}
use Rattle.sound_walks.specs.Numbers.{Numbers, numbers_of, outers_numbered}
use Rattle.sound.specs.OneSlot.{slot_holds, is_vacant}
use Rattle.sound_walks.specs.Marks.{Judged, sweep}
use Rattle.sound_walks.specs.Lists.{list_step}
use Rattle.sound_walks.specs.Depths.{way_step}

abbrev pub unseen : List ℕ
unseen = replicate 256 0

-- each slot by itself
unfoldable pub each_holds : Table → (ℕ → ℕ → Bool) → (ℕ → Bool) → ℕ → ℕ → ℕ → Bool
each_holds t held numbered d b e =
    all_from (slot_holds t held numbered) (d - 0) 0
    && all_from (is_vacant t) (b - d) d
    && all_from (slot_holds t held numbered) (e - b) b
    && all_from (is_vacant t) (256 - e) e

-- the numbers of insides, from the outer ones of the blossoms given out; 0 is next where a ring is none
unfoldable pub numbers_from : Table → ℕ → ℕ → Numbers
numbers_from t b e = outers_numbered t (e - b) b (numbers_of unseen unseen 1)

abbrev pub held_in : Table → Numbers → ℕ → ℕ → Bool
held_in t w = is_held t w.lo w.hi

abbrev pub numbered_in : Numbers → ℕ → Bool
numbered_in w = is_numbered w.lo

unfoldable pub numbered_hold : Table → ℕ → ℕ → ℕ → Bool
numbered_hold t d b e =
    not (eqb (numbers_from t b e).free 0) && each_holds t (held_in t (numbers_from t b e)) (numbered_in (numbers_from t b e)) d b e

unfoldable pub given_pass : (ℕ → List ℕ → Judged) → ℕ → ℕ → ℕ → Judged
given_pass step d b e =
    let rest = sweep step (e - b) b (sweep step (d - 0) 0 unseen).seen in
    pick (sweep step (d - 0) 0 unseen).ok rest (sweep step (d - 0) 0 unseen)

-- with the marks that lists leave, the last pass
unfoldable pub paths_hold : Table → ℕ → ℕ → ℕ → Bool
paths_hold t d b e = (given_pass (list_step t) d b e).ok && (given_pass (way_step t (given_pass (list_step t) d b e).seen) d b e).ok
