-- The climbs one step at a time, as the code's loops take them: after i steps 256 - i of one end are left, or 512 - i of both.
use mathlib.Core.Path.{◌≡◌}
use mathlib.Core.Bool.{Bool, true, false}
use mathlib.Core.List.{List}
use Prim.Native.Nat.{ℕ, ◌+◌, ◌-◌, ◌≤◌, ◌<◌}
use native.Mathlib.Numerals.{add-one}
use lib.Dec.{eqb}
use lib.ListN.{set}
use borrow.Author.Tests.{le-leb, lt-leb}
use Rattle.std.specs.Prelude.{Some, None}
use Rattle.lists.proofs.Budget.{one_left, none_left}
use Rattle.table.specs.Table.{Table, at}
use Rattle.table.specs.Marks.{unmarked, marked}
use Rattle.requests.specs.Meeting.{first_above, in_turn, met_in_turn}

-- ---- one end alone

module _ (t : Table) (test : ℕ → Bool) (n i : ℕ) where
  pub above_end : 256 ≤ i → first_above (256 - i) t test n ≡ None
  unfolding first_above
  above_end h = rw (none_left i 256 h)

  module _ (h : i < 256) where
    pub above_top : 256 ≤ (at t n).parent → first_above (256 - i) t test n ≡ None
    unfolding first_above
    above_top l = rw (one_left i 256 h, le-leb 256 (at t n).parent l)

    pub above_found : (at t n).parent < 256 → test (at t n).parent ≡ true → first_above (256 - i) t test n ≡ Some (at t n).parent
    unfolding first_above
    above_found l q = rw (one_left i 256 h, lt-leb 256 (at t n).parent l, q)

    pub above_up : (at t n).parent < 256 → test (at t n).parent ≡ false → first_above (256 - i) t test n ≡ first_above (256 - (i + 1)) t test (at t n).parent
    unfolding first_above
    above_up l q = rw (one_left i 256 h, lt-leb 256 (at t n).parent l, q, add-one)

-- ---- both in turn

module _ (t : Table) (ms : List ℕ) (a b i : ℕ) where
  pub turn_end : 512 ≤ i → in_turn (512 - i) t ms a b ≡ None
  unfolding in_turn
  turn_end h = rw (none_left i 512 h)

  module _ (h : i < 512) where
    pub turn_top : 256 ≤ (at t a).parent → in_turn (512 - i) t ms a b ≡ first_above 256 t (marked ms) b
    unfolding in_turn
    turn_top l = rw (one_left i 512 h, le-leb 256 (at t a).parent l)

    pub turn_met : (at t a).parent < 256 → marked ms (at t a).parent ≡ true → in_turn (512 - i) t ms a b ≡ Some (at t a).parent
    unfolding in_turn
    turn_met l m = rw (one_left i 512 h, lt-leb 256 (at t a).parent l, m)

    pub turn_more :
        (at t a).parent < 256
        → marked ms (at t a).parent ≡ false
        → in_turn (512 - i) t ms a b ≡ in_turn (512 - (i + 1)) t (set ms (at t a).parent 1) b (at t a).parent
    unfolding in_turn
    turn_more l m = rw (one_left i 512 h, lt-leb 256 (at t a).parent l, m, add-one)

-- ---- the whole

module _ (t : Table) (a b : ℕ) where
  pub met_first_root : 256 ≤ (at t a).parent → met_in_turn t a b ≡ first_above 256 t (eqb a) b
  unfolding met_in_turn
  met_first_root l = rw (le-leb 256 (at t a).parent l)

  module _ (l : (at t a).parent < 256) where
    pub met_second_root : 256 ≤ (at t b).parent → met_in_turn t a b ≡ first_above 256 t (eqb b) a
    unfolding met_in_turn
    met_second_root m = rw (lt-leb 256 (at t a).parent l, le-leb 256 (at t b).parent m)

    pub met_climbed : (at t b).parent < 256 → met_in_turn t a b ≡ in_turn 512 t (set (set unmarked a 1) b 1) a b
    unfolding met_in_turn
    met_climbed m = rw (lt-leb 256 (at t a).parent l, lt-leb 256 (at t b).parent m)

pub ruleset steps_up = (above_top, above_found, above_up, above_end)

pub ruleset turns = (turn_top, turn_met, turn_more, turn_end)

pub ruleset starts = (met_first_root, met_second_root, met_climbed)
