-- The way and the climb beside it, one step at a time, as the code takes them: after i steps 256 - i are left.
use mathlib.Core.Path.{◌≡◌, refl}
use mathlib.Core.Bool.{true, false}
use mathlib.Core.List.{List}
use Prim.Native.Nat.{ℕ, zero, suc, ◌+◌, ◌-◌, ◌≤◌, ◌<◌}
use native.Mathlib.Numerals.{add-one}
use lib.ListN.{set, get_or}
use borrow.Author.Tests.{eq-eqb, ne_eqb}
use Rattle.lists.proofs.Budget.{one_left, none_left}
use Rattle.slot.specs.Number.{none}
use Rattle.table.specs.Table.{Table, at}
use Rattle.table.specs.Nodes.{inner}
use Rattle.table.proofs.Climbs.{outer_stop, outer_up, outer_end}
use Rattle.rules.specs.Slots.{up}
use Rattle.partner.specs.Way.{noted, is_noted, beside_way}

module _ (t : Table) (w : List ℕ) (n : ℕ) where
  pub noted_stop : (k : ℕ) → inner t n ≡ false → noted k t n w ≡ w
  unfolding noted
  noted_stop zero q = refl
  noted_stop (suc k) q = rw q

  pub noted-inner : (k : ℕ) → inner t n ≡ true → noted (suc k) t n w ≡ noted k t (up t n) (set w (up t n) n)
  unfolding noted
  noted-inner k q = rw q

  pub beside_here : (k : ℕ) → is_noted w (up t n) ≡ true → beside_way (suc k) t w n ≡ n
  unfolding beside_way
  beside_here k q = rw q

  pub beside_above : (k : ℕ) → is_noted w (up t n) ≡ false → beside_way (suc k) t w n ≡ beside_way k t w (up t n)
  unfolding beside_way
  beside_above k q = rw q

  pub beside_stop : (k : ℕ) → (get_or w (at t n).parent 0 ≡ none → ⊥) → beside_way k t w n ≡ n
  unfolding beside_way
  beside_stop zero d = refl
  beside_stop (suc k) d = rw (ne_eqb (get_or w (at t n).parent 0) none d)

  module _ (i : ℕ) where
    pub noted_end : 256 ≤ i → noted (256 - i) t n w ≡ w
    unfolding noted
    noted_end h = rw (none_left i 256 h)

    pub noted_up : i < 256 → inner t n ≡ true → noted (256 - i) t n w ≡ noted (256 - (i + 1)) t (at t n).parent (set w (at t n).parent n)
    unfolding noted
    noted_up h q = rw (one_left i 256 h, q, add-one)

    pub beside_end : 256 ≤ i → beside_way (256 - i) t w n ≡ n
    unfolding beside_way
    beside_end h = rw (none_left i 256 h)

    pub beside_up : i < 256 → get_or w (at t n).parent 0 ≡ none → beside_way (256 - i) t w n ≡ beside_way (256 - (i + 1)) t w (at t n).parent
    unfolding beside_way
    beside_up h e = rw (one_left i 256 h, eq-eqb (get_or w (at t n).parent 0) none e, add-one)

pub ruleset noting = (noted_stop, noted_up, noted_end, outer_stop, outer_up, outer_end)

pub ruleset besides = (beside_stop, beside_up, beside_end)
