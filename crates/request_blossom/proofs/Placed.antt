-- A blossom put in its place: where the meeting node is a root, and where it has a parent.
use mathlib.Core.Path.{◌≡◌}
use Prim.Native.Nat.{ℕ}
use borrow.Author.Tests.{eq-eqb, ne_eqb}
use Rattle.slot.specs.Number.{none}
use Rattle.table.specs.Table.{Table, at, put}
use Rattle.rules.specs.Act.{choose}
use Rattle.rules.specs.Slots.{up}
use Rattle.rules.specs.Blossom.{replace_child, new_blossom, blossom_placed}

module _ (b m : ℕ) (t : Table) where
  pub placed_root : up t m ≡ none → blossom_placed b m t ≡ put t b (new_blossom m (at t m))
  unfolding blossom_placed choose
  placed_root h = rw (eq-eqb (up t m) none h)

  pub placed_child : (up t m ≡ none → ⊥) → blossom_placed b m t ≡ replace_child (up t m) m b (put t b (new_blossom m (at t m)))
  unfolding blossom_placed choose
  placed_child h = rw (ne_eqb (up t m) none h)

pub ruleset placed = (placed_root, placed_child)
