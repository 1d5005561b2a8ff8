-- The checks, in the code's order.
use mathlib.Core.Path.{◌≡◌}
use mathlib.Core.Bool.{Bool, true, false, not, ◌||◌}
use Prim.Native.Nat.{ℕ}
use lib.Dec.{eqb}
use borrow.Author.Tests.{leb-true, leb-false, lt-ltb, le-ltb, eq-eqb, ne_eqb}
use Rattle.slot.specs.Number.{none}
use Rattle.slot.specs.Slot.{Slot}
use Rattle.table.specs.Table.{Table, at}
use Rattle.table.specs.Nodes.{is_blossom, present}
use Rattle.table.specs.Place.{in_tree}
use Rattle.rules.specs.Trees.{seen, same_tree}
use Rattle.rules.specs.Refusals.{makes_blossom}

-- ---- tests tried one after the other, in the code's order

pub first_applies : (a b : Bool) → a ≡ true → true ≡ (a || b)
first_applies a b e = rw e

pub second_decides : (a b r : Bool) → a ≡ false → r ≡ b → r ≡ (a || b)
second_decides a b r e f = rw e f

-- 7: one is −, or none is growing
module _ (a b : Bool) where
  pub first_minus : (n : Bool) → a ≡ true → true ≡ (a || b || n)
  first_minus n e = rw e

  pub second_minus : (n : Bool) → a ≡ false → b ≡ true → true ≡ (a || b || n)
  second_minus n e f = rw (e, f)

  module _ (c d : Bool) where
    pub first_growing : a ≡ false → b ≡ false → c ≡ true → false ≡ (a || b || not (c || d))
    first_growing e f g = rw (e, f, g)

    pub second_growing : (s : Bool) → a ≡ false → b ≡ false → c ≡ false → s ≡ d → not s ≡ (a || b || not (c || d))
    second_growing s e f g h = rw (e, f, g, h)

-- ---- trees

pub in_tree_parent : (s u : Slot) → s ≡ u → (s.parent ≡ none → ⊥) → true ≡ in_tree u
in_tree_parent s u e p = rw (← e, ne_eqb s.parent none p)

pub in_tree_child : (s u : Slot) (b : Bool) → s ≡ u → s.parent ≡ none → b ≡ not (eqb s.first_child none) → b ≡ in_tree u
in_tree_child s u b e p q = rw (← e, eq-eqb s.parent none p) q

module _ (t : Table) (n : ℕ) where
  pub seen_tree_blossom : (r : Bool) → is_blossom t n ≡ true → r ≡ in_tree (at t n) → r ≡ in_tree (seen t n)
  seen_tree_blossom r b e = rw (le-ltb n t.begin (leb-true t.begin n b)) e

  pub seen_tree_present : (r : Bool) → is_blossom t n ≡ false → present t n ≡ true → r ≡ in_tree (at t n) → r ≡ in_tree (seen t n)
  seen_tree_present r b p e = rw (lt-ltb n t.begin (leb-false t.begin n b), p) e

  pub seen_tree_new : is_blossom t n ≡ false → present t n ≡ false → false ≡ in_tree (seen t n)
  seen_tree_new b p = rw (lt-ltb n t.begin (leb-false t.begin n b), p)

  module _ (y : ℕ) where
    pub makes_no_first : in_tree (seen t n) ≡ false → false ≡ makes_blossom t n y
    makes_no_first p = rw p

    pub makes_no_second : in_tree (seen t n) ≡ true → in_tree (seen t y) ≡ false → false ≡ makes_blossom t n y
    makes_no_second p q = rw (p, q)

    pub makes_by_root : (r : Bool) → in_tree (seen t n) ≡ true → in_tree (seen t y) ≡ true → r ≡ same_tree t n y → r ≡ makes_blossom t n y
    makes_by_root r p q e = rw (p, q) e
