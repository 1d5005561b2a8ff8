-- Loading a node: nothing, where it is no empty defect slot; else the new node, and the count past it.
use mathlib.Core.Path.{◌≡◌}
use mathlib.Core.Bool.{true, false}
use Prim.Native.Nat.{ℕ, suc, ◌+◌, ◌≤◌, ◌<◌, max}
use native.Mathlib.Omega.{arith}
use borrow.Author.Tests.{lt-ltb, le-ltb}
use Rattle.slot.specs.Slot.{new_node}
use Rattle.table.specs.Table.{Table, put}
use Rattle.table.specs.Counts.{with_defects}
use Rattle.table.specs.Nodes.{present}
use Rattle.rules.specs.Act.{choose}
use Rattle.rules.specs.Trees.{loaded}

pub load_blossom : (n : ℕ) (t : Table) → t.begin ≤ n → loaded n t ≡ t
unfolding loaded choose
load_blossom n t h = rw (le-ltb n t.begin h)

pub load_present : (n : ℕ) (t : Table) → n < t.begin → present t n ≡ true → loaded n t ≡ t
unfolding loaded choose
load_present n t h p = rw (lt-ltb n t.begin h, p)

module _ (n : ℕ) (t : Table) where
  pub load_counted : n < t.begin → present t n ≡ false → n < (put t n new_node).defects → loaded n t ≡ put t n new_node
  unfolding loaded choose put with_defects
  load_counted h p d =
      let e : max t.defects (suc n) ≡ t.defects = omega arith in
      rw (lt-ltb n t.begin h, p, e)

  pub load_past : n < t.begin → present t n ≡ false → (put t n new_node).defects ≤ n → loaded n t ≡ with_defects (put t n new_node) (n + 1)
  unfolding loaded choose put with_defects
  load_past h p d =
      let e : max t.defects (suc n) ≡ n + 1 = omega arith in
      rw (lt-ltb n t.begin h, p, e)

pub ruleset loads = (load_blossom, load_present, load_counted, load_past)
