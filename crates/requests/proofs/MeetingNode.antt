-- Statements: where the climb in turn from two different outer nodes of a sound table comes to.
use mathlib.Core.Path.{◌≡◌, sym, ◌∙◌}
use mathlib.Core.Logic.{◌≢◌, ◌↔◌}
use Prim.Native.Nat.{ℕ}
use lib.Dec.{T}
use Rattle.std.specs.Prelude.{Option, Some, None}
use Rattle.slot.specs.Number.{none}
use Rattle.std.proofs.lemmas.Option.{none-some}
use Rattle.table.specs.Table.{Table, Full}
use Rattle.table.specs.Nodes.{outer}
use Rattle.rules.specs.Sound.{sound}
use Rattle.rules.specs.Trees.{same_tree, meeting}
use Rattle.theorems_soundness.proofs.Reflect.{pick_yes, pick_no}
use Rattle.theorems_soundness.proofs.Wholes.{to_whole}
use Rattle.requests.specs.Meeting.{met_in_turn}
use Rattle.requests.proofs.MeetingFound.{met, meeting_some}

module _ (t : Table) (full : Full t) (s : T (sound t)) (x y : ℕ) (outer_x : T (outer t x)) (outer_y : T (outer t y)) (two : x ≢ y) where
  -- in one tree 01's meeting node, "the first node that both upward paths share"
  pub one_tree_met : T (same_tree t x y) → (met_in_turn t x y ≡ Some (meeting t x y)) × (meeting t x y ≢ none)
  one_tree_met h = (
    met t (to_whole t full s) x y outer_x outer_y two ∙ pick_yes (same_tree t x y) (Some (meeting t x y)) None h,
    meeting_some t (to_whole t full s) x y outer_x outer_y h,
  )

  -- in two trees none
  pub two_trees_told : ¬ T (same_tree t x y) → met_in_turn t x y ≡ None
  two_trees_told h = met t (to_whole t full s) x y outer_x outer_y two ∙ pick_no {A = Option ℕ} (same_tree t x y) (Some (meeting t x y)) None h

  -- .. and there alone
  pub none_exactly : (met_in_turn t x y ≡ None) ↔ (¬ T (same_tree t x y))
  none_exactly = (λ e h. absurd (none-some (meeting t x y) (sym e ∙ (one_tree_met h).0)), two_trees_told)
