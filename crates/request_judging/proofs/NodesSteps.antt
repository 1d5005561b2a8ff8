-- What is read of a node, by the cases that the code takes.
use mathlib.Core.Path.{◌≡◌, ◌∙◌}
use mathlib.Core.Bool.{true, false, not}
use Prim.Native.Nat.{ℕ, ◌≤◌, ◌<◌}
use lib.Dec.{eqb}
use borrow.Author.Tests.{leb-true, leb-false, lt-ltb, le-ltb, le-leb, lt-leb}
use Rattle.slot.specs.declared.state.State.{State}
use Rattle.slot.specs.declared.state.State.TheVariants as S
use Rattle.table.specs.Table.{Table, at}
use Rattle.table.specs.Nodes.{is_blossom, present}
use Rattle.table.specs.Climb.{outer_blossom}
use Rattle.rules.specs.Slots.{is_shrink}
use Rattle.rules.specs.Refusals.{is_not_expandable}
use Rattle.request_judging.specs.Seen.{seen_state, elsewhere}

module _ (t : Table) (n : ℕ) where
  pub seen_past : 256 ≤ n → S.Empty ≡ seen_state t n
  seen_past h = rw (le-leb 256 n h)

  pub seen_blossom : (s : State) → n < 256 → s ≡ (at t n).state → is_blossom t n ≡ true → s ≡ seen_state t n
  seen_blossom s h e b = e ∙ rw (lt-leb 256 n h, le-ltb n t.begin (leb-true t.begin n b))

  pub seen-present : (s : State) → n < 256 → s ≡ (at t n).state → is_blossom t n ≡ false → present t n ≡ true → s ≡ seen_state t n
  seen-present s h e b p = e ∙ rw (lt-leb 256 n h, lt-ltb n t.begin (leb-false t.begin n b), p)

  pub seen_new : n < 256 → is_blossom t n ≡ false → present t n ≡ false → S.Grow ≡ seen_state t n
  seen_new h b p = rw (lt-leb 256 n h, lt-ltb n t.begin (leb-false t.begin n b), p)

  module _ (touch : ℕ) where
    pub elsewhere_blossom : t.begin ≤ touch → elsewhere t n touch ≡ true
    unfolding elsewhere
    elsewhere_blossom h = rw (le-ltb touch t.begin h)

    pub elsewhere_itself : touch < t.begin → eqb touch n ≡ true → elsewhere t n touch ≡ false
    unfolding elsewhere
    elsewhere_itself h q = rw (lt-ltb touch t.begin h, q)

    pub elsewhere_by : touch < t.begin → eqb touch n ≡ false → elsewhere t n touch ≡ not (eqb (outer_blossom t touch) n)
    unfolding elsewhere
    elsewhere_by h q = rw (lt-ltb touch t.begin h, q)

  pub defect_not_expandable : is_blossom t n ≡ false → true ≡ is_not_expandable t n
  defect_not_expandable b = rw b

  pub expandable_by : (s x : State) → is_blossom t n ≡ true → s ≡ (at t n).state → s ≡ x → not (is_shrink x) ≡ is_not_expandable t n
  expandable_by s x b e q = rw (b, ← e, q)

pub ruleset elsewhere_cases = (elsewhere_blossom, elsewhere_itself, elsewhere_by)
