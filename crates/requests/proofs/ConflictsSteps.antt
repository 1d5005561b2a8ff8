-- Each function, one step at a time: its premises in the code's order, its own promise as the conclusion.
use mathlib.Core.Path.{◌≡◌, sym, ◌∙◌}
use mathlib.Core.Bool.{true, false}
use mathlib.Core.Logic.{inl, inr}
use Prim.Native.Nat.{ℕ, ◌+◌}
use lib.Dec.{T_not}
use borrow.Author.Tests.{le-leb, lt-leb}
use Rattle.std.specs.Prelude.{Option, Some, None, Ok}
use Rattle.std.proofs.lemmas.Option.{none-some, same_Some}
use Rattle.slot.specs.Slot.{Link}
use Rattle.table.specs.Table.{Table, Full}
use Rattle.table.specs.Counts.{blossom_end}
use Rattle.table.proofs.BlossomEnd.{no_slot_left, slot_left}
use Rattle.record.specs.declared.request.Conflict.{Conflict}
use Rattle.record.specs.declared.request.Request.TheVariants as Q
use Rattle.record.specs.Writing.{Out}
use Rattle.rules.specs.Act.{World, run, skip}
use Rattle.rules.specs.Trees.{same_tree, meeting, loaded}
use Rattle.rules.specs.Matching.{temporary_match, augment_whole_tree}
use Rattle.rules.specs.Blossom.{lacks_blossom_slot, create_blossom}
use Rattle.rules.specs.Conflict.{conflict_link, blossom_in_tree, trees_meet, resolved, conflict}
use Rattle.rules.specs.Sound.{sound}
use Rattle.outcome.specs.Handled.{later_verdict}
use Rattle.outcome.proofs.Verdicts.{sound-verdict}
use Rattle.rules.proofs.Runs.{world, runs, run_then, run-read, run-skip, run_yes, run_no}
use Rattle.theorems_soundness.proofs.Reflect.{test_case, test_true, test_false, true_test, pick_yes, pick_no}
use Rattle.theorems_soundness.proofs.Wholes.{to_whole, from_whole}
use Rattle.theorems_soundness.proofs.Accepting.{both-loaded}
use Rattle.requests.specs.Meeting.{meeting_or_none}
use Rattle.requests.specs.Resolving.{Checked, CheckedOnceLoaded, met_with_slot, blossom_at}
use Rattle.requests.proofs.MeetingFound.{tree-slot, met_with_slot_lem}

module _ (w : World) (x y : ℕ) (l : Link) where
  -- a blossom only where a slot is left
  module _ (m : ℕ) where
    pub blossom_full : blossom_end w.table ≡ 256 → run w (blossom_at m x y l) ≡ w
    unfolding blossom_at
    blossom_full e =
        run-read w _
        ∙ run_yes w (lacks_blossom_slot w.table) skip _ (le-leb 256 (w.table.begin + w.table.blossoms) (no_slot_left w.table e))
        ∙ run-skip w

    pub blossom_new : (blossom_end w.table ≡ 256 → ⊥) → run w (blossom_at m x y l) ≡ run w (create_blossom (blossom_end w.table) (w.table.blossoms + 1) m x y l)
    unfolding blossom_at
    blossom_new n =
        let s = slot_left w.table n in
        run-read w _
        ∙ run_no w (lacks_blossom_slot w.table) skip _ (lt-leb 256 (w.table.begin + w.table.blossoms) s.1)
        ∙ rw s.0

  -- what the climb tells: the meeting node in one tree, none in two
  module _ (full : Full w.table) (ok : Checked w.table x y) where
    pub one_tree : (w₁ : World) (m : ℕ) → Some m ≡ met_with_slot w.table x y → w₁ ≡ run w (blossom_at m x y l) → w₁ ≡ run w (trees_meet x y l)
    unfolding trees_meet blossom_in_tree blossom_at
    one_tree w₁ m e p =
        let told : Some m ≡ meeting_or_none w.table x y = e ∙ met_with_slot_lem w.table x y full ok in
        elim (test_case (same_tree w.table x y)) [
          | inl s ↦
              let is : m ≡ meeting w.table x y = same_Some _ _ (told ∙ pick_yes (same_tree w.table x y) (Some (meeting w.table x y)) None s) in
              p ∙ rw (run-read, run-read, run_yes w (same_tree w.table x y) (blossom_in_tree x y l) _ (test_true _ s), run-read, is)
          | inr n ↦
              absurd (none-some m (sym (told ∙ pick_no {A = Option ℕ} (same_tree w.table x y) (Some (meeting w.table x y)) None (T_not (same_tree w.table x y) n))))
        ]

    pub two_trees :
        (w₁ w₂ w₃ : World)
        → None ≡ met_with_slot w.table x y
        → w₁ ≡ run w (augment_whole_tree x)
        → w₂ ≡ run w₁ (augment_whole_tree y)
        → w₃ ≡ run w₂ (temporary_match x l y)
        → w₃ ≡ run w (trees_meet x y l)
    unfolding trees_meet
    two_trees w₁ w₂ w₃ e p q r =
        let told : None ≡ meeting_or_none w.table x y = e ∙ met_with_slot_lem w.table x y full ok in
        let s : same_tree w.table x y ≡ false =
        test_false _ (λ i. none-some (meeting w.table x y) (told ∙ pick_yes (same_tree w.table x y) (Some (meeting w.table x y)) None i)) in
        r ∙ rw (q, p) (sym (run-read w _ ∙ run_no w (same_tree w.table x y) (blossom_in_tree x y l) _ s ∙ rw (run_then, run_then)))

module _ (t t₁ t₂ : Table) (c : Conflict) (p : t₁ ≡ loaded c.node_1.0 t) (q : t₂ ≡ loaded c.node_2.0 t₁) where
  pub both_loaded : CheckedOnceLoaded c t → Checked t₂ c.node_1.0 c.node_2.0
  both_loaded ok = rw (q, p) ok

  pub conflict-step : (o : Out) (w : World) → w ≡ run (world t₂ o) (resolved c.node_1.0 c.node_2.0 (conflict_link c)) → w ≡ run (world t o) (conflict c)
  unfolding conflict
  conflict-step o w r = r ∙ rw (q, p) (simp runs)

-- what the checks of an accepted conflict leave to its rule
pub checked-once-loaded :
    (t : Table) (room : ℕ) (c : Conflict)
    → Full t
    → sound t ≡ true
    → later_verdict (Q.Conflict c) t room ≡ Ok tt
    → CheckedOnceLoaded c t
checked-once-loaded t room c full s e =
    let h = both-loaded t room c (to_whole t full (true_test (sound t) s)) (sound-verdict (Q.Conflict c) t room s ∙ e) in (
      test_true _ (from_whole _ h.whole),
      test_true _ h.outer_1,
      test_true _ h.outer_2,
      h.two,
      λ z. test_false _ (tree-slot _ h.whole _ _ h.outer_1 h.outer_2 h.two h.slot (true_test _ z)),
    )

pub ruleset blossoms = (blossom_full, blossom_new)
