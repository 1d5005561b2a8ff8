-- S5 at a node, by the walk along its child list and the marks that it leaves.
use mathlib.Core.Path.{◌≡◌, sym, ap, ◌∙◌}
use mathlib.Core.List.{List}
use mathlib.Core.Bool.{Bool, true, false}
use Prim.Native.Nat.{ℕ, ◌<◌}
use native.Mathlib.Nat.{zero-add}
use native.Mathlib.Omega.{arith}
use lib.ListN.{length, length-replicate}
use Rattle.table.specs.Table.{Table, at}
use Rattle.table.specs.Nodes.{outer}
use Rattle.table.specs.Marks.{marked, unmarked}
use Rattle.table.proofs.MarkLaws.{marked-none}
use Rattle.rules.specs.Slots.{next}
use Rattle.rules.specs.Walk.{walk, is_in, all_below}
use Rattle.rules.specs.Sound.{◌⇒◌, children, is_outer_child, s5}
use Rattle.sound_walks.specs.Marks.{Judged, judged_of}
use Rattle.sound_walks.specs.Lists.{list_step}
use Rattle.sound_walks.specs.Pass.{all_from}
use Rattle.sound_walks.proofs.Truth.{bool_ext, all_to, all_from_lem, range_to, range_from}
use Rattle.sound_walks.proofs.Walks.{unbroken, good, walk-length, marking-count, marking-seen}
use Rattle.fault_rules.specs.Walked.{child_listed}

-- marks are asked for slot by slot, from 0 on; the rule asks from the end
pub same_tests : (f g : ℕ → Bool) → ((j : ℕ) → j < 256 → f j ≡ g j) → all_from f 256 0 ≡ all_below g 256
same_tests f g e =
    bool_ext (all_from f 256 0) (all_below g 256)
    (λ h. all_from_lem g 256 (λ j q. sym (e j q) ∙ range_to f 256 0 j h (omega arith) (omega arith)))
    (λ h. range_from f 256 0 (λ j p q. e j (omega arith) ∙ all_to g 256 j h (omega arith)))

module _ (t : Table) (n : ℕ) where
  abbrev fine : Bool
  fine = good (next t) (is_outer_child t n) 256 (at t n).first_child

  pub no_list : outer t n ≡ false → true ≡ s5 t n
  unfolding s5
  no_list h = rw h

  module _ (r : Bool) (l : List ℕ) (w : judged_of r l ≡ list_step t n unmarked) where
    walked_fine : r ≡ fine
    unfolding list_step
    walked_fine =
        let a : ℕ = (at t n).first_child in
        ap (λ (j : Judged). j.ok) w
        ∙ rw (marking-count (next t) (is_outer_child t n) 256 a 0 unmarked, zero-add)
        (unbroken fine (length (walk 256 (next t) a)) (walk-length (next t) (is_outer_child t n) 256 a))

    walked_marks : fine ≡ true → (j : ℕ) → j < 256 → marked l j ≡ is_in j (children t n)
    unfolding list_step
    walked_marks f j q =
        ap (λ (u : Judged). marked u.seen j) w
        ∙ marking-seen (next t) (is_outer_child t n) 256 (at t n).first_child 0 unmarked j f (rw length-replicate q)
        ∙ rw (marked-none j q)

    pub list-broken : outer t n ≡ true → r ≡ false → false ≡ s5 t n
    unfolding s5
    list-broken o h = let e : fine ≡ false = sym walked_fine ∙ h in rw (o, e)

    pub list_whole : (b : Bool) → outer t n ≡ true → r ≡ true → b ≡ all_from (child_listed t l n) 256 0 → b ≡ s5 t n
    unfolding s5
    list_whole b o h q =
        let e : fine ≡ true = sym walked_fine ∙ h in
        q
        ∙ same_tests (child_listed t l n) (λ j. is_outer_child t n j ⇒ is_in j (children t n)) (λ j p. rw (walked_marks e j p))
        ∙ rw (o, e)
