-- The ring of S6 by the walk around it and the marks that it leaves.
use mathlib.Core.Path.{◌≡◌, refl, sym, ap, subst, ◌∙◌}
use mathlib.Core.List.{List, [], ◌∷◌}
use mathlib.Core.Bool.{Bool, true, false, ◌&&◌, not, and-false, and-true, and_assoc}
use Prim.Native.Nat.{ℕ, ◌<◌}
use native.Mathlib.Nat.{zero-add}
use lib.Dec.{eqb}
use lib.ListN.{length, length-replicate}
use borrow.Author.Tests.{eq-eqb, ne_eqb}
use Rattle.slot.specs.Number.{none}
use Rattle.table.specs.Table.{Table, at}
use Rattle.table.specs.Marks.{marked, unmarked}
use Rattle.table.proofs.MarkLaws.{marked-none}
use Rattle.rules.specs.Slots.{is_some, next}
use Rattle.rules.specs.Walk.{ends, is_in, all_in, all_below}
use Rattle.rules.specs.Sound.{◌⇒◌, next_in_ring, ring_of, is_inner_child, ring_holds}
use Rattle.sound_walks.specs.Marks.{Walked, walked_of, marking}
use Rattle.sound_walks.specs.Numbers.{is_odd_ring}
use Rattle.sound_walks.specs.Pass.{all_from}
use Rattle.sound_walks.proofs.Truth.{by_cases}
use Rattle.sound_walks.proofs.Walks.{unbroken, good, walk-length, marking-count, marking-seen}
use Rattle.fault_rules.specs.Walked.{is_ring_node, ring_listed}
use Rattle.fault_rules.proofs.ChildListSteps.{same_tests}

all_of_both : (p q : ℕ → Bool) (xs : List ℕ) → all_in (λ n. p n && q n) xs ≡ (all_in p xs && all_in q xs)
unfolding all_in
all_of_both p q [] = refl
all_of_both p q (x ∷ xs) =
    by_cases (p x)
    (λ e. by_cases (q x) (λ f. rw (e, f) (all_of_both p q xs)) (λ f. rw (e, f, and-false)))
    (λ e. rw e)

regrouped : (a b c d e f : Bool) → (a && b && c && d && e && f) ≡ (a && (b && c) && d && (e && f))
regrouped true true c d e f = and_assoc (c && d) e f
regrouped true false c d e f = refl
regrouped false b c d e f = refl

module _ (t : Table) (b : ℕ) where
  abbrev along : ℕ → ℕ
  along = next_in_ring t (at t b).ring

  abbrev fine : Bool
  fine = good along (is_ring_node t b) 256 (at t b).ring

  abbrev all_on_ring : Bool
  all_on_ring = all_below (λ j. is_inner_child t b j ⇒ is_in j (ring_of t b)) 256

  -- the rule's tests in the order in which the code makes them
  ring_tests : ring_holds t b ≡ (fine && all_on_ring && is_odd_ring (length (ring_of t b)))
  ring_tests =
      let e : fine ≡ (ends 256 along (at t b).ring && (all_in (λ n. is_some (next t n)) (ring_of t b) && all_in (is_inner_child t b) (ring_of t b))) =
      ap (λ (r : Bool). ends 256 along (at t b).ring && r) (all_of_both (λ n. is_some (next t n)) (is_inner_child t b) (ring_of t b)) in
      let p : Bool = ends 256 along (at t b).ring in
      let q : Bool = all_in (λ n. is_some (next t n)) (ring_of t b) in
      regrouped p q (all_in (is_inner_child t b) (ring_of t b)) all_on_ring _ _ ∙ ap (λ (r : Bool). r && all_on_ring && is_odd_ring (length (ring_of t b))) (sym e)

  module _ (first : ℕ) (e : first ≡ (at t b).ring) (c : ℕ) (l : List ℕ) (v : walked_of c l ≡ marking 256 (next_in_ring t first) (is_ring_node t b) first 0 unmarked) where
    w : walked_of c l ≡ marking 256 along (is_ring_node t b) (at t b).ring 0 unmarked
    w = subst (λ (f : ℕ). walked_of c l ≡ marking 256 (next_in_ring t f) (is_ring_node t b) f 0 unmarked) e v

    count_fine : not (eqb c none) ≡ fine
    count_fine =
        ap (λ (u : Walked). not (eqb u.count none)) w
        ∙ rw (marking-count along (is_ring_node t b) 256 (at t b).ring 0 unmarked, zero-add)
        (unbroken fine (length (ring_of t b)) (walk-length along (is_ring_node t b) 256 (at t b).ring))

    count-length : fine ≡ true → c ≡ length (ring_of t b)
    count-length f =
        ap (λ (u : Walked). u.count) w
        ∙ marking-count along (is_ring_node t b) 256 (at t b).ring 0 unmarked
        ∙ rw (f, zero-add)

    walked_marks : fine ≡ true → (j : ℕ) → j < 256 → marked l j ≡ is_in j (ring_of t b)
    walked_marks f j q =
        ap (λ (u : Walked). marked u.seen j) w
        ∙ marking-seen along (is_ring_node t b) 256 (at t b).ring 0 unmarked j f (rw length-replicate q)
        ∙ rw (marked-none j q)

    pub ring_broken : c ≡ none → false ≡ ring_holds t b
    ring_broken e =
        let f : fine ≡ false = sym count_fine ∙ rw (eq-eqb c none e) in
        sym (ring_tests ∙ rw f)

    module _ (d : c ≡ none → ⊥) where
      is_fine : fine ≡ true
      is_fine = sym count_fine ∙ rw (ne_eqb c none d)

      pub ring_even : is_odd_ring c ≡ false → false ≡ ring_holds t b
      ring_even h =
          let o : is_odd_ring (length (ring_of t b)) ≡ false = ap is_odd_ring (sym (count-length is_fine)) ∙ h in
          sym (ring_tests ∙ rw (o, and-false))

      pub ring_whole : (r : Bool) → is_odd_ring c ≡ true → r ≡ all_from (ring_listed t l b) 256 0 → r ≡ ring_holds t b
      ring_whole r h q =
          let f = is_fine in
          let o : is_odd_ring (length (ring_of t b)) ≡ true = ap is_odd_ring (sym (count-length f)) ∙ h in
          q
          ∙ same_tests (ring_listed t l b) (λ j. is_inner_child t b j ⇒ is_in j (ring_of t b)) (λ j p. rw (walked_marks f j p))
          ∙ sym (ring_tests ∙ rw (f, o) (and-true all_on_ring))
