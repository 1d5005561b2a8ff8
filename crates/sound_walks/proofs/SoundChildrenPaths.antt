-- The pass with marks along child lists gives S5.
use Rattle.std.proofs.Common.{◌≡◌, ℕ, ◌<◌, Bool, true, false, ◌&&◌, ◌||◌, eqb, List, length, sym, refl, ap, ◌∙◌, zero-add, eq-eqb, eqb-true}
use Rattle.slot.specs.Number.{none}
use Rattle.table.specs.Table.{Table, at}
use Rattle.table.specs.Nodes.{outer}
use Rattle.rules.specs.Slots.{up, next}
use Rattle.rules.specs.Walk.{walk, ends, is_in, all_in, all_below}
use Rattle.rules.specs.Sound.{◌⇒◌, children, is_outer_child, s5}
use Rattle.table.specs.Marks.{marked}
use Rattle.sound_walks.specs.Marks.{Walked, marking, Judged, judged_of, sweep}
use Rattle.sound_walks.proofs.Truth.{by_cases, and_left, and_right, and_both, when, if_then, all_to, all_from_lem, in_all}
use Rattle.sound_walks.proofs.Walks.{unseen, unbroken, good, marking-length, walk-length, marking-count, marking-seen}
use Rattle.sound_walks.proofs.Sweeps.{pass_fine, pass-whole, fine_pass, fine-claim}
use Rattle.sound_walks.proofs.SoundMarksSteps.{marking_end}
use Rattle.sound_walks.specs.Lists.{list_ended, list_step}

-- only outer nodes have a list

module _ (t : Table) (bare : (i : ℕ) → outer t i ≡ false → (at t i).first_child ≡ none) where
  abbrev list_fine : ℕ → Bool
  list_fine i = good (next t) (is_outer_child t i) 256 (at t i).first_child

  pub list_skips : (i : ℕ) (l : List ℕ) → outer t i ≡ false → list_step t i l ≡ judged_of true l
  unfolding list_step
  list_skips i l o = ap (λ (w : Walked). list_ended w) (sym (marking_end (next t) (is_outer_child t i) (at t i).first_child 0 l 256 (sym (eq-eqb _ _ (bare i o)))))

  list_walks : (i : ℕ) (l : List ℕ) → outer t i ≡ true → list_step t i l ≡ list_ended (marking 256 (next t) (is_outer_child t i) (at t i).first_child 0 l)
  unfolding list_step
  list_walks i l o = refl

  list_judges : (i : ℕ) (l : List ℕ) → outer t i ≡ true → (list_step t i l).ok ≡ list_fine i
  list_judges i l o =
      let a : ℕ = (at t i).first_child in
      ap (λ (w : Judged). w.ok) (list_walks i l o)
      ∙ rw (marking-count (next t) (is_outer_child t i) 256 a 0 l, zero-add)
      (unbroken (list_fine i) (length (walk 256 (next t) a)) (walk-length (next t) (is_outer_child t i) 256 a))

  list_marks : (i : ℕ) (l : List ℕ) (j : ℕ) → outer t i ≡ true → list_fine i ≡ true → j < length l → marked (list_step t i l).seen j ≡ (marked l j || is_in j (children t i))
  list_marks i l j o f q =
      ap (λ (w : Judged). marked w.seen j) (list_walks i l o) ∙ marking-seen (next t) (is_outer_child t i) 256 (at t i).first_child 0 l j f q

  list_keeps : (i : ℕ) (l : List ℕ) → length (list_step t i l).seen ≡ length l
  list_keeps i l =
      by_cases (outer t i)
      (λ o. ap (λ (w : Judged). length w.seen) (list_walks i l o) ∙ marking-length (next t) (is_outer_child t i) 256 (at t i).first_child 0 l)
      (λ o. ap (λ (w : Judged). length w.seen) (list_skips i l o))

  list_own : (i j : ℕ) → list_fine i ≡ true → is_in j (children t i) ≡ true → up t j ≡ i
  list_own i j f m =
      eqb-true (up t j) i
      (and_right (outer t j) (eqb (up t j) i)
      (in_all (is_outer_child t i) j (children t i) (and_right (ends 256 (next t) (at t i).first_child) (all_in (is_outer_child t i) (children t i)) f) m))

  pub lists-right :
      (sweep (list_step t) 256 0 unseen).ok ≡ true
      → ((j : ℕ) → j < 256 → outer t j ≡ true → outer t (up t j) ≡ true → marked (sweep (list_step t) 256 0 unseen).seen j ≡ true)
      → (i : ℕ)
      → i < 256
      → s5 t i ≡ true
  unfolding s5
  lists-right ok claim i q =
      if_then (outer t i) _
      (λ o.
      and_both (list_fine i) _ (pass_fine t (outer t) list_fine (children t) (list_step t) list_skips list_judges list_marks list_keeps list_own ok i q o)
      (all_from_lem (λ j. is_outer_child t i j ⇒ is_in j (children t i)) 256
      (λ j r.
      if_then (is_outer_child t i j) (is_in j (children t i))
      (λ m.
      pass-whole t (outer t) list_fine (children t) (list_step t) list_skips list_judges list_marks list_keeps list_own (outer t) ok claim i j o r
      (and_left (outer t j) (eqb (up t j) i) m)
      (eqb-true (up t j) i (and_right (outer t j) (eqb (up t j) i) m))))))

  module _ (holds : (i : ℕ) → i < 256 → s5 t i ≡ true) where
    list-holds : (i : ℕ) → i < 256 → outer t i ≡ true → (list_fine i && all_below (λ j. is_outer_child t i j ⇒ is_in j (children t i)) 256) ≡ true
    unfolding s5
    list-holds i q o = when (outer t i) _ (holds i q) o

    pub right_lists : (sweep (list_step t) 256 0 unseen).ok ≡ true
    right_lists =
        fine_pass t (outer t) list_fine (children t) (list_step t) list_skips list_judges list_marks list_keeps list_own
        (λ i q o. and_left (list_fine i) _ (list-holds i q o))

    pub right_listed : (j : ℕ) → j < 256 → up t j < 256 → outer t j ≡ true → outer t (up t j) ≡ true → marked (sweep (list_step t) 256 0 unseen).seen j ≡ true
    right_listed j q u d o =
        fine-claim t (outer t) list_fine (children t) (list_step t) list_skips list_judges list_marks list_keeps list_own right_lists (up t j) j u o q
        (when (is_outer_child t (up t j) j) (is_in j (children t (up t j)))
        (all_to (λ k. is_outer_child t (up t j) k ⇒ is_in k (children t (up t j))) 256 j (and_right (list_fine (up t j)) _ (list-holds (up t j) u o)) q)
        (and_both (outer t j) (eqb (up t j) (up t j)) d (eq-eqb (up t j) (up t j) refl)))
