-- A marking walk passes the nodes of the rules' walk: how many, and which marks it leaves.
use Rattle.std.proofs.Common.{◌≡◌, ℕ, zero, suc, ◌+◌, ◌<◌, ◌≤◌, Bool, true, false, not, ◌&&◌, ◌||◌, eqb, List, length, set, replicate, refl, ap, ◌∙◌, arith, length-set, ne_eqb}
use mathlib.Core.Bool.{or-false, or_assoc, and-false}
use Rattle.lists.specs.Choice.{pick}
use Rattle.slot.specs.Number.{none}
use Rattle.rules.specs.Slots.{is_none}
use Rattle.rules.specs.Walk.{walk, ends, is_in, all_in}
use Rattle.table.specs.Marks.{marked}
use Rattle.table.proofs.MarkLaws.{marked-set}
use Rattle.sound_walks.specs.Marks.{marking}
use Rattle.sound_walks.proofs.Truth.{lie, by_cases, and_left, and_right, and_both}

abbrev pub unseen : List ℕ
unseen = replicate 256 0

-- a count is not none
pub small : (n : ℕ) → n ≤ 256 → eqb n none ≡ false
small n h = ne_eqb n none (λ e. omega arith)

-- a count that is none tells a walk that went wrong
pub unbroken : (g : Bool) (n : ℕ) → n ≤ 256 → not (eqb (pick g n none) none) ≡ g
unbroken true n h = rw (small n h)
unbroken false n h = refl

module _ (along : ℕ → ℕ) (mine : ℕ → Bool) where
  -- the walk ends, and all that it passes is its owner's
  abbrev pub good : ℕ → ℕ → Bool
  good k a = ends k along a && all_in mine (walk k along a)

  pub marking-length : (k a c : ℕ) (l : List ℕ) → length (marking k along mine a c l).seen ≡ length l
  unfolding marking
  marking-length zero a c l = by_cases (is_none a) (λ e. rw e) (λ e. rw e)
  marking-length (suc k) a c l =
      by_cases (is_none a) (λ e. rw e)
      (λ e. by_cases (mine a)
      (λ b. rw (e, b) (marking-length k (along a) (c + 1) (set l a 1) ∙ length-set l a 1))
      (λ b. rw (e, b)))

  pub walk-length : (k a : ℕ) → length (walk k along a) ≤ k
  unfolding walk
  walk-length zero a = omega arith
  walk-length (suc k) a =
      by_cases (is_none a) (λ e. rw e (omega arith))
      (λ e. let h = walk-length k (along a) in rw e (omega (arith, h)))

  pub marking-count : (k a c : ℕ) (l : List ℕ) → (marking k along mine a c l).count ≡ pick (good k a) (c + length (walk k along a)) none
  unfolding marking ends walk all_in
  marking-count zero a c l = by_cases (is_none a) (λ e. rw e (omega arith)) (λ e. rw e)
  marking-count (suc k) a c l =
      by_cases (is_none a) (λ e. rw e (omega arith))
      (λ e. by_cases (mine a)
      (λ b. rw (e, b) (marking-count k (along a) (c + 1) (set l a 1) ∙ ap (λ (m : ℕ). pick (good k (along a)) m none) (omega arith)))
      (λ b. rw (e, b, and-false)))

  pub marking-seen : (k a c : ℕ) (l : List ℕ) (j : ℕ) → good k a ≡ true → j < length l → marked (marking k along mine a c l).seen j ≡ (marked l j || is_in j (walk k along a))
  unfolding marking ends walk all_in is_in
  marking-seen zero a c l j g h = by_cases (is_none a) (λ e. rw (e, or-false)) (λ e. let g' : false ≡ true = rw e at g in lie g')
  marking-seen (suc k) a c l j g h =
      by_cases (is_none a) (λ e. rw (e, or-false))
      (λ e.
      let b : ℕ = along a in
      let g' : (ends k along b && (mine a && all_in mine (walk k along b))) ≡ true = rw e at g in
      let o : (mine a && all_in mine (walk k along b)) ≡ true = and_right (ends k along b) _ g' in
      let m : mine a ≡ true = and_left (mine a) _ o in
      let r : good k b ≡ true = and_both (ends k along b) (all_in mine (walk k along b)) (and_left (ends k along b) _ g') (and_right (mine a) _ o) in
      rw (e, m) (marking-seen k b (c + 1) (set l a 1) j r (rw length-set h) ∙ rw (marked-set l a j h, or_assoc)))
