-- What is marked: nothing at first, nothing past the end, and one more after each mark.
use mathlib.Core.Path.{◌≡◌, refl, sym, ap, ◌∙◌}
use mathlib.Core.Logic.{◌⊎◌, inl, inr}
use mathlib.Core.List.{List, map}
use mathlib.Core.Bool.{Bool, true, false, cond, ◌||◌, or-false, or-true}
use Prim.Native.Nat.{ℕ, ◌≤◌, ◌<◌}
use native.Mathlib.Decide.{ℕ_discrete, dec_lt}
use native.Mathlib.Omega.{arith}
use lib.Dec.{T, eqb}
use lib.ListN.{length, get_or, get_or-map, set, length-replicate, get_or-replicate, get_or-eq_default}
use lib.Seq.{get_or-set_same, get_or-set_other}
use borrow.Author.Tests.{eq-eqb, ne_eqb}
use Rattle.table.specs.Marks.{marked, unmarked}

pub marked_past : (l : List ℕ) (n : ℕ) → length l ≤ n → false ≡ marked l n
unfolding marked
marked_past l n h = rw (get_or-eq_default l 0 h)

pub marked-none : (j : ℕ) → j < 256 → marked unmarked j ≡ false
unfolding marked
marked-none j h = rw (get_or-replicate {A = ℕ} 256 j 0 0 h)

pub marked-set : (l : List ℕ) (n j : ℕ) → j < length l → marked (set l n 1) j ≡ (marked l j || eqb j n)
unfolding marked
marked-set l n j h = go (ℕ_discrete j n)
  where
    go : Dec (j ≡ n) → eqb (get_or (set l n 1) j 0) 1 ≡ (eqb (get_or l j 0) 1 || eqb j n)
    go (yes e) = rw (eq-eqb j n e, or-true, ← e, get_or-set_same l j 1 0 h)
    go (no e) = rw (ne_eqb j n e, or-false, get_or-set_other l n j 1 0 e)

-- ---- as facts

pub mark_here : (l : List ℕ) (n : ℕ) → n < length l → T (marked (set l n 1) n)
unfolding marked
mark_here l n h = rw (get_or-set_same l n 1 0 h) tt

mark_other : (l : List ℕ) (n j : ℕ) → (j ≡ n → ⊥) → marked (set l n 1) j ≡ marked l j
unfolding marked
mark_other l n j d = rw (get_or-set_other l n j 1 0 d)

-- what is marked stands before the end
mark_within : (l : List ℕ) (n : ℕ) → T (marked l n) → n < length l
mark_within l n m = go (dec_lt n (length l))
  where
    go : Dec (n < length l) → n < length l
    go (yes h) = h
    go (no h) = absurd (rw (sym (marked_past l n (omega arith))) at m)

pub mark_kept : (l : List ℕ) (n j : ℕ) → T (marked l j) → T (marked (set l n 1) j)
mark_kept l n j m = go (ℕ_discrete j n)
  where
    go : Dec (j ≡ n) → T (marked (set l n 1) j)
    go (yes e) = rw (← e) (mark_here l j (mark_within l j m))
    go (no d) = rw (mark_other l n j d) m

pub mark_only : (l : List ℕ) (n j : ℕ) → T (marked (set l n 1) j) → (j ≡ n) ⊎ T (marked l j)
mark_only l n j m = go (ℕ_discrete j n)
  where
    go : Dec (j ≡ n) → (j ≡ n) ⊎ T (marked l j)
    go (yes e) = inl e
    go (no d) = inr (rw (mark_other l n j d) at m)

-- .. and nothing is marked at first
pub mark_none : (j : ℕ) → ¬ T (marked unmarked j)
mark_none j m =
    let l : j < 256 = omega (arith, mark_within unmarked j m, length-replicate {A = ℕ} 256 0) in
    rw (marked-none j l) at m

-- ---- marks as the code keeps them: a mark is seen as the number 1

is_one : (b : Bool) → eqb (cond b 1 0) 1 ≡ b
is_one true = refl
is_one false = refl

pub marked_view : (p : List Bool) (n : ℕ) → marked (map (λ b. cond b 1 0) p) n ≡ get_or p n false
unfolding marked
marked_view p n = ap (λ (m : ℕ). eqb m 1) (get_or-map (λ (b : Bool). cond b 1 0) p n false) ∙ is_one (get_or p n false)

pub no_mark_past : (p : List Bool) (n : ℕ) → length p ≤ n → marked (map (λ b. cond b 1 0) p) n ≡ false
no_mark_past p n h = marked_view p n ∙ get_or-eq_default p false h
