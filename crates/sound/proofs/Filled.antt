-- How many numbers were given: at most one for each slot, so that they fit, and the next one does not wrap.
use mathlib.Core.Path.{◌≡◌, refl, ap, ◌∙◌}
use mathlib.Core.List.{List, [], ◌∷◌}
use Prim.Native.Nat.{ℕ, zero, suc, ◌+◌, ◌%◌, ◌^◌, ◌≤◌, ◌<◌}
use native.Mathlib.Omega.{arith}
use native.Mathlib.Decide.{dec_lt}
use lib.ListN.{length, get_or, set, length-set, length-replicate, get_or-replicate, get_or-eq_default}
use Rattle.sound_walks.specs.Numbers.{Numbers, counted, begun, ended}
use Rattle.sound.specs.Given.{unseen}

-- the places of a list that are not 0
abbrev pub filled : List ℕ → ℕ
filled [] = 0
filled (zero ∷ l) = filled l
filled (suc x ∷ l) = suc (filled l)

filled_most : (l : List ℕ) → filled l ≤ length l
filled_most [] = omega arith
filled_most (zero ∷ l) = omega (arith, filled_most l)
filled_most (suc x ∷ l) = omega (arith, filled_most l)

-- a number stored: one place more, where there was none
filled_set : (l : List ℕ) (n v : ℕ) → n < length l → get_or l n 0 ≡ 0 → 1 ≤ v → filled (set l n v) ≡ suc (filled l)
filled_set [] n v h e q = absurd (omega arith)
filled_set (zero ∷ l) zero zero h e q = absurd (omega arith)
filled_set (zero ∷ l) zero (suc v) h e q = refl
filled_set (zero ∷ l) (suc n) v h e q = filled_set l n v (omega arith) e q
filled_set (suc x ∷ l) zero v h e q = absurd (omega arith)
filled_set (suc x ∷ l) (suc n) v h e q = ap suc (filled_set l n v (omega arith) e q)

pub record Fits (w : Numbers) : Type 0 where
  pub places : length w.lo ≡ 256
  pub ends : length w.hi ≡ 256
  pub some : 1 ≤ w.free
  pub few : w.free ≤ 1 + filled w.lo

module _ (w : Numbers) (f : Fits w) where
  below : w.free ≤ 257
  below = omega (arith, f.few, f.places, filled_most w.lo)

  pub no_wrap : (w.free + 1) % 2 ^ 16 ≡ w.free + 1
  no_wrap = omega (arith, below)

  module _ (n : ℕ) (l : n < 256) (z : get_or w.lo n 0 ≡ 0) where
    one_more : filled (set w.lo n w.free) ≡ suc (filled w.lo)
    one_more = filled_set w.lo n w.free (omega (arith, f.places)) z f.some

    pub counted_fits : Fits (counted n w)
    counted_fits =
        record {
          places = length-set w.lo n w.free ∙ f.places;
          ends = f.ends;
          some = omega (arith, no_wrap);
          few = omega (arith, no_wrap, one_more, f.few);
        }

    pub begun_fits : Fits (begun n w)
    begun_fits = record { places = length-set w.lo n w.free ∙ f.places; ends = f.ends; some = f.some; few = omega (arith, one_more, f.few) }

  pub ended_fits : (n : ℕ) → Fits (ended n w)
  ended_fits n = record { places = f.places; ends = length-set w.hi n w.free ∙ f.ends; some = f.some; few = f.few }

-- before the first
pub blank : (y : ℕ) → get_or unseen y 0 ≡ 0
blank y =
    elim (dec_lt y 256) [
      | yes l ↦ get_or-replicate {A = ℕ} 256 y 0 0 l
      | no g ↦ let h : length unseen ≤ y = rw length-replicate (omega arith) in get_or-eq_default unseen 0 h
    ]
