-- The laws of padding: what a length that fits says, and zeros.
use mathlib.Core.Path.{◌≡◌, refl}
use mathlib.Core.Bool.{Bool, true, false, ◌&&◌, ◌||◌}
use mathlib.Core.List.{List, [], ◌∷◌}
use Prim.Native.Nat.{ℕ, zero, suc, ◌-◌, ◌≤◌}
use native.Mathlib.Omega.{arith}
use lib.Dec.{eqb}
use lib.ListN.{length, replicate}
use borrow.Author.Tests.{eq-eqb, ne_eqb, eqb-true, eqb-false}
use Rattle.record.specs.Padding.{padded_length, padding, are_zero, has_its_length}

-- padding makes no record shorter
pub padded_no_shorter : (n : ℕ) → n ≤ padded_length n
padded_no_shorter n = omega arith

-- ---- a length that fits, and one that does not

pub data Fits (exact n : ℕ) (bs : List ℕ) : Type 0 where
  exactly : n ≡ exact → Fits exact n bs
  padded : n ≡ padded_length exact → are_zero (padding exact n bs) ≡ true → Fits exact n bs

pub data Misses (exact n : ℕ) (bs : List ℕ) : Type 0 where
  otherwise : (n ≡ exact → ⊥) → (n ≡ padded_length exact → ⊥) → Misses exact n bs
  nonzero : n ≡ padded_length exact → are_zero (padding exact n bs) ≡ false → Misses exact n bs

module _ (exact n : ℕ) (bs : List ℕ) where
  abbrev zero_padding : Bool
  zero_padding = are_zero (padding exact n bs)

  fits_by : (a b c : Bool) → eqb n exact ≡ a → eqb n (padded_length exact) ≡ b → zero_padding ≡ c → a || (b && c) ≡ true → Fits exact n bs
  fits_by true b c e f g h = exactly (eqb-true n exact e)
  fits_by false true true e f g h = padded (eqb-true n (padded_length exact) f) g
  fits_by false true false e f g h = absurd (let z : ◌≡◌ {A = ℕ} 0 1 = cc in omega arith)
  fits_by false false c e f g h = absurd (let z : ◌≡◌ {A = ℕ} 0 1 = cc in omega arith)

  pub fits : has_its_length exact n bs ≡ true → Fits exact n bs
  fits h = fits_by (eqb n exact) (eqb n (padded_length exact)) zero_padding refl refl refl h

  misses_by : (a b c : Bool) → eqb n exact ≡ a → eqb n (padded_length exact) ≡ b → zero_padding ≡ c → a || (b && c) ≡ false → Misses exact n bs
  misses_by true b c e f g h = absurd (let z : ◌≡◌ {A = ℕ} 0 1 = cc in omega arith)
  misses_by false true true e f g h = absurd (let z : ◌≡◌ {A = ℕ} 0 1 = cc in omega arith)
  misses_by false true false e f g h = nonzero (eqb-true n (padded_length exact) f) g
  misses_by false false c e f g h = otherwise (eqb-false n exact e) (eqb-false n (padded_length exact) f)

  pub misses : has_its_length exact n bs ≡ false → Misses exact n bs
  misses h = misses_by (eqb n exact) (eqb n (padded_length exact)) zero_padding refl refl refl h

  pub fits_exactly : n ≡ exact → has_its_length exact n bs ≡ true
  fits_exactly e = rw (eq-eqb n exact e)

  or_both : (a : Bool) → a || (true && true) ≡ true
  or_both true = refl
  or_both false = refl

  pub fits_padded : n ≡ padded_length exact → zero_padding ≡ true → has_its_length exact n bs ≡ true
  fits_padded e z = rw (eq-eqb n (padded_length exact) e, z) (or_both (eqb n exact))

  pub no_shorter_by : Fits exact n bs → exact ≤ n
  no_shorter_by (exactly e) = omega arith
  no_shorter_by (padded e z) = omega (arith, padded_no_shorter exact)

  -- a length that fits reaches over the fields
  pub no_shorter : has_its_length exact n bs ≡ true → exact ≤ n
  no_shorter h = no_shorter_by (fits h)

  pub misses_otherwise : (n ≡ exact → ⊥) → (n ≡ padded_length exact → ⊥) → has_its_length exact n bs ≡ false
  misses_otherwise h k = rw (ne_eqb n exact h, ne_eqb n (padded_length exact) k)

  -- where the exact length fills a multiple of four there is no padding, so no byte of it that is not zero
  not_exact : zero_padding ≡ false → n ≡ exact → ⊥
  not_exact z e =
      let none : n - exact ≡ 0 = omega arith in
      let y : ◌≡◌ {A = Bool} true false = rw none at z in
      let x : ◌≡◌ {A = ℕ} 0 1 = cc in
      omega arith

  pub misses_nonzero : zero_padding ≡ false → has_its_length exact n bs ≡ false
  misses_nonzero z = rw (ne_eqb n exact (not_exact z), z) (and_false (eqb n (padded_length exact)))
    where
      and_false : (b : Bool) → b && false ≡ false
      and_false true = refl
      and_false false = refl

-- ---- zeros

pub zeros_are_zero : (n : ℕ) → are_zero (replicate n 0) ≡ true
zeros_are_zero zero = refl
zeros_are_zero (suc n) = zeros_are_zero n

zero_step : (a c : Bool) (b : ℕ) (bs : List ℕ) → eqb b 0 ≡ a → are_zero bs ≡ c → a && c ≡ true → (are_zero bs ≡ true → bs ≡ replicate (length bs) 0) → b ∷ bs ≡ 0 ∷ replicate (length bs) 0
zero_step true true b bs e f h later =
    let x : b ≡ 0 = eqb-true b 0 e in
    let xs = later f in
    λ i. x i ∷ xs i
zero_step true false b bs e f h later = absurd (let z : ◌≡◌ {A = ℕ} 0 1 = cc in omega arith)
zero_step false c b bs e f h later = absurd (let z : ◌≡◌ {A = ℕ} 0 1 = cc in omega arith)

pub are_zeros : (bs : List ℕ) → are_zero bs ≡ true → bs ≡ replicate (length bs) 0
are_zeros [] h = refl
are_zeros (b ∷ bs) h = zero_step (eqb b 0) (are_zero bs) b bs refl refl h (are_zeros bs)
