-- What a reader may rely on beyond the contracts: which bytes a number is written in, what a word says, and that a number that was
-- written is read back. The definitions stand in specs/Decimal.
use mathlib.Core.Path.{◌≡◌, refl, ◌∙◌}
use mathlib.Core.Bool.{Bool, true, false}
use mathlib.Core.List.{List, [], ◌∷◌, ◌++◌}
use mathlib.Core.Logic.{◌↔◌}
use Prim.Native.Nat.{ℕ, zero, suc, ◌/◌, ◌%◌, ◌^◌, ◌≤◌, ◌<◌}
use native.Mathlib.Omega.{arith}
use lib.Dec.{leb}
use borrow.Author.Tests.{leb-true, le-leb, lt-leb}
use Rattle.lists.specs.Choice.{pick}
use Rattle.std.specs.Prelude.{Some, None}
use Rattle.text_decimals.specs.Decimal.{digit, decimal_in, decimal, is_number, value, number_within}
use Rattle.text_decimals.proofs.Digits.{one-digit, more_digits, steps, decimal-number, decimal-value}

-- ---- writing: one digit, or the digits of a tenth and one more

pub decimal_small : (n : ℕ) → n < 10 → decimal n ≡ digit n ∷ []
unfolding decimal
decimal_small n h = one-digit n n h

pub decimal_more : (n : ℕ) → 10 ≤ n → decimal n ≡ decimal (n / 10) ++ digit (n % 10) ∷ []
unfolding decimal
decimal_more zero h = absurd (omega arith)
decimal_more (suc m) h = more_digits m (suc m) h ∙ rw (steps m (suc m / 10) (suc m / 10) (omega arith) (omega arith))

-- ---- reading: digits alone and at least one, whose value is not too large

said_small : (t : Bool) (most n v : ℕ) → leb n most ≡ t → pick t (Some n) None ≡ Some v → (n ≡ v) × (v ≤ most)
said_small false most n v l e = let z : ◌≡◌ {A = ℕ} 0 1 = cc in absurd (omega arith)
said_small true most n v l e = let f : n ≡ v = cc in (f, omega (arith, leb-true n most l))

said : (t : Bool) (most n v : ℕ) → pick t (pick (leb n most) (Some n) None) None ≡ Some v → (t ≡ true) × (n ≡ v) × (v ≤ most)
said false most n v e = let z : ◌≡◌ {A = ℕ} 0 1 = cc in absurd (omega arith)
said true most n v e = let h = said_small (leb n most) most n v refl e in (refl, h.0, h.1)

pub read_exactly : (most v : ℕ) (bs : List ℕ) → number_within most bs ≡ Some v ↔ (is_number bs ≡ true) × (value bs ≡ v) × (v ≤ most)
unfolding number_within
read_exactly most v bs = (said (is_number bs) most (value bs) v, λ h. rw (h.0, h.1, le-leb v most h.2))

-- ---- what was written is read back

pub read-written : (n most : ℕ) → n ≤ most → number_within most (decimal n) ≡ Some n
read-written n most h = (read_exactly most n (decimal n)).1 (decimal-number n, decimal-value n, h)

pub written_too_large : (n most : ℕ) → most < n → number_within most (decimal n) ≡ None
unfolding number_within
written_too_large n most h = rw (decimal-number n, decimal-value n, lt-leb n most h)

-- for every number of 32 bits
pub read-written_u32 : (n : ℕ) → n < 2 ^ 32 → number_within 4294967295 (decimal n) ≡ Some n
read-written_u32 n h = read-written n 4294967295 (omega arith)

-- ---- examples

zero_written : decimal 0 ≡ 48 ∷ []
zero_written = decimal_small 0 (omega arith)

largest_written : decimal 4294967295 ≡ 52 ∷ 50 ∷ 57 ∷ 52 ∷ 57 ∷ 54 ∷ 55 ∷ 50 ∷ 57 ∷ 53 ∷ []
unfolding decimal decimal_in
largest_written = refl

-- 007
zeros_before : number_within 65535 (48 ∷ 48 ∷ 55 ∷ []) ≡ Some 7
unfolding number_within
zeros_before = refl

-- 65536
one_too_many : number_within 65535 (54 ∷ 53 ∷ 53 ∷ 51 ∷ 54 ∷ []) ≡ None
unfolding number_within
one_too_many = refl

-- -1
signed : number_within 65535 (45 ∷ 49 ∷ []) ≡ None
unfolding number_within
signed = refl

empty : number_within 65535 [] ≡ None
unfolding number_within
empty = refl
