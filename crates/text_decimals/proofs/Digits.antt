-- The decimal digits of a number: they are digits, their value is the number, and they are the fewest that hold it.
use mathlib.Core.Path.{◌≡◌, refl, sym, ap, ◌∙◌}
use mathlib.Core.Bool.{Bool, true, false, ◌&&◌}
use mathlib.Core.List.{List, [], ◌∷◌, ◌++◌}
use Prim.Native.Nat.{ℕ, zero, suc, ◌+◌, ◌-◌, ◌*◌, ◌/◌, ◌%◌, ◌^◌, ◌≤◌, ◌<◌}
use native.Mathlib.Nat.{pow-suc, pow-zero}
use native.Mathlib.Decide.{dec_lt}
use native.Mathlib.Omega.{arith}
use borrow.Author.Tests.{lt-ltb, le-ltb, le-leb}
use Rattle.record.specs.Writing.{Out, written}
use Rattle.io.specs.Digits.{last_digits, IsDigitCount, hex_digit_ascii}
use Rattle.text_decimals.specs.Decimal.{digit, decimal_in, decimal, is_digit, all_digits, is_number, value_after, value}

-- ---- one digit, and one digit more at the end

pub one-digit : (k n : ℕ) → n < 10 → decimal_in k n ≡ digit n ∷ []
unfolding decimal_in
one-digit zero n h = refl
one-digit (suc k) n h = rw (lt-ltb n 10 h)

pub more_digits : (k n : ℕ) → 10 ≤ n → decimal_in (suc k) n ≡ decimal_in k (n / 10) ++ digit (n % 10) ∷ []
unfolding decimal_in
more_digits k n h = rw (le-ltb n 10 h)

-- more steps than a number has digits change nothing
steps_step :
    (j k n : ℕ)
    → 10 ≤ n
    → n ≤ suc j
    → n ≤ suc k
    → (n / 10 ≤ j → n / 10 ≤ k → decimal_in j (n / 10) ≡ decimal_in k (n / 10))
    → decimal_in (suc j) n ≡ decimal_in (suc k) n
steps_step j k n h p q e = more_digits j n h ∙ rw (e (omega arith) (omega arith)) (sym (more_digits k n h))

pub steps : (j k n : ℕ) → n ≤ j → n ≤ k → decimal_in j n ≡ decimal_in k n
steps zero k n p q = one-digit zero n (omega arith) ∙ sym (one-digit k n (omega arith))
steps (suc j) zero n p q = one-digit (suc j) n (omega arith) ∙ sym (one-digit zero n (omega arith))
steps (suc j) (suc k) n p q =
    elim (dec_lt n 10) [
      | yes l ↦ one-digit (suc j) n l ∙ sym (one-digit (suc k) n l)
      | no g ↦ steps_step j k n (omega arith) p q (steps j k (n / 10))
    ]

-- ---- digits are digits

pub is_digit_lem : (d : ℕ) → d < 10 → is_digit (digit d) ≡ true
is_digit_lem d h = rw (le-leb 48 (48 + d) (omega arith), le-leb (48 + d) 57 (omega arith))

and_step : (x y z : Bool) → x && y ≡ true → (y ≡ true → z ≡ true) → x && z ≡ true
and_step true y z p f = f p
and_step false y z p f = p

digits_end : (bs : List ℕ) (b : ℕ) → all_digits bs ≡ true → is_digit b ≡ true → all_digits (bs ++ b ∷ []) ≡ true
digits_end [] b p q = rw q
digits_end (a ∷ bs) b p q = and_step (is_digit a) (all_digits bs) (all_digits (bs ++ b ∷ [])) p (λ r. digits_end bs b r q)

number_end : (bs : List ℕ) (b : ℕ) → all_digits bs ≡ true → is_digit b ≡ true → is_number (bs ++ b ∷ []) ≡ true
number_end [] b p q = digits_end [] b p q
number_end (a ∷ bs) b p q = digits_end (a ∷ bs) b p q

digits_of : (bs : List ℕ) → is_number bs ≡ true → all_digits bs ≡ true
digits_of [] p = refl
digits_of (b ∷ bs) p = p

number-one : (k n : ℕ) → n < 10 → is_number (decimal_in k n) ≡ true
number-one k n h = rw (one-digit k n h) (number_end [] (digit n) refl (is_digit_lem n h))

number_more : (k n : ℕ) → 10 ≤ n → is_number (decimal_in k (n / 10)) ≡ true → is_number (decimal_in (suc k) n) ≡ true
number_more k n h r =
    rw (more_digits k n h)
    (number_end (decimal_in k (n / 10)) (digit (n % 10)) (digits_of (decimal_in k (n / 10)) r) (is_digit_lem (n % 10) (omega arith)))

number_in : (k n : ℕ) → n ≤ k → is_number (decimal_in k n) ≡ true
number_in zero n h = number-one zero n (omega arith)
number_in (suc k) n h =
    elim (dec_lt n 10) [ yes l ↦ number-one (suc k) n l | no g ↦ number_more k n (omega arith) (number_in k (n / 10) (omega arith)) ]

-- ---- their value

value_end : (bs : List ℕ) (b v : ℕ) → value_after v (bs ++ b ∷ []) ≡ value_after v bs * 10 + (b - 48)
value_end [] b v = refl
value_end (a ∷ bs) b v = value_end bs b (v * 10 + (a - 48))

value-one : (k n : ℕ) → n < 10 → value (decimal_in k n) ≡ n
value-one k n h = rw (one-digit k n h) (omega arith)

value_more : (k n : ℕ) → 10 ≤ n → value (decimal_in k (n / 10)) ≡ n / 10 → value (decimal_in (suc k) n) ≡ n
value_more k n h r =
    rw (more_digits k n h) (value_end (decimal_in k (n / 10)) (digit (n % 10)) 0 ∙ rw r (omega arith))

value_in : (k n : ℕ) → n ≤ k → value (decimal_in k n) ≡ n
value_in zero n h = value-one zero n (omega arith)
value_in (suc k) n h =
    elim (dec_lt n 10) [ yes l ↦ value-one (suc k) n l | no g ↦ value_more k n (omega arith) (value_in k (n / 10) (omega arith)) ]

pub decimal-number : (n : ℕ) → is_number (decimal n) ≡ true
unfolding decimal
decimal-number n = number_in n n (omega arith)

pub decimal-value : (n : ℕ) → value (decimal n) ≡ n
unfolding decimal
decimal-value n = value_in n n (omega arith)

-- ---- the fewest digits

glyph_digit : (d : ℕ) → d < 10 → hex_digit_ascii d ≡ digit d
glyph_digit d h = rw (lt-ltb d 10 h)

few_one : (f n : ℕ) → n < 10 → last_digits 10 1 n ≡ decimal_in f n
few_one f n h =
    let e : n % 10 ≡ n = omega arith in
    rw (e, glyph_digit n h) (sym (one-digit f n h))

few-more :
    (k f n : ℕ)
    → n ≤ suc f
    → 10 ≤ n
    → last_digits 10 k (n / 10) ≡ decimal_in f (n / 10)
    → last_digits 10 (suc k) n ≡ decimal_in (suc f) n
few-more k f n h p e = rw (e, glyph_digit (n % 10) (omega arith)) (sym (more_digits f n p))

power : (k : ℕ) → 0 < 10 ^ k
power zero = omega (arith, pow-zero 10)
power (suc k) = omega (arith, pow-suc 10 k, power k)

few : (k f n : ℕ) → n ≤ f → n < 10 ^ suc k → (0 < k → 10 ^ k ≤ n) → last_digits 10 (suc k) n ≡ decimal_in f n
few zero f n h p q = few_one f n (omega (arith, pow-suc 10 0, pow-zero 10))
few (suc k) zero n h p q = absurd (omega (arith, q (omega arith), power (suc k)))
few (suc k) (suc f) n h p q =
    let a = pow-suc 10 k in
    let b = pow-suc 10 (suc k) in
    let r = q (omega arith) in
    few-more (suc k) f n h (omega (arith, power k)) (few k f (n / 10) (omega arith) (omega arith) (λ l. omega arith))

pub fewest : (k n : ℕ) → IsDigitCount 10 1 n k → last_digits 10 k n ≡ decimal n
unfolding decimal
fewest zero n h = absurd (omega arith)
fewest (suc k) n h = few k n n (omega arith) h.1 (λ l. let e : suc k - 1 ≡ k = omega arith in rw e at (h.2 (omega arith)))

-- the fewest digits, written, are the decimal written
pub written-decimal :
    (o p : Out) (bs : List ℕ) (k n : ℕ)
    → IsDigitCount 10 1 n k
    → bs ≡ last_digits 10 k n
    → p ≡ written o bs
    → p ≡ written o (decimal n)
written-decimal o p bs k n h e q = q ∙ ap (written o) (e ∙ fewest k n h)
