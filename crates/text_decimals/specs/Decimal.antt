-- Numbers in decimal: the bytes that one is written in, and the number that a word says.
use Rattle.std.specs.Prelude.{ℕ, zero, suc, ◌+◌, ◌-◌, ◌*◌, ◌/◌, ◌%◌, Bool, true, false, ◌&&◌, List, [], ◌∷◌, ◌++◌, Option, Some, None, ltb, leb}
use Rattle.lists.specs.Choice.{pick}

-- the byte of a digit: 48 is `0`, 57 is `9`
abbrev pub digit : ℕ → ℕ
digit d = 48 + d

-- n in at most 1 + k digits, the most significant first: one digit, or the digits of a tenth and one more. Both are functions of n,
-- so that only one of them is computed.
unfoldable pub decimal_in : ℕ → ℕ → List ℕ
decimal_in zero n = digit n ∷ []
decimal_in (suc k) n = pick {A = ℕ → List ℕ} (ltb n 10) (λ m. digit m ∷ []) (λ m. decimal_in k (m / 10) ++ digit (m % 10) ∷ []) n

-- n has at most 1 + n digits
unfoldable pub decimal : ℕ → List ℕ
decimal n = decimal_in n n

-- ---- the other way

abbrev pub is_digit : ℕ → Bool
is_digit b = leb 48 b && leb b 57

abbrev pub all_digits : List ℕ → Bool
all_digits [] = true
all_digits (b ∷ bs) = is_digit b && all_digits bs

-- a word of digits is not empty
abbrev pub is_number : List ℕ → Bool
is_number [] = false
is_number (b ∷ bs) = all_digits (b ∷ bs)

-- the value of digits that stand after v: each makes ten times as much of what is before it
abbrev pub value_after : ℕ → List ℕ → ℕ
value_after v [] = v
value_after v (b ∷ bs) = value_after (v * 10 + (b - 48)) bs

abbrev pub value : List ℕ → ℕ
value bs = value_after 0 bs

-- the number that a word says, where it is a number and no larger than most
unfoldable pub number_within : ℕ → List ℕ → Option ℕ
number_within most bs = pick (is_number bs) (pick (leb (value bs) most) (Some (value bs)) None) None
