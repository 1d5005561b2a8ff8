-- An answer told in numbers.
use Rattle.std.specs.Prelude.{◌≡◌, ℕ}
use Rattle.refusal.specs.Refusal.{Answer, answer_number, answer_written}

-- the number and the bytes written that an answer stands for
abbrev pub Told : Answer → ℕ → ℕ → Type 0
Told a number written = (number ≡ answer_number a) × (written ≡ answer_written a)
