-- What is known of a table's words: the lent array is 2,819 words of 16 bits.
use Rattle.std.specs.Prelude.{◌≡◌, List, ℕ, ◌<◌, ◌^◌, length, get_or}

abbrev pub Lent : List ℕ → Type 0
Lent words = (length words ≡ 2819) × ((j : ℕ) → get_or words j 0 < 2 ^ 16)
