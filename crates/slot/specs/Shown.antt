-- Numbers as people read them.
use Rattle.std.specs.Prelude.{ℕ, List, ◌==◌, codes, decimal, true, false, Bool}

-- the word none for the number that stands for it; any other in decimal
abbrev pub word_or : Bool → ℕ → List ℕ
word_or true n = codes "none"
word_or false n = decimal n

abbrev pub shown : ℕ → ℕ → List ℕ
shown none n = word_or (n == none) n
