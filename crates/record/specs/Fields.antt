-- Numbers in bytes, and lists of fields over the list of their widths. "little-endian throughout"
use Rattle.std.specs.Prelude.{ℕ, zero, suc, ◌+◌, ◌*◌, ◌/◌, ◌%◌, ◌^◌, ◌<◌, List, [], ◌∷◌, ◌++◌, take, drop}

-- v in w bytes, the low byte first
abbrev pub little : ℕ → ℕ → List ℕ
little zero v = []
little (suc w) v = v % 256 ∷ little w (v / 256)

-- the number that bytes stand for, the low byte first
abbrev pub number : List ℕ → ℕ
number [] = 0
number (b ∷ bs) = b + 256 * number bs

-- each value in its width, one after another
abbrev pub encode : List ℕ → List ℕ → List ℕ
encode [] vs = []
encode (w ∷ ws) [] = []
encode (w ∷ ws) (v ∷ vs) = little w v ++ encode ws vs

-- the values that stand in bytes one after another
abbrev pub decode : List ℕ → List ℕ → List ℕ
decode [] bs = []
decode (w ∷ ws) bs = number (take w bs) ∷ decode ws (drop w bs)

-- one value for each width, and each fits
abbrev pub AllFit : List ℕ → List ℕ → Type 0
AllFit [] [] = Unit {0}
AllFit [] (v ∷ vs) = ⊥
AllFit (w ∷ ws) [] = ⊥
AllFit (w ∷ ws) (v ∷ vs) = (v < 256 ^ w) × AllFit ws vs

-- each is a byte
abbrev pub AllBytes : List ℕ → Type 0
AllBytes [] = Unit {0}
AllBytes (b ∷ bs) = (b < 256) × AllBytes bs
