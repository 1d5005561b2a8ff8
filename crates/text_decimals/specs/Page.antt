-- Text in a page of limited room.
use Rattle.std.specs.Prelude.{◌≡◌, ℕ, ◌+◌, List, [], ◌++◌, length, leb, Option, ◌⊎◌}
use Rattle.std.specs.Fmt.{WritesText}
use Rattle.lists.specs.Choice.{pick}

-- the piece stands behind the text that is there; without room for all of it, nothing
abbrev pub with_piece : ℕ → List ℕ → List ℕ → List ℕ
with_piece room text piece = pick (leb (length text + length piece) room) (text ++ piece) text

abbrev pub TakesPiece : ℕ → List ℕ → List ℕ → List ℕ → Type 0
TakesPiece room before piece after = after ≡ with_piece room before piece

-- the text that a value shows has been taken in pieces; or the value failed to show itself, and the page is empty
abbrev pub ShownOn : ℕ → List ℕ → Option (List ℕ) → List ℕ → Type 0
ShownOn room before shown after = WritesText (TakesPiece room) before shown after ⊎ (after ≡ [])
