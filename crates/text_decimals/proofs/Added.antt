-- What a page holds of a value that was shown on it, where there is room for all of it.
use mathlib.Core.Path.{◌≡◌, sym, ap, ◌∙◌}
use mathlib.Core.Logic.{◌⊎◌, inl, inr}
use mathlib.Core.List.{List, [], ◌∷◌, ◌++◌, append_assoc, append-nil}
use Prim.Native.Nat.{ℕ, ◌+◌, ◌^◌, ◌≤◌, ◌<◌}
use native.Mathlib.Omega.{arith}
use lib.ListN.{length, length-append}
use borrow.Author.Tests.{le-leb}
use Rattle.std.specs.Prelude.{Some}
use Rattle.std.specs.List.{concat, FoldsTo}
use Rattle.std.specs.Fmt.{WritesInCalls}
use Rattle.std.specs.Fmt as Fmt
use Rattle.std.proofs.lemmas.Fmt.{length-decimal-le}
use Rattle.text_decimals.specs.Decimal.{decimal}
use Rattle.text_decimals.specs.Page.{with_piece, TakesPiece, ShownOn}
use Rattle.text_decimals.proofs.Displayed.{displayed}

module _ (room : ℕ) where
  piece : (before x after : List ℕ) → length before + length x ≤ room → after ≡ with_piece room before x → after ≡ before ++ x
  piece before x after l e = rw (le-leb (length before + length x) room l) at e

  pieces :
      (before : List ℕ) (parts : List (List ℕ)) (after : List ℕ)
      → length before + length (concat parts) ≤ room
      → FoldsTo (TakesPiece room) before parts after
      → after ≡ before ++ concat parts
  pieces before [] after l h = sym h ∙ sym (append-nil before)
  pieces before (x ∷ xs) after l h =
      let all = length-append x (concat xs) in
      let e : h.0 ≡ before ++ x = piece before x h.0 (omega (arith, all)) h.1 in
      let both = ap (λ (text : List ℕ). length text) e ∙ length-append before x in
      pieces h.0 xs after (omega (arith, all, both)) h.2
      ∙ ap (λ (text : List ℕ). text ++ concat xs) e
      ∙ append_assoc before x (concat xs)

  pub shown-whole :
      (before shown after : List ℕ)
      → length before + length shown ≤ room
      → WritesInCalls (TakesPiece room) before shown after
      → after ≡ before ++ shown
  shown-whole before shown after l h =
      let fits = ap (λ (text : List ℕ). length text) h.whole in
      pieces before h.parts after (omega (arith, l, fits)) h.calls ∙ ap (λ (text : List ℕ). before ++ text) h.whole

  -- of a number, for which 20 bytes are enough: its decimal
  pub number-shown :
      (before : List ℕ) (n : ℕ) (after : List ℕ)
      → n < 2 ^ 64
      → length before + 20 ≤ room
      → ShownOn room before (Some (Fmt.decimal n)) after
      → (after ≡ before ++ decimal n) ⊎ (after ≡ [])
  number-shown before n after h l (inl w) =
      inl (shown-whole before _ after (omega (arith, length-decimal-le 20 n (omega arith) (omega arith) h)) w ∙ ap (λ (text : List ℕ). before ++ text) (displayed n h))
  number-shown before n after h l (inr e) = inr e
