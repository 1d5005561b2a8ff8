-- What the programs print of a number, where `{}` writes it: the decimal of specs/Decimal, which is read back.
use mathlib.Core.Path.{◌≡◌, sym}
use mathlib.Core.Bool.{false}
use Prim.Native.Nat.{ℕ, ◌^◌, ◌≤◌, ◌<◌}
use native.Mathlib.Omega.{arith}
use borrow.Author.Tests.{ne_eqb}
use Rattle.std.specs.Prelude.{Some, None}
use Rattle.std.specs.Fmt as Fmt
use Rattle.std.proofs.lemmas.Fmt.{decimal_by_steps}
use Rattle.slot.specs.Shown.{shown}
use Rattle.text_decimals.specs.Decimal.{decimal, number_within}
use Rattle.text_decimals.proofs.Theorems.{decimal_small, decimal_more, read-written, written_too_large}

-- ---- the digits that `{}` writes

pub displayed : (n : ℕ) → n < 2 ^ 64 → Fmt.decimal n ≡ decimal n
displayed = decimal_by_steps (λ m digits. digits ≡ decimal m) (λ m l. sym (decimal_small m l)) (λ m digits l e. rw e (sym (decimal_more m l)))

-- ---- they are read back, and refused where they say more than is allowed

pub read-displayed : (n most : ℕ) → n < 2 ^ 64 → n ≤ most → number_within most (Fmt.decimal n) ≡ Some n
read-displayed n most h l = rw (displayed n h) (read-written n most l)

pub displayed_too_large : (n most : ℕ) → n < 2 ^ 64 → most < n → number_within most (Fmt.decimal n) ≡ None
displayed_too_large n most h l = rw (displayed n h) (written_too_large n most l)

-- ---- a node or a vertex, where none is the number that stands for the word none

module _ (none n : ℕ) (h : n < 2 ^ 64) (some : n ≡ none → ⊥) where
  pub shown-decimal : shown none n ≡ decimal n
  shown-decimal = rw (ne_eqb n none some) (displayed n h)

  pub read-shown : (most : ℕ) → n ≤ most → number_within most (shown none n) ≡ Some n
  read-shown most l = rw shown-decimal (read-written n most l)

  pub shown_too_large : (most : ℕ) → most < n → number_within most (shown none n) ≡ None
  shown_too_large most l = rw shown-decimal (written_too_large n most l)
