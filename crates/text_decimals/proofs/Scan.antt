-- A word read digit by digit says its number.
use mathlib.Core.Path.{◌≡◌, refl, sym}
use mathlib.Core.Bool.{Bool, true, false, ◌&&◌}
use mathlib.Core.List.{List, [], ◌∷◌}
use Prim.Native.Nat.{ℕ, suc, ◌+◌, ◌-◌, ◌*◌, ◌≤◌, ◌<◌}
use native.Mathlib.Numerals.{add-one}
use native.Mathlib.Omega.{arith}
use lib.Dec.{leb}
use lib.ListN.{length, get_or, drop}
use lib.Seq.{drop-cons, drop-length}
use borrow.Author.Tests.{le-leb, lt-leb}
use Rattle.lists.specs.Choice.{pick}
use Rattle.std.specs.Prelude.{Option, Some, None}
use Rattle.text_decimals.specs.Decimal.{is_digit, all_digits, value_after, number_within}

-- what is said where v stands before bs
unfoldable pub says : ℕ → ℕ → List ℕ → Option ℕ
says most v bs = pick (all_digits bs) (pick (leb (value_after v bs) most) (Some (value_after v bs)) None) None

pub says_word : (most : ℕ) (bs : List ℕ) → (length bs ≡ 0 → ⊥) → number_within most bs ≡ says most 0 bs
unfolding says number_within
says_word most [] h = absurd (h refl)
says_word most (b ∷ bs) h = refl

pub says_empty : (most : ℕ) (bs : List ℕ) → length bs ≡ 0 → number_within most bs ≡ None
unfolding number_within
says_empty most [] h = refl
says_empty most (b ∷ bs) h = absurd (omega arith)

grows : (v : ℕ) (bs : List ℕ) → v ≤ value_after v bs
grows v [] = omega arith
grows v (b ∷ bs) = omega (arith, grows (v * 10 + (b - 48)) bs)

either_way : (t : Bool) (n : Option ℕ) → pick t (pick false n None) None ≡ None
either_way true n = refl
either_way false n = refl

module _ (most v b : ℕ) (bs : List ℕ) where
  no_digit : is_digit b ≡ false → says most v (b ∷ bs) ≡ None
  unfolding says
  no_digit h = rw h

  digit_more : is_digit b ≡ true → says most v (b ∷ bs) ≡ says most (v * 10 + (b - 48)) bs
  unfolding says
  digit_more h = rw h

  too_large : is_digit b ≡ true → most < v * 10 + (b - 48) → says most v (b ∷ bs) ≡ None
  unfolding says
  too_large h l =
      let m : ℕ = v * 10 + (b - 48) in
      rw (h, lt-leb (value_after m bs) most (omega (arith, grows m bs))) (either_way (all_digits bs) (Some (value_after m bs)))

below : (b : ℕ) → b < 48 → is_digit b ≡ false
below b h = rw (lt-leb 48 b h)

and_false : (t : Bool) → t && false ≡ false
and_false true = refl
and_false false = refl

above : (b : ℕ) → 57 < b → is_digit b ≡ false
above b h = rw (lt-leb b 57 h) (and_false (leb 48 b))

within : (b : ℕ) → 48 ≤ b → b ≤ 57 → is_digit b ≡ true
within b h l = rw (le-leb 48 b h, le-leb b 57 l)

-- ---- at the place i of a word, with v before it

module _ (most v i : ℕ) (bs : List ℕ) (h : i < length bs) where
  first : drop i bs ≡ get_or bs i 0 ∷ drop (suc i) bs
  first = drop-cons bs i 0 h

  pub stops_below : get_or bs i 0 < 48 → says most v (drop i bs) ≡ None
  stops_below l = rw first (no_digit most v _ _ (below _ l))

  pub stops_above : 57 < get_or bs i 0 → says most v (drop i bs) ≡ None
  stops_above l = rw first (no_digit most v _ _ (above _ l))

  pub stops-large :
      48 ≤ get_or bs i 0
      → get_or bs i 0 ≤ 57
      → most < v * 10 + (get_or bs i 0 - 48)
      → says most v (drop i bs) ≡ None
  stops-large k l m = rw first (too_large most v _ _ (within _ k l) m)

  pub goes_on :
      48 ≤ get_or bs i 0
      → get_or bs i 0 ≤ 57
      → says most (v * 10 + (get_or bs i 0 - 48)) (drop (i + 1) bs) ≡ says most v (drop i bs)
  goes_on k l = rw (add-one, first) (sym (digit_more most v _ _ (within _ k l)))

pub ends : (most v i : ℕ) (bs : List ℕ) → i ≡ length bs → v ≤ most → says most v (drop i bs) ≡ Some v
unfolding says
ends most v i bs h l = rw (h, drop-length, le-leb v most l)
