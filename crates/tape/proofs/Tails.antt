-- A slice from a position on.
use mathlib.Core.Path.{◌≡◌}
use mathlib.Core.List.{List}
use Prim.Native.Nat.{ℕ, ◌-◌}
use native.Mathlib.Nat.{le_refl}
use lib.ListN.{length, take, drop, length-drop}
use lib.Seq.{take_all}

-- what `&l[n..]` is
pub tail : (l : List ℕ) (n : ℕ) → take (length l - n) (drop n l) ≡ drop n l
tail l n = take_all (length l - n) (drop n l) (rw length-drop (le_refl (length l - n)))
