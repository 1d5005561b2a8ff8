-- Zeros, as `all` tells them of a slice.
use mathlib.Core.Path.{◌≡◌, refl, ap}
use mathlib.Core.Bool.{Bool, ◌&&◌}
use mathlib.Core.List.{List, [], ◌∷◌}
use Prim.Native.Nat.{ℕ}
use lib.Dec.{eqb}
use Rattle.std.specs.List.{list_all}
use Rattle.record.specs.Padding.{are_zero}

pub all_zero : (bs : List ℕ) → list_all (λ b. eqb b 0) bs ≡ are_zero bs
all_zero [] = refl
all_zero (b ∷ bs) = ap (λ (z : Bool). eqb b 0 && z) (all_zero bs)
