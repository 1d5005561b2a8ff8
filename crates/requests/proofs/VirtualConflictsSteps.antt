-- Who leaves a tree at a virtual conflict, and who is as it was.
use mathlib.Core.Path.{◌≡◌, refl}
use Prim.Native.Nat.{ℕ}
use Rattle.table.specs.declared.place.Place.{Place}
use Rattle.table.specs.declared.place.Place.TheVariants.{Free, Paired, Virtual, Tree}
use Rattle.rules.specs.Act.{World, run}
use Rattle.rules.specs.Conflict.{freed}
use Rattle.rules.specs.Matching.{augment_whole_tree}
use Rattle.rules.proofs.Runs.{run-skip}

module _ (w : World) (n : ℕ) (p : Place) where
  pub in_tree : p ≡ Tree → run w (freed p n) ≡ run w (augment_whole_tree n)
  in_tree e = rw e

pub in_none : (w : World) (n : ℕ) (p : Place) → (p ≡ Tree → ⊥) → run w (freed p n) ≡ w
in_none w n Free d = run-skip w
in_none w n (Paired q) d = run-skip w
in_none w n Virtual d = run-skip w
in_none w n Tree d = absurd (d refl)

pub ruleset frees = (in_tree, in_none)
