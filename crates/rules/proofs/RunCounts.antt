-- "A run's count must equal the records between the tape's start and the returned rest."
use mathlib.Core.Path.{refl}
use mathlib.Core.List.{List}
use Prim.Native.Nat.{ℕ, ◌-◌}
use native.Mathlib.Nat.{sub-zero}
use Rattle.rules.specs.Act.{World}
use Rattle.rules.specs.Run.{Progress, run_from, began, Between}
use Rattle.rules.proofs.RunInduction.{run_induction}

-- from wherever a run stands
pub records_between : (allowance : ℕ) (p : Progress) → let e = (run_from allowance p).progress in Between (e.handled - p.handled) p.rest e.rest
records_between = run_induction (λ n p e. Between n p.rest e.progress.rest) (λ s p. refl) (λ n p q size e r fits b. (q, size, r, b))

pub run_counts : (allowance : ℕ) (w : World) (tape : List ℕ) → let e = run_from allowance (began w tape) in Between e.progress.handled tape e.progress.rest
run_counts allowance w tape = rw sub-zero at (records_between allowance (began w tape))
