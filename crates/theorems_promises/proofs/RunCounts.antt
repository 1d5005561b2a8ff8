-- "A run's count must equal the records between the tape's start and the returned rest": whatever a run leaves that keeps its promise.
use mathlib.Core.Path.{refl}
use mathlib.Core.List.{List}
use Prim.Native.Nat.{ℕ}
use Rattle.rules.specs.Act.{world_of}
use Rattle.rules.specs.Run.{Between}
use Rattle.rules.proofs.RunCounts.{run_counts}
use Rattle.outcome.specs.Tape.{Tape}
use Rattle.outcome.proofs.RunOutcomes.{RunOutcome, not_sound, did-run, run_outcome}

module _ (words bytes tape : List ℕ) (stop refusal handled written : ℕ) (rest words' bytes' : List ℕ) (allowance : ℕ) where
  counts_by : RunOutcome allowance words bytes tape stop refusal handled written rest words' bytes' → Between handled tape rest
  counts_by (not_sound d h) = rw (h.2, h.4) refl
  counts_by (did-run s h) = rw (h.2, h.3) (run_counts allowance (world_of words bytes 0) tape)

  pub counts_records : Tape allowance words bytes tape stop refusal handled written rest words' bytes' → Between handled tape rest
  counts_records h = counts_by (run_outcome allowance words bytes tape stop refusal handled written rest words' bytes' h)
