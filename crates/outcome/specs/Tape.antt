-- What a run hands out, and the words and bytes before and after it.
use Rattle.std.specs.Prelude.{◌≡◌, List, ℕ, Result, Ok, Err}
use Rattle.refusal.specs.declared.Refusal.TheVariants.{NotSound}
use Rattle.refusal.specs.Refusal.{number_of}
use Rattle.rules.specs.Act.{world_of}
use Rattle.rules.specs.Run.{Ran, unsound, ran, stop_number, run_tape}
use Rattle.outcome.specs.declared.run.Run.{Run}
use Rattle.outcome.specs.declared.run.NotRun.{NotRun}

-- what a run hands out: "On an unsound table: refusal 1 before any stop, nothing handled", and nothing changes; otherwise the
-- stop's number, "how many records it handled and bytes it wrote", and "the unread rest of the caller's tape"
abbrev pub HandsOut : Ran → List ℕ → List ℕ → List ℕ → ℕ → ℕ → ℕ → ℕ → List ℕ → List ℕ → List ℕ → Type 0
HandsOut unsound words bytes tape stop refusal handled written rest words' bytes' =
    (stop ≡ 0)
    × (refusal ≡ number_of NotSound)
    × (handled ≡ 0)
    × (written ≡ 0)
    × (rest ≡ tape)
    × (words' ≡ words)
    × (bytes' ≡ bytes)
HandsOut (ran e) words bytes tape stop refusal handled written rest words' bytes' =
    (stop ≡ stop_number e.stop)
    × (refusal ≡ 0)
    × (handled ≡ e.progress.handled)
    × (rest ≡ e.progress.rest)
    × (world_of words' bytes' written ≡ e.progress.world)

abbrev pub Tape : ℕ → List ℕ → List ℕ → List ℕ → ℕ → ℕ → ℕ → ℕ → List ℕ → List ℕ → List ℕ → Type 0
Tape allowance words bytes tape = HandsOut (run_tape allowance (world_of words bytes 0) tape) words bytes tape

-- the same told by a run's result: an error tells of no stop, no record and no byte, and hands out the rest, which is the whole tape
abbrev pub Runs : ℕ → List ℕ → List ℕ → List ℕ → Result Run NotRun → List ℕ → List ℕ → Type 0
Runs allowance words bytes tape (Ok r) = Tape allowance words bytes tape (stop_number r.stop) 0 r.handled r.written r.rest.now
Runs allowance words bytes tape (Err e) = Tape allowance words bytes tape 0 (number_of e.refusal) 0 0 e.rest.now

-- two results that tell the same: both of a run, with the same stop, records handled, bytes written and rest, or both of the same refusal,
-- with the same rest
abbrev pub SameRun : Result Run NotRun → Result Run NotRun → Type 0
SameRun (Ok r) (Ok r') = (r.stop ≡ r'.stop) × (r.handled ≡ r'.handled) × (r.written ≡ r'.written) × (r.rest.now ≡ r'.rest.now)
SameRun (Ok r) (Err e) = ⊥
SameRun (Err e) (Ok r) = ⊥
SameRun (Err e) (Err e') = (e.refusal ≡ e'.refusal) × (e.rest.now ≡ e'.rest.now)
