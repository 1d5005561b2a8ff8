-- One record of a run, on a table that is known to be sound.
use Rattle.refusal.specs.Refusal.{Answer, Verdict}
use Rattle.std.specs.Prelude.{◌≡◌, List, ℕ, Ok, Err}
use Rattle.record.specs.declared.request.Request.{Request}
use Rattle.rules.specs.Act.{world_of}
use Rattle.rules.specs.Run.{served}
use Rattle.sound_table.specs.declared.words.SoundTable.{SoundTable}
use Rattle.sound_table.specs.Checks.{SameWords}

-- where the end record goes
abbrev pub pos_after : ℕ → Answer → ℕ
pos_after pos (Ok p) = p
pos_after pos (Err e) = pos

-- the verdict that an answer tells, and that the end record says
abbrev pub verdict_told : Answer → Verdict
verdict_told (Ok p) = Ok tt
verdict_told (Err e) = Err e

-- a request served on a sound table: its answer, and its end record
abbrev pub Serves : Request → ℕ → SoundTable → List ℕ → ℕ → SoundTable → List ℕ → Type 0
Serves q pos t bytes written t' bytes' =
    (world_of t'.words.now bytes' written ≡ served q (world_of t.words.now bytes pos)) × SameWords t t'
