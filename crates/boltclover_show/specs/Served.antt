-- A request served where only the table keeps what was answered.
use Rattle.std.specs.Prelude.{◌≡◌, ℕ, List, length}
use Rattle.refusal.specs.Refusal.{Answer}
use Rattle.record.specs.declared.request.Request.{Request}
use Rattle.outcome.specs.Call.{Call}

-- the words before and after: the call that the request asks for was made once, with so much room
abbrev pub Served : ℕ → Request → List ℕ → List ℕ → Type 0
Served room q words words' = (bytes : List ℕ) × (answer : Answer) × (bytes' : List ℕ) × (length bytes ≡ room) × Call q words bytes answer words' bytes'
