-- The promise of a public call: a request on the whole of the lent bytes.
use Rattle.refusal.specs.Refusal.{Answer}
use Rattle.std.specs.Prelude.{List, [], ℕ, length}
use Rattle.table.specs.Words.{table_of}
use Rattle.record.specs.declared.request.Request.{Request}
use Rattle.record.specs.declared.request.Request.TheVariants as Q
use Rattle.rules.specs.Calls.{act_of, verdict}
use Rattle.outcome.specs.Handled.{Outcome}

-- the words and bytes before, the answer, the words and bytes after: refused with the number that 01 gives first, and nothing
-- changed; or accepted, and the request's rule done
abbrev pub Call : Request → List ℕ → List ℕ → Answer → List ℕ → List ℕ → Type 0
Call q words bytes r words' bytes' = Outcome (verdict q (table_of words) (length bytes)) (act_of q) 0 words bytes r words' bytes'

-- reset takes no bytes
abbrev pub Reset : List ℕ → Answer → List ℕ → Type 0
Reset words r words' = Call Q.Reset words [] r words' []
