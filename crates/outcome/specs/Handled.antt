-- What a call answers, and the words and bytes before and after it; and what is answered on a table that is known to be sound.
use Rattle.std.specs.Prelude.{◌≡◌, List, [], ◌∷◌, ℕ, ◌-◌, length, Ok, Err}
use Rattle.table.specs.Table.{Table}
use Rattle.table.specs.Words.{table_of}
use Rattle.refusal.specs.Refusal.{Answer, Verdict, number_of, side_number, answer_number, answer_side, answer_written}
use Rattle.record.specs.declared.request.Request.{Request}
use Rattle.rules.specs.Act.{Act, world_of, run}
use Rattle.rules.specs.Refusals.{Check, first_of}
use Rattle.rules.specs.Calls.{act_of, checks_of}

-- refused: the refusal's number and side, nothing written, and words and bytes as they were; accepted: 0, the rule done to table and
-- bytes from a position on, and the position after what was written
abbrev pub Outcome : Verdict → Act → ℕ → List ℕ → List ℕ → Answer → List ℕ → List ℕ → Type 0
Outcome (Err e) act pos words bytes r words' bytes' =
    (answer_number r ≡ number_of e.refusal) × (answer_side r ≡ side_number e.side) × (answer_written r ≡ 0) × (words' ≡ words) × (bytes' ≡ bytes)
Outcome (Ok u) act pos words bytes r words' bytes' =
    (answer_number r ≡ 0) × (world_of words' bytes' (answer_written r) ≡ run (world_of words bytes pos) act)

abbrev pub after_first : List Check → List Check
after_first [] = []
after_first (c ∷ cs) = cs

-- the verdict of the checks that come after the first, which for each request asks whether the table is sound
unfoldable pub later_verdict : Request → Table → ℕ → Verdict
later_verdict q t room = first_of (after_first (checks_of q t room))

-- a request answered by those checks, with the room that is left from a position on
abbrev pub Handled : Request → ℕ → List ℕ → List ℕ → Answer → List ℕ → List ℕ → Type 0
Handled q pos words bytes r words' bytes' =
    Outcome (later_verdict q (table_of words) (length bytes - pos)) (act_of q) pos words bytes r words' bytes'
