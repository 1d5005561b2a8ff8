-- An act done to a table and an output: what is said is written there.
use Rattle.std.specs.Prelude.{◌≡◌, ℕ, List}
use Rattle.table.specs.Words.{table_of}
use Rattle.record_fields.specs.declared.output.Output.{Output}
use Rattle.record_fields.specs.Outputs.{out_at, SameBytes}
use Rattle.rules.specs.Act.{World, Act, run}

-- the table in lent words, and an output
abbrev pub world_at : List ℕ → Output → World
world_at words o = record { table = table_of words; out = out_at o }

-- from the words and the output before to those after, in this order
abbrev pub Does : Act → List ℕ → Output → List ℕ → Output → Type 0
Does act words o words' o' = (world_at words' o' ≡ run (world_at words o) act) × SameBytes o o'
