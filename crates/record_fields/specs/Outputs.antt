-- An output: lent bytes, and the position where the next record goes. A contract says what became of both, and that the output still
-- lends the same bytes: whoever lent them learns from it what stands in them.
use Rattle.std.specs.Prelude.{◌≡◌, ℕ, List, [], ◌∷◌, ◌++◌}
use Rattle.record.specs.Fields.{little}
use Rattle.record.specs.Writing.{Out, out_of, written}
use Rattle.record_fields.specs.declared.output.Output.{Output}

abbrev pub out_at : Output → Out
out_at o = out_of o.bytes.now o.pos

-- the same lent bytes, whatever stands in them
abbrev pub SameBytes : Output → Output → Type 0
SameBytes o o' = o'.bytes.ghost_name ≡ o.bytes.ghost_name

-- bs written; without room for all of them, nothing
abbrev pub Wrote : List ℕ → Output → Output → Type 0
Wrote bs o o' = (out_at o' ≡ written (out_at o) bs) × SameBytes o o'

-- words of two bytes, one after another
abbrev pub in_words : List ℕ → List ℕ
in_words [] = []
in_words (v ∷ vs) = little 2 v ++ in_words vs
