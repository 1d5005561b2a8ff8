-- What the listing does to an output.
use Rattle.std.specs.Prelude.{◌≡◌, List}
use Rattle.record.specs.declared.answer.Record.{Record}
use Rattle.record.specs.Writing.{write_all}
use Rattle.record_fields.specs.declared.output.Output.{Output}
use Rattle.record_fields.specs.Outputs.{out_at, SameBytes}

-- rs written, one after another
abbrev pub Listed : List Record → Output → Output → Type 0
Listed rs o o' = (out_at o' ≡ write_all (out_at o) rs) × SameBytes o o'
