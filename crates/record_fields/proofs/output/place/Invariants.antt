use Rattle.std.proofs.Common.{◌≡◌, length, take}
use Rattle.record.specs.Writing.{placed}
use Rattle.record_fields.specs.Outputs.{in_words}
use Rattle.record_fields.proofs.output.place.Given as goal

abbrev pub invariant-loop-i : goal.invariant-loop-i
invariant-loop-i g l = (l.bytes ≡ placed l.initial.bytes l.at (in_words (take l.i l.words))) × (length l.bytes ≡ length l.initial.bytes)
