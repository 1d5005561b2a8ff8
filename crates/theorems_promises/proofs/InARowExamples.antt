-- Worked examples: what the requests of a tape are answered in a row, computed.
use mathlib.Core.Path.{◌≡◌, refl}
use mathlib.Core.List.{List, [], ◌∷◌, ◌++◌}
use Rattle.table.specs.Making.{fresh}
use Rattle.record.specs.declared.request.Request.{Request}
use Rattle.record.specs.declared.request.Request.TheVariants as Q
use Rattle.record.specs.Kinds.{kind_of}
use Rattle.record.specs.Records.{request_bytes, answer_bytes}
use Rattle.record.specs.Reading as reading
use Rattle.record.specs.Writing.{bytes_of}
use Rattle.rules.specs.Run.{requests_of}
use Rattle.rules.specs.Script.{meet, printed}
use Rattle.rules.proofs.Script.{all_rules}
use Rattle.theorems_promises.specs.Tapes.{tape_of}
use Rattle.theorems_promises.specs.InARow.{answered_and_ended, in_arow}

-- "conflict 0, 1 (touches 0, 1, vertices 10, 11), then list"
both : List Request
both = meet 0 1 0 1 10 11 ∷ Q.List ∷ []

answers_printed : bytes_of (in_arow both (fresh 128)).said ≡ printed
unfolding all_rules answered_and_ended in_arow both printed bytes_of answer_bytes
answers_printed = refl

-- both requests are read from their tape; the first alone; none behind a byte that is no record
both_read : requests_of 2 (tape_of both) ≡ both
unfolding requests_of tape_of both request_bytes kind_of reading.read
both_read = refl

first_read_alone : requests_of 1 (tape_of both) ≡ meet 0 1 0 1 10 11 ∷ []
unfolding requests_of tape_of both request_bytes kind_of reading.read
first_read_alone = refl

bad-ends : requests_of 3 (tape_of both ++ 7 ∷ []) ≡ both
unfolding requests_of tape_of both request_bytes kind_of reading.read
bad-ends = refl

-- a refused request yields only its end record, and the next is answered
refused_first : bytes_of (in_arow (meet 0 0 0 0 10 11 ∷ Q.List ∷ []) (fresh 128)).said ≡ 0x06 ∷ 0x00 ∷ 0x13 ∷ 0x00 ∷ 0x05 ∷ 0x00 ∷ 0x00 ∷ 0x00 ∷ 0x06 ∷ 0x00 ∷ 0x13 ∷ 0x00 ∷ 0x00 ∷ 0x00 ∷ 0x00 ∷ 0x00 ∷ []
unfolding all_rules answered_and_ended in_arow bytes_of answer_bytes
refused_first = refl
