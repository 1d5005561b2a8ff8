-- Padded tapes computed: an expansion, padded and exact, before a list; and what the program writes for them.
use mathlib.Core.Path.{◌≡◌, refl}
use mathlib.Core.List.{List, [], ◌∷◌, ◌++◌}
use Prim.Native.Nat.{ℕ}
use Rattle.record.specs.declared.request.Request.{Request}
use Rattle.record.specs.declared.request.Request.TheVariants as Q
use Rattle.record.specs.Kinds.{kind_of}
use Rattle.record.specs.Records.{expansion_from, request_bytes, answer_bytes}
use Rattle.record.specs.Padding.{padded_request}
use Rattle.record.specs.Reading as reading
use Rattle.record.specs.Writing.{bytes_of}
use Rattle.rules.specs.Run.{requests_of, behind_of}
use Rattle.rules.proofs.Script.{all_rules}
use Rattle.theorems_promises.specs.Tapes.{tape_of, unpadded_tape}
use Rattle.theorems_promises.specs.InARow.{answered_and_ended, in_arow}
use Rattle.theorems_promises.specs.Written.{program_writes}

abbrev expand_128 : Request
expand_128 = Q.Expansion (expansion_from (128 ∷ []))

-- padded, exact, and a list
mixed : List ℕ
mixed = padded_request expand_128 ++ request_bytes expand_128 ++ request_bytes Q.List

exact : List ℕ
exact = request_bytes expand_128 ++ request_bytes expand_128 ++ request_bytes Q.List

-- refused by 11 twice, and an empty listing
answers : List ℕ
answers = 6 ∷ 0 ∷ 19 ∷ 0 ∷ 11 ∷ 0 ∷ 0 ∷ 0 ∷ 6 ∷ 0 ∷ 19 ∷ 0 ∷ 11 ∷ 0 ∷ 0 ∷ 0 ∷ 6 ∷ 0 ∷ 19 ∷ 0 ∷ 0 ∷ 0 ∷ 0 ∷ 0 ∷ []

-- three bytes of a record stay as they are
without_padding : (unpadded_tape mixed ≡ exact) × (unpadded_tape exact ≡ exact) × (unpadded_tape (mixed ++ 2 ∷ 0 ∷ 5 ∷ []) ≡ exact ++ 2 ∷ 0 ∷ 5 ∷ [])
unfolding mixed exact unpadded_tape tape_of requests_of behind_of request_bytes padded_request kind_of reading.read
without_padding = (refl, refl, refl)

same_answers : (program_writes 128 mixed ≡ answers) × (program_writes 128 exact ≡ answers)
unfolding all_rules program_writes mixed exact answers requests_of behind_of answered_and_ended in_arow bytes_of request_bytes padded_request answer_bytes kind_of reading.read
same_answers = (refl, refl)

-- behind an expansion of length 4 two zeros are a record cut short, and a padding of 1 is bad: an end record 12
zeros-alone :
    (program_writes 128 (4 ∷ 0 ∷ 3 ∷ 0 ∷ 128 ∷ 0 ∷ 0 ∷ 0 ∷ []) ≡ 6 ∷ 0 ∷ 19 ∷ 0 ∷ 11 ∷ 0 ∷ 0 ∷ 0 ∷ 6 ∷ 0 ∷ 19 ∷ 0 ∷ 12 ∷ 0 ∷ 0 ∷ 0 ∷ [])
    × (program_writes 128 (6 ∷ 0 ∷ 3 ∷ 0 ∷ 128 ∷ 0 ∷ 0 ∷ 1 ∷ 2 ∷ 0 ∷ 5 ∷ 0 ∷ []) ≡ 6 ∷ 0 ∷ 19 ∷ 0 ∷ 12 ∷ 0 ∷ 0 ∷ 0 ∷ [])
unfolding all_rules program_writes requests_of behind_of answered_and_ended in_arow bytes_of request_bytes answer_bytes kind_of reading.read
zeros-alone = (refl, refl)
